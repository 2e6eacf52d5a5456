-- What holds of the receives that are posted or closing, by the numbers of their calls (FI_MULTI_RECV of fi_msg(3)).
--     is_multi multis call     the call posted a multi-receive here
--     opened rx call           context and length of the receive of the call, posted or closing
--     AreOpened v              what holds between calls
use Rattle.std.specs.Prelude.{◌≡◌, ℕ, ◌+◌, ◌≤◌, ◌==◌, ◌++◌, Bool, true, false, List, length, Option, is_some, find, All}
use Rattle.std.specs.Option.{option_map}
use Rattle.fab_base.specs.declared.operations.Receive.{Receive}
use Rattle.fab_model.specs.State.{Receiving}
use Rattle.fab_rx.specs.Arriving.{Arriving, id_in}
use Rattle.fab_rx.specs.Numbers.{AreBelow, AreDistinct}

abbrev pub is_multi : List (ℕ × ℕ) → ℕ → Bool
is_multi multis call = is_some (id_in multis call)

abbrev pub sized : Receive → ℕ × ℕ
sized r = (r.ctx, length r.buf)

abbrev pub opened : Receiving → ℕ → Option (ℕ × ℕ)
opened rx call = option_map sized (find (λ (r : Receive). call == r.call) (rx.posted ++ rx.closing))

-- the call posted a multi-receive exactly where the receive is one, and what it gave away is within its buffer
pub record IsPosted (multis : List (ℕ × ℕ)) (r : Receive) : Type 0 where
  pub multi : is_multi multis r.call ≡ is_some r.least
  pub within : r.used ≤ length r.buf

pub record AreOpened (v : Arriving) : Type 0 where
  pub posted : All (IsPosted v.multis) v.rx.posted
  pub closing : All (λ r. (is_multi v.multis r.call ≡ true) × (is_some r.least ≡ true)) v.rx.closing
  -- each was posted before the next call
  pub below : AreBelow v.next v.rx.posted
  pub once : AreDistinct (v.rx.posted ++ v.rx.closing)
  pub fresh : (call : ℕ) → v.next ≤ call → is_multi v.multis call ≡ false
  -- as many as may be posted, and one for each source, whose item closes it
  pub room : length (v.rx.posted ++ v.rx.closing) ≤ v.most + length v.begun
