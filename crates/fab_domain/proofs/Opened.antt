-- Ports as they are made may be opened, one after another.
use Rattle.std.proofs.Common.{◌≡◌, ℕ, zero, suc, List, [], ◌∷◌, ◌++◌, length, map, sym, subst, ap, ◌∙◌, arith, append_assoc}
use Rattle.std.specs.Prelude.{Result, Ok, Err, IfOk, Vec, slice_index_or, ◌+◌}
use Rattle.std.specs.List.{All, remove}
use Rattle.std.specs.declared.alloc.Global.{Global}
use Rattle.std.proofs.lemmas.List.{map-append}
use Rattle.std.proofs.lemmas.Option.{slice_get-get_or}
use Rattle.fab_base.specs.declared.caps.Info.{Info}
use Rattle.fab_ep.specs.Value.{Whole}
use Rattle.fab_table.specs.declared.lane_table.LaneTable.{LaneTable}
use Rattle.fab_ring.specs.declared.port.RingPort.{RingPort}
use Rattle.fab_ring.specs.Made.{AreMade}
use Rattle.fab_domain.specs.Domain.{AreLanes, AreReady, IsReady, port_of}

pub ready : (info : Info) (ports : List RingPort) → AreLanes info ports → AreReady info.peers ports
ready info ports lanes = λ k d below. let there = slice_get-get_or ports k d below in ((lanes.1.sizes k _ there).0, (lanes.1.fresh k _ there).1)

pub lanes : {E : Type 0} (r : Result (Vec RingPort Global) E) (info : Info) (peers room pool : ℕ) (table : LaneTable) → peers ≡ info.peers → room ≡ info.lane → pool ≡ info.pool
    → IfOk r (λ v. AreMade peers room pool table v.items) → IfOk r (λ v. AreLanes info v.items)
lanes (Ok v) info peers room pool table same_peers same_room same_pool made = (
  table,
  record {
    count = made.count ∙ same_peers;
    numbers = made.numbers;
    sizes = λ k p has. let s = made.sizes k p has in (s.0 ∙ same_peers, s.1 ∙ same_room, s.2 ∙ same_pool);
    tables = made.tables;
    fresh = made.fresh;
  },
)
lanes (Err e) info peers room pool table same_peers same_room same_pool made = _

-- the first of some ports, and the others
pub front_is : (old new : List RingPort) (p : RingPort) → length new + 1 ≡ length old → new ≡ remove old 0 → p ≡ slice_index_or old 0 p → old ≡ p ∷ new
front_is [] new p len items value = absurd (omega (arith, len))
front_is (x ∷ xs) new p len items value = ap (λ (z : RingPort). z ∷ xs) (sym value) ∙ ap (λ (z : List RingPort). p ∷ z) (sym items)

pub ready_first : (n : ℕ) (p : RingPort) (rest ports : List RingPort) → ports ≡ p ∷ rest → AreReady n ports → IsReady n p
ready_first n p rest ports is all = subst (λ (z : List RingPort). AreReady n z) is all 0 p (omega arith)

pub ready_rest : (n : ℕ) (p : RingPort) (rest ports : List RingPort) → ports ≡ p ∷ rest → AreReady n ports → AreReady n rest
ready_rest n p rest ports is all = λ k d below. subst (λ (z : List RingPort). AreReady n z) is all (suc k) d (omega (arith, below))

pub opened_more : (all : List (Whole RingPort)) (rest ports old : List RingPort) (e : Whole RingPort) (p : RingPort) → map port_of all ++ ports ≡ old → ports ≡ p ∷ rest → port_of e ≡ p
    → map port_of (all ++ e ∷ []) ++ rest ≡ old
opened_more all rest ports old e p was is at =
    ap (λ (z : List RingPort). z ++ rest) (map-append port_of all (e ∷ [])) ∙ append_assoc (map port_of all) (port_of e ∷ []) rest ∙ ap (λ (z : RingPort). map port_of all ++ z ∷ rest) at
    ∙ ap (λ (z : List RingPort). map port_of all ++ z) (sym is) ∙ was

pub only_one : {X : Type 0} (P : X → Type 0) (x : X) → P x → All P (x ∷ [])
only_one P x holds zero d below = holds
only_one P x holds (suc k) d below = absurd (omega (arith, below))
