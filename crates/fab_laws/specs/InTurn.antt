-- A peer's receives of one want: the first of them gets the first message that the want matches, the second the second, and so on; and their entries stand in this order.
--     is_plain deed        the deed neither cancels a receive, nor looks at messages, nor takes or drops one
--     IsChosen ..          of the receives that a peer was asked for these want just this, and no other matches what they do
--     told source rs xs    the entries of these receives, each with the message at its own place
use Rattle.std.specs.Prelude.{◌≡◌, ℕ, Bool, true, false, List, [], ◌∷◌, map, filter, reverse, Some, None, slice_get}
use Rattle.std.specs.List.{list_all}
use Rattle.fab_base.specs.declared.entries.Taken.{Taken}
use Rattle.fab_base.specs.declared.items.Item.{Item}
use Rattle.fab_base.specs.declared.items.ItemHead.{ItemHead}
use Rattle.fab_base.specs.declared.items.Want.{Want}
use Rattle.fab_base.specs.declared.operations.Receive.{Receive}
use Rattle.fab_base.specs.declared.operations.Written.{Written}
use Rattle.fab_model.specs.Calls.{Call, Cancel, CancelFirst, DropClaimed, Look, TakeClaimed}
use Rattle.fab_model.specs.Complete.{entry_of}
use Rattle.fab_model.specs.Matching.{matches}
use Rattle.fab_model.specs.Orders.{steps_of}
use Rattle.fab_laws.specs.Matched.{tells_message}
use Rattle.fab_laws.specs.Members.{In}
use Rattle.fab_laws.specs.MessageLaws.{asked_of}
use Rattle.fab_laws.specs.Moments.{AtEveryMoment}
use Rattle.fab_laws.specs.Programs.{Counts, Deed, Draw, Head, Makes, Peer, Tail}
use Rattle.fab_laws.specs.StreamLaws.{whole_from}

abbrev pub leaves_all : Call → Bool
leaves_all (Look how source tag ignore ctx) = false
leaves_all (TakeClaimed buf ctx) = false
leaves_all (DropClaimed ctx) = false
leaves_all (Cancel ctx) = false
leaves_all CancelFirst = false
leaves_all call = true

abbrev pub is_plain : Deed → Bool
is_plain (Makes call) = elim call [ None ↦ true | Some c ↦ leaves_all c ]
is_plain (Counts counters) = true
is_plain (Head source) = true
is_plain (Tail source) = true
is_plain (Deed.Sent t) = true
is_plain Draw = true
is_plain Deed.Read = true

-- the receives that pass the test want just this, of this source; an entry counts where it tells a message of one of them
pub record IsChosen (source : ℕ) (want : Want) (mine : Receive → Bool) (counts : Taken → Bool) (asked : List Receive) : Type 0 where
  pub directed : want.source ≡ Some source
  -- none is for many messages
  pub single : (f : Receive) → In f asked → f.least ≡ None
  pub wants : (f : Receive) → In f asked → mine f ≡ true → f.want ≡ want
  -- the others match nothing that these do
  pub apart : (f : Receive) (s : ℕ) (head : ItemHead) → In f asked → mine f ≡ false → matches want s head ≡ true → matches f.want s head ≡ false
  pub messages : (e : Taken) → counts e ≡ true → tells_message e ≡ true
  pub own : (f : Receive) (s : ℕ) (head : ItemHead) (bytes : List ℕ) → In f asked → counts (entry_of f 0 s head bytes) ≡ mine f

abbrev pub told : ℕ → List Receive → List Item → List Taken
told source [] items = []
told source (r ∷ receives) [] = []
told source (r ∷ receives) (x ∷ items) = entry_of r 0 source x.head x.bytes ∷ told source receives items

-- the first receive asked for stands first
abbrev pub TellsOwn : List Deed → List Receive → (ℕ → List Item) → List Peer → Peer → Type 0
TellsOwn deeds asked whole states a = (source : ℕ) (want : Want) (mine : Receive → Bool) (counts : Taken → Bool) (c : Peer) → slice_get states source ≡ Some c → list_all is_plain deeds ≡ true → IsChosen source want mine counts asked
    → filter counts (map (λ (w : Written). w.entry) a.state.cq.written) ≡ told source (filter mine (reverse asked)) (filter (λ (x : Item). matches want source x.head) (whole source))

abbrev pub AllToldInTurn : Type 0
AllToldInTurn = AtEveryMoment (λ from turns states p a. TellsOwn (steps_of p turns) (asked_of from turns p) (whole_from from turns p) states a)
