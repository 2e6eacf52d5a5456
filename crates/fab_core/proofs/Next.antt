-- What is next for a peer stays so while replies are booked behind it.
use Rattle.std.proofs.Common.{◌≡◌, ◌≢◌, inl, inr, ℕ, ◌+◌, Bool, true, false, List, [], ◌∷◌, ◌++◌, length, get_or, get_or-set_same, get_or-set_other, Option, Some, None, refl, ap, ◌∙◌}
use Rattle.std.specs.Prelude.{find, slice_get, slice_index, slice_set}
use Rattle.fab_base.specs.declared.items.Want.{Want}
use Rattle.fab_model.specs.Matching.{takes}
use Rattle.std.proofs.lemmas.Bool.{cases_eq, cases_lt}
use Rattle.std.proofs.lemmas.List.{set_past}
use Rattle.fab_base.specs.declared.items.Item.{Item}
use Rattle.fab_base.specs.declared.items.ItemHead.{ItemHead}
use Rattle.fab_base.specs.declared.operations.Arrival.{Arrival}
use Rattle.fab_base.specs.declared.operations.Coming.{Coming}
use Rattle.fab_base.specs.declared.operations.Coming.TheVariants.{Into, Keep, Throw, Request, Answer}
use Rattle.fab_base.specs.declared.operations.Operation.{Operation}
use Rattle.fab_base.specs.declared.operations.Receive.{Receive}
use Rattle.fab_base.proofs.Lists.{prefix_get as kept_front}
use Rattle.fab_model.specs.State.{State, Transmitting, accepted_for, coming_from}
use Rattle.fab_model.specs.Complete.{joining}
use Rattle.fab_model.specs.Sending.{answering, ending, going_on, letting_out, transmitting}
use Rattle.fab_face.specs.Machine.{StayNext}
use Rattle.fab_tx.specs.Transit.{Transit, answered, finds_answered, next_item, transmitted}
use Rattle.fab_tx.proofs.Steps.{transmitted_none, transmitted_some}
use Rattle.fab_tx.proofs.Answering.{answered_none, answered_some}
use Rattle.fab_core.specs.Parts.{Parts, state_of}
use Rattle.fab_rx.specs.Arriving.{finishing}
use Rattle.fab_rx.specs.Results.{last_of}
use Rattle.fab_settling.specs.Ends.{booked}
use Rattle.fab_core.specs.Doing.{let_back, posted_by, tail, whole, with_arriving}

-- what is accepted for each peer goes on from what was, and as much of it is transmitted
abbrev pub GoesOn : Transmitting → Transmitting → Type 0
GoesOn a b = (d : ℕ) (item : Item) → next_item a d ≡ Some item → next_item b d ≡ Some item

-- items are accepted for a peer behind those that are
module _ (t : ℕ) (items : List Item) (tx u : Transmitting) (sent : u.sent ≡ tx.sent) (accepted : u.accepted ≡ slice_set tx.accepted t (accepted_for tx t ++ items)) where
  behind : GoesOn tx u
  behind d x is = rw (sent, accepted) (elim (cases_eq d t) [
    | inl here ↦ elim (cases_lt t (length tx.accepted)) [
      | inl within ↦ rw (here, get_or-set_same tx.accepted t (accepted_for tx t ++ items) [] within) (kept_front (accepted_for tx t) items (slice_index tx.sent t) x (rw (← here) is))
      | inr past ↦ rw (set_past tx.accepted t (accepted_for tx t ++ items) past) is
    ]
    | inr other ↦ rw (get_or-set_other tx.accepted t d (accepted_for tx t ++ items) [] other) is
  ])

  behind_others : (d : ℕ) → d ≢ t → next_item u d ≡ next_item tx d
  behind_others d other = rw (sent, accepted, get_or-set_other tx.accepted t d (accepted_for tx t ++ items) [] other) refl

joined : (t : ℕ) (item : Item) (tx : Transmitting) → GoesOn tx (joining t item tx)
joined t item tx = behind t (item ∷ []) tx (joining t item tx) refl refl

going_next : (t : ℕ) (tx : Transmitting) → GoesOn tx (going_on t tx)
unfolding letting_out
going_next t tx = behind t _ tx (going_on t tx) refl refl

going_others : (t : ℕ) (tx : Transmitting) (d : ℕ) → d ≢ t → next_item (going_on t tx) d ≡ next_item tx d
unfolding letting_out
going_others t tx = behind_others t _ tx (going_on t tx) refl refl

pub booked_next : (due : Bool) (source : ℕ) (head : ItemHead) (v : Transit) → GoesOn v.tx (booked due source head v).tx
booked_next true source head v = joined source _ v.tx
booked_next false source head v = λ d item is. is

answered_next : (source : ℕ) (reply : ItemHead) (tx : Transmitting) → GoesOn tx (answered source reply tx)
unfolding answering
answered_next source reply tx = by (finds_answered source reply tx) refl
  where
    by : (o : Option Operation) → finds_answered source reply tx ≡ o → GoesOn tx (answered source reply tx)
    by None e = rw (answered_none tx source reply e) (λ d item is. is)
    by (Some o) e = rw (answered_some tx source reply o e) (going_next source (answering source reply tx))

ends_next : (p q : Parts) (source : ℕ) (item : Item) → q.tx ≡ p.tx → (c : Option Coming) → StayNext (state_of p) (state_of (whole c source item q))
ends_next p q source item same None = rw same (booked_next _ source item.head p.tx)
ends_next p q source item same (Some (Into r place)) = rw same (booked_next _ source item.head p.tx)
ends_next p q source item same (Some Keep) = rw same (booked_next _ source item.head p.tx)
ends_next p q source item same (Some Throw) = rw same (booked_next _ source item.head p.tx)
ends_next p q source item same (Some Request) = rw same (joined source _ p.tx.tx)
ends_next p q source item same (Some Answer) = rw same (answered_next source item.head p.tx.tx)

pub back_next : (s : State) (o : Option Receive) (q : Parts) → StayNext s (state_of q) → StayNext s (state_of (let_back o q))
back_next s None q stays = stays
back_next s (Some r) q stays = stays

pub tail_next : (p : Parts) (source : ℕ) (item : Item) → StayNext (state_of p) (state_of (tail source item p))
tail_next p source item = back_next (state_of p) (last_of source p.rx) _ (ends_next p (with_arriving (finishing source p.rx) p) source item refl (coming_from p.rx.rx source))

-- ---- what an end leaves

pub booked_places : (due : Bool) (source : ℕ) (head : ItemHead) (v : Transit) → (booked due source head v).places ≡ v.places
booked_places true source head v = refl
booked_places false source head v = refl

pub record IsLeft (p q : Parts) (source : ℕ) : Type 0 where
  pub begun : q.rx.begun ≡ slice_set p.rx.begun source None
  pub places : q.tx.places ≡ p.tx.places
  pub multis : q.multis.list ≡ p.multis.list

ends_left : (p : Parts) (source : ℕ) (item : Item) (c : Option Coming) → IsLeft p (whole c source item (with_arriving (finishing source p.rx) p)) source
ends_left p source item None = record { begun = refl; places = booked_places _ source item.head p.tx; multis = refl }
ends_left p source item (Some (Into r place)) = record { begun = refl; places = booked_places _ source item.head p.tx; multis = refl }
ends_left p source item (Some Keep) = record { begun = refl; places = booked_places _ source item.head p.tx; multis = refl }
ends_left p source item (Some Throw) = record { begun = refl; places = booked_places _ source item.head p.tx; multis = refl }
ends_left p source item (Some Request) = record { begun = refl; places = refl; multis = refl }
ends_left p source item (Some Answer) = record { begun = refl; places = refl; multis = refl }

back_left : (p : Parts) (source : ℕ) (o : Option Receive) (q : Parts) → IsLeft p q source → IsLeft p (let_back o q) source
back_left p source None q left = left
back_left p source (Some r) q left = record { begun = left.begun; places = left.places; multis = left.multis }

pub tail_left : (p : Parts) (source : ℕ) (item : Item) → IsLeft p (tail source item p) source
tail_left p source item = back_left p source (last_of source p.rx) _ (ends_left p source item (coming_from p.rx.rx source))

pub posted_next : (p : Parts) (want : Want) (buf : List ℕ) (ctx : ℕ) → StayNext (state_of p) (state_of (posted_by want buf ctx p))
posted_next p want buf ctx = found (find (takes want) p.rx.rx.unexpected) refl
  where
    found : (o : Option Arrival) → find (takes want) p.rx.rx.unexpected ≡ o → StayNext (state_of p) (state_of (posted_by want buf ctx p))
    found None e = rw e (λ d x is. is)
    found (Some a) e = by a.bytes refl
      where
        by : (b : Option (List ℕ)) → a.bytes ≡ b → StayNext (state_of p) (state_of (posted_by want buf ctx p))
        by None none = rw (e, none) (λ d x is. is)
        by (Some bytes) some = rw (e, some) (booked_next _ a.source a.head p.tx)

-- of the other peers nothing changes when an item is transmitted
pub sent_others : (tx : Transmitting) (dest d : ℕ) → d ≢ dest → next_item (transmitted dest tx) d ≡ next_item tx d
unfolding transmitting
sent_others tx dest d other = by (ending dest tx) refl
  where
    raised : next_item (transmitting dest tx) d ≡ next_item tx d
    raised = ap (λ i. slice_get (accepted_for tx d) i) (get_or-set_other tx.sent dest d (get_or tx.sent dest 0 + 1) 0 other)

    by : (o : Option Operation) → ending dest tx ≡ o → next_item (transmitted dest tx) d ≡ next_item tx d
    by None e = rw (transmitted_none dest tx e) raised
    by (Some o) e = rw (transmitted_some dest tx o e) (going_others dest (transmitting dest tx) d other ∙ raised)
