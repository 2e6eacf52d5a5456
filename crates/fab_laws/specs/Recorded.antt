-- A program whose peers remember their own states: so what the laws' histories say of a peer is what its own record says.
--     recorded          the program's machine, each peer with the states after its own deeds
--     recall f s deeds states m      what is remembered along a peer's own deeds and states, by a note that does not look at what the peer sees of others
use Rattle.std.specs.Prelude.{List, [], ◌∷◌, ◌++◌, slice_index, false}
use Rattle.std.specs.Option.{option_map}
use Rattle.fab_base.specs.declared.items.Item.{Item}
use Rattle.fab_model.specs.State.{State, accepted_for}
use Rattle.fab_model.specs.Views.{Machine}
use Rattle.fab_laws.specs.Programs.{Deed, Peer, peer, program}

pub record Recorded : Type 0 where
  pub state : State
  pub past : List State

abbrev pub plain : Recorded → Peer
plain a = peer a.state

abbrev pub onto : Recorded → Peer → Recorded
onto a b = record { state = b.state; past = a.past ++ b.state ∷ [] }

unfoldable pub recorded : Machine Recorded Deed Item
recorded = record {
  ready = λ a receiver. accepted_for a.state.tx receiver;
  sent = λ a receiver. slice_index a.state.tx.sent receiver;
  calm = λ all. false;
  step = λ v a x. option_map (onto a) (program.step v (plain a) x);
}

abbrev pub recall : {M : Type 0} → (Peer → Deed → Peer → M → M) → State → List Deed → List State → M → M
recall f s [] states m = m
recall f s (x ∷ deeds) [] m = m
recall f s (x ∷ deeds) (u ∷ states) m = recall f u deeds states (f (peer s) x (peer u) m)
