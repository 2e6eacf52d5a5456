-- Peers at rest that may cancel no posted receive have none posted: no item is on its way into one.
use Rattle.std.proofs.Common.{◌≡◌, ℕ, suc, true, false, not, List, [], ◌∷◌, length, Option, Some, None, inl, inr, refl, sym, ◌∙◌, ap, subst, arith, get_or}
use Rattle.std.specs.Prelude.{slice_get, slice_index, find}
use Rattle.std.specs.List.{list_any}
use Rattle.std.proofs.lemmas.List.{length-map}
use Rattle.std.proofs.lemmas.Option.{slice_get_within}
use Rattle.fab_base.specs.declared.operations.Coming.{Coming}
use Rattle.fab_base.specs.declared.operations.Receive.{Receive}
use Rattle.fab_base.specs.declared.peers.Step.{Step}
use Rattle.fab_base.specs.declared.script.Conf.{Conf}
use Rattle.fab_base.specs.declared.script.Line.{Line}
use Rattle.fab_model.specs.State.{Receiving, coming_from, is_into}
use Rattle.fab_model.specs.Orders.{Leads, Reached, Turn}
use Rattle.fab_model.specs.Peers.{Actor, fabric}
use Rattle.fab_model.specs.Receiving.{cancellable, may_leave}
use Rattle.fab_model.specs.Calls.{upto}
use Rattle.fab_model.specs.Views.{rule}
use Rattle.fab_model.proofs.Patient.{sender_is}
use Rattle.fab_laws.specs.Programs.{Opening, Peer, Starts}
use Rattle.fab_laws.specs.Scripts.{deeds_of, peer_of, peers}
use Rattle.fab_laws.proofs.Scripts.{mapped_twice, of_turns, peer_at, sight_is_sight, starts}
use Rattle.fab_laws.proofs.replies.Stray.{AllOwed, all_owed}
use Rattle.fab_peer.specs.Turns.{IsQuiet}
use Rattle.fab_finish.specs.Joined.{Member, told_of, member_actor, actors, IsJoined, AreStill, opened, AreCleared}
use Rattle.fab_finish.specs.Rests.{Rest, CancelNone, AreCancelled}
use Rattle.fab_finish.proofs.Resting.{mapped}
use Rattle.fab_finish.proofs.Starting.{first_actor}
use Rattle.fab_finish.proofs.Ending.{start_sound}

-- the peers of a script as a program starts with them
program_of : Conf → List (List Line) → Opening
program_of conf lists = record {
  peers = peers (opened conf lists);
  fresh = λ p a e.
      let many : length (peers (opened conf lists)) ≡ conf.peers = length-map (opened conf lists) peer_of ∙ (start_sound conf lists).count in
      let is = mapped_twice peer_of (first_actor conf lists) (upto conf.peers) p a e in
      subst (λ (x : Peer). Starts (length (peers (opened conf lists))) x.state) (sym is.1) (starts conf (length (peers (opened conf lists))) p many (slice_get_within (peers (opened conf lists)) p a e));
}

-- what holds of each peer in any order of turns from the start
owed_all : (conf : Conf) (lists : List (List Line)) (turns : List (Turn Step)) (states : List Actor) → Leads (rule fabric) (opened conf lists) turns states → AllOwed (length (peers (opened conf lists))) (peers states)
unfolding program_of
owed_all conf lists turns states leads = all_owed (program_of conf lists) (deeds_of (opened conf lists) turns) (peers states) (of_turns turns (opened conf lists) states leads)

-- where all that was accepted is whole, nothing comes
nothing_comes : (n : ℕ) (states : List Actor) → AllOwed n (peers states) → Rest states → (p : ℕ) (a : Actor) → slice_get states p ≡ Some a → (s : ℕ) → coming_from a.state.rx s ≡ None
nothing_comes n states owed rest p a has s = elim ((owed.owed p (peer_of a) (peer_at states p a has)).lanes s) [
  | inl (level, idle, gone) ↦ idle
  | inr (odd, (x, at, goes), count) ↦ (
      let k = slice_index a.state.rx.tails s in
      let w = sender_is states p s k x (ap (λ xs. slice_get xs k) (sight_is_sight states p s).0 ∙ at) in
      let less = w.2 in
      let whole = rest.whole p s a w.0 has w.1 in
      absurd (omega (arith, less, whole)))
]

none_into : (call : ℕ) (xs : List (Option Coming)) → ((s : ℕ) → get_or xs s None ≡ None) → list_any (is_into call) xs ≡ false
none_into call [] none = refl
none_into call (x ∷ xs) none =
    let first : x ≡ None = none 0 in
    rw (first, none_into call xs (λ s. none (suc s))) refl

none_posted : (rx : Receiving) → ((s : ℕ) → coming_from rx s ≡ None) → cancellable (λ r. true) rx ≡ None → rx.posted ≡ []
none_posted rx none found = by_posted rx.posted found
  where
    leaves : (r : Receive) → may_leave rx (λ r. true) r ≡ true
    leaves r = ap not (none_into r.call rx.coming none)

    by_posted : (xs : List Receive) → find (may_leave rx (λ r. true)) xs ≡ None → xs ≡ []
    by_posted [] e = refl
    by_posted (r ∷ xs) e = absurd (let some : Some r ≡ None = rw (leaves r) at e in cc)

pub cleared : (conf : Conf) (lists : List (List Line)) (schedules : List (List Step)) (all : List Actor) → Reached (rule fabric) (opened conf lists) schedules all → Rest all → CancelNone all → AreCleared all
cleared conf lists schedules all reached rest none p a has =
    none_posted a.state.rx (nothing_comes (length (peers (opened conf lists))) all (owed_all conf lists reached.0 all reached.1) rest p a has) (none p a has)

-- ---- what the end rests on

-- where all cancelled, none may be cancelled any more
pub cancel_none : (ps qs : List Member) → AreCancelled (length ps) ps qs → CancelNone (actors qs)
cancel_none ps qs are p a has =
    let m = mapped member_actor qs p a has in
    let count = are.count in
    let before = are.before p m.0 (omega (arith, slice_get_within qs p m.0 m.1, count)) m.1 in
    subst (λ (x : Actor). cancellable (λ r. true) x.state.rx ≡ None) m.2 before.2.none

-- peers that can do nothing are quiet
pub all_quiet : (ps : List Member) → IsJoined ps → AreStill ps → (k : ℕ) (p : Member) → slice_get ps k ≡ Some p → IsQuiet (told_of p)
all_quiet ps joined_ps still k p has =
    let own = joined_ps.own k p has in
    let calm = still.each k p has in
    record { counted = own.counted; log = own.log; draws = calm.draws }
