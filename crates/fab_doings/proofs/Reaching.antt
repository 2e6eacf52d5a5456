-- The law of a program's endpoints: that of threads, where a peer's own doing is a call, the writing of counters, or a read.
use Rattle.std.proofs.Common.{◌≡◌, ℕ, List, [], ◌∷◌, refl, sym, ap, append-nil, subst}
use Rattle.std.specs.Prelude.{slice_index}
use Rattle.fab_base.specs.declared.items.Item.{Item}
use Rattle.fab_model.specs.State.{accepted_for}
use Rattle.fab_model.specs.Views.{View, Walk}
use Rattle.fab_face.specs.Held.{Held}
use Rattle.fab_face.specs.Acts.{taken_of}
use Rattle.fab_peer.specs.Turns.{Shows}
use Rattle.fab_peer.proofs.Sending.{passes_at}
use Rattle.fab_laws.specs.Programs.{Deed}
use Rattle.fab_laws.specs.Recorded.{recorded}
use Rattle.fab_laws.proofs.Recorded.{recorded_grows, recorded_waits}
use Rattle.fab_merging.specs.Pasts.{begun}
use Rattle.fab_merging.proofs.Holding.{Holds}
use Rattle.fab_merging.proofs.Threads.{Since, all_reached, choose}
use Rattle.fab_doings.specs.Doings.{Did, Does, Doing, Drew, Had, Living, Posted, Took, act_of, deeds_by, deeds_of, peer_in}
use Rattle.fab_doings.specs.Law.{KeptBy, Past, ProgramReaches}
use Rattle.fab_doings.proofs.Programs.{own_passes, read_passes}
use Rattle.fab_doings.proofs.Showing.{walk_one}

abbrev held : Living → Held
held p = p.held

abbrev deeds_told : Past → List Deed
deeds_told x = deeds_of x.steps

holds : (p q : Living) (x : Doing) → Does p x q → Holds (held p) (act_of x) (held q)
holds p q (Did own) ((did, grew), same) = (own_passes own p.held.state q.held.state did, same)
holds p q (Had entry) ((w, first, entry_is, is, grew), same) = (passes_at p.held.state _ q.held.state is (read_passes p.held.state), same)
holds p q Drew (goes, grew) = goes
holds p q (Took source f) (goes, grew) = goes
holds p q (Posted dest f) (goes, grew) = goes

walks : (v : View Item) (p q : Living) (x : Doing) → Does p x q → Shows v (held p) (λ s. taken_of s (act_of x ∷ [])) → Walk recorded v (peer_in p) (deeds_of (x ∷ [])) (peer_in q)
walks v p q x does shows = subst (λ ds. Walk recorded v (peer_in p) ds (peer_in q)) (sym (append-nil (deeds_by x))) (walk_one v p q x does shows)

ready : (p : Living) (d : ℕ) → recorded.ready (peer_in p) d ≡ accepted_for (held p).state.tx d
unfolding recorded
ready p d = refl

sent : (p : Living) (d : ℕ) → recorded.sent (peer_in p) d ≡ slice_index (held p).state.tx.sent d
unfolding recorded
sent p d = refl

abbrev Told : Living → Past → List Doing → Type 0
Told = Since held act_of Does recorded peer_in deeds_by holds walks ready sent recorded_grows recorded_waits deeds_told

since : (o : Living) (x : Past) (xs : List Doing) → KeptBy (begun o) x xs → Told o x xs
since o x xs by = record { lives = by.lives; steps = ap deeds_of by.doings; moves = by.moves; outs = by.outs; ins = by.ins }

pub program_reaches : ProgramReaches
program_reaches opening pasts told =
    let a = choose Told opening pasts told.count (λ p o x is_o is_x. (let k = told.acted p o x is_o is_x in (k.0, since o x k.0 k.1))) in
    all_reached held act_of Does recorded peer_in deeds_by holds walks ready sent recorded_grows recorded_waits deeds_told opening pasts a.0 a.1 a.2 told
