-- The law of a script's peers: that of threads, where a peer's own act is its next line, or a completion that it reads.
use Rattle.std.proofs.Common.{◌≡◌, ℕ, List, [], ◌∷◌, length, map, slice_get, get_or, Some, refl, sym, ap, ◌∙◌, subst, arith}
use Rattle.std.specs.Prelude.{slice_index}
use Rattle.std.proofs.lemmas.List.{map-id}
use Rattle.std.proofs.lemmas.Option.{slice_get_within}
use Rattle.fab_base.specs.declared.items.Item.{Item}
use Rattle.fab_base.specs.declared.peers.Step.{Step}
use Rattle.fab_base.proofs.Lists.{get_some as member}
use Rattle.fab_model.specs.State.{accepted_for}
use Rattle.fab_model.specs.Peers.{fabric}
use Rattle.fab_model.specs.Views.{View, Walk}
use Rattle.fab_model.proofs.Grows.{grows}
use Rattle.fab_model.proofs.Waits.{waits}
use Rattle.fab_face.specs.Held.{Held}
use Rattle.fab_face.specs.Acts.{Act, Did, Took, Posted, Drew, Had, MovedBy, steps_by, steps_of, taken_of, posted_to, ways_of}
use Rattle.fab_peer.specs.Turns.{Living, Lives, LivesBy, Shows, actor_in}
use Rattle.fab_peer.proofs.Sending.{did_passes, had_passes}
use Rattle.fab_peer.proofs.Showing.{walk_shown}
use Rattle.fab_merging.specs.Pasts.{ActedBy, Past, Trail, begun}
use Rattle.fab_merging.specs.Law.{AreTold, ThreadsJoin, ThreadsReach}
use Rattle.fab_merging.proofs.Holding.{Holds}
use Rattle.fab_merging.proofs.Threads.{Since, agrees_end, all_reached, choose}

abbrev held : Living → Held
held p = p.held

-- an act is what a peer does
abbrev itself : Act → Act
itself act = act

abbrev steps_told : Past → List Step
steps_told x = x.steps

holds : (p q : Living) (act : Act) → Lives p act q → Holds (held p) (itself act) (held q)
holds p q Did (did, same) = (did_passes (actor_in p) (actor_in q) did, same)
holds p q Had (had, same) = (had_passes (actor_in p) (actor_in q) had, same)
holds p q Drew (goes, same) = goes
holds p q (Took source f) (goes, same) = goes
holds p q (Posted dest f) (goes, same) = goes

walks : (v : View Item) (p q : Living) (act : Act) → Lives p act q → Shows v (held p) (λ s. taken_of s (itself act ∷ [])) → Walk fabric v (actor_in p) (steps_of (act ∷ [])) (actor_in q)
walks v p q act lives shows = walk_shown v (act ∷ []) p q (q, lives, refl) shows

ready : (p : Living) (d : ℕ) → fabric.ready (actor_in p) d ≡ accepted_for (held p).state.tx d
unfolding fabric
ready p d = refl

sent : (p : Living) (d : ℕ) → fabric.sent (actor_in p) d ≡ slice_index (held p).state.tx.sent d
unfolding fabric
sent p d = refl

trail : (acts : List Act) (p q : Living) → LivesBy p acts q → Trail Lives p acts q
trail [] p q is = is
trail (act ∷ acts) p q (mid, one, rest) = (mid, one, trail acts mid q rest)

abbrev Told : Living → Past → List Act → Type 0
Told = Since held itself Lives fabric actor_in steps_by holds walks ready sent grows waits steps_told

since : (o : Living) (x : Past) (acts : List Act) → ActedBy (begun o) x acts → Told o x acts
since o x acts by =
    let same : acts ≡ map itself acts = sym (map-id acts) in
    record {
      lives = trail acts o x.living by.lives;
      steps = by.steps;
      moves = subst (λ xs. MovedBy (Some []) x.moves (ways_of xs)) same by.moves;
      outs = λ d. by.outs d ∙ ap (posted_to d) same;
      ins = λ s. by.ins s ∙ ap (taken_of s) same;
    }

module _ (opening : List Living) (pasts : List Past) (told : AreTold opening pasts) where
  acts : (totals : List (List Act)) × (length totals ≡ length opening) × ((p : ℕ) (o : Living) (x : Past) → slice_get opening p ≡ Some o → slice_get pasts p ≡ Some x → Told o x (get_or totals p []))
  acts = choose Told opening pasts told.count (λ p o x is_o is_x. (let a = told.acted p o x is_o is_x in (a.0, since o x a.0 a.1)))

pub threads_reach : ThreadsReach
threads_reach opening pasts told =
    let a = acts opening pasts told in
    all_reached held itself Lives fabric actor_in steps_by holds walks ready sent grows waits steps_told opening pasts a.0 a.1 a.2 told

pub threads_join : ThreadsJoin
threads_join opening pasts told =
    let a = acts opening pasts told in
    record {
      agrees = λ p y past. (let q = member opening p (omega (arith, slice_get_within pasts p y past, told.count)) in agrees_end held itself Lives fabric actor_in steps_by holds walks ready sent grows waits steps_told opening pasts a.0 a.1 a.2 told p q.0 y q.1 past);
      lanes = told.lanes;
    }
