-- All peers as they start, one after another.
use Rattle.std.proofs.Common.{◌≡◌, ℕ, ◌+◌, ◌<◌, ◌≤◌, List, [], ◌∷◌, ◌++◌, length, map, take, drop, get_or, sym, ap, ap₂, ◌∙◌, add-one}
use Rattle.std.proofs.Math.Seq.{take-suc}
use Rattle.std.proofs.lemmas.List.{map-append, take_all}
use Rattle.fab_base.specs.declared.peers.Step.{Step}
use Rattle.fab_base.specs.declared.script.Bound.{Bound}
use Rattle.fab_model.specs.Calls.{upto}
use Rattle.fab_model.specs.Orders.{Moment}
use Rattle.fab_model.specs.Peers.{Actor}
use Rattle.fab_model.specs.Replay.{newly, lines_of, opening, start}
use Rattle.fab_replay.specs.declared.turns.Peer.{Peer}
use Rattle.fab_replay.specs.Seen.{actor_of, actors_of, steps_of, left_of, moment_of}

abbrev started : Bound → ℕ → List Actor
started b n = map (λ p. newly b.script.conf (lines_of b p)) (upto n)

pub actors_more : (b : Bound) (peers : List Peer) (n : ℕ) (peer : Peer) → actors_of b peers ≡ started b n → actor_of b peer.actor ≡ newly b.script.conf (lines_of b n) → actors_of b (peers ++ peer ∷ []) ≡ started b (n + 1)
actors_more b peers n peer so_far here =
    map-append (λ (q : Peer). actor_of b q.actor) peers (peer ∷ [])
    ∙ ap₂ (λ (xs : List Actor) (x : Actor). xs ++ x ∷ []) so_far here
    ∙ sym (rw add-one (map-append (λ p. newly b.script.conf (lines_of b p)) (upto n) (n ∷ [])))

taken_more : (schedule : List (List Step)) (n : ℕ) (steps : List Step) → n < length schedule → steps ≡ get_or schedule n [] → take n schedule ++ steps ∷ [] ≡ take (n + 1) schedule
taken_more schedule n steps within is = ap (λ s. take n schedule ++ s ∷ []) is ∙ sym (rw add-one (take-suc schedule n [] within))

pub steps_more : (peers : List Peer) (schedule : List (List Step)) (n : ℕ) (peer : Peer) → n < length schedule → steps_of peers ≡ take n schedule → peer.steps ≡ get_or schedule n [] → steps_of (peers ++ peer ∷ []) ≡ take (n + 1) schedule
steps_more peers schedule n peer within so_far is = map-append (λ (q : Peer). q.steps) peers (peer ∷ []) ∙ ap (λ xs. xs ++ peer.steps ∷ []) so_far ∙ taken_more schedule n peer.steps within is

pub left_more : (peers : List Peer) (schedule : List (List Step)) (n : ℕ) (peer : Peer) → n < length schedule → map left_of peers ≡ take n schedule → peer.steps ≡ get_or schedule n [] → peer.taken ≡ 0 → map left_of (peers ++ peer ∷ []) ≡ take (n + 1) schedule
left_more peers schedule n peer within so_far is none =
    let all : left_of peer ≡ peer.steps = ap (λ k. drop k peer.steps) none in
    map-append left_of peers (peer ∷ []) ∙ ap₂ (λ (xs : List (List Step)) (x : List Step). xs ++ x ∷ []) so_far all ∙ taken_more schedule n peer.steps within is

pub all_started : (b : Bound) (peers : List Peer) (schedule : List (List Step)) (n : ℕ) → n ≡ b.script.conf.peers → length schedule ≤ n → actors_of b peers ≡ started b n → map left_of peers ≡ take n schedule → moment_of b peers ≡ start b schedule
unfolding opening
all_started b peers schedule n many enough actors left =
    ap₂ (λ (states : List Actor) (left : List (List Step)). let m : Moment Actor Step = record { states = states; left = left } in m) (actors ∙ ap (started b) many) (left ∙ take_all n schedule enough)
