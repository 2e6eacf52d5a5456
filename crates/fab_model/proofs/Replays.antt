-- The laws of the replay, over any bound script: what is reached in some order is lawful, and the other way round.
use Rattle.std.proofs.Common.{◌≡◌, List, length, subst, sym}
use Rattle.fab_base.specs.declared.peers.Step.{Step}
use Rattle.fab_base.specs.declared.script.Bound.{Bound}
use Rattle.fab_model.specs.Laws.{EveryOrderEndsAlike, LawfulIsReached, TheReplayIsAnOrder}
use Rattle.fab_model.specs.Orders.{Reached, steps_left, turn}
use Rattle.fab_model.specs.Peers.{Actor, fabric}
use Rattle.fab_model.specs.Replay.{Lawful, opening, replayed, start}
use Rattle.fab_model.specs.Views.{rule}
use Rattle.fab_model.proofs.Confluence.{replay_runs}
use Rattle.fab_model.proofs.Orders as orders
use Rattle.fab_model.proofs.Patient.{Own, fabric_patient, opening_sound}
use Rattle.fab_model.proofs.Turns.{Commutes, confluence, replay_ends}
use Rattle.fab_model.proofs.Views as views

abbrev pub Sound : Bound → List Actor → Type 0
Sound bound = views.Sound fabric bound.script.conf.peers (Own bound.script.conf.peers)

pub fabric_commutes : (bound : Bound) → Commutes (rule fabric) (Sound bound)
fabric_commutes bound = let n = bound.script.conf.peers in views.commutes fabric n (Own n) (fabric_patient n)

pub every_order_ends_alike : EveryOrderEndsAlike
unfolding replayed
every_order_ends_alike bound schedule order last run end = sym (confluence (rule fabric) (Sound bound) (fabric_commutes bound) (start bound schedule) last order (opening_sound bound) run end)

pub the_replay_is_an_order : TheReplayIsAnOrder
unfolding replayed
the_replay_is_an_order bound schedule =
    let m = start bound schedule in
    let run = replay_runs (turn (rule fabric)) (length schedule) (steps_left m) m in
    (run.0, run.1, replay_ends (rule fabric) (Sound bound) (fabric_commutes bound) m (opening_sound bound))

-- what is reached in some order is lawful, and the replay ends in these states
pub reached_lawful : (bound : Bound) (schedule : List (List Step)) (last : List Actor) → Reached (rule fabric) (opening bound) schedule last → Lawful bound schedule × ((replayed bound schedule).states ≡ last)
unfolding replayed
reached_lawful bound schedule last reached =
    let end = orders.reached_lawful (rule fabric) (Sound bound) (fabric_commutes bound) (opening bound) last schedule (opening_sound bound) reached in
    (end.1, end.0)

-- a lawful schedule is reached in some order
pub lawful_reached : (bound : Bound) (schedule : List (List Step)) → Lawful bound schedule → Reached (rule fabric) (opening bound) schedule (replayed bound schedule).states
unfolding replayed
lawful_reached bound schedule lawful = orders.replay_reached (rule fabric) (opening bound) schedule lawful

pub lawful_is_reached : LawfulIsReached
lawful_is_reached bound schedule last = (reached_lawful bound schedule last, λ end. subst (λ states. Reached (rule fabric) (opening bound) schedule states) end.1 (lawful_reached bound schedule end.0))

-- what is reached is sound
pub reached_sound : (bound : Bound) (schedule : List (List Step)) (states : List Actor) → Reached (rule fabric) (opening bound) schedule states → Sound bound states
reached_sound bound schedule states reached = orders.leads_sound (rule fabric) (Sound bound) (fabric_commutes bound) reached.0 (opening bound) states (opening_sound bound) reached.1
