-- What a peer of the replay is in the machine.
--     actor_of bound a      the peer with its lines
--     moment_of bound peers      the states of all peers, and the steps that each has still to take
--     led a ready      where a step leads whose needs of other peers are met or not
--     Took took before after next      a step that is tried: it stands and leads on, or nothing changed
use Rattle.std.specs.Prelude.{◌≡◌, ℕ, Bool, true, false, List, map, drop, Option, Some, None}
use Rattle.fab_base.specs.declared.peers.Step.{Step}
use Rattle.fab_base.specs.declared.script.Bound.{Bound}
use Rattle.fab_model.specs.Orders.{Moment}
use Rattle.fab_base.specs.declared.operations.Receive.{Receive}
use Rattle.fab_model.specs.Arrivals.{do_head, do_tail}
use Rattle.fab_model.specs.Calls.{CancelFirst, do_call}
use Rattle.fab_model.specs.Peers as model
use Rattle.fab_model.specs.Peers.{do_next, draw_step, only_if, read_next, same_ctx, sent_step, with_state}
use Rattle.fab_model.specs.Replay.{lines_of}
use Rattle.fab_checker_machine.specs.Seen.{state_of}
use Rattle.fab_replay.specs.declared.actor.Actor.{Actor}
use Rattle.fab_replay.specs.declared.turns.Peer.{Peer}
use Rattle.fab_replay.specs.declared.ready.Ready.{Ready}
use Rattle.fab_replay.specs.declared.ready.Ready.TheVariants.{Do as ReadyDo, Head as ReadyHead, Tail as ReadyTail, Sent as ReadySent, Draw as ReadyDraw, Read as ReadyRead, Final as ReadyFinal}

abbrev pub actor_of : Bound → Actor → model.Actor
actor_of bound a = record { state = state_of a.state; lines = lines_of bound a.number; results = a.results.items; kept = a.kept }

abbrev pub actors_of : Bound → List Peer → List model.Actor
actors_of bound peers = map (λ (p : Peer). actor_of bound p.actor) peers

abbrev pub steps_of : List Peer → List (List Step)
steps_of peers = map (λ (p : Peer). p.steps) peers

abbrev pub left_of : Peer → List Step
left_of p = drop p.taken p.steps

abbrev pub moment_of : Bound → List Peer → Moment model.Actor Step
moment_of bound peers = record { states = actors_of bound peers; left = map left_of peers }

-- `next` is where the step leads, where it stands
abbrev pub Took : {S : Type 0} → Bool → S → S → Option S → Type 0
Took true before after next = next ≡ Some after
Took false before after next = (next ≡ None) × (after ≡ before)

-- the receive is that of this call
abbrev pub is_made : Option ℕ → Receive → Bool
is_made call r = same_ctx call (Some r.call)

-- ---- a step with what it needs of other peers

-- where the step leads; None where it does not stand
abbrev pub led : model.Actor → Ready → Option model.Actor
led a ReadyDo = do_next a
led a (ReadyHead source None) = None
led a (ReadyHead source (Some head)) = Some (with_state a (do_head a.state source head))
led a (ReadyTail source None) = None
led a (ReadyTail source (Some item)) = Some (with_state a (do_tail a.state source item.head item.bytes))
led a (ReadySent to) = sent_step a to
led a ReadyDraw = draw_step a
led a ReadyRead = read_next a
led a (ReadyFinal calm) = only_if calm (with_state a (do_call a.state CancelFirst).1)
