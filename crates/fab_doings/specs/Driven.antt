-- What a drive of a collective does itself, in the record of its thread.
--     asked_in, told_in      the receive of a round, and its message
--     its_asks, its_tells    a receive for each round in which the rank hears, and a message for each in which it tells, of the rounds that it got to
--     driven c d             both, where the drive finds the collective c and leaves d
use Rattle.std.specs.Prelude.{ℕ, ◌*◌, List, ◌++◌, length, map}
use Rattle.fab_model.specs.Calls.{Call}
use Rattle.fab_collectives.specs.declared.collective.Collective.{Collective}
use Rattle.fab_collectives.specs.declared.collective.Work.{Work}
use Rattle.fab_collectives.specs.Driving.{asking, between, telling}
use Rattle.fab_collectives.specs.Routes.{hears_in, load_in, message_of, source_in, target_in, tells_in}
use Rattle.fab_doings.specs.Doings.{Doing}
use Rattle.fab_doings.specs.Recording.{called}

abbrev pub asked_in : Work → ℕ → ℕ → Call
asked_in work len k = asking work.tag (load_in work len k * len) (source_in work len k)

abbrev pub told_in : Work → List ℕ → List (List ℕ) → ℕ → Call
told_in work own received k = telling work.tag (message_of work own received k) (target_in work (length own) k)

abbrev pub its_asks : Work → ℕ → ℕ → ℕ → List Doing
its_asks work len a b = map (λ (k : ℕ). called (asked_in work len k)) (between (λ k. hears_in work len k) a b)

abbrev pub its_tells : Work → List ℕ → List (List ℕ) → ℕ → ℕ → List Doing
its_tells work own received a b = map (λ (k : ℕ). called (told_in work own received k)) (between (λ k. tells_in work (length own) k) a b)

abbrev pub driven : Collective → Collective → List Doing
driven c d = its_asks c.work (length c.own) c.asked d.asked ++ its_tells c.work c.own c.received.items c.sent d.sent
