-- What want of memory leaves of the peers.
--     Grows ps qs     each schedule of the others begins with that of the ones
--     Leaves ps qs    what began with some lines and led to the ones goes on to some states, by the steps of the others' schedules
use Rattle.std.specs.Prelude.{ℕ, List, [], slice_index_or}
use Rattle.fab_base.specs.declared.script.Conf.{Conf}
use Rattle.fab_base.specs.declared.script.Line.{Line}
use Rattle.fab_model.specs.Orders.{Reached}
use Rattle.fab_model.specs.Peers.{Actor, fabric}
use Rattle.fab_model.specs.Views.{IsPrefixOf, rule}
use Rattle.fab_finish.specs.Joined.{Member, actors, opened, schedules}

abbrev pub Grows : List Member → List Member → Type 0
Grows ps qs = (k : ℕ) → IsPrefixOf (slice_index_or (schedules ps) k []) (slice_index_or (schedules qs) k [])

abbrev pub Leaves : List Member → List Member → Type 0
Leaves ps qs = (conf : Conf) (lists : List (List Line)) → Reached (rule fabric) (opened conf lists) (schedules ps) (actors ps) → (last : List Actor) × Reached (rule fabric) (opened conf lists) (schedules qs) last
