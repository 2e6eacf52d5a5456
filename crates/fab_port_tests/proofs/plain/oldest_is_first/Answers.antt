use Rattle.fab_port_tests.proofs.PlainPorts.{made_between}
use Rattle.fab_port_tests.proofs.plain.oldest_is_first.Goals as goal

pub posts_all-requires-clause-between : goal.posts_all-requires-clause-between
posts_all-requires-clause-between c = made_between 0 2 c.in-Ok.port c.in-Ok.ensures.lanes
