-- What a transmit call, and what a request did, are in the machine.
--     order_of order             the call
--     performed_of p regions     what a request did
use Rattle.std.specs.Prelude.{List}
use Rattle.fab_model.specs.State as machine
use Rattle.fab_model.specs.Sending.{Order}
use Rattle.fab_model.specs.Target as target
use Rattle.fab_checker_values.specs.declared.target.Performed.{Performed}
use Rattle.fab_checker_values.specs.declared.orders.Order as orders

abbrev pub order_of : orders.Order → Order
order_of o = record {
  kind = o.kind;
  injected = o.injected;
  dest = o.dest;
  tag = o.tag;
  imm = o.imm;
  key = o.key;
  at = o.at;
  count = o.count;
  atom = o.atom;
  bytes = o.bytes;
  compared = o.compared;
  ctx = o.ctx;
  level = o.level;
  completion = o.completion;
  fence = o.fence;
  buf = o.buf;
}

abbrev pub performed_of : Performed → List machine.Region → target.Performed
performed_of p regions = record { outcome = p.outcome; bytes = p.bytes; regions = regions }
