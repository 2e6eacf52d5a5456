use Rattle.std.proofs.Common.{List, map, subst}
use Rattle.std.specs.Prelude.{IfOk}
use Rattle.fab_base.specs.declared.script.Line.{Line}
use Rattle.fab_rounds.specs.Phases.{AreReady, past_at}
use Rattle.fab_rounds.proofs.scripts.ready_bound.Goals as goal

pub returns : goal.returns
returns g c =
    record {
      ready = subst (λ (lists : List (List Line)). IfOk c.ready.result (λ rs. AreReady c.args.bound.now.script.conf lists (map (λ r. past_at r.peer) rs.items) (map (λ r. r.peer.endpoint.port) rs.items)))
          c.in_ok-lists.ensures c.ready.ensures.ready;
      sizes = c.ready.ensures.sizes;
    }
