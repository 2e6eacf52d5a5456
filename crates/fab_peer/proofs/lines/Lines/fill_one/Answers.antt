use Rattle.std.proofs.Common.{rules}
use Rattle.std.specs.Prelude.{is_ok}
use Rattle.fab_peer.proofs.Filling.{filled_if}
use Rattle.fab_peer.proofs.lines.Lines.fill_one.Goals as goal

pub invariant_of-self-2 : goal.invariant_of-self-2
invariant_of-self-2 c =
    filled_if (is_ok c.push_back.result) c.self.inside.all.items c.self.inside.filled.items c.push_back.new.self.items (record { at = c.args.at; buf = c.in-Some.buf }) (search rules) c.self.invariant c.push_back.ensures.items
