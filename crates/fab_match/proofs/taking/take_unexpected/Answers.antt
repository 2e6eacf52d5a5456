use Rattle.std.proofs.Common.{sym, ◌∙◌}
use Rattle.fab_match.specs.Signs.{fits}
use Rattle.fab_match.proofs.Pairs.{without-first, remove_first-no_id}
use Rattle.fab_match.proofs.taking.take_unexpected.Goals as goal

pub returns-in_err-id-clause-rest : goal.returns-in_err-id-clause-rest
returns-in_err-id-clause-rest g c =
    sym (remove_first-no_id (λ sign. fits c.args.want.now sign) (g.M.Matcher.unexpected c.args.store.now) (sym c.in_err-id.ensures.first))

pub returns-clause-rest : goal.returns-clause-rest
returns-clause-rest g c =
    c.remove_unexpected.ensures.rest
    ∙ without-first (λ sign. fits c.args.want.now sign) c.in_ok-id.id (g.M.Matcher.unexpected c.args.store.now) c.in_ok-id.ensures.distinct (sym c.in_ok-id.ensures.first)
