use Rattle.std.proofs.Common.{sym, ◌∙◌}
use Rattle.fab_match.specs.Signs.{fits}
use Rattle.fab_match.proofs.Pairs.{without-first, remove_first-no_id}
use Rattle.fab_match.proofs.taking.take_posted.Goals as goal

pub returns-in_err-id-clause-rest : goal.returns-in_err-id-clause-rest
returns-in_err-id-clause-rest g c =
    sym (remove_first-no_id (λ want. fits want c.args.sign.now) (g.M.Matcher.posted c.args.store.now) (sym c.in_err-id.ensures.first))

pub returns-clause-rest : goal.returns-clause-rest
returns-clause-rest g c =
    c.remove_posted.ensures.rest
    ∙ without-first (λ want. fits want c.args.sign.now) c.in_ok-id.id (g.M.Matcher.posted c.args.store.now) c.in_ok-id.ensures.distinct (sym c.in_ok-id.ensures.first)
