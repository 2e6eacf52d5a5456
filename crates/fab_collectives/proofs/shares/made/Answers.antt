use Rattle.std.proofs.Common.{List, ℕ, sym, subst, ◌∙◌, rules}
use Rattle.fab_fold.specs.Shares.{AreReceived}
use Rattle.fab_collectives.proofs.Whole.{whole_received}
use Rattle.fab_collectives.proofs.shares.made.Goals as goal

pub outcome-requires : goal.outcome-requires
outcome-requires c = let work = c.args.work in let own = c.args.own.now in let received = c.args.received.now in
    subst (λ (rs : List (List ℕ)). AreReceived work.coll work.rank own rs) (sym (c.as_slice.ensures.value ∙ c.in_ok-others.ensures))
    (whole_received work own received c.are_whole.ensures.tiles (c.are_whole.ensures.yes (search rules)))

pub returns-in-Ok-clause-alike : goal.returns-in-Ok-clause-alike
returns-in-Ok-clause-alike c = whole_received c.args.work c.args.own.now c.args.received.now c.are_whole.ensures.tiles (c.are_whole.ensures.yes (search rules))
