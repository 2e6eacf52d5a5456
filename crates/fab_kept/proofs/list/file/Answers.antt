use Rattle.std.proofs.Common.{◌++◌, ◌∷◌, [], OnOk, subst, ◌∙◌}
use Rattle.fab_kept.specs.Places.{Puts}
use Rattle.fab_kept.specs.Indices.{places_in}
use Rattle.fab_kept.proofs.list.file.Goals as goal

pub returns-clause-ok : goal.returns-clause-ok
returns-clause-ok c =
    subst (λ n. OnOk c.put.result (Puts (places_in c.args.index.now) (places_in c.put.new.self) c.args.ctx (places_in c.args.index.now c.args.ctx ++ n ∷ []))) (c.len.ensures ∙ c.reserve.ensures.len) c.put.ensures.ok
