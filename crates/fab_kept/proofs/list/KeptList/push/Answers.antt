use Rattle.std.proofs.Common.{◌++◌, ◌∷◌, [], Some, sym, ap, subst, ◌∙◌}
use Rattle.fab_kept.specs.Places.{IsIndexed, somes}
use Rattle.fab_kept.specs.Indices.{places_in}
use Rattle.fab_kept.proofs.Places.{somes_push}
use Rattle.fab_kept.proofs.Indexing.{pushed}
use Rattle.fab_kept.proofs.list.KeptList.push.Goals as goal

pub invariant_of-self-2 : goal.invariant_of-self-2
invariant_of-self-2 c =
    let inside = c.self.inside in
    subst (λ xs. IsIndexed xs (places_in c.file.new.index)) (sym (c.push_reserved.ensures.items ∙ ap (λ xs. xs ++ Some c.args.kept ∷ []) c.file.ensures.places))
    (pushed inside.places.items (places_in inside.index) (places_in c.file.new.index) c.self.invariant c.args.kept c.ctx_of-ctx.result inside.places.len c.ctx_of-ctx.ensures inside.places.ok.0 c.in_ok-file.ensures.ok)

pub returns-clause-ok : goal.returns-clause-ok
returns-clause-ok c =
    let inside = c.self.inside in
    ap (λ xs. somes xs) (c.push_reserved.ensures.items ∙ ap (λ xs. xs ++ Some c.args.kept ∷ []) c.file.ensures.places)
    ∙ somes_push inside.places.items c.args.kept ∙ ap (λ xs. xs ++ c.args.kept ∷ []) c.self.view_is
