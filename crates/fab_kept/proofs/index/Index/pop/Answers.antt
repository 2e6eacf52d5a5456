use Rattle.std.proofs.Common.{[], set, sym, ap, subst, ◌∙◌}
use Rattle.std.proofs.lemmas.List.{get_or_default}
use Rattle.fab_kept.specs.Places.{Puts}
use Rattle.fab_kept.specs.Indices.{places_in, places_among}
use Rattle.fab_kept.proofs.Indexing.{popped, low_has, row_put, elsewhere_pops}
use Rattle.fab_kept.proofs.index.Index.pop.Goals as goal

pub returns-in-Some : goal.returns-in-Some
returns-in-Some c =
    let index = c.args.self.now in
    let n = c.in-Some.ctx in
    let is = c.in-Some.ensures.some in
    let later = places_among (set index.row.items n c.pop.new.self) index.map in
    let had = ap (places_in index) is.0 ∙ low_has index.row.items index.map n is.1 ∙ get_or_default index.row.items n [] c.index_mut.result.now is.1 ∙ sym c.index_mut.ensures.value in
    let puts = subst (λ ctx. Puts (places_in index) later ctx c.pop.new.self) (sym is.0) (row_put index.row.items index.map n c.pop.new.self is.1) in
    popped (places_in index) later c.args.ctx c.pop.result c.index_mut.result.now c.pop.new.self had puts c.pop.ensures.first c.pop.ensures.none

pub returns-in-None : goal.returns-in-None
returns-in-None c = elsewhere_pops c.args.self.now.row.items c.args.self.now.map c.pop_from_map.result c.pop_from_map.new.map c.args.ctx c.in-None.ensures.none c.pop_from_map.ensures
