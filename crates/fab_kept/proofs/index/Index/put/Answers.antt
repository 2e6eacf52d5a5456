use Rattle.std.proofs.Common.{[], set, sym, ap, subst, ◌∙◌}
use Rattle.std.proofs.lemmas.List.{get_or_default}
use Rattle.fab_kept.specs.Places.{Puts}
use Rattle.fab_kept.specs.Indices.{places_in, places_among}
use Rattle.fab_kept.proofs.Indexing.{put_ok, put_err, low_has, row_put, elsewhere_ok, elsewhere_err}
use Rattle.fab_kept.proofs.index.Index.put.Goals as goal

pub returns-in-Some-clause-ok : goal.returns-in-Some-clause-ok
returns-in-Some-clause-ok c =
    let index = c.args.self.now in
    let n = c.in-Some.ctx in
    let is = c.in-Some.ensures.some in
    let later = places_among (set index.row.items n c.push.new.self) index.map in
    let had = ap (places_in index) is.0 ∙ low_has index.row.items index.map n is.1 ∙ get_or_default index.row.items n [] c.index_mut.result.now is.1 ∙ sym c.index_mut.ensures.value in
    let puts = subst (λ ctx. Puts (places_in index) later ctx c.push.new.self) (sym is.0) (row_put index.row.items index.map n c.push.new.self is.1) in
    put_ok (places_in index) later c.args.ctx c.push.result c.index_mut.result.now c.push.new.self c.args.place had puts c.push.ensures.ok

pub returns-in-Some-clause-err : goal.returns-in-Some-clause-err
returns-in-Some-clause-err c =
    let index = c.args.self.now in
    let n = c.in-Some.ctx in
    let is = c.in-Some.ensures.some in
    let later = places_among (set index.row.items n c.push.new.self) index.map in
    let had = ap (places_in index) is.0 ∙ low_has index.row.items index.map n is.1 ∙ get_or_default index.row.items n [] c.index_mut.result.now is.1 ∙ sym c.index_mut.ensures.value in
    let puts = subst (λ ctx. Puts (places_in index) later ctx c.push.new.self) (sym is.0) (row_put index.row.items index.map n c.push.new.self is.1) in
    put_err (places_in index) later c.args.ctx c.push.result c.index_mut.result.now c.push.new.self had puts c.push.ensures.err

pub returns-in-None-clause-ok : goal.returns-in-None-clause-ok
returns-in-None-clause-ok c = elsewhere_ok c.args.self.now.row.items c.args.self.now.map c.put_in_map.result c.put_in_map.new.map c.args.ctx c.args.place c.in-None.ensures.none c.put_in_map.ensures.ok

pub returns-in-None-clause-err : goal.returns-in-None-clause-err
returns-in-None-clause-err c = elsewhere_err c.args.self.now.row.items c.args.self.now.map c.put_in_map.result c.put_in_map.new.map c.put_in_map.ensures.err
