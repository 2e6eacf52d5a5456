use Rattle.std.proofs.Common.{sym, ap, ◌∙◌}
use Rattle.fab_model.specs.Peers.{is_of_ctx}
use Rattle.fab_kept.specs.Places.{ends_empty}
use Rattle.fab_kept.proofs.Places.{trimmed_somes, trimmed_places, trimmed_fewer}
use Rattle.fab_kept.proofs.list.trim.Goals as goal

pub ends-preserved : goal.ends-preserved
ends-preserved c =
    let xs = c.ends.places.items in
    let ys = c.pop.new.self.items in
    let empty = ap (λ zs. ends_empty zs) (sym c.as_slice.ensures.value) ∙ sym c.ends_empty.ensures ∙ c.ends-test.true in
    record {
      kept = trimmed_somes xs ys c.ends.places.len empty c.ends.places.ok.0 c.pop.ensures.rest ∙ c.ends.invariant.kept;
      places = λ ctx. trimmed_places xs ys c.ends.places.len empty c.ends.places.ok.0 c.pop.ensures.rest (is_of_ctx ctx) ∙ c.ends.invariant.places ctx;
    }

pub ends-preserved-in-ends-3 : goal.ends-preserved-in-ends-3
ends-preserved-in-ends-3 c =
    let xs = c.ends.places.items in
    let ys = c.pop.new.self.items in
    let empty = ap (λ zs. ends_empty zs) (sym c.as_slice.ensures.value) ∙ sym c.ends_empty.ensures ∙ c.ends-test.true in
    record {
      kept = trimmed_somes xs ys c.ends.places.len empty c.ends.places.ok.0 c.pop.ensures.rest ∙ c.ends.invariant.kept;
      places = λ ctx. trimmed_places xs ys c.ends.places.len empty c.ends.places.ok.0 c.pop.ensures.rest (is_of_ctx ctx) ∙ c.ends.invariant.places ctx;
    }

pub ends-smaller : goal.ends-smaller
ends-smaller c =
    trimmed_fewer c.ends.places.items c.pop.new.self.items c.ends.places.len (ap (λ zs. ends_empty zs) (sym c.as_slice.ensures.value) ∙ sym c.ends_empty.ensures ∙ c.ends-test.true) c.ends.places.ok.0 c.pop.ensures.rest
