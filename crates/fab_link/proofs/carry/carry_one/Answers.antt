use Rattle.std.proofs.Common.{get_or, refl, rules}
use Rattle.std.specs.Prelude.{slice_set}
use Rattle.fab_link.proofs.Carrying.{first_of, went_of, went_kept, went_others, went_taken, taken_of, went_continued, went_counted}
use Rattle.fab_link.proofs.carry.carry_one.Goals as goal

pub returns : goal.returns
returns c =
    let went = went_of c.args.ports.now c.args.from c.args.to
    c.index-ports-to.result (get_or c.args.ports.now c.args.to c.index-ports-to.result) c.bring.new.self
    c.index-ports-from-2.result (get_or (slice_set c.args.ports.now c.args.to c.bring.new.self) c.args.from c.index-ports-from-2.result) c.take_out.new.self
    c.in-Some.copy c.in-Some-take_out._moved _ c.requires.from c.requires.to c.requires.all.lanes
    refl c.in_default-bring.ensures.ok refl c.in-Some-take_out.ensures.some
    (first_of _ _ _ c.index-ports-from.result _ _ c.requires.from (rw c.in-Some.is at c.in_ok-copy.ensures)) in
    record {
      all = search rules;
      kept = went_kept _ _ _ _ _ _ _ _ _ _ went;
      same = search rules;
      taken = went_taken _ _ _ _ _ _ _ _ _ _ went (taken_of c.args.ports.now c.args.from c.args.to c.index-ports-to.result _ c.bring.new.self c.in-Some.copy c.requires.from c.requires.to c.requires.all.lanes refl c.in_default-bring.ensures.ok (c.bring.ensures.taken c.args.from));
      others = went_others _ _ _ _ _ _ _ _ _ _ went;
      continued = went_continued _ _ _ _ _ _ _ _ _ _ went c.requires.continued;
      none = search rules;
      one = search rules;
      unmoved = search rules;
      moved = λ _. went_counted _ _ _ _ _ _ _ _ _ _ went;
    }
