use Rattle.std.proofs.Common.{◌≡◌, ◌<◌, ◌+◌, ◌∙◌, None, cond, length, length-set, refl, set, subst, sym, ap}
use Rattle.std.specs.Option.{option_map}
use Rattle.fab_match.specs.Matcher.{without}
use Rattle.fab_model.specs.State.{coming_from}
use Rattle.fab_rx.specs.Table.{at}
use Rattle.fab_rx.specs.Sharing.{is_over, placed_in, released_of}
use Rattle.fab_rx.specs.Results.{ended, handed, last_of}
use Rattle.fab_rx.proofs.Ending.{at_some, buffer_part, kept_part, multi_part, outcome_gathered, outcome_into, outcome_kept, outcome_thrown, part_ends, part_there}
use Rattle.std.specs.Prelude.{IfSome, IsSomeAnd}
use Rattle.fab_rx.specs.Arriving.{Arriving, begun_of}
use Rattle.fab_rx.proofs.Numbering.{numbers_finish}
use Rattle.fab_rx.proofs.Growing.{claims_as_kept, claims_still, item_there, ends_into, ends_thrown, ends_gathered, ends_as_kept}
use Rattle.fab_rx.proofs.Moving.{multi_ended}
use Rattle.fab_rx.proofs.Tables.{same_ids, same_ids_if}
use Rattle.fab_rx.proofs.inbox.Inbox.finish.Goals as goal
use Rattle.fab_rx.proofs.inbox.Inbox.finish.Goals.{in-Into, in-Part, in-Keep, in-Throw, in-Gather}

pub invariant_of-self : goal.invariant_of-self
invariant_of-self g c =
    let source = c.args.source in
    let within : source < length c.self.inside.past.begun = subst (λ (v : Arriving). source < length v.begun) (sym c.self.view_is) c.requires.source in
    let there = item_there (λ item. length item.bytes ≡ item.head.total) (begun_of c.self.inside.past source)
    (subst (λ (v : Arriving). IsSomeAnd (begun_of v source) (λ item. length item.bytes ≡ item.head.total)) (sym c.self.view_is) c.requires.whole) in
    let numbers = numbers_finish c.self.inside.past c.self.invariant.numbers source in
    elim c.match-way.branch [
      | in-Into w ↦ rw (w.self-inside-is, c.note.ensures) (record {
        kept = ends_into _ _ _ _ _ _ _ c.self.invariant.kept source within there.0 there.1 c.in-Some.begun c.in-Some.ensures.value _ c.take_begun.ensures.rest w.in-Into.seat w.in-Into.is;
        numbers = numbers;
        shared = multi_ended _ _ _ _ _ _ _ c.self.invariant.kept _ c.self.invariant.shared source within c.in-Some.begun c.in-Some.ensures.value _ w.in-Into.is (λ id. refl) _ c.take_begun.ensures.rest;
        closable = rw (c.take_begun.ensures.rest, length-set) c.self.invariant.closable;
        ids = c.self.invariant.ids;
        sharing = c.self.invariant.sharing;
        aside = claims_still _ _ _ _ _ _ _ c.self.invariant.kept source within there.0 there.1 c.in-Some.begun c.in-Some.ensures.value _ _ c.self.invariant.aside _ c.take_begun.ensures.rest _ w.in-Into.is (λ id k. k);
      })
      | in-Part w ↦
          let put = w.place.ensures.cells ∙ ap (λ xs. set c.self.inside.seats.cells w.in-Part.id (option_map (placed_in w.in-Part.at xs) (at c.self.inside.seats w.in-Part.id))) w.as_slice.ensures.value in
          let slice = w.as_slice-in-Part.ensures.value ∙ c.take_begun.ensures.rest in
          let cells = w.release-released.ensures.cells ∙ ap (λ xs. cond (is_over xs c.self.inside.closing.items w.in-Part.id) (set w.place.new.self.cells w.in-Part.id None) w.place.new.self.cells) slice in
          let count = w.release-released.ensures.spare ∙ ap (λ xs. cond (is_over xs c.self.inside.closing.items w.in-Part.id) (w.place.new.self.spare + 1) (w.place.new.self.spare)) slice in
          let rest = w.release-released.ensures.rest ∙ ap (λ xs. cond (is_over xs c.self.inside.closing.items w.in-Part.id) (without w.in-Part.id c.self.inside.closing.items) c.self.inside.closing.items) slice in
          rw (w.self-inside-is, c.note.ensures) (record {
            kept = rw c.take_begun.ensures.rest (kept_part _ _ _ _ _ _ _ c.self.invariant.kept _ c.self.invariant.shared source within there.0 there.1 c.in-Some.begun c.in-Some.ensures.value w.in-Part.id w.in-Part.at w.in-Part.bytes w.in-Part.is w.place.new.self put w.release-released.new.seats cells);
            numbers = numbers;
            shared = rw c.take_begun.ensures.rest (multi_part _ _ _ _ _ _ _ c.self.invariant.kept _ c.self.invariant.shared source within there.0 there.1 c.in-Some.begun c.in-Some.ensures.value w.in-Part.id w.in-Part.at w.in-Part.bytes w.in-Part.is w.place.new.self put w.release-released.new.seats cells count w.place.ensures.spare _ rest);
            closable = rw (c.take_begun.ensures.rest, length-set, w.release-released.ensures.closable) c.self.invariant.closable;
            ids = same_ids_if (is_over (set c.self.inside.coming.items source None) c.self.inside.closing.items w.in-Part.id) w.place.new.self w.release-released.new.seats w.in-Part.id None cells (same_ids c.self.inside.seats w.place.new.self w.in-Part.id _ put c.self.invariant.ids);
            sharing = c.self.invariant.sharing;
            aside = claims_still _ _ _ _ _ _ _ c.self.invariant.kept source within there.0 there.1 c.in-Some.begun c.in-Some.ensures.value _ _ c.self.invariant.aside _ c.take_begun.ensures.rest _ w.in-Part.is (λ id k. k);
          })
      | in-Keep w ↦ rw (w.self-inside-is, c.note.ensures) (record {
        kept = ends_as_kept _ _ _ _ _ _ _ c.self.invariant.kept source within there.0 there.1 c.in-Some.begun c.in-Some.ensures.value _ c.take_begun.ensures.rest w.in-Keep.id w.in-Keep.bytes w.from_vec.result _ w.in-Keep.is w.from_vec.ensures w.set.ensures.cells;
        numbers = numbers;
        shared = multi_ended _ _ _ _ _ _ _ c.self.invariant.kept _ c.self.invariant.shared source within c.in-Some.begun c.in-Some.ensures.value _ w.in-Keep.is (λ id. refl) _ c.take_begun.ensures.rest;
        closable = rw (c.take_begun.ensures.rest, length-set) c.self.invariant.closable;
        ids = c.self.invariant.ids;
        sharing = c.self.invariant.sharing;
        aside = claims_as_kept _ _ _ _ _ _ _ c.self.invariant.kept source within there.0 there.1 c.in-Some.begun c.in-Some.ensures.value _ c.take_begun.ensures.rest _ _ c.self.invariant.aside w.in-Keep.id w.in-Keep.bytes w.from_vec.result _ w.in-Keep.is w.from_vec.ensures w.set.ensures.cells w.set.ensures.spare;
      })
      | in-Throw w ↦ rw (w.self-inside-is, c.note.ensures) (record {
        kept = ends_thrown _ _ _ _ _ _ _ c.self.invariant.kept source within there.0 there.1 c.in-Some.begun c.in-Some.ensures.value _ c.take_begun.ensures.rest w.in-Throw.is;
        numbers = numbers;
        shared = multi_ended _ _ _ _ _ _ _ c.self.invariant.kept _ c.self.invariant.shared source within c.in-Some.begun c.in-Some.ensures.value _ w.in-Throw.is (λ id. refl) _ c.take_begun.ensures.rest;
        closable = rw (c.take_begun.ensures.rest, length-set) c.self.invariant.closable;
        ids = c.self.invariant.ids;
        sharing = c.self.invariant.sharing;
        aside = claims_still _ _ _ _ _ _ _ c.self.invariant.kept source within there.0 there.1 c.in-Some.begun c.in-Some.ensures.value _ _ c.self.invariant.aside _ c.take_begun.ensures.rest _ w.in-Throw.is (λ id k. k);
      })
      | in-Gather w ↦ rw (w.self-inside-is, c.note.ensures) (record {
        kept = ends_gathered _ _ _ _ _ _ _ c.self.invariant.kept source within there.0 there.1 c.in-Some.begun c.in-Some.ensures.value _ c.take_begun.ensures.rest w.in-Gather.bytes w.in-Gather.is;
        numbers = numbers;
        shared = multi_ended _ _ _ _ _ _ _ c.self.invariant.kept _ c.self.invariant.shared source within c.in-Some.begun c.in-Some.ensures.value _ w.in-Gather.is (λ id. refl) _ c.take_begun.ensures.rest;
        closable = rw (c.take_begun.ensures.rest, length-set) c.self.invariant.closable;
        ids = c.self.invariant.ids;
        sharing = c.self.invariant.sharing;
        aside = claims_still _ _ _ _ _ _ _ c.self.invariant.kept source within there.0 there.1 c.in-Some.begun c.in-Some.ensures.value _ _ c.self.invariant.aside _ c.take_begun.ensures.rest _ w.in-Gather.is (λ id k. k);
      })
    ]

pub release-released-requires : goal.release-released-requires
release-released-requires g c =
    let source = c.args.source in
    let within : source < length c.self.inside.past.begun = subst (λ (v : Arriving). source < length v.begun) (sym c.self.view_is) c.requires.source in
    let there = item_there (λ item. length item.bytes ≡ item.head.total) (begun_of c.self.inside.past source)
    (subst (λ (v : Arriving). IsSomeAnd (begun_of v source) (λ item. length item.bytes ≡ item.head.total)) (sym c.self.view_is) c.requires.whole) in
    let put = c.place.ensures.cells ∙ ap (λ xs. set c.self.inside.seats.cells c.in-Part.id (option_map (placed_in c.in-Part.at xs) (at c.self.inside.seats c.in-Part.id))) c.as_slice.ensures.value in
    record { there = λ closes. part_there _ _ _ _ _ _ _ c.self.invariant.kept _ c.self.invariant.shared source within there.0 there.1 c.in-Some.begun c.in-Some.ensures.value c.in-Part.id c.in-Part.at c.in-Part.bytes c.in-Part.is c.place.new.self put }

pub returns-clause-outcome : goal.returns-clause-outcome
returns-clause-outcome g c =
    let source = c.args.source in
    let within : source < length c.self.inside.past.begun = subst (λ (v : Arriving). source < length v.begun) (sym c.self.view_is) c.requires.source in
    let there = item_there (λ item. length item.bytes ≡ item.head.total) (begun_of c.self.inside.past source)
    (subst (λ (v : Arriving). IsSomeAnd (begun_of v source) (λ item. length item.bytes ≡ item.head.total)) (sym c.self.view_is) c.requires.whole) in
    let v = c.self.inside.past in
    let told : c.match-way.result ≡ handed v (last_of source v) (ended (coming_from v.rx source) source there.0) = elim c.match-way.branch [
      | in-Into w ↦ w.result-is ∙ outcome_into _ _ _ _ _ _ _ c.self.invariant.kept source within there.0 there.1 c.in-Some.begun c.in-Some.ensures.value w.in-Into.seat w.in-Into.is w.complete.result w.complete.ensures
      | in-Part w ↦
          let put = w.place.ensures.cells ∙ ap (λ xs. set c.self.inside.seats.cells w.in-Part.id (option_map (placed_in w.in-Part.at xs) (at c.self.inside.seats w.in-Part.id))) w.as_slice.ensures.value in
          let slice = w.as_slice-in-Part.ensures.value ∙ c.take_begun.ensures.rest in
          let buffer = w.release-released.ensures.buffer ∙ ap (λ xs. cond (is_over xs c.self.inside.closing.items w.in-Part.id) (option_map (released_of w.in-Part.id) (at w.place.new.self w.in-Part.id)) None) slice in
          w.result-is ∙ w.received.ensures v (last_of source v) (buffer ∙ buffer_part _ _ _ _ _ _ _ c.self.invariant.kept _ c.self.invariant.shared source within there.0 there.1 c.in-Some.begun c.in-Some.ensures.value w.in-Part.id w.in-Part.at w.in-Part.bytes w.in-Part.is w.place.new.self put) ∙ ap (handed v (last_of source v)) (part_ends _ _ _ _ _ _ _ c.self.invariant.kept _ c.self.invariant.shared source within there.0 there.1 c.in-Some.begun c.in-Some.ensures.value w.in-Part.id w.in-Part.at w.in-Part.bytes w.in-Part.is w.part-completed.result w.part-completed.ensures)
      | in-Keep w ↦ w.result-is ∙ outcome_kept _ _ _ _ _ _ _ c.self.invariant.kept source within there.0 there.1 c.in-Some.begun c.in-Some.ensures.value w.in-Keep.id w.in-Keep.bytes w.in-Keep.is
      | in-Throw w ↦ w.result-is ∙ outcome_thrown _ _ _ _ _ _ _ c.self.invariant.kept source within there.0 there.1 c.in-Some.begun c.in-Some.ensures.value w.in-Throw.is
      | in-Gather w ↦ w.result-is ∙ outcome_gathered _ _ _ _ _ _ _ c.self.invariant.kept source within there.0 there.1 c.in-Some.begun c.in-Some.ensures.value w.in-Gather.bytes w.in-Gather.is w.from_vec-in-Gather.result w.from_vec-in-Gather.ensures w.gathered.result w.gathered.ensures
    ] in
    subst (λ (v : Arriving). IfSome (begun_of v source) (λ item. c.match-way.result ≡ handed v (last_of source v) (ended (coming_from v.rx source) source item))) c.self.view_is
    (at_some (begun_of v source) there.0 there.1 (λ item. c.match-way.result ≡ handed v (last_of source v) (ended (coming_from v.rx source) source item)) told)
