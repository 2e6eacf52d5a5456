use Rattle.std.proofs.Common.{◌∙◌, ap}
use Rattle.fab_match.specs.Bins.{bin}
use Rattle.fab_match.proofs.Keeping.{can_join, Adds, IsKept-added, cards-added}
use Rattle.fab_match.proofs.bucket.Bucket.add.Given as given
use Rattle.fab_match.proofs.bucket.Bucket.add.Goals as goal

pub push-requires-2-clause-chain : goal.push-requires-2-clause-chain
push-requires-2-clause-chain g c =
    λ _. can_join c.args.self.now c.requires.kept c.insert_reserved-place.result c.insert_reserved-place.ensures.was_vacant c.args.self.now.ids (λ card. bin c.args.self.now.ids.heads 0 card.id 0) c.requires.kept.ids c.bin-head.result c.bin-head.ensures.within

pub push-requires-3-clause-chain : goal.push-requires-3-clause-chain
push-requires-3-clause-chain g c =
    λ _. can_join c.args.self.now c.requires.kept c.insert_reserved-place.result c.insert_reserved-place.ensures.was_vacant c.args.self.now.near (λ card. card.near) c.requires.kept.near c.args.card.near c.requires.near

pub push-requires-4-clause-chain : goal.push-requires-4-clause-chain
push-requires-4-clause-chain g c =
    λ some. can_join c.args.self.now c.requires.kept c.insert_reserved-place.result c.insert_reserved-place.ensures.was_vacant c.args.self.now.wide (λ card. card.wide) c.requires.kept.wide c.args.card.wide (c.requires.wide some)

adds : (g : given.Over) (c : goal.After-push-4 g)
    → Adds c.args.self.now (record { cards = c.insert_reserved-place.new.self; all = c.push.new.self; ids = c.push-2.new.self; near = c.push-3.new.self; wide = c.push-4.new.self }) c.insert_reserved-place.result c.args.card
adds g c = record {
  vacant = c.insert_reserved-place.ensures.was_vacant;
  at = c.insert_reserved-place.ensures.updates.changed;
  same = c.insert_reserved-place.ensures.updates.others;
  count = c.insert_reserved-place.ensures.len;
  near_within = c.requires.near;
  wide_within = c.requires.wide;
  all_joins = c.push.ensures.joined;
  ids_head = c.bin-head.result;
  ids_is = c.bin-head.ensures.exact ∙ ap (λ i. bin c.args.self.now.ids.heads 0 i 0) c.from.ensures;
  ids_heads = c.push-2.ensures.heads;
  ids_joins = c.push-2.ensures.joined;
  ids_stay = c.push-2.ensures.others;
  near_heads = c.push-3.ensures.heads;
  near_joins = c.push-3.ensures.joined;
  near_stay = c.push-3.ensures.others;
  wide_heads = c.push-4.ensures.heads;
  wide_joins = c.push-4.ensures.joined;
  wide_stay = c.push-4.ensures.others;
}

pub returns-clause-kept : goal.returns-clause-kept
returns-clause-kept g c = IsKept-added c.args.self.now c.requires.kept c.insert_reserved-place.result c.insert_reserved-place.ensures.was_vacant _ c.args.card (adds g c)

pub returns-clause-added : goal.returns-clause-added
returns-clause-added g c = cards-added c.args.self.now c.requires.kept c.insert_reserved-place.result c.insert_reserved-place.ensures.was_vacant _ c.args.card (adds g c)
