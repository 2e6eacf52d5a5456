use Rattle.std.proofs.Common.{◌<◌, ◌∙◌, ap, subst}
use Rattle.fab_match.specs.Bins.{bin}
use Rattle.fab_match.proofs.Keeping.{the_chain, place_of_id}
use Rattle.fab_match.proofs.bucket.Bucket.place_of.Goals as goal

pub first_of-requires : goal.first_of-requires
first_of-requires g c = the_chain c.args.self.now c.args.self.now.ids (λ card. bin c.args.self.now.ids.heads 0 card.id 0) c.requires.ids c.bin-head.result c.bin-head.ensures.within

pub returns-clause-first : goal.returns-clause-first
returns-clause-first g c = place_of_id c.args.self.now c.requires c.bin-head.result c.args.id (c.bin-head.ensures.exact ∙ ap (λ i. bin c.args.self.now.ids.heads 0 i 0) c.from.ensures) c.bin-head.ensures.within c.first_of.result c.first_of.ensures

pub returns-clause-within : goal.returns-clause-within
returns-clause-within g c = subst (λ k. k < c.args.self.now.ids.heads) (c.bin-head.ensures.exact ∙ ap (λ i. bin c.args.self.now.ids.heads 0 i 0) c.from.ensures) c.bin-head.ensures.within
