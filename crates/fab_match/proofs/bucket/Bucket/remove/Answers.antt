use Rattle.std.proofs.Common.{◌≡◌, ◌∙◌, ◌==◌, ◌+◌, ap, sym, subst, Some}
use Rattle.std.specs.Option.{OnSome, option_and_then}
use Rattle.std.proofs.lemmas.Bool.{eqb-true}
use Rattle.slab.specs.Slab.{slab_len, get}
use Rattle.fab_model.proofs.Firsts.{not_found as remove_first-none}
use Rattle.fab_match.specs.Bucket.{listed, held, places}
use Rattle.fab_match.proofs.Filing.{find-listed, listed-remove_first}
use Rattle.fab_match.proofs.Keeping.{Removes, card_there, linked_all, linked_id, linked_near, linked_wide, IsKept-removed, cards-removed}
use Rattle.fab_match.proofs.bucket.Bucket.remove.Given as given
use Rattle.fab_match.proofs.bucket.Bucket.remove.Goals as goal

pub returns-in_default-clause-there : goal.returns-in_default-clause-there
returns-in_default-clause-there g c = ap (option_and_then (get c.args.self.now.cards)) (sym c.in_default.is ∙ c.place_of.ensures.first) ∙ find-listed c.args.self.now.cards (λ card. card.id == c.args.id) (places c.args.self.now)

pub returns-in_default-clause-rest : goal.returns-in_default-clause-rest
returns-in_default-clause-rest g c =
    ap (listed c.args.self.now.cards) (sym (remove_first-none (held c.args.self.now.cards (λ card. card.id == c.args.id)) (places c.args.self.now) (sym c.place_of.ensures.first ∙ c.in_default.is)))
    ∙ listed-remove_first c.args.self.now.cards (λ card. card.id == c.args.id) (places c.args.self.now)

pub unlink-requires : goal.unlink-requires
unlink-requires g c = λ _. linked_all c.args.self.now c.requires (λ card. card.id == c.args.id) c.in-Some.place (sym c.in-Some.ensures.first)

pub unlink-requires-2 : goal.unlink-requires-2
unlink-requires-2 g c = λ _. linked_id c.args.self.now c.requires (λ card. card.id == c.args.id) c.in-Some.place (sym c.in-Some.ensures.first) c.args.id (λ card e. eqb-true card.id c.args.id e) c.place_of.ensures.within

pub unlink-requires-3 : goal.unlink-requires-3
unlink-requires-3 g c = λ _. linked_near c.args.self.now c.requires (λ card. card.id == c.args.id) c.in-Some.place (sym c.in-Some.ensures.first)

pub unlink-requires-4 : goal.unlink-requires-4
unlink-requires-4 g c = linked_wide c.args.self.now c.requires (λ card. card.id == c.args.id) c.in-Some.place (sym c.in-Some.ensures.first)

removes : (g : given.Over) (c : goal.After-unlink-4 g) → Removes c.args.self.now (record { cards = c.try_remove-card.new.self; all = c.unlink.new.self; ids = c.unlink-2.new.self; near = c.unlink-3.new.self; wide = c.unlink-4.new.self }) c.in-Some.place
removes g c =
    let there = card_there c.args.self.now c.requires (λ card. card.id == c.args.id) c.in-Some.place (sym c.in-Some.ensures.first) in
    let taken : c.try_remove-card.result ≡ Some there.0 = c.try_remove-card.ensures.value ∙ there.1 in
    record {
      same = c.try_remove-card.ensures.updates.others;
      count = subst (λ r. OnSome r (slab_len c.try_remove-card.new.self + 1 ≡ slab_len c.args.self.now.cards)) taken c.try_remove-card.ensures.len;
      all_leaves = c.unlink.ensures.chains;
      ids_heads = c.unlink-2.ensures.heads;
      ids_leaves = c.unlink-2.ensures.chains;
      near_heads = c.unlink-3.ensures.heads;
      near_leaves = c.unlink-3.ensures.chains;
      wide_heads = c.unlink-4.ensures.heads;
      wide_leaves = c.unlink-4.ensures.chains;
    }

pub returns-clause-kept : goal.returns-clause-kept
returns-clause-kept g c = IsKept-removed c.args.self.now c.requires (λ card. card.id == c.args.id) c.in-Some.place (sym c.in-Some.ensures.first) _ (removes g c)

pub returns-clause-there : goal.returns-clause-there
returns-clause-there g c = c.try_remove-card.ensures.value ∙ (ap (option_and_then (get c.args.self.now.cards)) c.in-Some.ensures.first ∙ find-listed c.args.self.now.cards (λ card. card.id == c.args.id) (places c.args.self.now))

pub returns-clause-rest : goal.returns-clause-rest
returns-clause-rest g c = cards-removed c.args.self.now c.requires (λ card. card.id == c.args.id) c.in-Some.place (sym c.in-Some.ensures.first) _ (removes g c)
