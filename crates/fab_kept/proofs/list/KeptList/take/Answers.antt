use Rattle.std.proofs.Common.{◌≡◌, Option, Some, None, set, sym, ap, subst, ◌∙◌, arith}
use Rattle.std.specs.Prelude.{find, IfNone}
use Rattle.fab_model.specs.Matching.{remove_first}
use Rattle.fab_model.specs.Peers.{is_of_ctx}
use Rattle.fab_model.proofs.Firsts.{not_found}
use Rattle.fab_kept.specs.Places.{Pops, places_of, somes}
use Rattle.fab_kept.specs.Indices.{places_in}
use Rattle.fab_kept.proofs.Places.{none_passes}
use Rattle.fab_kept.proofs.Indexing.{first_of, popped_left, stays}
use Rattle.fab_kept.proofs.list.KeptList.take.Goals as goal

if_some : {X : Type 0} (P : Type 0) (o : Option X) (x : X) → o ≡ Some x → IfNone o P
if_some P None x e = absurd (cc)
if_some P (Some y) x e = tt

-- ---- none of the context

pub invariant_of-self : goal.invariant_of-self
invariant_of-self c =
    let inside = c.self.inside in
    stays inside.places.items (places_in inside.index) (places_in c.pop.new.self) c.self.invariant (subst (λ o. Pops (places_in inside.index) (places_in c.pop.new.self) c.args.ctx o) c.in_default.is c.pop.ensures).1

pub returns-in_default-clause-found : goal.returns-in_default-clause-found
returns-in_default-clause-found c =
    let inside = c.self.inside in
    let none = (subst (λ o. Pops (places_in inside.index) (places_in c.pop.new.self) c.args.ctx o) c.in_default.is c.pop.ensures).0 in
    sym (ap (find (is_of_ctx c.args.ctx)) (sym c.self.view_is) ∙ none_passes (is_of_ctx c.args.ctx) 0 inside.places.items (sym (c.self.invariant c.args.ctx) ∙ none))

pub returns-in_default-clause-rest : goal.returns-in_default-clause-rest
returns-in_default-clause-rest c =
    let inside = c.self.inside in
    let none = (subst (λ o. Pops (places_in inside.index) (places_in c.pop.new.self) c.args.ctx o) c.in_default.is c.pop.ensures).0 in
    let test = is_of_ctx c.args.ctx in
    sym (ap (remove_first test) (sym c.self.view_is) ∙ not_found test (somes inside.places.items) (none_passes test 0 inside.places.items (sym (c.self.invariant c.args.ctx) ∙ none)))

-- ---- the first of the context

pub index_mut-requires : goal.index_mut-requires
index_mut-requires c =
    let inside = c.self.inside in
    let pops = subst (λ o. Pops (places_in inside.index) (places_in c.pop.new.self) c.args.ctx o) c.in-Some.is c.pop.ensures in
    let first = first_of inside.places.items (places_in inside.index) (places_in c.pop.new.self) c.self.invariant c.args.ctx c.in-Some.place pops in
    let within = first.within in
    omega (arith, within, inside.places.ok.0)

pub invariant_of-self-2 : goal.invariant_of-self-2
invariant_of-self-2 c = λ d.
    let inside = c.self.inside in
    let pops = subst (λ o. Pops (places_in inside.index) (places_in c.pop.new.self) c.args.ctx o) c.in-Some.is c.pop.ensures in
    popped_left inside.places.items (places_in inside.index) (places_in c.pop.new.self) c.self.invariant c.args.ctx c.in-Some.place pops d
    ∙ ap (λ x. places_of d (set inside.places.items c.in-Some.place x)) (sym c.take-kept.ensures.after) ∙ sym (c.trim.ensures.places d)

pub returns-clause-found : goal.returns-clause-found
returns-clause-found c =
    let inside = c.self.inside in
    let pops = subst (λ o. Pops (places_in inside.index) (places_in c.pop.new.self) c.args.ctx o) c.in-Some.is c.pop.ensures in
    let first = first_of inside.places.items (places_in inside.index) (places_in c.pop.new.self) c.self.invariant c.args.ctx c.in-Some.place pops in
    c.take-kept.ensures.value ∙ c.index_mut.ensures.value ∙ first.at _ ∙ sym first.found ∙ ap (find (is_of_ctx c.args.ctx)) c.self.view_is

pub returns-clause-rest : goal.returns-clause-rest
returns-clause-rest c =
    let inside = c.self.inside in
    let pops = subst (λ o. Pops (places_in inside.index) (places_in c.pop.new.self) c.args.ctx o) c.in-Some.is c.pop.ensures in
    let first = first_of inside.places.items (places_in inside.index) (places_in c.pop.new.self) c.self.invariant c.args.ctx c.in-Some.place pops in
    c.trim.ensures.kept ∙ ap (λ x. somes (set inside.places.items c.in-Some.place x)) c.take-kept.ensures.after ∙ sym first.left ∙ ap (remove_first (is_of_ctx c.args.ctx)) c.self.view_is

pub returns-clause-none : goal.returns-clause-none
returns-clause-none c =
    let inside = c.self.inside in
    let pops = subst (λ o. Pops (places_in inside.index) (places_in c.pop.new.self) c.args.ctx o) c.in-Some.is c.pop.ensures in
    let first = first_of inside.places.items (places_in inside.index) (places_in c.pop.new.self) c.self.invariant c.args.ctx c.in-Some.place pops in
    if_some _ c.take-kept.result first.item (c.take-kept.ensures.value ∙ c.index_mut.ensures.value ∙ first.at _)
