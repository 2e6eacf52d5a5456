use Rattle.std.proofs.Common.{rules, ◌≡◌, arith, subst}
use denote.Param.Send.{sendable}
use Rattle.fab_ep.specs.Value.{seen}
use Rattle.fab_peer.specs.Turns.{told}
use Rattle.fab_rounds.specs.Rounds.{Rounded, between}
use Rattle.fab_rounds.specs.Staying.{Risen}
use Rattle.fab_rounds.proofs.rounds.round.Goals as goal

-- what a call said of the peer that it was lent holds of the peers at its place
at_place : {X : Type 0} (R : X → X → Type 0) {x y a b : X} → x ≡ a → y ≡ b → R x y → R a b
at_place R {y = y} {a = a} first last holds = subst (λ z. R a z) last (subst (λ z. R z y) first holds)

pub for_each_mut-requires-clause-accepts : goal.for_each_mut-requires-clause-accepts
for_each_mut-requires-clause-accepts g c = λ l o i p near is. (omega arith, search (rules, sendable))

pub returns-clause-rounded : goal.returns-clause-rounded
returns-clause-rounded g c = λ k d near. let h = (c.for_each_mut.ensures k d (omega arith)).1 in
    at_place (λ a b. Rounded (between (told (seen g.P.Port) a.peer) a.moved a.failed) (between (told (seen g.P.Port) b.peer) b.moved b.failed)) h.argument_is h.left h.call.0

pub returns-clause-risen : goal.returns-clause-risen
returns-clause-risen g c = λ k d near. let h = (c.for_each_mut.ensures k d (omega arith)).1 in
    at_place (λ a b. Risen (between (told (seen g.P.Port) a.peer) a.moved a.failed) (between (told (seen g.P.Port) b.peer) b.moved b.failed)) h.argument_is h.left h.call.1
