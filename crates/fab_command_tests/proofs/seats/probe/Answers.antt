use Rattle.std.proofs.Common.{◌≡◌, ℕ, ◌+◌, ◌≤◌, subst, ap, refl, arith}
use Rattle.std.specs.List.{All}
use Rattle.std.proofs.lemmas.List.Elements.{All-contains, Contains-push}
use Rattle.fab_window.specs.declared.kinds.Draw.{Draw}
use Rattle.fab_window.specs.declared.kinds.Account.{Account}
use Rattle.fab_window.specs.Accounts.{draw, drew, seen}
use Rattle.fab_window.specs.Seats.{account_of}
use Rattle.fab_command_tests.proofs.seats.probe.Goals as goal

pub returns-clause-grown : goal.returns-clause-grown
returns-clause-grown c = let told = c.in-Ok.ensures {u = tt} in let r : ℕ = c.load-after.result in let least = c.load-after.ensures.least in
    let a : Account = account_of c.load-before.new.self in let d : Draw = draw 0 c.in-Ok.old 3 in let P : Draw → Type 0 = λ z. z.word ≡ 0 → z.old + z.n ≤ r in
    let saw : seen (account_of c.add.new.self) 0 ≡ seen a 0 = ap (λ (z : Account). seen z 0) told.drawn in
    let first : seen a 0 ≡ c.load-before.result = c.load-before.ensures.greatest in
    let last = least.0 in
    ((omega arith), All-contains P (drew a d).drawn d (subst (λ (z : Account). All P z.drawn) told.drawn least.1) (Contains-push a.drawn d) refl)
