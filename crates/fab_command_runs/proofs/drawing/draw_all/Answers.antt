use Rattle.std.proofs.Common.{◌≡◌, ℕ, ◌-◌, List, [], ◌∷◌, ◌++◌, length, sym, ap, ◌∙◌, arith, append_assoc, length-append}
use Rattle.std.proofs.lemmas.List.{map_push}
use Rattle.fab_window.specs.declared.kinds.Draw.{Draw}
use Rattle.fab_window.specs.declared.kinds.Account.{Account}
use Rattle.fab_window.specs.Accounts.{draw, drew}
use Rattle.fab_window.specs.Seats.{account_of}
use Rattle.fab_workloads.specs.Generator.{next_drawn}
use Rattle.fab_command_runs.specs.Planned.{operand, place, planned, parts}
use Rattle.fab_command_runs.proofs.Plans.{plan_step}
use Rattle.fab_command_runs.proofs.drawing.draw_all.Goals as goal

pub adding-preserved : goal.adding-preserved
adding-preserved c = let i = c.adding.invariant in let told = c.in-Ok.ensures {u = tt} in let left : ℕ = c.adding.left in let words : ℕ = c.args.words in let x : ℕ = c.adding.x in
    let a : Account = account_of c.adding.seat in let d : Draw = draw c.target.result c.in-Ok.field-0 c.amount.result in
    let grown : account_of c.add.new.self ≡ drew a d = told.drawn in
    let at : c.target.result ≡ place words (next_drawn x) = c.target.ensures.value ∙ ap (place words) c.next_drawn-x.ensures in
    let n : c.amount.result ≡ operand (next_drawn x) = c.amount.ensures ∙ ap operand c.next_drawn-x.ensures in
    let step = plan_step words x left c.adding-test.true in
    let q : ℕ × ℕ = (place words (next_drawn x), operand (next_drawn x)) in
    let parted : parts (account_of c.add.new.self).drawn ≡ parts a.drawn ++ q ∷ [] = ap (λ (z : Account). parts z.drawn) grown ∙ map_push (λ (z : Draw). (z.word, z.n)) a.drawn d ∙ (λ j. parts a.drawn ++ (at j, n j) ∷ []) in record {
      window = told.window ∙ i.window;
      room = let e = ap (λ (z : Account). length z.drawn) grown in let f = length-append a.drawn (d ∷ []) in let g = i.room in let h = c.adding-test.true in omega arith;
      drawn = (λ j. parted j ++ planned words (c.next_drawn-x.ensures j) (left - 1)) ∙ append_assoc (parts a.drawn) (q ∷ []) (planned words (next_drawn x) (left - 1)) ∙ ap (λ (z : List (ℕ × ℕ)). parts a.drawn ++ z) (sym step) ∙ i.drawn;
    }
