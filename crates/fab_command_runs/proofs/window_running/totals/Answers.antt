use Rattle.std.proofs.Common.{◌≡◌, ℕ, ◌+◌, ◌%◌, ◌^◌, ◌<◌, List, ◌++◌, map, length, get_or, replicate, sym, ap, ◌∙◌, subst, arith}
use Rattle.std.proofs.lemmas.List.{length-replicate}
use Rattle.fab_base.proofs.Lists.{written_back}
use Rattle.fab_window.specs.Gather.{AreSettled}
use Rattle.fab_window.specs.declared.kinds.Account.{Account}
use Rattle.fab_window.specs.declared.board.Board.{Board}
use Rattle.fab_window.specs.declared.board.WindowSeat.{WindowSeat}
use Rattle.fab_window.specs.Seats.{AreAll, account_of, board_of, board_starts}
use Rattle.fab_command_runs.specs.Planned.{planned, parts}
use Rattle.fab_command_runs.proofs.Plans.{totals_are, still_all, zeros_at}
use Rattle.fab_command_runs.proofs.window_running.totals.Goals as goal

pub gather-requires : goal.gather-requires
gather-requires g c = let new = c.in_ok-seats.ensures {u = tt} in let xs : List WindowSeat = c.in_ok-seats.seats.items in let ys : List WindowSeat = c.draw_each.new.seats in let lent = c.as_mut_slice.ensures.value in
    let same : length ys ≡ length xs = c.draw_each.auto.seats ∙ ap length lent in let long : c.in_ok-seats.seats.len ≡ length xs = (let o = c.in_ok-seats.seats.ok in omega arith) in
    let b : Board = c.in_ok-window.window.board in
    let boards = subst (λ (z : List WindowSeat). (k : ℕ) (d : WindowSeat) → k < length z → board_of (get_or ys k d) ≡ board_of (get_or z k d)) lent c.draw_each.ensures.boards in
    (b, subst (AreAll b) (sym (written_back xs ys c.in_ok-seats.seats.len same long)) (still_all b xs ys same boards new.all))

pub returns-in-Ok : goal.returns-in-Ok
returns-in-Ok g c = let new = c.in_ok-seats.ensures {u = tt} in let xs : List WindowSeat = c.in_ok-seats.seats.items in let ys : List WindowSeat = c.draw_each.new.seats in let lent = c.as_mut_slice.ensures.value in
    let same : length ys ≡ length xs = c.draw_each.auto.seats ∙ ap length lent in let long : c.in_ok-seats.seats.len ≡ length xs = (let o = c.in_ok-seats.seats.ok in omega arith) in
    let b : Board = c.in_ok-window.window.board in let made = c.in_ok-window.ensures {u = tt} in let zeros = c.in_ok-zeros.ensures {u = tt} in
    let boards = subst (λ (z : List WindowSeat). (k : ℕ) (d : WindowSeat) → k < length z → board_of (get_or ys k d) ≡ board_of (get_or z k d)) lent c.draw_each.ensures.boards in
    let drawn = subst (λ (z : List WindowSeat). (k : ℕ) (d : WindowSeat) → k < length z → parts (account_of (get_or ys k d)).drawn ≡ parts (account_of (get_or z k d)).drawn ++ planned c.args.words ((c.args.number + k) % 2 ^ 64) c.args.adds) lent c.draw_each.ensures.drawn in
    let back = written_back xs ys c.in_ok-seats.seats.len same long in
    let settled = (c.in-Ok.ensures {u = tt}).gathered b (subst (AreAll b) (sym back) (still_all b xs ys same boards new.all)) in
    let starts : board_starts b ≡ replicate c.args.words 0 = made.0 ∙ c.as_slice.ensures.value ∙ zeros.items_if_clones_equal (λ y e. e) in
    totals_are c.args.number c.args.peers c.args.words c.args.adds ys (board_starts b) c.in-Ok.values.items
    (ap length starts ∙ length-replicate c.args.words 0)
    (λ w. ap (λ (z : List ℕ). get_or z w 0) starts ∙ zeros_at c.args.words w)
    (same ∙ new.all.count ∙ made.1)
    (λ k d near. drawn k d (omega arith) ∙ ap (λ (z : Account). parts z.drawn ++ planned c.args.words ((c.args.number + k) % 2 ^ 64) c.args.adds) (new.fresh k d (omega arith)))
    (subst (λ (z : List WindowSeat). AreSettled (map account_of z) (board_starts b) c.in-Ok.values.items) back settled)
