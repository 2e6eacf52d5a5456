-- Operations that have not ended are those that are not transmitted and those that await an answer.
use Rattle.std.proofs.Common.{◌≡◌, ◌+◌, arith}
use Rattle.fab_base.proofs.Lists.{count_others as count_both}
use Rattle.fab_model.specs.State.{State, awaits, deferred_count, in_use}
use Rattle.fab_app.specs.Progresses.{awaiting_of}

pub in_use_is : (s : State) → deferred_count s.tx + awaiting_of s ≡ in_use s.tx
in_use_is s = let live = count_both (awaits s.tx) s.tx.live in omega (arith, live)

pub none_in_use : (s : State) → deferred_count s.tx ≡ 0 → awaiting_of s ≡ 0 → in_use s.tx ≡ 0
none_in_use s deferred awaiting = let all = in_use_is s in omega (arith, all, deferred, awaiting)
