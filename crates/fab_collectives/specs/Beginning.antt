-- What a group begins.
--     work_of group coll                the collective of this kind that is next: its rank, how many ranks there are, and its tag
--     next_of group                     the group once it began one more
--     refusal_of peers coll len         why one is not begun with a share of so many bytes
--     hearings work len                 of each round, whether the rank hears in it
--     IsFresh collective                no call was made for it, the message of each round in which it hears is awaited, with an empty place for each
--                                       round, and none failed
use Rattle.std.specs.Prelude.{◌≡◌, ℕ, ◌+◌, ◌%◌, ◌^◌, Bool, true, false, ◌&&◌, ◌==◌, nat_lt, cond, List, [], length, map, replicate, Option, Some, None}
use Rattle.std.specs.List.{range_with_len}
use Rattle.fab_base.specs.Elements.{element_size}
use Rattle.fab_base.specs.declared.faults.Fault.{Fault}
use Rattle.fab_base.specs.declared.faults.Fault.TheVariants.{Invalid, MsgSize}
use Rattle.fab_fold.specs.declared.coll.TheConstants.{MOST_SHARE}
use Rattle.fab_fold.specs.Shares.{is_reducing}
use Rattle.fab_fold.specs.declared.coll.Coll.{Coll}
use Rattle.fab_fold.specs.declared.coll.Coll.TheVariants.{Barrier, Broadcast, Allgather, Allreduce}
use Rattle.fab_collectives.specs.Routes.{hears_in, rounds_in}
use Rattle.fab_collectives.specs.declared.collective.Collective.{Collective}
use Rattle.fab_collectives.specs.declared.collective.Work.{Work}
use Rattle.fab_collectives.specs.declared.group.Group.{Group}

-- tags are 2^63 and more, one for each collective that the group began
abbrev pub work_of : Group → Coll → Work
work_of group coll = record { coll = coll; rank = group.rank; peers = group.peers; tag = 2 ^ 63 + group.rounds % 2 ^ 63 }

abbrev pub next_of : Group → Group
next_of group = record group { rounds = (group.rounds + 1) % 2 ^ 64 }

-- the root is there, and what is reduced are whole elements, by an operation that reduces
abbrev pub is_right : ℕ → Coll → ℕ → Bool
is_right peers Barrier len = true
is_right peers (Broadcast root) len = nat_lt root peers
is_right peers Allgather len = true
is_right peers (Allreduce op num) len = is_reducing op && (len % element_size num == 0)

abbrev pub refusal_of : ℕ → Coll → ℕ → Option Fault
refusal_of peers coll len = cond (nat_lt MOST_SHARE len) (Some MsgSize) (cond (is_right peers coll len) None (Some Invalid))

abbrev pub hearings : Work → ℕ → List Bool
hearings work len = map (λ k. hears_in work len k) (range_with_len 0 (rounds_in work len))

abbrev pub IsFresh : Collective → Type 0
IsFresh c = (c.asked ≡ 0) × (c.sent ≡ 0) × (c.awaited.items ≡ hearings c.work (length c.own)) × (c.received.items ≡ replicate (rounds_in c.work (length c.own)) []) × (c.failed ≡ false)
