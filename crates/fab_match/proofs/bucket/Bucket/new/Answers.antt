use Rattle.std.proofs.Common.{[], arith}
use Rattle.fab_match.proofs.Keeping.{IsKept-empty}
use Rattle.fab_match.proofs.bucket.Bucket.new.Goals as goal

pub returns-clause-kept : goal.returns-clause-kept
returns-clause-kept g c =
    let stays = c.in_ok-reserve_all.ensures in
    IsKept-empty _ c.in_ok-cards.ensures.empty
    (omega (arith, c.requires, stays.ids.heads, c.in_ok-ids.ensures.heads))
    (stays.all.chains 0 [] (c.in_ok-all.ensures.empty 0 (omega arith)))
    (λ h below. stays.ids.chains h [] (c.in_ok-ids.ensures.empty h (omega (arith, below, stays.ids.heads, c.in_ok-ids.ensures.heads))))
    (λ h below. stays.near.chains h [] (c.in_ok-near.ensures.empty h (omega (arith, below, stays.near.heads, c.in_ok-near.ensures.heads))))
    (λ h below. stays.wide.chains h [] (c.in_ok-wide.ensures.empty h (omega (arith, below, stays.wide.heads, c.in_ok-wide.ensures.heads))))

pub returns-clause-ready : goal.returns-clause-ready
returns-clause-ready g c = λ place below. c.in_ok-reserve_all.ensures.covered place (omega (arith, below, c.capacity-last.ensures.value))
