use Rattle.std.proofs.Common.{◌≡◌, ap, refl, arith}
use Rattle.slab.specs.Slab.{Slab}
use Rattle.fab_match.proofs.Keeping.{kept_as, cards_as}
use Rattle.fab_match.proofs.bucket.Bucket.reserve.Goals as goal

pub returns-in_err-reserve_all-clause-kept : goal.returns-in_err-reserve_all-clause-kept
returns-in_err-reserve_all-clause-kept g c = kept_as c.args.self.now c.requires c.reserve_all.new.all c.reserve_all.new.ids c.reserve_all.new.near c.reserve_all.new.wide c.in_err-reserve_all.ensures.all c.in_err-reserve_all.ensures.ids c.in_err-reserve_all.ensures.near c.in_err-reserve_all.ensures.wide c.args.self.now.cards.capacity c.args.self.now.cards refl

pub returns-in_err-reserve_all-clause-same : goal.returns-in_err-reserve_all-clause-same
returns-in_err-reserve_all-clause-same g c = cards_as c.args.self.now c.requires c.reserve_all.new.all c.reserve_all.new.ids c.reserve_all.new.near c.reserve_all.new.wide c.in_err-reserve_all.ensures.all c.in_err-reserve_all.ensures.ids c.in_err-reserve_all.ensures.near c.in_err-reserve_all.ensures.wide c.args.self.now.cards.capacity c.args.self.now.cards refl

pub returns-in_err-reserve-clause-kept : goal.returns-in_err-reserve-clause-kept
returns-in_err-reserve-clause-kept g c = kept_as c.args.self.now c.requires c.reserve_all.new.all c.reserve_all.new.ids c.reserve_all.new.near c.reserve_all.new.wide c.in_ok-reserve_all.ensures.all c.in_ok-reserve_all.ensures.ids c.in_ok-reserve_all.ensures.near c.in_ok-reserve_all.ensures.wide c.reserve.new.self.capacity c.reserve.new.self c.in_err-reserve.ensures.rest_kept

pub returns-in_err-reserve-clause-same : goal.returns-in_err-reserve-clause-same
returns-in_err-reserve-clause-same g c = cards_as c.args.self.now c.requires c.reserve_all.new.all c.reserve_all.new.ids c.reserve_all.new.near c.reserve_all.new.wide c.in_ok-reserve_all.ensures.all c.in_ok-reserve_all.ensures.ids c.in_ok-reserve_all.ensures.near c.in_ok-reserve_all.ensures.wide c.reserve.new.self.capacity c.reserve.new.self c.in_err-reserve.ensures.rest_kept

pub returns-clause-kept : goal.returns-clause-kept
returns-clause-kept g c = kept_as c.args.self.now c.requires c.reserve_all.new.all c.reserve_all.new.ids c.reserve_all.new.near c.reserve_all.new.wide c.in_ok-reserve_all.ensures.all c.in_ok-reserve_all.ensures.ids c.in_ok-reserve_all.ensures.near c.in_ok-reserve_all.ensures.wide c.reserve.new.self.capacity c.reserve.new.self c.in_ok-reserve.ensures.rest_kept

pub returns-clause-same : goal.returns-clause-same
returns-clause-same g c = cards_as c.args.self.now c.requires c.reserve_all.new.all c.reserve_all.new.ids c.reserve_all.new.near c.reserve_all.new.wide c.in_ok-reserve_all.ensures.all c.in_ok-reserve_all.ensures.ids c.in_ok-reserve_all.ensures.near c.in_ok-reserve_all.ensures.wide c.reserve.new.self.capacity c.reserve.new.self c.in_ok-reserve.ensures.rest_kept

pub returns-clause-room : goal.returns-clause-room
returns-clause-room g c =
    let key : c.reserve.new.self.vacant_key ≡ c.args.self.now.cards.vacant_key = ap (λ (s : Slab _). s.vacant_key) c.in_ok-reserve.ensures.rest_kept in
    (c.in_ok-reserve.ensures.room, λ below. c.in_ok-reserve_all.ensures.covered c.reserve.new.self.vacant_key (omega (arith, key, c.vacant_key-place.ensures.value)))
