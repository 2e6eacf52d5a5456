-- All that is stored of the receive half, with the numbers of calls.
--     IsInbox      it stands for what contracts see
use Rattle.std.specs.Prelude.{◌≡◌, ℕ, ◌≤◌, ◌^◌, Bool, false, List, [], length, Option}
use Rattle.fab_base.specs.declared.items.Want.{Want}
use Rattle.fab_base.specs.declared.items.Sign.{Sign}
use Rattle.fab_rx.specs.declared.stored.Waiting.{Waiting}
use Rattle.fab_rx.specs.declared.stored.Parcel.{Parcel}
use Rattle.fab_rx.specs.declared.stored.Begun.{Begun}
use Rattle.fab_rx.specs.Table.{Cells}
use Rattle.fab_rx.specs.Arriving.{Arriving}
use Rattle.fab_rx.specs.Numbers.{IsNumbered}
use Rattle.fab_rx.specs.Stored.{AreClaimed, IsKept}
use Rattle.fab_rx.specs.Homes.{AreMulti}

pub record IsInbox (posted : List (ℕ × Want)) (unexpected : List (ℕ × Sign)) (room : ℕ) (seats : Cells Waiting) (parcels : Cells Parcel) (coming : List (Option Begun)) (claims : List (ℕ × ℕ)) (claimable : ℕ) (closing : List (ℕ × ℕ)) (room_to_close : ℕ) (shares : Bool) (v : Arriving) : Type 0 where
  pub kept : IsKept posted unexpected room seats parcels coming v
  pub numbers : IsNumbered v.rx.posted v.rx.coming v.next
  pub aside : AreClaimed unexpected parcels coming claims claimable v.rx.claimed
  pub shared : AreMulti posted closing seats coming v.rx.posted v.rx.closing v.rx.coming v.next v.multis v.most
  pub closable : length coming ≤ room_to_close
  -- each place for a receive has an id of 32 bits
  pub ids : length seats.cells ≤ 2 ^ 32
  -- whether a multi-receive was posted
  pub sharing : shares ≡ false → v.multis ≡ []
