-- The numbers of the calls that posted receives: nothing stores them, and no two receives have the same.
--     IsNumbered posted coming next      no two of the receives that are posted have the same number, none of them that of a receive for one message that has its item under way, and all are below next
use Rattle.std.specs.Prelude.{◌≡◌, ◌≢◌, ℕ, ◌<◌, List, [], ◌∷◌, Option, Some, None, slice_index_or}
use Rattle.fab_base.specs.declared.operations.Receive.{Receive}
use Rattle.fab_base.specs.declared.operations.Coming.{Coming}
use Rattle.fab_base.specs.declared.operations.Coming.TheVariants.{Into}

abbrev pub HaveOtherCalls : ℕ → List Receive → Type 0
HaveOtherCalls call [] = Unit {0}
HaveOtherCalls call (r ∷ rs) = (r.call ≢ call) × HaveOtherCalls call rs

abbrev pub AreDistinct : List Receive → Type 0
AreDistinct [] = Unit {0}
AreDistinct (r ∷ rs) = HaveOtherCalls r.call rs × AreDistinct rs

abbrev pub AreBelow : ℕ → List Receive → Type 0
AreBelow next [] = Unit {0}
AreBelow next (r ∷ rs) = (r.call < next) × AreBelow next rs

-- the item goes into none of the receives that are posted, unless into a multi-receive
abbrev pub GoesElsewhere : ℕ → List Receive → Option Coming → Type 0
GoesElsewhere next posted (Some (Into r place)) = (r.call < next) × (r.least ≡ None → HaveOtherCalls r.call posted)
GoesElsewhere next posted _ = Unit {0}

pub record IsNumbered (posted : List Receive) (coming : List (Option Coming)) (next : ℕ) : Type 0 where
  pub below : AreBelow next posted
  pub distinct : AreDistinct posted
  pub into : (s : ℕ) → GoesElsewhere next posted (slice_index_or coming s None)
