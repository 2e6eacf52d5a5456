-- What negotiation promises to an application (fi_getinfo(3)), beside the definition of what is granted.
--     asked hints                the capabilities asked for
--     wished hints size          the wish for this size; a wish of 0 counts as none
--     number info size           the number granted for this size
--     Includes larger smaller    every capability of the smaller set is in the larger
--     IsOffered api caps         every capability of the set is on offer
--     SameIn group a b           two sets agree on the capabilities of this group
--     IsWithin api size n        the number is within the limits of the size
--     CannotBeHad api hints      a capability asked for is not on offer, or a wish is outside the limits of its size
use Rattle.std.specs.Prelude.{◌≡◌, ℕ, ◌<◌, ◌≤◌, ◌⊎◌, Bool, true, false, IsTrue, Option, Some, None, IsSomeAnd}
use Rattle.fab_base.specs.Granted.{has}
use Rattle.fab_base.specs.Offer.{limits_of, is_offered}
use Rattle.fab_base.specs.declared.caps.Api.{Api}
use Rattle.fab_base.specs.declared.caps.Cap.{Cap}
use Rattle.fab_base.specs.declared.caps.Cap.TheVariants.{Msg, Tagged, Rma, Atomic, DirectedRecv}
use Rattle.fab_base.specs.declared.caps.Caps.{Caps}
use Rattle.fab_base.specs.declared.caps.Hints.{Hints}
use Rattle.fab_base.specs.declared.caps.Info.{Info}
use Rattle.fab_base.specs.declared.limits.Size.{Size}
use Rattle.fab_base.specs.declared.limits.Size.TheVariants.{Peers, Lane, Pool, Tx, Rx, Cq, Log, Inject, Message}
use Rattle.fab_model.specs.Negotiation.{wish, no_hints}

-- ---- what is asked for

abbrev pub asked : Option Hints → Caps
asked None = no_hints.caps
asked (Some h) = h.caps

abbrev pub wish_in : Hints → Size → Option ℕ
wish_in h Peers = wish h.peers
wish_in h Lane = wish h.lane
wish_in h Pool = wish h.pool
wish_in h Tx = wish h.tx
wish_in h Rx = wish h.rx
wish_in h Cq = wish h.cq
wish_in h Log = wish h.log
wish_in h Inject = wish h.inject
wish_in h Message = wish h.message

abbrev pub wished : Option Hints → Size → Option ℕ
wished None size = None
wished (Some h) size = wish_in h size

-- ---- what is granted

abbrev pub number : Info → Size → ℕ
number info Peers = info.peers
number info Lane = info.lane
number info Pool = info.pool
number info Tx = info.tx
number info Rx = info.rx
number info Cq = info.cq
number info Log = info.log
number info Inject = info.inject
number info Message = info.message

-- ---- sets of capabilities

-- what an application uses, and what modifies no other
abbrev pub is_primary : Cap → Bool
is_primary Msg = true
is_primary Tagged = true
is_primary Rma = true
is_primary Atomic = true
is_primary DirectedRecv = true
is_primary _ = false

abbrev pub Includes : Caps → Caps → Type 0
Includes larger smaller = (cap : Cap) → IsTrue (has smaller cap) → IsTrue (has larger cap)

abbrev pub IsOffered : Api → Caps → Type 0
IsOffered api caps = (cap : Cap) → IsTrue (has caps cap) → IsTrue (is_offered api cap)

abbrev pub SameIn : (Cap → Bool) → Caps → Caps → Type 0
SameIn group a b = (cap : Cap) → IsTrue (group cap) → has a cap ≡ has b cap

-- ---- sizes

abbrev pub IsWithin : Api → Size → ℕ → Type 0
IsWithin api size n = ((limits_of api size).least ≤ n) × (n ≤ (limits_of api size).greatest)

abbrev pub IsOutside : Api → Size → ℕ → Type 0
IsOutside api size n = (n < (limits_of api size).least) ⊎ ((limits_of api size).greatest < n)

-- ---- why something is refused

abbrev pub CannotBeHad : Api → Option Hints → Type 0
CannotBeHad api hints =
    ((cap : Cap) × IsTrue (has (asked hints) cap) × (is_offered api cap ≡ false))
    ⊎ ((size : Size) × IsSomeAnd (wished hints size) (IsOutside api size))
