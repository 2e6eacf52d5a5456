-- Who tells whom in each round of a collective.
--     ahead peers rank steps          the rank so many steps on, around; behind: so many steps back, which is how many steps on from `steps` it is, too
--     is_doubling topology            twice as many have heard after each round
--     root_of topology                the rank of which all hear, if it is one alone
--     powers_below n peers            how many of the first n powers of two are below it: if one is, all before it are
--     rounds_of topology peers        how many rounds there are
--     distance topology round         how far off from a rank the one is that it tells in this round
--     width topology peers round      of how many ranks a message of this round tells; where it is the root's alone, how many such messages there are
--     waits_for topology round        in how many rounds a rank has to have heard before it tells in this one
--     hears, source_of                whether a rank hears in a round, and whom
--     tells, target_of                whether a rank tells in a round, and whom
--     round_from topology peers rank from n   the last of the first n rounds in which the rank hears this source, if there is one
use Rattle.std.specs.Prelude.{ℕ, zero, suc, ◌+◌, ◌-◌, ◌^◌, min, Bool, true, false, not, ◌&&◌, ◌==◌, nat_lt, if◌then◌else◌, Option, None, Some}
use Rattle.fab_topology.specs.declared.kinds.Topology.{Topology}
use Rattle.fab_topology.specs.declared.kinds.Topology.TheVariants.{Mesh, Dissemination, Star, Tree}

abbrev pub ahead : ℕ → ℕ → ℕ → ℕ
ahead peers rank steps = if nat_lt rank (peers - steps) then rank + steps else rank - (peers - steps)

abbrev pub behind : ℕ → ℕ → ℕ → ℕ
behind peers rank steps = if nat_lt rank steps then rank + (peers - steps) else rank - steps

abbrev pub is_doubling : Topology → Bool
is_doubling Mesh = false
is_doubling Dissemination = true
is_doubling (Star root) = false
is_doubling (Tree root) = true

abbrev pub root_of : Topology → Option ℕ
root_of Mesh = None
root_of Dissemination = None
root_of (Star root) = Some root
root_of (Tree root) = Some root

abbrev pub powers_below : ℕ → ℕ → ℕ
powers_below zero peers = 0
powers_below (suc k) peers = if nat_lt (2 ^ k) peers then suc k else powers_below k peers

-- straight: one for each other rank; ranks are numbers of 32 bits
abbrev pub rounds_of : Topology → ℕ → ℕ
rounds_of topology peers = if is_doubling topology then powers_below 32 peers else peers - 1

abbrev pub distance : Topology → ℕ → ℕ
distance topology round = if is_doubling topology then 2 ^ round else round + 1

-- by doubling as many as are heard of already, or the ranks that are left
abbrev pub width : Topology → ℕ → ℕ → ℕ
width topology peers round = if is_doubling topology then min (2 ^ round) (peers - 2 ^ round) else 1

abbrev pub waits_for : Topology → ℕ → ℕ
waits_for topology round = if is_doubling topology then round else 0

-- among so many steps on from the root, from a distance on
abbrev pub is_reached : ℕ → ℕ → ℕ → Bool
is_reached distance width steps = not (nat_lt steps distance) && nat_lt (steps - distance) width

abbrev pub hears_by : Option ℕ → ℕ → ℕ → ℕ → ℕ → Bool
hears_by None peers rank distance width = true
hears_by (Some root) peers rank distance width = is_reached distance width (behind peers rank root)

abbrev pub hears : Topology → ℕ → ℕ → ℕ → Bool
hears topology peers rank round = hears_by (root_of topology) peers rank (distance topology round) (width topology peers round)

-- from a root on messages go ahead, otherwise back, so that a rank hears of those ahead of it
abbrev pub source_by : Option ℕ → ℕ → ℕ → ℕ → ℕ
source_by None peers rank distance = ahead peers rank distance
source_by (Some root) peers rank distance = behind peers rank distance

abbrev pub source_of : Topology → ℕ → ℕ → ℕ → ℕ
source_of topology peers rank round = source_by (root_of topology) peers rank (distance topology round)

abbrev pub tells_by : Option ℕ → ℕ → ℕ → ℕ → Bool
tells_by None peers rank width = true
tells_by (Some root) peers rank width = nat_lt (behind peers rank root) width

abbrev pub tells : Topology → ℕ → ℕ → ℕ → Bool
tells topology peers rank round = tells_by (root_of topology) peers rank (width topology peers round)

abbrev pub target_by : Option ℕ → ℕ → ℕ → ℕ → ℕ
target_by None peers rank distance = behind peers rank distance
target_by (Some root) peers rank distance = ahead peers rank distance

abbrev pub target_of : Topology → ℕ → ℕ → ℕ → ℕ
target_of topology peers rank round = target_by (root_of topology) peers rank (distance topology round)

abbrev pub round_from : Topology → ℕ → ℕ → ℕ → ℕ → Option ℕ
round_from topology peers rank from zero = None
round_from topology peers rank from (suc k) =
    if hears topology peers rank k && (source_of topology peers rank k == from) then Some k else round_from topology peers rank from k
