-- How a tag is told to the endpoint, and what is wrong with the rank or the tag of a call.
--     wanted tag                    the tag that a receive compares, and the bits that it ignores: all that a tag of MPI may have, where any is wanted
--     wrong_with size rank tag      a rank that there is not, else a tag above the greatest one; what is not named is not wrong
use Rattle.std.specs.Prelude.{ℕ, ◌-◌, ◌^◌, nat_le, nat_lt, if◌then◌else◌, Option, Some, None}
use Rattle.mini_mpi_parts.specs.declared.tags.Wrong.{Wrong}
use Rattle.mini_mpi_parts.specs.declared.tags.Wrong.TheVariants.{Rank, Tag}

abbrev pub wanted : Option ℕ → ℕ × ℕ
wanted (Some tag) = (tag, 0)
wanted None = (0, 2 ^ 32 - 1)

abbrev pub wrong_tag : Option ℕ → Option Wrong
wrong_tag (Some tag) = if nat_lt 0x7fff_ffff tag then Some Tag else None
wrong_tag None = None

abbrev pub wrong_with : ℕ → Option ℕ → Option ℕ → Option Wrong
wrong_with size (Some rank) tag = if nat_le size rank then Some Rank else wrong_tag tag
wrong_with size None tag = wrong_tag tag
