-- The worked rows, by computing. Texts of `gen` with bytes to sum are in the tests.
use Rattle.std.specs.Fmt.{digits}
use Rattle.std.specs.Prelude.{List, [], codes, refl, ℕ, ◌++◌, ◌∷◌, ◌≡◌}
use Rattle.fab_workloads.specs.Bench.{bench_line}
use Rattle.fab_workloads.specs.Generator.{byte_of, dest_of, drawn, length_of, source_of, tag_of}
use Rattle.fab_workloads.specs.declared.workload.Workload.TheVariants.{Bandwidth, Generated, Pingpong}

abbrev ended : List ℕ → List ℕ
ended text = text ++ 10 ∷ []

pub pingpong_row : bench_line (Pingpong 4096 3) 100 140 ≡ ended (codes "pingpong size 4096 count 3 sent 6 bytes 24576 micros 40")
unfolding digits bench_line
pingpong_row = refl

-- the clock stands still, or goes back
pub bandwidth_row : bench_line (Bandwidth 10 5 2) 7 7 ≡ ended (codes "bandwidth size 10 count 5 window 2 acks 3 bytes 50 micros 0")
unfolding digits bench_line
bandwidth_row = refl

pub back_row : bench_line (Bandwidth 1 4 2) 9 7 ≡ ended (codes "bandwidth size 1 count 4 window 2 acks 2 bytes 4 micros 0")
unfolding digits bench_line
back_row = refl

pub generated_row : bench_line (Generated 5 4 0) 1 2 ≡ ended (codes "gen number 5 peers 4 messages 0 bytes 0 sum 0")
unfolding digits bench_line
generated_row = refl

-- ---- the first message of the number 0, among two peers, and of the number 1

pub source_row : source_of 2 (drawn 0 1) ≡ 1
source_row = refl

pub dest_row : dest_of 2 (drawn 0 1) ≡ 1
dest_row = refl

pub tag_row : tag_of (drawn 0 1) ≡ 2
tag_row = refl

pub length_row : length_of (drawn 0 1) ≡ 5125
length_row = refl

pub byte_row : byte_of (drawn 0 1) 0 ≡ 247
byte_row = refl

pub one_tag_row : tag_of (drawn 1 1) ≡ 3
one_tag_row = refl

pub one_length_row : length_of (drawn 1 1) ≡ 11351
one_length_row = refl

pub one_byte_row : byte_of (drawn 1 1) 0 ≡ 67
one_byte_row = refl
