-- The line that a workload's command writes.
--     bench_line workload m0 m1      with the clock's moments before the first phase and after the last, in microseconds
use Rattle.std.specs.Prelude.{ℕ, ◌-◌, ◌*◌, List, [], ◌∷◌, codes, decimal}
use Rattle.fab_model.specs.Words.{Word, line_of}
use Rattle.fab_workloads.specs.declared.workload.Workload.{Workload}
use Rattle.fab_workloads.specs.declared.workload.Workload.TheVariants.{Pingpong, Bandwidth, Generated}
use Rattle.fab_workloads.specs.Generator.{generated_bytes, generated_sum}
use Rattle.fab_workloads.specs.Lines.{windows}

abbrev pub pingpong_words : ℕ → ℕ → ℕ → ℕ → ℕ → List Word
pingpong_words size count sent bytes micros =
    codes "pingpong" ∷ codes "size" ∷ decimal size ∷ codes "count" ∷ decimal count ∷ codes "sent" ∷ decimal sent
    ∷ codes "bytes" ∷ decimal bytes ∷ codes "micros" ∷ decimal micros ∷ []

abbrev pub bandwidth_words : ℕ → ℕ → ℕ → ℕ → ℕ → ℕ → List Word
bandwidth_words size count window acks bytes micros =
    codes "bandwidth" ∷ codes "size" ∷ decimal size ∷ codes "count" ∷ decimal count ∷ codes "window" ∷ decimal window
    ∷ codes "acks" ∷ decimal acks ∷ codes "bytes" ∷ decimal bytes ∷ codes "micros" ∷ decimal micros ∷ []

abbrev pub generated_words : ℕ → ℕ → ℕ → ℕ → ℕ → List Word
generated_words number peers messages bytes total =
    codes "gen" ∷ codes "number" ∷ decimal number ∷ codes "peers" ∷ decimal peers ∷ codes "messages" ∷ decimal messages
    ∷ codes "bytes" ∷ decimal bytes ∷ codes "sum" ∷ decimal total ∷ []

-- the time is 0 where the second moment is not after the first
abbrev pub bench_words : Workload → ℕ → ℕ → List Word
bench_words (Pingpong size count) m0 m1 = pingpong_words size count (2 * count) (2 * (size * count)) (m1 - m0)
bench_words (Bandwidth size count window) m0 m1 = bandwidth_words size count window (windows count window) (size * count) (m1 - m0)
bench_words (Generated number peers messages) m0 m1 = generated_words number peers messages (generated_bytes number messages) (generated_sum number messages)

unfoldable pub bench_line : Workload → ℕ → ℕ → List ℕ
bench_line workload m0 m1 = line_of (bench_words workload m0 m1)
