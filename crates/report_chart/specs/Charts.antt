-- Of which reports a chart is drawn.
--     IsLawful bound text            the checker calls the text the report of a lawful run of the script
--     IsRefused bound text refused   it does not, and this is its line; or memory is wanting
use Rattle.std.specs.Prelude.{◌≡◌, ℕ, Bool, true, false, List, string_bytes}
use Rattle.fab_base.specs.declared.script.Bound.{Bound}
use Rattle.fab_replay.specs.declared.verdicts.Verdict.{Verdict}
use Rattle.fab_replay.specs.declared.verdicts.Verdict.TheVariants.{Lawful}
use Rattle.fab_replay.specs.Verdict.{verdict, verdict_line}
use Rattle.report_chart.specs.declared.not_drawn.NotDrawn.{NotDrawn}
use Rattle.report_chart.specs.declared.not_drawn.NotDrawn.TheVariants.{Unlawful, NoMemory}

abbrev pub is_lawful : Verdict → Bool
is_lawful (Lawful rest) = true
is_lawful _ = false

abbrev pub IsLawful : Bound → List ℕ → Type 0
IsLawful bound text = is_lawful (verdict bound text) ≡ true

abbrev pub IsRefused : Bound → List ℕ → NotDrawn → Type 0
IsRefused bound text (Unlawful line) = (is_lawful (verdict bound text) ≡ false) × (string_bytes line ≡ verdict_line (verdict bound text))
IsRefused bound text NoMemory = Unit {0}
IsRefused bound text refused = ⊥
