-- Why a script is refused.
--     IsScript e             the script is refused; the other answer is want of memory
--     IsRefusal e said       the line and the reason are those that are said
--     IsVerdict said result  what is read is what is said; want of memory aside
use Rattle.std.specs.Prelude.{◌≡◌, ℕ, Option, Some, Result, Ok, Err}
use Rattle.fab_base.specs.declared.status.Why.{Why}
use Rattle.fab_base.specs.declared.script.Script.{Script}
use Rattle.fab_script.specs.declared.refused.ParseRefused.{ParseRefused}
use Rattle.fab_script.specs.declared.refused.ParseRefused.TheVariants as parse

abbrev pub IsScript : ParseRefused → Type 0
IsScript (parse.Script line why) = Unit {0}
IsScript parse.NoMemory = ⊥

abbrev pub IsRefusal : ParseRefused → Option (ℕ × Why) → Type 0
IsRefusal (parse.Script line why) said = said ≡ Some (line, why)
IsRefusal parse.NoMemory said = Unit {0}

abbrev pub IsVerdict : Result Script (ℕ × Why) → Result Script ParseRefused → Type 0
IsVerdict said (Ok script) = said ≡ Ok script
IsVerdict said (Err (parse.Script line why)) = said ≡ Err (line, why)
IsVerdict said (Err parse.NoMemory) = Unit {0}
