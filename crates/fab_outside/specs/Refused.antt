-- What a refused load hands over, and how a run ends where its script is refused.
--     IfTooLong result P       P holds of the bytes in a `TooLong`
--     end_of refused           the status
use Rattle.std.specs.Prelude.{ℕ, List, Result, Ok, Err}
use Rattle.fab_base.specs.declared.status.Status.{Status}
use Rattle.fab_base.specs.declared.status.Status.TheVariants as status
use Rattle.fab_script.specs.declared.refused.ParseRefused.{ParseRefused}
use Rattle.fab_script.specs.declared.refused.ParseRefused.TheVariants as parse
use Rattle.fab_outside.specs.declared.outside.LoadRefused.{LoadRefused}
use Rattle.fab_outside.specs.declared.outside.LoadRefused.TheVariants.{Failed, TooLong, NoMemory}

abbrev pub IfTooLong : Result (List ℕ) LoadRefused → (List ℕ → Type 0) → Type 0
IfTooLong (Ok bytes) P = Unit {0}
IfTooLong (Err Failed) P = Unit {0}
IfTooLong (Err (TooLong bytes)) P = P bytes
IfTooLong (Err NoMemory) P = Unit {0}

abbrev pub end_of : ParseRefused → Status
end_of (parse.Script line why) = status.ScriptRefused line why
end_of parse.NoMemory = status.NoMemory
