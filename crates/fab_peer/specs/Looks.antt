-- The lines that look at unexpected messages (fi_tagged(3)).
--     look_line how ctx source tag ignore      `peek`, `claim` or `discard`
use Rattle.std.specs.Prelude.{ℕ, Option}
use Rattle.fab_base.specs.declared.entries.PeekHow.{PeekHow}
use Rattle.fab_base.specs.declared.entries.PeekHow.TheVariants as how
use Rattle.fab_base.specs.declared.script.LineOp.{LineOp}
use Rattle.fab_base.specs.declared.script.LineOp.TheVariants.{Peek, Claim, Discard}

abbrev pub look_line : PeekHow → ℕ → Option ℕ → ℕ → ℕ → LineOp
look_line how.Peek ctx source tag ignore = Peek ctx source tag ignore
look_line how.Claim ctx source tag ignore = Claim ctx source tag ignore
look_line how.Discard ctx source tag ignore = Discard ctx source tag ignore
