-- What is held with another address vector.
--     with_av av h      what is held, with these indices in place of its own
use Rattle.std.specs.Prelude.{ℕ, List, Option}
use Rattle.fab_face.specs.Held.{Held}

abbrev pub with_av : List (Option ℕ) → Held → Held
with_av av h = record h { state = record h.state { av = av } }
