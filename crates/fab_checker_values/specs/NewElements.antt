-- One element of an atomic, and whether a request is performed.
--     new_bytes atom old operand compares      the new first element, of the old first element, the operand's and the compare's
use Rattle.std.specs.Prelude.{List, take, ℕ, Bool, true, false}
use Rattle.fab_base.specs.declared.items.Outcome.{Outcome}
use Rattle.fab_base.specs.declared.items.Outcome.TheVariants.{Done}
use Rattle.fab_base.specs.declared.items.Atom.{Atom}
use Rattle.fab_base.specs.Elements.{element_size}
use Rattle.fab_model.specs.Target.{element, number_of, bytes_of}

abbrev pub new_bytes : Atom → List ℕ → List ℕ → List ℕ → List ℕ
new_bytes atom old operand compares =
    let size = element_size atom.num in
    bytes_of size (element atom.op atom.num (number_of (take size old)) (number_of (take size operand)) (number_of (take size compares)))

abbrev pub is_done : Outcome → Bool
is_done Done = true
is_done _ = false
