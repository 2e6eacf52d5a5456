-- What the files, the output and the clock outside tell, and how a call changes it.
--     Next old new                one more, in a count that may be stored
--     CountsUnder name ..         a load left the count and the name, or counted a fault under its name
--     IsFile files name bytes     the file of that name is this
--     BeginsFile files name bytes that file begins so
--     one_more names name         the names of the loads made, where they are told, and this one
--     file_of files name          the file of that name in a list of files
use Rattle.std.specs.Prelude.{◌≡◌, ℕ, ◌+◌, ◌^◌, ◌≤◌, ◌⊎◌, List, [], ◌∷◌, ◌++◌, Option, Some, None, bytes_eq, option_map, find}
use Rattle.fab_base.specs.Counts.{Rose}

-- one more, in a count that stays at its last value where it is stored in 64 bits
abbrev pub Next : ℕ → ℕ → Type 0
Next old new = (new ≡ old + 1) ⊎ ((2 ^ 64 ≤ old + 1) × (new ≡ old))

-- the count and the name stay, or the count rose and the name is that of this load
abbrev pub CountsUnder : List ℕ → ℕ → ℕ → Option (List ℕ) → Option (List ℕ) → Type 0
CountsUnder name faults faults' failed failed' =
    ((faults' ≡ faults) × (failed' ≡ failed)) ⊎ (Rose faults faults' × (failed' ≡ Some name))

-- where files are told, these bytes are the file of this name
abbrev pub IsFile : Option (List ℕ → Option (List ℕ)) → List ℕ → List ℕ → Type 0
IsFile None name bytes = Unit {0}
IsFile (Some file) name bytes = file name ≡ Some bytes

-- where files are told, the file of this name begins with these bytes
abbrev pub BeginsFile : Option (List ℕ → Option (List ℕ)) → List ℕ → List ℕ → Type 0
BeginsFile None name bytes = Unit {0}
BeginsFile (Some file) name bytes = (rest : List ℕ) × (file name ≡ Some (bytes ++ rest))

abbrev pub one_more : Option (List (List ℕ)) → List ℕ → Option (List (List ℕ))
one_more names name = option_map (λ names. names ++ name ∷ []) names

-- the first file of that name
abbrev pub file_of : List (List ℕ × List ℕ) → List ℕ → Option (List ℕ)
file_of files name = option_map (λ file. file.1) (find (λ file. bytes_eq file.0 name) files)
