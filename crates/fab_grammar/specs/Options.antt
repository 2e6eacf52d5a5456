-- The optional words of a line.
--     are_options allowed words       each is one that the line may have, and none stands twice
--     read_options allowed words      what they say
use Rattle.std.specs.Prelude.{ℕ, Bool, true, false, ◌&&◌, if◌then◌else◌, List, [], ◌∷◌, length, drop, codes, bytes_eq, find, Option, Some, None, option_map, unwrap_or, Result, Ok, Err}
use Rattle.std.specs.List.{list_any}
use Rattle.fab_base.specs.declared.peers.Level.{Level}
use Rattle.fab_base.specs.declared.peers.Level.TheVariants as level
use Rattle.fab_words.specs.declared.misread.Misread.{Misread}
use Rattle.fab_words.specs.declared.misread.Misread.TheVariants.{Words}
use Rattle.fab_grammar.specs.declared.options.Allowed.{Allowed}
use Rattle.fab_grammar.specs.declared.options.Optional.{Optional}
use Rattle.fab_grammar.specs.declared.options.Optional.TheVariants.{Data, AtLevel, Completion, Fence, Min}
use Rattle.fab_grammar.specs.declared.options.Options.{Options}
use Rattle.fab_words.specs.Misreads.{map_ok, ◌&◌}
use Rattle.fab_words.specs.Words.{begins_with, first_of, read_number, read_index}

abbrev pub level_name : Level → List ℕ
level_name level.Inject = codes "inject"
level_name level.Transmit = codes "transmit"
level_name level.Delivery = codes "delivery"
level_name level.Match = codes "match"

abbrev pub all_levels : List Level
all_levels = level.Inject ∷ level.Transmit ∷ level.Delivery ∷ level.Match ∷ []

unfoldable pub level_named : List ℕ → Option Level
level_named word = find (λ level. bytes_eq word (level_name level)) all_levels

-- `data=N`, `level=L`, `completion`, `fence` or `min=N`
unfoldable pub optional_of : List ℕ → Option Optional
optional_of word =
    if begins_with (codes "level=") word then option_map AtLevel (level_named (drop 6 word))
    else first_of ((begins_with (codes "data=") word, Data) ∷ (bytes_eq word (codes "completion"), Completion) ∷ (bytes_eq word (codes "fence"), Fence) ∷ (begins_with (codes "min=") word, Min) ∷ [])

abbrev pub allows : Allowed → Option Optional → Bool
allows a None = false
allows a (Some Data) = a.imm
allows a (Some (AtLevel level)) = a.level
allows a (Some Completion) = a.completion
allows a (Some Fence) = a.fence
allows a (Some Min) = a.min

-- each at most once
abbrev pub without : Allowed → Option Optional → Allowed
without a None = a
without a (Some Data) = record a { imm = false }
without a (Some (AtLevel level)) = record a { level = false }
without a (Some Completion) = record a { completion = false }
without a (Some Fence) = record a { fence = false }
without a (Some Min) = record a { min = false }

abbrev pub are_options : Allowed → List (List ℕ) → Bool
are_options allowed [] = true
are_options allowed (word ∷ words) = allows allowed (optional_of word) && are_options (without allowed (optional_of word)) words

-- what follows this front in the first word that begins with it
abbrev pub value_after : List ℕ → List (List ℕ) → Option (List ℕ)
value_after front [] = None
value_after front (word ∷ words) = if begins_with front word then Some (drop (length front) word) else value_after front words

abbrev pub read_if : (List ℕ → Result ℕ Misread) → Option (List ℕ) → Result (Option ℕ) Misread
read_if read None = Ok None
read_if read (Some word) = map_ok Some (read word)

-- a send completes when it is transmitted, where nothing else is said
abbrev pub level_after : Option (List ℕ) → Level
level_after None = level.Transmit
level_after (Some word) = unwrap_or (level_named word) level.Transmit

unfoldable pub level_in : List (List ℕ) → Level
level_in words = level_after (value_after (codes "level=") words)

-- this is one of the words
unfoldable pub has_word : List ℕ → List (List ℕ) → Bool
has_word name words = list_any (λ word. bytes_eq word name) words

abbrev pub the_options : List (List ℕ) → Option ℕ × Option ℕ → Options
the_options words (imm, min) = record { imm = imm; level = level_in words; completion = has_word (codes "completion") words; fence = has_word (codes "fence") words; min = min }

unfoldable pub read_options : Allowed → List (List ℕ) → Result Options Misread
read_options allowed words =
    if are_options allowed words then map_ok (the_options words) (read_if read_number (value_after (codes "data=") words) & read_if read_index (value_after (codes "min=") words))
    else Err Words

-- what a line may have: data, level, completion, fence and min
abbrev pub allowing : Bool → Bool → Bool → Bool → Bool → Allowed
allowing may_data may_level may_completion may_fence may_min = record { imm = may_data; level = may_level; completion = may_completion; fence = may_fence; min = may_min }
