-- Optional words that were read are read again.
use Rattle.std.proofs.Common.{◌≡◌, ℕ, Bool, true, false, List, ◌++◌, Option, Some, None, codes, decimal, ap, subst, ◌∙◌, refl}
use Rattle.std.specs.Prelude.{Result, Ok}
use Rattle.std.specs.List.{list_all}
use Rattle.std.proofs.lemmas.Bool.{and_from}
use Rattle.std.proofs.lemmas.List.Folds.{list_all-append}
use Rattle.fab_base.specs.declared.peers.Level.{Level}
use Rattle.fab_base.specs.declared.peers.Level.TheVariants as level
use Rattle.fab_grammar.specs.declared.options.Allowed.{Allowed}
use Rattle.fab_grammar.specs.declared.options.Options.{Options}
use Rattle.fab_grammar.specs.Options.{level_named, optional_of, are_options, value_after, read_if, level_in, has_word, the_options, read_options}
use Rattle.fab_grammar.specs.Sends.{for_send, for_inject, for_write, for_multi}
use Rattle.fab_grammar.specs.Atomics.{for_atomic}
use Rattle.fab_words.specs.declared.misread.Misread.{Misread}
use Rattle.fab_words.specs.declared.misread.Misread.TheVariants.{Words}
use Rattle.fab_words.specs.Misreads.{◌&◌, map_ok}
use Rattle.fab_words.specs.Words.{read_number, read_index}
use Rattle.fab_words.specs.Written.{is_word}
use Rattle.fab_spell.specs.Spelling.{imm_words, level_words, completion_words, fence_words, min_words}
use Rattle.fab_spell.proofs.Decimals.{read_number_again, read_index_again}
use Rattle.fab_spell.proofs.Numbers.{digits-decimal, printable-digits}
use Rattle.fab_spell.proofs.Said.{both_said, said_by, said_if}

-- a number that is read of its decimal, where there is one
abbrev pub ReadsIf : (List ℕ → Result ℕ Misread) → Option ℕ → Type 0
ReadsIf read None = Unit {0}
ReadsIf read (Some n) = read (decimal n) ≡ Ok n

if_again : (read : List ℕ → Result ℕ Misread) (again : (word : List ℕ) (n : ℕ) → read word ≡ Ok n → read (decimal n) ≡ Ok n) (word : Option (List ℕ)) (said : Option ℕ) → read_if read word ≡ Ok said → ReadsIf read said
if_again read again word None e = tt
if_again read again None (Some n) e = cc
if_again read again (Some word) (Some n) e =
    let one = said_by Some (read word) (Some n) e in
    let same : one.0 ≡ n = cc (one.2) in
    again word n (one.1 ∙ ap Ok same)

-- what was read, word by word
pub record Said (words : List (List ℕ)) (o : Options) : Type 0 where
  pub imm : read_if read_number (value_after (codes "data=") words) ≡ Ok o.imm
  pub min : read_if read_index (value_after (codes "min=") words) ≡ Ok o.min
  pub level : level_in words ≡ o.level
  pub completion : has_word (codes "completion") words ≡ o.completion
  pub fence : has_word (codes "fence") words ≡ o.fence

pub options_said : (allowed : Allowed) (words : List (List ℕ)) (o : Options) → read_options allowed words ≡ Ok o → Said words o
unfolding read_options
options_said allowed words o e =
    let imm = read_if read_number (value_after (codes "data=") words) in
    let min = read_if read_index (value_after (codes "min=") words) in
    let all = said_if (are_options allowed words) (map_ok (the_options words) (imm & min)) Words o e in
    let both = said_by (the_options words) (imm & min) o all.1 in
    let each = both_said imm min both.0 both.1 in
    subst (Said words) both.2 (record { imm = each.0; min = each.1; level = refl; completion = refl; fence = refl })

pub imm_again : (words : List (List ℕ)) (o : Options) → Said words o → ReadsIf read_number o.imm
imm_again words o said = if_again read_number read_number_again (value_after (codes "data=") words) o.imm said.imm

pub min_again : (words : List (List ℕ)) (o : Options) → Said words o → ReadsIf read_index o.min
min_again words o said = if_again read_index read_index_again (value_after (codes "min=") words) o.min said.min

-- ---- of the lines that have them
abbrev pub options : Option ℕ → Level → Bool → Bool → Option ℕ → Options
options imm level completion fence min = record { imm = imm; level = level; completion = completion; fence = fence; min = min }

of_flags : (P : Bool → Bool → Type 0) → P true true → P true false → P false true → P false false → (a b : Bool) → P a b
of_flags P both first second none true true = both
of_flags P both first second none true false = first
of_flags P both first second none false true = second
of_flags P both first second none false false = none

pub inject_options : (imm : Option ℕ) → ReadsIf read_number imm → read_options for_inject (imm_words imm) ≡ Ok (options imm level.Transmit false false None)
unfolding read_options level_in has_word optional_of
inject_options None h = refl
inject_options (Some n) h = rw h refl

pub multi_options : (min : Option ℕ) → ReadsIf read_index min → read_options for_multi (min_words min) ≡ Ok (options None level.Transmit false false min)
unfolding read_options level_in has_word optional_of
multi_options None h = refl
multi_options (Some n) h = rw h refl

abbrev AtomicAgain : Bool → Bool → Type 0
AtomicAgain completion fence = read_options for_atomic (completion_words completion ++ fence_words fence) ≡ Ok (options None level.Transmit completion fence None)

pub atomic_options : (completion fence : Bool) → AtomicAgain completion fence
unfolding read_options level_in has_word optional_of
atomic_options completion fence = of_flags AtomicAgain refl refl refl refl completion fence

abbrev WriteAgain : Option ℕ → Bool → Bool → Type 0
WriteAgain imm completion fence = read_options for_write (imm_words imm ++ completion_words completion ++ fence_words fence) ≡ Ok (options imm level.Transmit completion fence None)

pub write_options : (imm : Option ℕ) (completion fence : Bool) → ReadsIf read_number imm → WriteAgain imm completion fence
unfolding read_options level_in has_word optional_of
write_options None completion fence h = of_flags (WriteAgain None) refl refl refl refl completion fence
write_options (Some n) completion fence h = of_flags (WriteAgain (Some n)) (rw h refl) (rw h refl) (rw h refl) (rw h refl) completion fence

abbrev SendAgain : Option ℕ → Level → Bool → Bool → Type 0
SendAgain imm level completion fence = read_options for_send (imm_words imm ++ level_words level ++ completion_words completion ++ fence_words fence) ≡ Ok (options imm level completion fence None)

pub send_options : (imm : Option ℕ) (level : Level) (completion fence : Bool) → ReadsIf read_number imm → SendAgain imm level completion fence
unfolding read_options level_in has_word optional_of level_named
send_options None level.Inject completion fence h = of_flags (SendAgain None level.Inject) refl refl refl refl completion fence
send_options None level.Transmit completion fence h = of_flags (SendAgain None level.Transmit) refl refl refl refl completion fence
send_options None level.Delivery completion fence h = of_flags (SendAgain None level.Delivery) refl refl refl refl completion fence
send_options None level.Match completion fence h = of_flags (SendAgain None level.Match) refl refl refl refl completion fence
send_options (Some n) level.Inject completion fence h = of_flags (SendAgain (Some n) level.Inject) (rw h refl) (rw h refl) (rw h refl) (rw h refl) completion fence
send_options (Some n) level.Transmit completion fence h = of_flags (SendAgain (Some n) level.Transmit) (rw h refl) (rw h refl) (rw h refl) (rw h refl) completion fence
send_options (Some n) level.Delivery completion fence h = of_flags (SendAgain (Some n) level.Delivery) (rw h refl) (rw h refl) (rw h refl) (rw h refl) completion fence
send_options (Some n) level.Match completion fence h = of_flags (SendAgain (Some n) level.Match) (rw h refl) (rw h refl) (rw h refl) (rw h refl) completion fence

-- ---- they are words
pub are_words-imm : (imm : Option ℕ) → list_all is_word (imm_words imm) ≡ true
are_words-imm None = refl
are_words-imm (Some n) = rw (printable-digits (decimal n) (digits-decimal n).all) refl

pub are_words-min : (min : Option ℕ) → list_all is_word (min_words min) ≡ true
are_words-min None = refl
are_words-min (Some n) = rw (printable-digits (decimal n) (digits-decimal n).all) refl

pub are_words-level : (level : Level) → list_all is_word (level_words level) ≡ true
are_words-level level.Inject = refl
are_words-level level.Transmit = refl
are_words-level level.Delivery = refl
are_words-level level.Match = refl

pub are_words-completion : (completion : Bool) → list_all is_word (completion_words completion) ≡ true
are_words-completion true = refl
are_words-completion false = refl

pub are_words-fence : (fence : Bool) → list_all is_word (fence_words fence) ≡ true
are_words-fence true = refl
are_words-fence false = refl

pub are_words-append : (xs ys : List (List ℕ)) → list_all is_word xs ≡ true → list_all is_word ys ≡ true → list_all is_word (xs ++ ys) ≡ true
are_words-append xs ys e f = list_all-append is_word xs ys ∙ and_from _ _ e f
