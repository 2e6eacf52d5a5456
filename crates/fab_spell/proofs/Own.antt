-- Lines on a peer's own regions, address vector, completions and counters ask again.
use Rattle.std.proofs.Common.{◌≡◌, ℕ, Bool, true, false, cond, List, [], ◌∷◌, Some, None, codes, ap, subst, refl}
use Rattle.std.specs.Prelude.{bytes_eq, Ok, Err}
use Rattle.std.specs.List.{list_all}
use Rattle.std.specs.Str.{is_utf8}
use Rattle.fab_base.specs.declared.entries.Class.{Class}
use Rattle.fab_base.specs.declared.entries.Class.TheVariants as class
use Rattle.fab_base.specs.declared.script.LineOp.{LineOp}
use Rattle.fab_base.specs.declared.script.LineOp.TheVariants.{Close, Show, Insert, Remove, Wait, Count}
use Rattle.fab_grammar.specs.Lines.{rights, read_rights, a_reg, reg_of, a_put, put_of, number_line, insert_of, remove_of, wait_of, class_name, class_named, read_class, count_of, a_reach, reach_of, op_of}
use Rattle.fab_words.specs.declared.misread.Misread.TheVariants.{Words}
use Rattle.fab_words.specs.Bytes.{read_bytes}
use Rattle.fab_words.specs.Misreads.{◌&◌, map_ok}
use Rattle.fab_words.specs.Words.{read_number, read_index, read_text}
use Rattle.fab_words.specs.Written.{is_word}
use Rattle.fab_spell.specs.Spelling.{verb_for, args_for, right_word}
use Rattle.fab_spell.proofs.ByteWords.{bytes_again}
use Rattle.fab_spell.proofs.Decimals.{read_number_again, read_index_again}
use Rattle.fab_spell.proofs.Numbers.{is_word-decimal, any-decimal}
use Rattle.fab_spell.proofs.Receives.{number_line_again}
use Rattle.fab_spell.proofs.Said.{both_said, said_by, said_if}
use Rattle.fab_spell.proofs.Sends.{first_word, other_words}
use Rattle.fab_spell.specs.Again.{Again}

-- ---- regions
right_again : (read write : Bool) → (read_rights (right_word read write) ≡ Ok (rights read write)) × (is_word (right_word read write) ≡ true)
unfolding read_rights
right_again true true = (refl, refl)
right_again true false = (refl, refl)
right_again false true = (refl, refl)
right_again false false = (refl, refl)

-- where a line may name so many bytes
module _ (most : ℕ) where
  pub reg_spelt : (args : List (List ℕ)) (op : LineOp) → list_all is_word args ≡ true → reg_of most args ≡ Ok op → Again most op
  unfolding reg_of op_of verb_for args_for
  reg_spelt (key ∷ access ∷ bytes ∷ []) op are e =
      let said = said_by a_reg (read_number key & read_rights access & read_bytes most bytes) op e in
      let p = said.0 in
      let all = both_said (read_number key & read_rights access) (read_bytes most bytes) p said.1 in
      let two = both_said (read_number key) (read_rights access) p.0 all.0 in
      let again = bytes_again most bytes p.1 (first_word bytes [] (other_words access (bytes ∷ []) (other_words key (access ∷ bytes ∷ []) are))) all.1 in
      let right = right_again p.0.1.remote_read p.0.1.remote_write in
      subst (Again most) said.2 (record {
        kind = refl;
        words = rw (is_word-decimal p.0.0, right.1, again.word) refl;
        reads = rw (read_number_again key p.0.0 two.0, right.0, again.reads) refl;
      })
  reg_spelt _ op are e = cc

  pub put_spelt : (args : List (List ℕ)) (op : LineOp) → list_all is_word args ≡ true → put_of most args ≡ Ok op → Again most op
  unfolding put_of op_of verb_for args_for
  put_spelt (key ∷ at ∷ bytes ∷ []) op are e =
      let said = said_by a_put (read_number key & read_number at & read_bytes most bytes) op e in
      let p = said.0 in
      let all = both_said (read_number key & read_number at) (read_bytes most bytes) p said.1 in
      let two = both_said (read_number key) (read_number at) p.0 all.0 in
      let again = bytes_again most bytes p.1 (first_word bytes [] (other_words at (bytes ∷ []) (other_words key (at ∷ bytes ∷ []) are))) all.1 in
      subst (Again most) said.2 (record {
        kind = refl;
        words = rw (is_word-decimal p.0.0, is_word-decimal p.0.1, again.word) refl;
        reads = rw (read_number_again key p.0.0 two.0, read_number_again at p.0.1 two.1, again.reads) refl;
      })
  put_spelt _ op are e = cc

  pub close_spelt : (args : List (List ℕ)) (op : LineOp) → map_ok Close (number_line args) ≡ Ok op → Again most op
  unfolding op_of verb_for args_for
  close_spelt args op e =
      let said = said_by Close (number_line args) op e in
      subst (Again most) said.2 (record { kind = refl; words = rw (is_word-decimal said.0) refl; reads = ap (map_ok Close) (number_line_again args said.0 said.1) })

  pub show_spelt : (args : List (List ℕ)) (op : LineOp) → map_ok Show (number_line args) ≡ Ok op → Again most op
  unfolding op_of verb_for args_for
  show_spelt args op e =
      let said = said_by Show (number_line args) op e in
      subst (Again most) said.2 (record { kind = refl; words = rw (is_word-decimal said.0) refl; reads = ap (map_ok Show) (number_line_again args said.0 said.1) })

  -- ---- the address vector
  text_again : (word text : List ℕ) → read_text word ≡ Ok text → (word ≡ text) × (read_text text ≡ Ok text)
  unfolding read_text
  text_again word text e =
      let said = said_if (is_utf8 word) (Ok word) Words text e in
      let same : word ≡ text = cc (said.1) in
      (same, subst (λ w. cond (is_utf8 w) (Ok w) (Err Words) ≡ Ok w) same (rw said.0 refl))

  pub insert_spelt : (args : List (List ℕ)) (op : LineOp) → list_all is_word args ≡ true → insert_of args ≡ Ok op → Again most op
  unfolding insert_of op_of verb_for args_for
  insert_spelt (name ∷ []) op are e =
      let said = said_by Insert (read_text name) op e in
      let text = text_again name said.0 said.1 in
      subst (Again most) said.2 (record {
        kind = refl;
        words = subst (λ w. list_all is_word (w ∷ []) ≡ true) text.0 are;
        reads = ap (map_ok Insert) text.1;
      })
  insert_spelt _ op are e = cc

  pub remove_spelt : (args : List (List ℕ)) (op : LineOp) → remove_of args ≡ Ok op → Again most op
  unfolding remove_of op_of verb_for args_for
  remove_spelt (index ∷ []) op e =
      let said = said_by Remove (read_index index) op e in
      subst (Again most) said.2 (record { kind = refl; words = rw (is_word-decimal said.0) refl; reads = ap (map_ok Remove) (read_index_again index said.0 said.1) })
  remove_spelt _ op e = cc

  -- ---- completions
  wait_said : (any : Bool) (ctx : List ℕ) (op : LineOp) → cond any (Ok (Wait None)) (map_ok (λ n. Wait (Some n)) (read_number ctx)) ≡ Ok op → Again most op
  unfolding wait_of op_of verb_for args_for
  wait_said true ctx op e =
      let same : Wait None ≡ op = cc in
      subst (Again most) same (record { kind = refl; words = refl; reads = refl })
  wait_said false ctx op e =
      let said = said_by (λ n. Wait (Some n)) (read_number ctx) op e in
      subst (Again most) said.2 (record {
        kind = refl;
        words = rw (is_word-decimal said.0) refl;
        reads = rw (any-decimal said.0, read_number_again ctx said.0 said.1) refl;
      })

  pub wait_spelt : (args : List (List ℕ)) (op : LineOp) → wait_of args ≡ Ok op → Again most op
  unfolding wait_of
  wait_spelt (ctx ∷ []) op e = wait_said (bytes_eq ctx (codes "*")) ctx op e
  wait_spelt _ op e = cc

  -- ---- counters
  class_again : (class : Class) → (read_class (class_name class) ≡ Ok class) × (is_word (class_name class) ≡ true)
  unfolding read_class class_named
  class_again class.Send = (refl, refl)
  class_again class.Recv = (refl, refl)
  class_again class.Read = (refl, refl)
  class_again class.Write = (refl, refl)
  class_again class.RemoteRead = (refl, refl)
  class_again class.RemoteWrite = (refl, refl)

  pub count_spelt : (args : List (List ℕ)) (op : LineOp) → count_of args ≡ Ok op → Again most op
  unfolding count_of op_of verb_for args_for
  count_spelt (word ∷ []) op e =
      let said = said_by Count (read_class word) op e in
      let again = class_again said.0 in
      subst (Again most) said.2 (record { kind = refl; words = rw (again.1) refl; reads = ap (map_ok Count) again.0 })
  count_spelt _ op e = cc

  pub reach_spelt : (args : List (List ℕ)) (op : LineOp) → reach_of args ≡ Ok op → Again most op
  unfolding reach_of op_of verb_for args_for
  reach_spelt (word ∷ n ∷ []) op e =
      let said = said_by a_reach (read_class word & read_number n) op e in
      let p = said.0 in
      let all = both_said (read_class word) (read_number n) p said.1 in
      let again = class_again p.0 in
      subst (Again most) said.2 (record {
        kind = refl;
        words = rw (again.1, is_word-decimal p.1) refl;
        reads = rw (again.0, read_number_again n p.1 all.1) refl;
      })
  reach_spelt _ op e = cc
