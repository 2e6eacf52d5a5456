-- Sends ask again.
use Rattle.std.proofs.Common.{◌≡◌, ℕ, Bool, true, List, ◌∷◌, ◌++◌, Option, decimal, subst, refl}
use Rattle.std.specs.Prelude.{Ok}
use Rattle.std.specs.List.{list_all}
use Rattle.std.proofs.lemmas.Bool.{and_parts}
use Rattle.fab_base.specs.declared.peers.Level.{Level}
use Rattle.fab_base.specs.declared.script.LineOp.{LineOp}
use Rattle.fab_grammar.specs.Lines.{op_of}
use Rattle.fab_grammar.specs.Options.{read_options}
use Rattle.fab_grammar.specs.Sends.{for_send, for_inject, read_to, read_tagged, a_send, send_of, a_tsend, tsend_of, an_inject, inject_of, a_tinject, tinject_of}
use Rattle.fab_words.specs.Bytes.{read_bytes}
use Rattle.fab_words.specs.Misreads.{◌&◌}
use Rattle.fab_words.specs.Words.{read_number, read_index}
use Rattle.fab_words.specs.Written.{is_word}
use Rattle.fab_spell.specs.Spelling.{verb_for, args_for, imm_words, level_words, completion_words, fence_words}
use Rattle.fab_spell.proofs.ByteWords.{bytes_again}
use Rattle.fab_spell.proofs.Decimals.{read_number_again, read_index_again}
use Rattle.fab_spell.proofs.Numbers.{is_word-decimal}
use Rattle.fab_spell.proofs.Optional.{options_said, imm_again, inject_options, send_options, are_words-imm, are_words-level, are_words-completion, are_words-fence, are_words-append}
use Rattle.fab_spell.proofs.Said.{both_said, said_by}
use Rattle.fab_spell.specs.Again.{Again}

-- the words of a line are words
pub first_word : (word : List ℕ) (words : List (List ℕ)) → list_all is_word (word ∷ words) ≡ true → is_word word ≡ true
first_word word words e = (and_parts (is_word word) (list_all is_word words) e).0

pub other_words : (word : List ℕ) (words : List (List ℕ)) → list_all is_word (word ∷ words) ≡ true → list_all is_word words ≡ true
other_words word words e = (and_parts (is_word word) (list_all is_word words) e).1

are_words-send : (imm : Option ℕ) (level : Level) (completion fence : Bool) → list_all is_word (imm_words imm ++ level_words level ++ completion_words completion ++ fence_words fence) ≡ true
are_words-send imm level completion fence =
    are_words-append (imm_words imm ++ level_words level ++ completion_words completion) (fence_words fence)
    (are_words-append (imm_words imm ++ level_words level) (completion_words completion) (are_words-append (imm_words imm) (level_words level) (are_words-imm imm) (are_words-level level)) (are_words-completion completion))
    (are_words-fence fence)

to_again : (ctx dest : List ℕ) (p : ℕ × ℕ) → read_to ctx dest ≡ Ok p → read_to (decimal p.0) (decimal p.1) ≡ Ok p
unfolding read_to
to_again ctx dest p e =
    let two = both_said (read_number ctx) (read_index dest) p e in
    rw (read_number_again ctx p.0 two.0, read_index_again dest p.1 two.1) refl

tagged_again : (ctx dest tag : List ℕ) (p : (ℕ × ℕ) × ℕ) → read_tagged ctx dest tag ≡ Ok p → read_tagged (decimal p.0.0) (decimal p.0.1) (decimal p.1) ≡ Ok p
unfolding read_tagged
tagged_again ctx dest tag p e =
    let two = both_said (read_to ctx dest) (read_number tag) p e in
    rw (to_again ctx dest p.0 two.0, read_number_again tag p.1 two.1) refl

-- where a line may name so many bytes
module _ (most : ℕ) where
  pub send_spelt : (args : List (List ℕ)) (op : LineOp) → list_all is_word args ≡ true → send_of most args ≡ Ok op → Again most op
  unfolding send_of op_of verb_for args_for
  send_spelt (ctx ∷ dest ∷ bytes ∷ options) op are e =
      let said = said_by a_send (read_to ctx dest & read_bytes most bytes & read_options for_send options) op e in
      let p = said.0 in
      let all = both_said (read_to ctx dest & read_bytes most bytes) (read_options for_send options) p said.1 in
      let two = both_said (read_to ctx dest) (read_bytes most bytes) p.0 all.0 in
      let is = first_word bytes options (other_words dest (bytes ∷ options) (other_words ctx (dest ∷ bytes ∷ options) are)) in
      let again = bytes_again most bytes p.0.1 is two.1 in
      let imm = imm_again options p.1 (options_said for_send options p.1 all.1) in
      subst (Again most) said.2 (record {
        kind = refl;
        words = rw (is_word-decimal p.0.0.0, is_word-decimal p.0.0.1, again.word) (are_words-send p.1.imm p.1.level p.1.completion p.1.fence);
        reads = rw (to_again ctx dest p.0.0 two.0, again.reads, send_options p.1.imm p.1.level p.1.completion p.1.fence imm) refl;
      })
  send_spelt _ op are e = cc

  pub tsend_spelt : (args : List (List ℕ)) (op : LineOp) → list_all is_word args ≡ true → tsend_of most args ≡ Ok op → Again most op
  unfolding tsend_of op_of verb_for args_for
  tsend_spelt (ctx ∷ dest ∷ tag ∷ bytes ∷ options) op are e =
      let said = said_by a_tsend (read_tagged ctx dest tag & read_bytes most bytes & read_options for_send options) op e in
      let p = said.0 in
      let all = both_said (read_tagged ctx dest tag & read_bytes most bytes) (read_options for_send options) p said.1 in
      let two = both_said (read_tagged ctx dest tag) (read_bytes most bytes) p.0 all.0 in
      let is = first_word bytes options (other_words tag (bytes ∷ options) (other_words dest (tag ∷ bytes ∷ options) (other_words ctx (dest ∷ tag ∷ bytes ∷ options) are))) in
      let again = bytes_again most bytes p.0.1 is two.1 in
      let imm = imm_again options p.1 (options_said for_send options p.1 all.1) in
      subst (Again most) said.2 (record {
        kind = refl;
        words = rw (is_word-decimal p.0.0.0.0, is_word-decimal p.0.0.0.1, is_word-decimal p.0.0.1, again.word) (are_words-send p.1.imm p.1.level p.1.completion p.1.fence);
        reads = rw (tagged_again ctx dest tag p.0.0 two.0, again.reads, send_options p.1.imm p.1.level p.1.completion p.1.fence imm) refl;
      })
  tsend_spelt _ op are e = cc

  pub inject_spelt : (args : List (List ℕ)) (op : LineOp) → list_all is_word args ≡ true → inject_of most args ≡ Ok op → Again most op
  unfolding inject_of op_of verb_for args_for
  inject_spelt (dest ∷ bytes ∷ options) op are e =
      let said = said_by an_inject (read_index dest & read_bytes most bytes & read_options for_inject options) op e in
      let p = said.0 in
      let all = both_said (read_index dest & read_bytes most bytes) (read_options for_inject options) p said.1 in
      let two = both_said (read_index dest) (read_bytes most bytes) p.0 all.0 in
      let again = bytes_again most bytes p.0.1 (first_word bytes options (other_words dest (bytes ∷ options) are)) two.1 in
      let imm = imm_again options p.1 (options_said for_inject options p.1 all.1) in
      subst (Again most) said.2 (record {
        kind = refl;
        words = rw (is_word-decimal p.0.0, again.word) (are_words-imm p.1.imm);
        reads = rw (read_index_again dest p.0.0 two.0, again.reads, inject_options p.1.imm imm) refl;
      })
  inject_spelt _ op are e = cc

  pub tinject_spelt : (args : List (List ℕ)) (op : LineOp) → list_all is_word args ≡ true → tinject_of most args ≡ Ok op → Again most op
  unfolding tinject_of op_of verb_for args_for
  tinject_spelt (dest ∷ tag ∷ bytes ∷ options) op are e =
      let said = said_by a_tinject (read_index dest & read_number tag & read_bytes most bytes & read_options for_inject options) op e in
      let p = said.0 in
      let all = both_said (read_index dest & read_number tag & read_bytes most bytes) (read_options for_inject options) p said.1 in
      let three = both_said (read_index dest & read_number tag) (read_bytes most bytes) p.0 all.0 in
      let two = both_said (read_index dest) (read_number tag) p.0.0 three.0 in
      let is = first_word bytes options (other_words tag (bytes ∷ options) (other_words dest (tag ∷ bytes ∷ options) are)) in
      let again = bytes_again most bytes p.0.1 is three.1 in
      let imm = imm_again options p.1 (options_said for_inject options p.1 all.1) in
      subst (Again most) said.2 (record {
        kind = refl;
        words = rw (is_word-decimal p.0.0.0, is_word-decimal p.0.0.1, again.word) (are_words-imm p.1.imm);
        reads = rw (read_index_again dest p.0.0.0 two.0, read_number_again tag p.0.0.1 two.1, again.reads, inject_options p.1.imm imm) refl;
      })
  tinject_spelt _ op are e = cc
