-- Lines on another peer's regions ask again.
use Rattle.std.proofs.Common.{◌≡◌, ℕ, true, List, [], ◌∷◌, ◌++◌, Some, decimal, arith, ap, subst, refl}
use Rattle.std.specs.Prelude.{Result, Ok, Err, ok_or}
use Rattle.std.specs.List.{list_all}
use Rattle.fab_base.specs.declared.items.AtomicOp.{AtomicOp}
use Rattle.fab_base.specs.declared.items.AtomicOp.TheVariants as atom
use Rattle.fab_base.specs.declared.items.Num.{Num}
use Rattle.fab_base.specs.declared.items.Num.TheVariants as num
use Rattle.fab_base.specs.declared.script.LineOp.{LineOp}
use Rattle.fab_grammar.specs.Atomics.{Operand, atom_name, atom_named, num_name, num_named, read_elements, read_elements_count, values_alone, count_alone, read_values, with_kind, operand_of, read_operand, read_request, for_atomic, an_atomic, atomic_of, a_fetch, fetch_of, a_compare, compare_of}
use Rattle.fab_grammar.specs.Lines.{a_read, read_of, op_of}
use Rattle.fab_grammar.specs.Options.{read_options}
use Rattle.fab_grammar.specs.Sends.{for_inject, for_write, read_target, read_remote, a_write, write_of, a_winject, winject_of}
use Rattle.fab_words.specs.declared.misread.Misread.{Misread}
use Rattle.fab_words.specs.declared.misread.Misread.TheVariants.{Words}
use Rattle.fab_words.specs.Bytes.{read_bytes}
use Rattle.fab_words.specs.Misreads.{◌&◌, map_ok}
use Rattle.fab_words.specs.Words.{read_number, read_up_to, read_index}
use Rattle.fab_words.specs.Written.{is_word}
use Rattle.fab_spell.specs.Elements.{values_word, count_word}
use Rattle.fab_spell.specs.Spelling.{verb_for, args_for, operand_word, imm_words, completion_words, fence_words}
use Rattle.fab_spell.proofs.ByteWords.{bytes_again}
use Rattle.fab_spell.proofs.Decimals.{read_number_decimal, read_number_again, read_index_again, read_up_to_again}
use Rattle.fab_spell.proofs.Elements.{values_again, count_again}
use Rattle.fab_spell.proofs.Numbers.{is_word-decimal}
use Rattle.fab_spell.proofs.Optional.{options_said, imm_again, inject_options, write_options, atomic_options, are_words-imm, are_words-completion, are_words-fence, are_words-append}
use Rattle.fab_spell.proofs.Said.{both_said, said_by}
use Rattle.fab_spell.proofs.Sends.{first_word, other_words}
use Rattle.fab_spell.specs.Again.{Again}

target_again : (dest key at : List ℕ) (p : (ℕ × ℕ) × ℕ) → read_target dest key at ≡ Ok p → read_target (decimal p.0.0) (decimal p.0.1) (decimal p.1) ≡ Ok p
unfolding read_target
target_again dest key at p e =
    let all = both_said (read_index dest & read_number key) (read_number at) p e in
    let two = both_said (read_index dest) (read_number key) p.0 all.0 in
    rw (read_index_again dest p.0.0 two.0, read_number_again key p.0.1 two.1, read_number_again at p.1 all.1) refl

remote_again : (ctx dest key at : List ℕ) (p : ℕ × ((ℕ × ℕ) × ℕ)) → read_remote ctx dest key at ≡ Ok p → read_remote (decimal p.0) (decimal p.1.0.0) (decimal p.1.0.1) (decimal p.1.1) ≡ Ok p
unfolding read_remote
remote_again ctx dest key at p e =
    let two = both_said (read_number ctx) (read_target dest key at) p e in
    rw (read_number_again ctx p.0 two.0, target_again dest key at p.1 two.1) refl

-- ---- operands
atom_again : (atom : AtomicOp) → (atom_named (atom_name atom) ≡ Some atom) × (is_word (atom_name atom) ≡ true)
unfolding atom_named
atom_again atom.Min = (refl, refl)
atom_again atom.Max = (refl, refl)
atom_again atom.Sum = (refl, refl)
atom_again atom.Prod = (refl, refl)
atom_again atom.Lor = (refl, refl)
atom_again atom.Land = (refl, refl)
atom_again atom.Lxor = (refl, refl)
atom_again atom.Bor = (refl, refl)
atom_again atom.Band = (refl, refl)
atom_again atom.Bxor = (refl, refl)
atom_again atom.AtomicRead = (refl, refl)
atom_again atom.AtomicWrite = (refl, refl)
atom_again atom.Cswap = (refl, refl)
atom_again atom.CswapNe = (refl, refl)
atom_again atom.CswapLe = (refl, refl)
atom_again atom.CswapLt = (refl, refl)
atom_again atom.CswapGe = (refl, refl)
atom_again atom.CswapGt = (refl, refl)
atom_again atom.Mswap = (refl, refl)

num_again : (num : Num) → (num_named (num_name num) ≡ Some num) × (is_word (num_name num) ≡ true)
unfolding num_named
num_again num.I8 = (refl, refl)
num_again num.I16 = (refl, refl)
num_again num.I32 = (refl, refl)
num_again num.I64 = (refl, refl)
num_again num.U8 = (refl, refl)
num_again num.U16 = (refl, refl)
num_again num.U32 = (refl, refl)
num_again num.U64 = (refl, refl)

-- the elements are read again, with as many as are to be fetched; where the line keeps no such number, with some number
record ValuesAgain (atom : AtomicOp) (num : Num) (values : List ℕ × ℕ) : Type 0 where
  fetched : read_values atom num (operand_word atom num values.0 values.1) ≡ Ok values
  fetched_word : is_word (operand_word atom num values.0 values.1) ≡ true
  n : ℕ
  alone : read_values atom num (operand_word atom num values.0 0) ≡ Ok (values.0, n)
  alone_word : is_word (operand_word atom num values.0 0) ≡ true

none_counted : read_elements_count (count_word 0) ≡ Ok 0
unfolding read_elements_count read_up_to
none_counted = rw (read_number_decimal 0 (omega arith)) refl

count_values : (num : Num) (word : List ℕ) (values : List ℕ × ℕ) → map_ok count_alone (read_elements_count word) ≡ Ok values → ValuesAgain atom.AtomicRead num values
count_values num word values e =
    let said = said_by count_alone (read_elements_count word) values e in
    let again = count_again word said.0 said.1 in
    let none = count_again (count_word 0) 0 none_counted in
    subst (ValuesAgain atom.AtomicRead num) said.2 (record {
      fetched = ap (map_ok count_alone) again.0;
      fetched_word = again.1;
      n = 0;
      alone = ap (map_ok count_alone) none.0;
      alone_word = none.1;
    })

-- the same for what is no count
record ElementsAgain (num : Num) (values : List ℕ × ℕ) : Type 0 where
  reads : map_ok values_alone (read_elements num (values_word num values.0)) ≡ Ok values
  none : values.1 ≡ 0
  word : is_word (values_word num values.0) ≡ true

element_values : (num : Num) (word : List ℕ) (values : List ℕ × ℕ) → map_ok values_alone (read_elements num word) ≡ Ok values → ElementsAgain num values
element_values num word values e =
    let said = said_by values_alone (read_elements num word) values e in
    let again = values_again num word said.0 said.1 in
    subst (ElementsAgain num) said.2 (record { reads = ap (map_ok values_alone) again.0; none = refl; word = again.1 })

values_said : (atom : AtomicOp) (num : Num) (word : List ℕ) (values : List ℕ × ℕ) → read_values atom num word ≡ Ok values → ValuesAgain atom num values
values_said atom.AtomicRead num word values e = count_values num word values e
values_said atom num word values e =
    let again = element_values num word values e in
    record { fetched = again.reads; fetched_word = again.word; n = values.1; alone = again.reads; alone_word = again.word }

-- what the operand's three words say
operand_said : (kind : Result (AtomicOp × Num) Misread) (word : List ℕ) (q : Operand) → operand_of kind word ≡ Ok q → (kind ≡ Ok q.0) × (read_values q.0.0 q.0.1 word ≡ Ok q.1)
operand_said (Ok kind) word q e =
    let said = said_by (with_kind kind) (read_values kind.0 kind.1 word) q e in
    subst (λ (p : Operand). (◌≡◌ {A = Result (AtomicOp × Num) Misread} (Ok kind) (Ok p.0)) × (read_values p.0.0 p.0.1 word ≡ Ok p.1)) said.2 (refl, said.1)
operand_said (Err fault) word q e = cc

abbrev kind_words : List ℕ → List ℕ → Result (AtomicOp × Num) Misread
kind_words atom num = ok_or (atom_named atom) Words & ok_or (num_named num) Words

request_said : (atom num word : List ℕ) (q : Operand) → read_operand atom num word ≡ Ok q → (kind_words atom num ≡ Ok q.0) × (read_values q.0.0 q.0.1 word ≡ Ok q.1)
unfolding read_operand
request_said atom num word q e = operand_said (kind_words atom num) word q e

-- the words of the kind, and a word that these values are read of
operand_again : (kind : AtomicOp × Num) (word : List ℕ) (values : List ℕ × ℕ) → read_values kind.0 kind.1 word ≡ Ok values → read_operand (atom_name kind.0) (num_name kind.1) word ≡ Ok (kind, values)
unfolding read_operand
operand_again kind word values e = rw ((atom_again kind.0).0, (num_again kind.1).0) (ap (map_ok (with_kind kind)) e)

kind_same : (r : Result (AtomicOp × Num) Misread) (a b : AtomicOp × Num) → r ≡ Ok a → r ≡ Ok b → b ≡ a
kind_same r a b e f = cc

-- ---- lines, where one may name so many bytes or make room for them
module _ (most : ℕ) where
  pub read_spelt : (args : List (List ℕ)) (op : LineOp) → read_of most args ≡ Ok op → Again most op
  unfolding read_of op_of verb_for args_for
  read_spelt (ctx ∷ dest ∷ key ∷ at ∷ len ∷ []) op e =
      let said = said_by a_read (read_number ctx & read_target dest key at & read_up_to most len) op e in
      let p = said.0 in
      let all = both_said (read_number ctx & read_target dest key at) (read_up_to most len) p said.1 in
      let two = both_said (read_number ctx) (read_target dest key at) p.0 all.0 in
      subst (Again most) said.2 (record {
        kind = refl;
        words = rw (is_word-decimal p.0.0, is_word-decimal p.0.1.0.0, is_word-decimal p.0.1.0.1, is_word-decimal p.0.1.1, is_word-decimal p.1) refl;
        reads = rw (read_number_again ctx p.0.0 two.0, target_again dest key at p.0.1 two.1, read_up_to_again most len p.1 all.1) refl;
      })
  read_spelt _ op e = cc

  pub write_spelt : (args : List (List ℕ)) (op : LineOp) → list_all is_word args ≡ true → write_of most args ≡ Ok op → Again most op
  unfolding write_of op_of verb_for args_for
  write_spelt (ctx ∷ dest ∷ key ∷ at ∷ bytes ∷ options) op are e =
      let said = said_by a_write (read_remote ctx dest key at & read_bytes most bytes & read_options for_write options) op e in
      let p = said.0 in
      let all = both_said (read_remote ctx dest key at & read_bytes most bytes) (read_options for_write options) p said.1 in
      let two = both_said (read_remote ctx dest key at) (read_bytes most bytes) p.0 all.0 in
      let r = p.0.0 in
      let is = first_word bytes options (other_words at (bytes ∷ options) (other_words key (at ∷ bytes ∷ options) (other_words dest (key ∷ at ∷ bytes ∷ options) (other_words ctx (dest ∷ key ∷ at ∷ bytes ∷ options) are)))) in
      let again = bytes_again most bytes p.0.1 is two.1 in
      let imm = imm_again options p.1 (options_said for_write options p.1 all.1) in
      subst (Again most) said.2 (record {
        kind = refl;
        words = rw (is_word-decimal r.0, is_word-decimal r.1.0.0, is_word-decimal r.1.0.1, is_word-decimal r.1.1, again.word)
            (are_words-append (imm_words p.1.imm ++ completion_words p.1.completion) (fence_words p.1.fence)
            (are_words-append (imm_words p.1.imm) (completion_words p.1.completion) (are_words-imm p.1.imm) (are_words-completion p.1.completion)) (are_words-fence p.1.fence));
        reads = rw (remote_again ctx dest key at r two.0, again.reads, write_options p.1.imm p.1.completion p.1.fence imm) refl;
      })
  write_spelt _ op are e = cc

  pub winject_spelt : (args : List (List ℕ)) (op : LineOp) → list_all is_word args ≡ true → winject_of most args ≡ Ok op → Again most op
  unfolding winject_of op_of verb_for args_for
  winject_spelt (dest ∷ key ∷ at ∷ bytes ∷ options) op are e =
      let said = said_by a_winject (read_target dest key at & read_bytes most bytes & read_options for_inject options) op e in
      let p = said.0 in
      let all = both_said (read_target dest key at & read_bytes most bytes) (read_options for_inject options) p said.1 in
      let two = both_said (read_target dest key at) (read_bytes most bytes) p.0 all.0 in
      let r = p.0.0 in
      let is = first_word bytes options (other_words at (bytes ∷ options) (other_words key (at ∷ bytes ∷ options) (other_words dest (key ∷ at ∷ bytes ∷ options) are))) in
      let again = bytes_again most bytes p.0.1 is two.1 in
      let imm = imm_again options p.1 (options_said for_inject options p.1 all.1) in
      subst (Again most) said.2 (record {
        kind = refl;
        words = rw (is_word-decimal r.0.0, is_word-decimal r.0.1, is_word-decimal r.1, again.word) (are_words-imm p.1.imm);
        reads = rw (target_again dest key at r two.0, again.reads, inject_options p.1.imm imm) refl;
      })
  winject_spelt _ op are e = cc

  -- ---- atomics
  pub atomic_spelt : (args : List (List ℕ)) (op : LineOp) → atomic_of args ≡ Ok op → Again most op
  unfolding atomic_of read_request op_of verb_for args_for
  atomic_spelt (ctx ∷ dest ∷ key ∷ at ∷ atom ∷ num ∷ values ∷ options) op e =
      let said = said_by an_atomic (read_remote ctx dest key at & read_operand atom num values & read_options for_atomic options) op e in
      let p = said.0 in
      let all = both_said (read_remote ctx dest key at & read_operand atom num values) (read_options for_atomic options) p said.1 in
      let two = both_said (read_remote ctx dest key at) (read_operand atom num values) p.0 all.0 in
      let r = p.0.0 in
      let q = p.0.1 in
      let again = values_said q.0.0 q.0.1 values q.1 (request_said atom num values q two.1).1 in
      subst (Again most) said.2 (record {
        kind = refl;
        words = rw (is_word-decimal r.0, is_word-decimal r.1.0.0, is_word-decimal r.1.0.1, is_word-decimal r.1.1, (atom_again q.0.0).1, (num_again q.0.1).1, again.alone_word)
            (are_words-append (completion_words p.1.completion) (fence_words p.1.fence) (are_words-completion p.1.completion) (are_words-fence p.1.fence));
        reads = rw (remote_again ctx dest key at r two.0, operand_again q.0 (operand_word q.0.0 q.0.1 q.1.0 0) (q.1.0, again.n) again.alone, atomic_options p.1.completion p.1.fence) refl;
      })
  atomic_spelt _ op e = cc

  pub fetch_spelt : (args : List (List ℕ)) (op : LineOp) → fetch_of args ≡ Ok op → Again most op
  unfolding fetch_of read_request op_of verb_for args_for
  fetch_spelt (ctx ∷ dest ∷ key ∷ at ∷ atom ∷ num ∷ values ∷ []) op e =
      let said = said_by a_fetch (read_remote ctx dest key at & read_operand atom num values) op e in
      let p = said.0 in
      let two = both_said (read_remote ctx dest key at) (read_operand atom num values) p said.1 in
      let r = p.0 in
      let q = p.1 in
      let again = values_said q.0.0 q.0.1 values q.1 (request_said atom num values q two.1).1 in
      subst (Again most) said.2 (record {
        kind = refl;
        words = rw (is_word-decimal r.0, is_word-decimal r.1.0.0, is_word-decimal r.1.0.1, is_word-decimal r.1.1, (atom_again q.0.0).1, (num_again q.0.1).1, again.fetched_word) refl;
        reads = rw (remote_again ctx dest key at r two.0, operand_again q.0 (operand_word q.0.0 q.0.1 q.1.0 q.1.1) q.1 again.fetched) refl;
      })
  fetch_spelt _ op e = cc

  pub compare_spelt : (args : List (List ℕ)) (op : LineOp) → compare_of args ≡ Ok op → Again most op
  unfolding compare_of read_request op_of verb_for args_for
  compare_spelt (ctx ∷ dest ∷ key ∷ at ∷ atom ∷ num ∷ values ∷ compares ∷ []) op e =
      let said = said_by a_compare (read_remote ctx dest key at & read_operand atom num values & read_operand atom num compares) op e in
      let p = said.0 in
      let all = both_said (read_remote ctx dest key at & read_operand atom num values) (read_operand atom num compares) p said.1 in
      let two = both_said (read_remote ctx dest key at) (read_operand atom num values) p.0 all.0 in
      let r = p.0.0 in
      let q = p.0.1 in
      let first = request_said atom num values q two.1 in
      let second = request_said atom num compares p.1 all.1 in
      let same = kind_same (kind_words atom num) q.0 p.1.0 first.0 second.0 in
      let compared : read_values q.0.0 q.0.1 compares ≡ Ok p.1.1 = subst (λ (k : AtomicOp × Num). read_values k.0 k.1 compares ≡ Ok p.1.1) same second.1 in
      let again = values_said q.0.0 q.0.1 values q.1 first.1 in
      let other = values_said q.0.0 q.0.1 compares p.1.1 compared in
      subst (Again most) said.2 (record {
        kind = refl;
        words = rw (is_word-decimal r.0, is_word-decimal r.1.0.0, is_word-decimal r.1.0.1, is_word-decimal r.1.1, (atom_again q.0.0).1, (num_again q.0.1).1, again.alone_word, other.alone_word) refl;
        reads = rw (remote_again ctx dest key at r two.0, operand_again q.0 (operand_word q.0.0 q.0.1 q.1.0 0) (q.1.0, again.n) again.alone, operand_again q.0 (operand_word q.0.0 q.0.1 p.1.1.0 0) (p.1.1.0, other.n) other.alone) refl;
      })
  compare_spelt _ op e = cc
