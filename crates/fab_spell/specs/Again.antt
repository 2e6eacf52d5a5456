-- An operation that a line asked for, and the line that is written for it.
--     WasRead most op      a line asked for it, that may name so many bytes or make room for them
--     Again most op        the line that `Spelling` writes for it asks for it again
use Rattle.std.specs.Prelude.{◌≡◌, ℕ, true, List, Ok}
use Rattle.std.specs.List.{list_all}
use Rattle.fab_base.specs.declared.script.LineOp.{LineOp}
use Rattle.fab_words.specs.Written.{is_word}
use Rattle.fab_grammar.specs.declared.verbs.VerbKind.TheVariants as kind
use Rattle.fab_grammar.specs.declared.verbs.Verb.{Verb}
use Rattle.fab_grammar.specs.Lines.{op_of}
use Rattle.fab_grammar.specs.Verbs.{kind_of}
use Rattle.fab_spell.specs.Spelling.{verb_for, args_for}

pub record WasRead (most : ℕ) (op : LineOp) : Type 0 where
  pub verb : Verb
  pub args : List (List ℕ)
  pub kind : kind_of verb ≡ kind.Call
  pub words : list_all is_word args ≡ true
  pub reads : op_of most verb args ≡ Ok op

pub record Again (most : ℕ) (op : LineOp) : Type 0 where
  pub kind : kind_of (verb_for op) ≡ kind.Call
  pub words : list_all is_word (args_for op) ≡ true
  pub reads : op_of most (verb_for op) (args_for op) ≡ Ok op
