-- The line that is written for an operation asks for it again.
use Rattle.std.proofs.Common.{◌≡◌, ℕ, true, List}
use Rattle.std.specs.Prelude.{Ok}
use Rattle.std.specs.List.{list_all}
use Rattle.fab_base.specs.declared.script.LineOp.{LineOp}
use Rattle.fab_grammar.specs.declared.verbs.Verb.{Verb}
use Rattle.fab_grammar.specs.declared.verbs.Verb.TheVariants as verb
use Rattle.fab_grammar.specs.Lines.{op_of}
use Rattle.fab_words.specs.Written.{is_word}
use Rattle.fab_spell.specs.Again.{WasRead, Again}
use Rattle.fab_spell.proofs.Own.{reg_spelt, close_spelt, put_spelt, show_spelt, insert_spelt, remove_spelt, wait_spelt, count_spelt, reach_spelt}
use Rattle.fab_spell.proofs.Receives.{recv_spelt, trecv_spelt, mrecv_spelt, peek_spelt, claim_spelt, discard_spelt, take_spelt, drop_spelt, cancel_spelt}
use Rattle.fab_spell.proofs.Remote.{read_spelt, write_spelt, winject_spelt, atomic_spelt, fetch_spelt, compare_spelt}
use Rattle.fab_spell.proofs.Sends.{send_spelt, tsend_spelt, inject_spelt, tinject_spelt}

op_spelt : (most : ℕ) (verb : Verb) (args : List (List ℕ)) (op : LineOp) → list_all is_word args ≡ true → op_of most verb args ≡ Ok op → Again most op
unfolding op_of
op_spelt most verb.Send args op are e = send_spelt most args op are e
op_spelt most verb.TSend args op are e = tsend_spelt most args op are e
op_spelt most verb.Inject args op are e = inject_spelt most args op are e
op_spelt most verb.TInject args op are e = tinject_spelt most args op are e
op_spelt most verb.Recv args op are e = recv_spelt most args op e
op_spelt most verb.TRecv args op are e = trecv_spelt most args op e
op_spelt most verb.MRecv args op are e = mrecv_spelt most args op e
op_spelt most verb.Peek args op are e = peek_spelt most args op e
op_spelt most verb.Claim args op are e = claim_spelt most args op e
op_spelt most verb.Discard args op are e = discard_spelt most args op e
op_spelt most verb.Take args op are e = take_spelt most args op e
op_spelt most verb.DropClaimed args op are e = drop_spelt most args op e
op_spelt most verb.Cancel args op are e = cancel_spelt most args op e
op_spelt most verb.Read args op are e = read_spelt most args op e
op_spelt most verb.Write args op are e = write_spelt most args op are e
op_spelt most verb.WInject args op are e = winject_spelt most args op are e
op_spelt most verb.Atomic args op are e = atomic_spelt most args op e
op_spelt most verb.Fetch args op are e = fetch_spelt most args op e
op_spelt most verb.Compare args op are e = compare_spelt most args op e
op_spelt most verb.Reg args op are e = reg_spelt most args op are e
op_spelt most verb.Close args op are e = close_spelt most args op e
op_spelt most verb.Put args op are e = put_spelt most args op are e
op_spelt most verb.Show args op are e = show_spelt most args op e
op_spelt most verb.Insert args op are e = insert_spelt most args op are e
op_spelt most verb.Remove args op are e = remove_spelt most args op e
op_spelt most verb.Wait args op are e = wait_spelt most args op e
op_spelt most verb.Count args op are e = count_spelt most args op e
op_spelt most verb.Reach args op are e = reach_spelt most args op e
op_spelt most _ args op are e = cc

pub op_again : (most : ℕ) (op : LineOp) → WasRead most op → Again most op
op_again most op was = op_spelt most was.verb was.args op was.words was.reads
