-- Each turn of a script's peer is a turn of the program that makes the calls of its lines.
use Rattle.std.proofs.Common.{◌≡◌, ◌<◌, ◌+◌, ℕ, zero, suc, Bool, true, false, ◌&&◌, not, List, [], ◌∷◌, ◌++◌, length, map, set, slice_get, Option, Some, None, refl, sym, ◌∙◌, ap, subst, arith}
use Rattle.std.specs.Prelude.{find, nat_le, nat_lt, slice_index, ◌==◌}
use Rattle.std.specs.Option.{option_map, option_map_or}
use Rattle.std.proofs.lemmas.List.{length-map, length-replicate, map-set}
use Rattle.std.proofs.lemmas.Option.{slice_get-map, slice_get_within}
use Rattle.fab_base.specs.declared.items.Item.{Item}
use Rattle.fab_base.specs.declared.peers.LineResult.{LineResult}
use Rattle.fab_base.specs.declared.peers.Step.{Step}
use Rattle.fab_base.specs.declared.peers.Step.TheVariants.{Do, Final}
use Rattle.fab_base.specs.declared.script.Bound.{Bound}
use Rattle.fab_base.specs.declared.script.Conf.{Conf}
use Rattle.fab_base.specs.declared.script.Line.{Line}
use Rattle.fab_base.specs.declared.script.LineOp.{LineOp}
use Rattle.fab_base.specs.declared.script.LineOp.TheVariants.{Wait, Reach}
use Rattle.fab_model.specs.State.{State, accepted_for, awaits, tally_of}
use Rattle.fab_model.specs.Calls.{Call, CancelFirst, call_of, do_call, upto}
use Rattle.fab_model.specs.Orders.{Leads, Turn}
use Rattle.fab_model.specs.Peers.{Actor, call_line, do_line, do_next, draw_step, fabric, final_step, head_step, is_again, is_of_ctx, next_line, read_next, sent_step, step, tail_step, unread, wait_line, with_result, with_state}
use Rattle.fab_model.specs.Replay.{fresh, is_empty, lines_of, newly, opening}
use Rattle.fab_model.specs.Replay as scripts
use Rattle.fab_model.specs.Receiving.{draw_due}
use Rattle.std.specs.List.{list_all, list_any}
use Rattle.fab_model.specs.Views.{View, rule, seen}
use Rattle.fab_model.proofs.Parts.{if_is, some_gives, some_is, some_same}
use Rattle.std.proofs.lemmas.Bool.{and_from, and_parts, eqb-true}
use Rattle.fab_model.proofs.Patient as patient
use Rattle.fab_model.proofs.Views as views
use Rattle.fab_laws.specs.Programs.{agree, agree_all, all_idle, at_rest, is_drained, is_idle, Deed, Opening, Peer, Starts, after_call, deed, draw_deed, head_deed, only_where, peer, program, read_deed, sent_deed, starting, tail_deed}
use Rattle.fab_laws.specs.Moments.{AtEveryMoment, Note, noted, remembered}
use Rattle.fab_laws.proofs.Levels.{fresh_fenced}
use Rattle.fab_laws.specs.Scripts.{AtEveryScriptMoment, RestIsRest, ScriptsArePrograms, SightIsSight, deed_of, deeds_of, next_call, peer_of, peers, script_memory, script_noted, turn_of}

-- ---- a line

again_is : (a b : Actor) (done : LineResult × State) (again : Bool) → elim again [ true ↦ None | false ↦ Some (with_result done.0 (with_state a done.1)) ] ≡ Some b → b.state ≡ done.1
again_is a b done true e = absurd (cc)
again_is a b done false e = ap (λ (x : Actor). x.state) (sym (some_same _ b e))

call_is : (a b : Actor) (c : Call) → call_line a c ≡ Some b → b.state ≡ (do_call a.state c).1
unfolding call_line
call_is a b c e = again_is a b (do_call a.state c) (is_again (do_call a.state c).0) e

wait_is : (a b : Actor) (ctx : Option ℕ) → wait_line a ctx ≡ Some b → b.state ≡ a.state
unfolding wait_line
wait_is a b ctx e = let i = some_is (find (is_of_ctx ctx) a.kept) _ b e in ap (λ (x : Actor). x.state) (sym (some_same _ b i.2))

reach_is : (a b : Actor) (met : Bool) → elim met [ true ↦ Some (with_result LineResult.Done a) | false ↦ None ] ≡ Some b → b.state ≡ a.state
reach_is a b true e = ap (λ (x : Actor). x.state) (sym (some_same _ b e))
reach_is a b false e = absurd (cc)

called_is : (a b : Actor) (c : Option Call) → elim c [ None ↦ None | Some call ↦ call_line a call ] ≡ Some b → b.state ≡ after_call c a.state
called_is a b None e = absurd (cc)
called_is a b (Some c) e = call_is a b c e

line_is : (a b : Actor) (op : LineOp) → do_line a op ≡ Some b → b.state ≡ after_call (call_of op) a.state
unfolding do_line call_of
line_is a b (Wait ctx) e = wait_is a b ctx e
line_is a b (Reach class n) e = reach_is a b (nat_le n (tally_of a.state.counters class).ok) e
line_is a b op e = called_is a b (call_of op) e

do_is : (a b : Actor) → do_next a ≡ Some b → b.state ≡ after_call (next_call a) a.state
unfolding do_next
do_is a b e =
    let i = some_is (next_line a) (λ (line : Line). do_line a line.op) b e in
    subst (λ (o : Option Line). b.state ≡ after_call (elim o [ None ↦ None | Some l ↦ call_of l.op ]) a.state) (sym i.1) (line_is a b i.0.op i.2)

-- ---- a step

-- what a program's peer sees is what a script's peer sees
pub record Alike (v w : View Item) : Type 0 where
  pub ready : (source : ℕ) → v.ready source ≡ w.ready source
  pub sent : (source : ℕ) → v.sent source ≡ w.sent source

gives : (holds : Bool) (s : State) (a b : Actor) → holds ≡ true → with_state a s ≡ b → only_where holds s ≡ Some (peer_of b)
gives holds s a b t e = rw t (ap (λ (x : Actor). Some (peer_of x)) e)

some_peer : (s : State) (a b : Actor) → b.state ≡ s → Some (peer s) ≡ Some (peer_of b)
some_peer s a b e = ap (λ u. Some (peer u)) (sym e)

head_is : (v w : View Item) → Alike v w → (a b : Actor) (source : ℕ) → head_step v a source ≡ Some b → head_deed w a.state source ≡ Some (peer_of b)
unfolding head_step head_deed
head_is v w alike a b source e =
    let k = slice_index a.state.rx.heads source in
    let i = some_is (slice_get (v.ready source) k) _ b e in
    let t = if_is _ _ b i.2 in
    some_gives (slice_get (w.ready source) k) _ i.0 (peer_of b) (ap (λ xs. slice_get xs k) (sym (alike.ready source)) ∙ i.1) (gives _ _ a b t.0 t.1)

tail_is : (v w : View Item) → Alike v w → (a b : Actor) (source : ℕ) → tail_step v a source ≡ Some b → tail_deed w a.state source ≡ Some (peer_of b)
unfolding tail_step tail_deed
tail_is v w alike a b source e =
    let k = slice_index a.state.rx.tails source in
    let i = some_is (slice_get (v.ready source) k) _ b e in
    let t = if_is _ _ b i.2 in
    let arrived = and_parts _ _ t.0 in
    let sent = and_parts _ _ arrived.0 in
    some_gives (slice_get (w.ready source) k) _ i.0 (peer_of b) (ap (λ xs. slice_get xs k) (sym (alike.ready source)) ∙ i.1)
    (gives _ _ a b (and_from _ _ (and_from _ _ sent.0 (ap (nat_lt k) (sym (alike.sent source)) ∙ sent.1)) arrived.1) t.1)

sent_is : (a b : Actor) (t : ℕ) → sent_step a t ≡ Some b → sent_deed a.state t ≡ Some (peer_of b)
unfolding sent_step sent_deed
sent_is a b t e = let i = if_is _ _ b e in gives _ _ a b i.0 i.1

draw_is : (a b : Actor) → draw_step a ≡ Some b → draw_deed a.state ≡ Some (peer_of b)
unfolding draw_step draw_deed
draw_is a b e = let i = if_is _ _ b e in gives _ _ a b i.0 i.1

read_is : (a b : Actor) → read_next a ≡ Some b → read_deed a.state ≡ Some (peer_of b)
unfolding read_next read_deed
read_is a b e =
    let i = some_is (unread a.state.cq) _ b e in
    some_gives (unread a.state.cq) _ i.0 (peer_of b) i.1 (ap (λ (x : Actor). Some (peer_of x)) (some_same _ b i.2))

final_is : (v : View Item) (a b : Actor) → final_step v a ≡ Some b → b.state ≡ (do_call a.state CancelFirst).1
unfolding final_step
final_is v a b e = let i = if_is _ _ b e in ap (λ (x : Actor). x.state) (sym (i.1))

pub of_step : (v w : View Item) → Alike v w → (a b : Actor) (x : Step) → fabric.step v a x ≡ Some b → program.step w (peer_of a) (deed_of a x) ≡ Some (peer_of b)
unfolding fabric step program deed
of_step v w alike a b Do e = some_peer _ a b (do_is a b e)
of_step v w alike a b (Step.Head source) e = head_is v w alike a b source e
of_step v w alike a b (Step.Tail source) e = tail_is v w alike a b source e
of_step v w alike a b (Step.Sent t) e = sent_is a b t e
of_step v w alike a b Step.Draw e = draw_is a b e
of_step v w alike a b Step.Read e = read_is a b e
of_step v w alike a b Final e = some_peer _ a b (final_is v a b e)

-- ---- turns

alike : (states : List Actor) (p : ℕ) → Alike (seen fabric states p) (seen program (peers states) p)
unfolding fabric program
alike states p = record {
  ready = λ source. sym (rw (slice_get-map peer_of states source) (go (slice_get states source)));
  sent = λ source. sym (rw (slice_get-map peer_of states source) (level (slice_get states source)));
}
  where
    go : (o : Option Actor) → option_map_or (λ (x : Peer). accepted_for x.state.tx p) (option_map peer_of o) [] ≡ option_map_or (λ (x : Actor). accepted_for x.state.tx p) o []
    go None = refl
    go (Some a) = refl

    level : (o : Option Actor) → option_map_or (λ (x : Peer). slice_index x.state.tx.sent p) (option_map peer_of o) 0 ≡ option_map_or (λ (x : Actor). slice_index x.state.tx.sent p) o 0
    level None = refl
    level (Some a) = refl

pub sight_is_sight : SightIsSight
sight_is_sight states p source = let same = alike states p in (same.ready source, same.sent source)

pub peer_at : (states : List Actor) (p : ℕ) (a : Actor) → slice_get states p ≡ Some a → slice_get (peers states) p ≡ Some (peer_of a)
peer_at states p a e = slice_get-map peer_of states p ∙ ap (option_map peer_of) e

-- what a script's turn is to the program
record IsTurn (states : List Actor) (t : Turn Step) (b : Actor) : Type 0 where
  before : Actor
  here : slice_get states t.peer ≡ Some before
  deeds : (turns : List (Turn Step)) → deeds_of states (t ∷ turns) ≡ record { peer = t.peer; step = deed_of before t.step } ∷ deeds_of (set states t.peer b) turns
  ruled : rule program (peers states) t.peer (deed_of before t.step) ≡ Some (peer_of b)

is_turn : (states : List Actor) (t : Turn Step) (b : Actor) → rule fabric states t.peer t.step ≡ Some b → IsTurn states t b
is_turn states t b stood =
    let is = views.rule_is fabric states t.peer t.step b stood in
    record {
      before = is.0;
      here = is.1;
      deeds = λ turns.
          ap (λ (o : Option Actor). elim o [ None ↦ [] | Some c ↦ turn_of (slice_get states t.peer) t ++ deeds_of (set states t.peer c) turns ]) stood
          ∙ ap (λ (o : Option Actor). turn_of o t ++ deeds_of (set states t.peer b) turns) is.1;
      ruled = views.rule_gives program (peers states) t.peer (deed_of is.0 t.step) (peer_of is.0) (peer_of b) (peer_at states t.peer is.0 is.1)
          (of_step (seen fabric states t.peer) (seen program (peers states) t.peer) (alike states t.peer) is.0 b t.step is.2);
    }

pub of_turns : (turns : List (Turn Step)) (states last : List Actor) → Leads (rule fabric) states turns last → Leads (rule program) (peers states) (deeds_of states turns) (peers last)
of_turns [] states last leads = ap peers leads
of_turns (t ∷ turns) states last (b, stood, rest) =
    let is = is_turn states t b stood in
    let more = of_turns turns (set states t.peer b) last rest in
    subst (λ ds. Leads (rule program) (peers states) ds (peers last)) (sym (is.deeds turns))
    (peer_of b, is.ruled, subst (λ ss. Leads (rule program) ss (deeds_of (set states t.peer b) turns) (peers last)) (map-set peer_of states t.peer b) more)

-- ---- what peers remember

module _ {M : Type 0} (note : Note M) (p : ℕ) where
  same_noted : (states : List Actor) (t : Turn Step) (a b : Actor) (m : M) → slice_get states t.peer ≡ Some a → noted note p (peers states) (record { peer = t.peer; step = deed_of a t.step }) (peer_of b) m ≡ script_noted note p states t b m
  same_noted states t a b m here = go (t.peer == p) refl
    where
      own : Option Peer → M
      own o = elim o [ None ↦ m | Some c ↦ note (seen program (peers states) p) c (deed_of a t.step) (peer_of b) m ]

      told : Option Actor → M
      told o = elim o [ None ↦ m | Some c ↦ note (seen program (peers states) p) (peer_of c) (deed_of c t.step) (peer_of b) m ]

      where_mine : Bool → M → M
      where_mine mine k = elim mine [ true ↦ k | false ↦ m ]

      go : (mine : Bool) → (t.peer == p) ≡ mine → where_mine mine (own (slice_get (peers states) p)) ≡ where_mine mine (told (slice_get states p))
      go false e = refl
      go true e =
          let at : slice_get states p ≡ Some a = subst (λ k. slice_get states k ≡ Some a) (eqb-true t.peer p e) here in
          ap own (peer_at states p a at) ∙ sym (ap told at)

  -- a script's peer remembers in its turns what the program's remembers in its deeds
  pub same_memory : (turns : List (Turn Step)) (states last : List Actor) (m : M) → Leads (rule fabric) states turns last → remembered note p (deeds_of states turns) (peers states) m ≡ script_memory note p turns states m
  same_memory [] states last m leads = refl
  same_memory (t ∷ turns) states last m (b, stood, rest) =
      let is = is_turn states t b stood in
      let next = set states t.peer b in
      let x : Turn Deed = record { peer = t.peer; step = deed_of is.before t.step } in
      ap (λ ds. remembered note p ds (peers states) m) (is.deeds turns)
      ∙ ap (λ (o : Option Peer). let k : M = elim o [ None ↦ m | Some c ↦ remembered note p (deeds_of next turns) (set (peers states) t.peer c) (noted note p (peers states) x c m) ] in k) is.ruled
      ∙ ap (λ ss. remembered note p (deeds_of next turns) ss (noted note p (peers states) x (peer_of b) m)) (sym (map-set peer_of states t.peer b))
      ∙ ap (remembered note p (deeds_of next turns) (peers next)) (same_noted states t is.before b m is.here)
      ∙ same_memory turns next last (script_noted note p states t b m) rest
      ∙ sym (ap (λ (o : Option Actor). let k : M = elim o [ None ↦ m | Some c ↦ script_memory note p turns (set states t.peer c) (script_noted note p states t c m) ] in k) stood)

-- ---- the opening

pub mapped_twice : {X Y Z : Type 0} (f : Y → Z) (g : X → Y) (xs : List X) (k : ℕ) (z : Z) → slice_get (map f (map g xs)) k ≡ Some z → (x : X) × (z ≡ f (g x))
mapped_twice f g [] k z e = absurd (cc)
mapped_twice f g (x ∷ xs) zero z e = (x, cc)
mapped_twice f g (x ∷ xs) (suc k) z e = mapped_twice f g xs k z e

pub starts : (conf : Conf) (n p : ℕ) → n ≡ conf.peers → p < n → Starts n (fresh conf)
starts conf n p e lt = record {
  conf = conf;
  av = map Some (upto conf.peers);
  named = λ i t f. omega (arith, e, (fresh_fenced conf p (omega (arith, e, lt))).named i t f, length-replicate {A = List Item} conf.peers []);
  is = subst (λ m. fresh conf ≡ starting (record conf { peers = m }) (map Some (upto conf.peers))) (sym e) refl;
}

unfoldable pub script_opening : Bound → Opening
unfolding opening
script_opening bound = record {
  peers = peers (opening bound);
  fresh = λ p a e.
      let f = mapped_twice peer_of (λ q. newly bound.script.conf (lines_of bound q)) (upto bound.script.conf.peers) p a e in
      subst (λ (x : Peer). Starts (length (peers (opening bound))) x.state) (sym f.1)
      (starts bound.script.conf (length (peers (opening bound))) p (length-map (opening bound) peer_of ∙ (patient.opening_sound bound).count) (slice_get_within (peers (opening bound)) p a e));
}

-- what holds of all programs holds of a script
pub of_scripts : (Law : List Peer → List (Turn Deed) → List Peer → ℕ → Peer → Type 0) → AtEveryMoment Law → AtEveryScriptMoment (λ bound turns states p a. Law (peers (opening bound)) (deeds_of (opening bound) turns) (peers states) p (peer_of a))
unfolding script_opening opening
of_scripts Law law bound turns states leads p a here =
    law (script_opening bound) (deeds_of (opening bound) turns) (peers states) (of_turns turns (opening bound) states leads) p (peer_of a) (peer_at states p a here)

pub scripts_are_programs : ScriptsArePrograms
unfolding script_opening opening
scripts_are_programs bound turns states leads = (script_opening bound, refl, of_turns turns (opening bound) states leads)

-- ---- rest

agree_same : (p k : ℕ) (a : Actor) (all : List Actor) → agree_all p k (peer_of a) (peers all) ≡ scripts.agree_all p k a all
agree_same p k a [] = refl
agree_same p k a (b ∷ all) = ap (λ x. agree p k (peer_of a) (peer_of b) && x) (agree_same p (k + 1) a all)

idle_same : (all : List Actor) (p : ℕ) (a : Actor) → scripts.is_idle all p a ≡ true → is_idle (peers all) p (peer_of a) ≡ true
idle_same all p a idle =
    let x = and_parts _ (not (scripts.can_do a)) idle in
    ap (λ b. b && (a.state.cq.taken_out == length a.state.cq.written) && not (draw_due a.state.rx)) (agree_same p 0 a all) ∙ x.0

all_same : (all : List Actor) (p : ℕ) (some : List Actor) → scripts.all_idle all p some ≡ true → all_idle (peers all) p (peers some) ≡ true
all_same all p [] idle = refl
all_same all p (a ∷ some) idle =
    let x = and_parts (scripts.is_idle all p a) (scripts.all_idle all (p + 1) some) idle in
    and_from _ _ (idle_same all p a x.0) (all_same all (p + 1) some x.1)

rest_same : (states : List Actor) → scripts.at_rest states ≡ true → at_rest (peers states) ≡ true
unfolding at_rest scripts.at_rest
rest_same states rest = all_same states 0 states rest

empty_same : (states : List Actor) → list_all (λ (a : Actor). is_empty a.state.rx.posted && not (list_any (awaits a.state.tx) a.state.tx.live)) states ≡ true
    → list_all (λ (a : Peer). is_empty a.state.rx.posted && not (list_any (awaits a.state.tx) a.state.tx.live)) (peers states) ≡ true
empty_same [] all = refl
empty_same (a ∷ states) all = let x = and_parts _ _ all in and_from _ _ x.0 (empty_same states x.1)

drained_same : (states : List Actor) → scripts.is_drained states ≡ true → is_drained (peers states) ≡ true
unfolding is_drained scripts.is_drained
drained_same states drained =
    let x = and_parts (scripts.at_rest states && scripts.all_done states) _ drained in
    let y = and_parts (scripts.at_rest states) (scripts.all_done states) x.0 in
    and_from _ _ (rest_same states y.0) (empty_same states x.1)

pub rest_is_rest : RestIsRest
rest_is_rest states = (rest_same states, drained_same states)

-- ---- what threads did
