-- Each item that a peer lets out, or holds back, has as many bytes as its head says.
--     Sized n tx           of the transmitting part of one of n peers
--     items_are_sized      wherever turns lead
use Rattle.std.proofs.Common.{◌≡◌, ◌<◌, ℕ, Bool, true, List, [], ◌∷◌, ◌++◌, length, slice_get, Option, Some, None, inl, inr, refl, sym, ◌∙◌, subst, arith, length-append, length-set}
use Rattle.std.specs.Option.{option_map_or}
use Rattle.std.proofs.lemmas.List.{length-replicate}
use Rattle.fab_base.specs.declared.items.Item.{Item}
use Rattle.fab_base.specs.declared.operations.Held.{Held}
use Rattle.fab_base.specs.declared.operations.Operation.{Operation}
use Rattle.fab_base.specs.declared.script.Conf.{Conf}
use Rattle.fab_base.specs.Replies.{is_reply}
use Rattle.fab_base.proofs.Lists.{all_the_same}
use Rattle.fab_model.specs.Matching.{remove_first}
use Rattle.fab_model.specs.State.{State, Transmitting, accepted_for, held_for}
use Rattle.fab_model.specs.Complete.{joining}
use Rattle.fab_model.specs.Sending.{Order, going_on, operation_of, transmit_to}
use Rattle.fab_model.specs.Arrivals.{do_draw, do_head, do_tail}
use Rattle.fab_model.specs.Calls.{Call, Transmit, do_call}
use Rattle.fab_model.specs.Replay.{fresh}
use Rattle.fab_model.specs.Views.{View, seen}
use Rattle.fab_model.proofs.Parts.{get_or-set}
use Rattle.fab_model.proofs.Turns.{slice_get-set}
use Rattle.fab_model.proofs.Views as views
use Rattle.fab_laws.specs.Members.{In}
use Rattle.fab_laws.specs.Programs.{Deed, Makes, Counts, Head, Tail, Draw, Opening, Peer, program}
use Rattle.fab_laws.specs.MessageLaws.{IsSized, ItemsAreSized}
use Rattle.fab_laws.proofs.Lists.{get_in, in_end, never}
use Rattle.fab_laws.proofs.Memory.{KeptByTurns, leads_good}
use Rattle.fab_laws.proofs.Stepping.{StepIs, at_opening, step_is}
use Rattle.fab_laws.proofs.fences.Hold.{Known, transmit_is}
use Rattle.fab_laws.proofs.fences.Kept.{call_kept, draw_kept, head_tx, sent_kept, tail_kept}
use Rattle.fab_laws.proofs.fences.Out.{KeptAtStart, accepting_keeps, behind, out_keeps}
use Rattle.fab_laws.proofs.replies.Stray.{AllOwed, all_owed, turn_owed}

pub record Sized (n : ℕ) (tx : Transmitting) : Type 0 where
  pub accepted_count : length tx.accepted ≡ n
  pub held_count : length tx.held ≡ n
  pub out : (t : ℕ) (item : Item) → In item (accepted_for tx t) → IsSized item
  pub kept : (t : ℕ) (h : Held) → In h (held_for tx t) → IsSized h.item

module _ (n : ℕ) where
  replies : (t : ℕ) (r : Item) (tx : Transmitting) → is_reply r.head.kind ≡ true → length r.bytes ≡ r.head.total → Sized n tx → Sized n (joining t r tx)
  replies t r tx reply sized o = record {
    accepted_count = length-set tx.accepted t _ ∙ o.accepted_count;
    held_count = o.held_count;
    out = λ q item i. elim (get_or-set tx.accepted t q (accepted_for tx t ++ r ∷ []) []) [
      | inl same ↦ o.out q item (subst (In item) same i)
      | inr now ↦ elim (in_end item r (accepted_for tx t) (subst (In item) now.1 i)) [ inl j ↦ o.out t item j | inr e ↦ subst IsSized (sym e) sized ]
    ];
    kept = o.kept;
  }

  ends : (sent : List ℕ) (test : Operation → Bool) (tx : Transmitting) → Sized n tx → Sized n (record { accepted = tx.accepted; sent = sent; live = remove_first test tx.live; held = tx.held; ops = tx.ops })
  ends sent test tx o = record { accepted_count = o.accepted_count; held_count = o.held_count; out = o.out; kept = o.kept }

  start_kept : (t : ℕ) → KeptAtStart t (Sized n)
  start_kept t h rest tx first free o = record {
    accepted_count = length-set tx.accepted t _ ∙ o.accepted_count;
    held_count = length-set tx.held t rest ∙ o.held_count;
    out = λ q item i. elim (get_or-set tx.accepted t q (accepted_for tx t ++ h.item ∷ []) []) [
      | inl same ↦ o.out q item (subst (In item) same i)
      | inr now ↦ elim (in_end item h.item (accepted_for tx t) (subst (In item) now.1 i)) [
        | inl j ↦ o.out t item j
        | inr e ↦ subst IsSized (sym e) (o.kept t h (subst (In h) (sym first) (inl refl)))
      ]
    ];
    kept = λ q k i. elim (get_or-set tx.held t q rest []) [
      | inl same ↦ o.kept q k (subst (In k) same i)
      | inr now ↦ o.kept t k (subst (In k) (sym first) (inr (subst (In k) now.1 i)))
    ];
  }

  outs : (t : ℕ) (tx : Transmitting) → Sized n tx → Sized n (going_on t tx)
  outs t tx o = out_keeps t (Sized n) (start_kept t) tx (o.accepted_count ∙ sym o.held_count) o

  -- an operation stands behind those held for its peer
  holds : (tx : Transmitting) (t : ℕ) (h : Held) → IsSized h.item → Sized n tx → Sized n (behind t h tx)
  holds tx t h sized o = record {
    accepted_count = o.accepted_count;
    held_count = length-set tx.held t _ ∙ o.held_count;
    out = o.out;
    kept = λ q k i. elim (get_or-set tx.held t q (held_for tx t ++ h ∷ []) []) [
      | inl same ↦ o.kept q k (subst (In k) same i)
      | inr now ↦ elim (in_end k h (held_for tx t) (subst (In k) now.1 i)) [ inl j ↦ o.kept t k j | inr e ↦ subst (λ (z : Held). IsSized z.item) (sym e) sized ]
    ];
  }

  sends : (s : State) (order : Order) (t : ℕ) → t < n → Sized n s.tx → Sized n (transmit_to t s order).tx
  unfolding transmit_to
  sends s order t lt o = accepting_keeps t (Sized n) (start_kept t) (operation_of s order) s.tx (omega (arith, lt, o.accepted_count)) (omega (arith, lt, o.held_count)) (holds s.tx t (operation_of s order) (length-append order.bytes order.compared) o)

  call_sized : (s : State) (c : Call) → Known n s → Sized n s.tx → Sized n (do_call s c).1.tx
  call_sized s (Transmit order) at o = elim (transmit_is s order) [
    | inl same ↦ subst (λ (u : State). Sized n u.tx) (sym same) o
    | inr (t, peer, kind, is) ↦ subst (λ (u : State). Sized n u.tx) (sym is) (sends s order t (at order.dest t peer) o)
  ]
  call_sized s c at o = call_kept (Sized n) replies s c o (λ order e. absurd (cc (e)))

  module _ (v : View Item) (a b : Peer) (sized : Sized n a.state.tx) (at : Known n a.state) where
    to : (t : State) → b.state ≡ t → Sized n t.tx → Sized n b.state.tx
    to t is o = subst (λ (s : State). Sized n s.tx) (sym is) o

    pub step_sized : (x : Deed) → StepIs v a x b → Sized n b.state.tx
    step_sized (Makes call) (inl (none, is)) = to a.state is sized
    step_sized (Makes call) (inr (c, asks, is)) = to (do_call a.state c).1 is (call_sized a.state c at sized)
    step_sized (Counts counters) is = to _ is sized
    step_sized (Head source) (item, has, level, none, is) = to (do_head a.state source item.head) is (subst (Sized n) (sym (head_tx a.state source item.head)) sized)
    step_sized (Tail source) (item, has, odd, sent, is) = to (do_tail a.state source item.head item.bytes) is (tail_kept (Sized n) replies ends outs a.state source item.head item.bytes sized)
    step_sized (Deed.Sent t) (less, is) = to _ is (sent_kept (Sized n) replies ends outs a.state t sized)
    step_sized Draw (due, is) = to (do_draw a.state) is (draw_kept (Sized n) replies a.state sized)
    step_sized Deed.Read is = to _ is sized

-- ---- all peers

pub fresh_sized : (conf : Conf) → Sized conf.peers (fresh conf).tx
fresh_sized conf = record {
  accepted_count = length-replicate {A = List Item} conf.peers [];
  held_count = length-replicate {A = List Held} conf.peers [];
  out = λ t item i. never (subst (In item) (all_the_same {X = List Item} conf.peers t []) i);
  kept = λ t h i. never (subst (In h) (all_the_same {X = List Held} conf.peers t []) i);
}

pub record AllSized (n : ℕ) (states : List Peer) : Type 0 where
  pub owed : AllOwed n states
  pub sized : (p : ℕ) (a : Peer) → slice_get states p ≡ Some a → Sized n a.state.tx

pub turn_sized : (n : ℕ) → KeptByTurns (AllSized n)
turn_sized n states p x b all stood = record {
  owed = turn_owed n states p x b all.owed stood;
  sized = λ q c e. elim (slice_get-set states p q b c e) [
    | inl before ↦ all.sized q c before
    | inr now ↦ (
        let is = views.rule_is program states p x b stood in
        subst (λ (y : Peer). Sized n y.state.tx) (sym now.1) (step_sized n (seen program states p) is.0 b (all.sized p is.0 is.1) (all.owed.owed p is.0 is.1).known x (step_is (seen program states p) is.0 b x is.2)))
  ];
}

pub all_sized : (from : Opening) → AllSized (length from.peers) from.peers
all_sized from = record {
  owed = all_owed from [] from.peers refl;
  sized = at_opening from (λ (s : State). Sized (length from.peers) s.tx) (λ conf av names. fresh_sized (record conf { peers = length from.peers }));
}

-- what a peer sees is sized
pub sees_sized : (n : ℕ) (states : List Peer) → AllSized n states → (p source k : ℕ) (item : Item) → slice_get ((seen program states p).ready source) k ≡ Some item → IsSized item
unfolding program
sees_sized n states all p source k item e = go (slice_get states source) refl e
  where
    go : (o : Option Peer) → slice_get states source ≡ o → slice_get (option_map_or (λ (x : Peer). accepted_for x.state.tx p) o []) k ≡ Some item → IsSized item
    go None at f = absurd (cc (f))
    go (Some a) at f = (all.sized source a at).out p item (get_in (accepted_for a.state.tx p) k item f)

pub items_are_sized : ItemsAreSized
items_are_sized from turns states leads p a here t item i = ((leads_good (AllSized (length from.peers)) (turn_sized (length from.peers)) turns from.peers states (all_sized from) leads).sized p a here).out t item i
