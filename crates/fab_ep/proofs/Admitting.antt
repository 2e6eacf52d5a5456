-- A transmit call before its message is accepted.
use Rattle.std.proofs.Common.{◌≡◌, ◌≢◌, ◌≤◌, ◌+◌, ℕ, Bool, true, false, ◌||◌, List, [], ◌∷◌, Option, Some, None, Result, Ok, Err, refl, sym, ap, ◌∙◌, subst, arith, inl, inr}
use Rattle.std.specs.Prelude.{nat_le, OnErr}
use Rattle.std.proofs.lemmas.Bool.Decides.{nat_tests}
use Rattle.fab_base.specs.declared.faults.Fault.{Fault}
use Rattle.fab_base.specs.declared.faults.Fault.TheVariants.{Again, NotSupported, MsgSize, Invalid, NoData, NoKey, Range, NoEntry, Avail, NoMemory as LacksMemory}
use Rattle.fab_base.specs.declared.faults.Busy.TheVariants.{TxFull, LogFull}
use Rattle.fab_base.specs.declared.faults.NoMemory.{NoMemory}
use Rattle.fab_base.specs.declared.peers.LineResult.TheVariants.{Refused}
use Rattle.fab_base.proofs.Numbers.{le_is as is_full_by}
use Rattle.fab_link.specs.Joined.{is_last}
use Rattle.fab_model.specs.State.{State, in_use}
use Rattle.fab_model.specs.Sending.{Order, first_fault, transmit_fault, transmit}
use Rattle.fab_model.specs.Calls.{Call, Transmit, answer, do_call}
use Rattle.fab_face.specs.Held.{Held, Seen}
use Rattle.fab_face.specs.Acts.{Act, Did, Took, Posted, Drew, Had, Departs, GoesBy, Went, is_post}
use Rattle.fab_face.specs.Answers.{AllAre, HasPlaces, IsShort, Judged, SendsNot, is_final, is_early}
use Rattle.fab_face.proofs.Joining.{went_none, ported_same}
use Rattle.fab_ep.specs.Tries.{Pushes, Pushed}
use Rattle.fab_ep.specs.Sends.{Admits}
use Rattle.fab_ep.proofs.Sent.{keeps_sent, sent_ops}
use Rattle.fab_ep.proofs.Turning.{not_true}

-- ---- the machine's refusals of a transmit call, by its four tests

abbrev told : Bool → Bool → Bool → Bool → ℕ → Option Fault
told b1 b2 b3 b4 most = first_fault ((b1, NotSupported) ∷ (b2, MsgSize) ∷ (b3, Invalid) ∷ (b4, Again (TxFull most)) ∷ [])

final_by : (b1 b2 b3 b4 : Bool) (most : ℕ) (s after : State) → is_final (answer (told b1 b2 b3 b4 most) s after).0 ≡ (b1 || (b2 || b3))
final_by true b2 b3 b4 most s after = refl
final_by false true b3 b4 most s after = refl
final_by false false true b4 most s after = refl
final_by false false false true most s after = refl
final_by false false false false most s after = refl

full_by : (b1 b2 b3 b4 : Bool) (most : ℕ) (s after : State) → (b1 || (b2 || b3)) ≡ false → b4 ≡ true → answer (told b1 b2 b3 b4 most) s after ≡ (Refused (Again (TxFull most)), s)
full_by true b2 b3 b4 most s after denied is = absurd (cc)
full_by false true b3 b4 most s after denied is = absurd (cc)
full_by false false true b4 most s after denied is = absurd (cc)
full_by false false false true most s after denied is = refl
full_by false false false false most s after denied is = absurd (cc)

early_by : (b1 b2 b3 b4 : Bool) (most : ℕ) (s after : State) (why : Fault) → (answer (told b1 b2 b3 b4 most) s after).0 ≡ Refused why → is_final (Refused why) ≡ true → is_early why ≡ true
early_by true b2 b3 b4 most s after why is last = (let e : NotSupported ≡ why = cc in subst (λ (x : Fault). is_early x ≡ true) e refl)
early_by false true b3 b4 most s after why is last = (let e : MsgSize ≡ why = cc in subst (λ (x : Fault). is_early x ≡ true) e refl)
early_by false false true b4 most s after why is last = (let e : Invalid ≡ why = cc in subst (λ (x : Fault). is_early x ≡ true) e refl)
early_by false false false true most s after why is last = (let e : Again (TxFull most) ≡ why = cc in absurd (cc (rw (← e) at last)))
early_by false false false false most s after why is last = absurd (cc)

pub final_is : (s : State) (o : Order) → (b : Bool) × ((t : State) → t.caps ≡ s.caps → t.av ≡ s.av → t.most_message ≡ s.most_message → t.tx.ops ≡ s.tx.ops → is_final (do_call t (Transmit o)).0 ≡ b)
unfolding do_call transmit_fault
final_is s o = (is_final (do_call s (Transmit o)).0, λ t caps av message ops. final_by _ _ _ _ t.most_tx t (transmit t o) ∙ rw (caps, av, message, ops) refl ∙ sym (final_by _ _ _ _ s.most_tx s (transmit s o)))

pub full_is : (s : State) (o : Order) → is_final (do_call s (Transmit o)).0 ≡ false → nat_le s.most_tx (in_use s.tx) ≡ true → do_call s (Transmit o) ≡ (Refused (Again (TxFull s.most_tx)), s)
unfolding do_call transmit_fault
full_is s o denied is = full_by _ _ _ _ s.most_tx s (transmit s o) (sym (final_by _ _ _ _ s.most_tx s (transmit s o)) ∙ denied) is

pub early_is : (s : State) (o : Order) (why : Fault) → do_call s (Transmit o) ≡ (Refused why, s) → is_final (Refused why) ≡ true → is_early why ≡ true
unfolding do_call transmit_fault
early_is s o why is last = early_by _ _ _ _ s.most_tx s (transmit s o) why (ap (λ x. x.0) is) last

-- ---- posts change nothing that these tests look at

pub record SameTests (s t : State) : Type 0 where
  pub caps : t.caps ≡ s.caps
  pub av : t.av ≡ s.av
  pub ops : t.tx.ops ≡ s.tx.ops
  pub most : t.most_tx ≡ s.most_tx
  pub message : t.most_message ≡ s.most_message

after_departs : (last : Bool) (h t : Held) (d place : ℕ) → Departs last h d place t → SameTests h.state t.state
after_departs true h t d place (room, is) = rw is (let k = keeps_sent h.state d in record { caps = k.caps; av = k.av; ops = sent_ops h.state d; most = k.most; message = k.message })
after_departs false h t d place is = rw is (record { caps = refl; av = refl; ops = refl; most = refl; message = refl })

pub posts_keep : (call : Option Call) (acts : List Act) (h k : Held) → AllAre is_post acts → GoesBy call h acts k → SameTests h.state k.state
posts_keep call [] h k are goes = subst (λ (x : Held). SameTests h.state x.state) goes (record { caps = refl; av = refl; ops = refl; most = refl; message = refl })
posts_keep call (Did ∷ acts) h k are goes = absurd (cc)
posts_keep call (Took source f ∷ acts) h k are goes = absurd (cc)
posts_keep call (Posted d f ∷ acts) h k are (mid, one, rest) =
    let first = after_departs (is_last f.head) h mid d (f.head.from + f.head.len) one.3 in
    let then = posts_keep call acts mid k are rest in
    record { caps = then.caps ∙ first.caps; av = then.av ∙ first.av; ops = then.ops ∙ first.ops; most = then.most ∙ first.most; message = then.message ∙ first.message }
posts_keep call (Drew ∷ acts) h k are goes = absurd (cc)
posts_keep call (Had ∷ acts) h k are goes = absurd (cc)

pub still_final : (o : Order) (acts : List Act) (h k : Held) → AllAre is_post acts → GoesBy None h acts k → is_final (do_call k.state (Transmit o)).0 ≡ is_final (do_call h.state (Transmit o)).0
still_final o acts h k are goes =
    let same = posts_keep None acts h k are goes in
    let final = final_is h.state o in
    final.1 k.state same.caps same.av same.message same.ops ∙ sym (final.1 h.state refl refl refl refl)

-- a call is part of none of these acts
pub goes_as : (call : Option Call) (acts : List Act) (h k : Held) → AllAre is_post acts → GoesBy None h acts k → GoesBy call h acts k
goes_as call [] h k are goes = goes
goes_as call (Did ∷ acts) h k are goes = absurd (cc)
goes_as call (Took source f ∷ acts) h k are goes = absurd (cc)
goes_as call (Posted d f ∷ acts) h k are (mid, one, rest) = (mid, one, goes_as call acts mid k are rest)
goes_as call (Drew ∷ acts) h k are goes = absurd (cc)
goes_as call (Had ∷ acts) h k are goes = absurd (cc)

early_not : (why : Fault) → is_early why ≡ true → why ≢ LacksMemory
early_not why early is = absurd (cc (rw is at early))

early_full : (why : Fault) (n : ℕ) → is_early why ≡ true → why ≢ Again (TxFull n)
early_full why n early is = absurd (cc (rw is at early))

not_full : (most n : ℕ) → nat_le most n ≡ false → most ≤ n → ⊥
not_full most n is full = grind (arith, nat_tests, is, full)

module _ {Home : Type 0} where
  pub went_as : (call : Option Call) (a b : Seen Home) (acts : List Act) → AllAre is_post acts → Went None a b acts → Went call a b acts
  went_as call a b acts are went = record { goes = goes_as call acts a.held b.held are went.goes; log = went.log; size = went.size; ported = went.ported }

  -- ---- the flag

  abbrev pub unpushed : Seen Home → Seen Home
  unpushed a = record a { pushed = false }

  same_as : (call : Option Call) (a : Seen Home) → Went call a (unpushed a) []
  same_as call a = went_none call a (unpushed a) refl refl refl (ported_same a.lanes a.lanes refl)

  pub from_flag : (call : Option Call) (a b : Seen Home) (acts : List Act) → Went call (unpushed a) b acts → Went call a b acts
  from_flag call a b acts went = record { goes = went.goes; log = went.log; size = went.size; ported = went.ported }

  -- ---- answers

  judged_early : (call : Call) (a e : Seen Home) (short : Type 0) (why : Fault) → is_early why ≡ true → do_call e.held.state call ≡ (Refused why, e.held.state) → Judged call a e short why
  judged_early call a e short (Again busy) early is = absurd (cc)
  judged_early call a e short LacksMemory early is = absurd (cc)
  judged_early call a e short NoData early is = absurd (cc)
  judged_early call a e short Invalid early is = is
  judged_early call a e short NoKey early is = absurd (cc)
  judged_early call a e short Range early is = absurd (cc)
  judged_early call a e short MsgSize early is = is
  judged_early call a e short NotSupported early is = is
  judged_early call a e short NoEntry early is = absurd (cc)
  judged_early call a e short Avail early is = absurd (cc)

  pub faulted : (fixed : Bool) (a : Seen Home) (o : Order) (why : Fault) → do_call a.held.state (Transmit o) ≡ (Refused why, a.held.state) → is_final (Refused why) ≡ true → SendsNot fixed (Transmit o) a (unpushed a) why
  faulted fixed a o why is last =
      let early = early_is a.held.state o why is last in
      record {
        acts = [];
        push = refl;
        went = same_as (Some (Transmit o)) a;
        pushed = refl;
        judged = judged_early (Transmit o) a (unpushed a) (IsShort a) why early is;
        early = λ e. refl;
        short = λ s. refl;
        place = λ places. places;
        ins = refl;
        next = refl;
        still = λ e. refl;
        memory = λ lacks. absurd (early_not why early lacks);
        only_if_full = λ some. absurd (some refl);
        tried = λ n full. absurd (early_full why n early full);
      }

  pub shortened : (fixed : Bool) (a : Seen Home) (o : Order) → IsShort a → is_final (do_call a.held.state (Transmit o)).0 ≡ false → SendsNot fixed (Transmit o) a (unpushed a) (Again (LogFull a.log_size))
  shortened fixed a o short granted = record {
    acts = [];
    push = refl;
    went = same_as (Some (Transmit o)) a;
    pushed = refl;
    judged = (refl, short, granted);
    early = λ e. refl;
    short = λ s. refl;
    place = λ places. places;
    ins = refl;
    next = refl;
    still = λ e. refl;
    memory = λ lacks. absurd (cc);
    only_if_full = λ some. absurd (some refl);
    tried = λ n full. absurd (cc);
  }

  pub admitted_at_once : (a : Seen Home) (o : Order) → HasPlaces a → is_final (do_call a.held.state (Transmit o)).0 ≡ false → nat_le a.held.state.most_tx (in_use a.held.state.tx) ≡ false → Admits (Transmit o) a (unpushed a)
  admitted_at_once a o places granted room = record {
    acts = [];
    push = refl;
    went = same_as None a;
    pushed = refl;
    places = places;
    left = places;
    only_if_full = λ some. absurd (some refl);
    tried = λ full. absurd (not_full _ _ room full);
    ins = refl;
    next = refl;
    granted = granted;
    room = room;
  }

  -- after the push
  pub unable : (fixed : Bool) (a b : Seen Home) (o : Order) → HasPlaces a → is_final (do_call a.held.state (Transmit o)).0 ≡ false → nat_le a.held.state.most_tx (in_use a.held.state.tx) ≡ true
      → fixed ≢ true → Pushed (unpushed a) b false → HasPlaces b → b.lanes.ins ≡ a.lanes.ins → b.next ≡ a.next → SendsNot fixed (Transmit o) a b LacksMemory
  unable fixed a b o places granted full free push left ins next = record {
    acts = push.acts;
    push = push.push;
    went = from_flag (Some (Transmit o)) a b push.acts (went_as (Some (Transmit o)) (unpushed a) b push.acts push.push push.went);
    pushed = push.pushed;
    judged = ((λ short. absurd (omega (arith, short, places))), still_final o push.acts a.held b.held push.push (let went = push.went in went.goes) ∙ granted);
    early = λ e. absurd (cc);
    short = λ s. absurd (omega (arith, s, places));
    place = λ had. left;
    ins = ins;
    next = next;
    still = λ e. elim e [ inl early ↦ absurd (cc) | inr s ↦ absurd (omega (arith, s, places)) ];
    memory = λ lacks. (not_true fixed free, is_full_by _ _ full);
    only_if_full = λ some. is_full_by _ _ full;
    tried = λ n is. absurd (cc);
  }

  -- by the answer of the push
  pub unable_as : (fixed : Bool) (a b : Seen Home) (o : Order) (r : Result (Unit {0}) NoMemory) → HasPlaces a → is_final (do_call a.held.state (Transmit o)).0 ≡ false → nat_le a.held.state.most_tx (in_use a.held.state.tx) ≡ true
      → ((u : Unit {0}) → r ≢ Ok u) → OnErr r (fixed ≢ true) → Pushes (unpushed a) b r → HasPlaces b → b.lanes.ins ≡ a.lanes.ins → b.next ≡ a.next → SendsNot fixed (Transmit o) a b LacksMemory
  unable_as fixed a b o (Ok u) places granted full other free push left ins next = absurd (other u refl)
  unable_as fixed a b o (Err why) places granted full other free push left ins next = unable fixed a b o places granted full free push left ins next

  pub still_full : (fixed : Bool) (a b : Seen Home) (o : Order) (most : ℕ) → most ≡ a.held.state.most_tx → HasPlaces a → is_final (do_call a.held.state (Transmit o)).0 ≡ false → nat_le a.held.state.most_tx (in_use a.held.state.tx) ≡ true
      → Pushed (unpushed a) b true → HasPlaces b → b.lanes.ins ≡ a.lanes.ins → b.next ≡ a.next → nat_le b.held.state.most_tx (in_use b.held.state.tx) ≡ true → SendsNot fixed (Transmit o) a b (Again (TxFull most))
  still_full fixed a b o most is_most places granted full push left ins next then_full =
      let went = push.went in
      let granted_then = still_final o push.acts a.held b.held push.push went.goes ∙ granted in
      let same = posts_keep None push.acts a.held b.held push.push went.goes in
      record {
        acts = push.acts;
        push = push.push;
        went = from_flag (Some (Transmit o)) a b push.acts (went_as (Some (Transmit o)) (unpushed a) b push.acts push.push push.went);
        pushed = push.pushed;
        judged = (full_is b.held.state o granted_then then_full ∙ ap (λ n. (Refused (Again (TxFull n)), b.held.state)) (same.most ∙ sym is_most), (λ short. absurd (omega (arith, short, places))));
        early = λ e. absurd (cc);
        short = λ s. absurd (omega (arith, s, places));
        place = λ had. left;
        ins = ins;
        next = next;
        still = λ e. elim e [ inl early ↦ absurd (cc) | inr s ↦ absurd (omega (arith, s, places)) ];
        memory = λ lacks. absurd (cc);
        only_if_full = λ some. is_full_by _ _ full;
        tried = λ n is d below. push.tried refl d below;
      }

  pub admitted : (a b : Seen Home) (o : Order) → HasPlaces a → HasPlaces b → is_final (do_call a.held.state (Transmit o)).0 ≡ false → nat_le a.held.state.most_tx (in_use a.held.state.tx) ≡ true
      → Pushed (unpushed a) b true → b.lanes.ins ≡ a.lanes.ins → b.next ≡ a.next → nat_le b.held.state.most_tx (in_use b.held.state.tx) ≡ false → Admits (Transmit o) a b
  admitted a b o places left granted full push ins next room = record {
    acts = push.acts;
    push = push.push;
    went = from_flag None a b push.acts push.went;
    pushed = push.pushed;
    places = places;
    left = left;
    only_if_full = λ some. is_full_by _ _ full;
    tried = λ is d below. push.tried refl d below;
    ins = ins;
    next = next;
    granted = still_final o push.acts a.held b.held push.push (let went = push.went in went.goes) ∙ granted;
    room = room;
  }
