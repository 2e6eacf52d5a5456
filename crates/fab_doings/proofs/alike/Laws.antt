-- The law of receives that are alike, wherever turns lead.
use Rattle.std.proofs.Common.{◌≡◌, ◌<◌, ◌+◌, ℕ, zero, suc, Bool, true, false, List, [], ◌∷◌, ◌++◌, length, slice_get, Option, Some, None, inl, inr, refl, sym, ◌∙◌, ap, subst, arith, length-append}
use Rattle.std.specs.Prelude.{slice_index, slice_set, ◌==◌}
use Rattle.std.proofs.lemmas.Bool.{eq-eqb, eqb-true}
use Rattle.std.proofs.lemmas.List.{length-take-le}
use Rattle.std.proofs.lemmas.Option.{slice_get_within}
use Rattle.fab_base.specs.declared.items.Item.{Item}
use Rattle.fab_base.specs.declared.operations.Receive.{Receive}
use Rattle.fab_model.specs.Complete.{entry_of}
use Rattle.fab_model.specs.State.{State}
use Rattle.fab_model.specs.Orders.{Leads, Turn}
use Rattle.fab_model.specs.Views.{rule, seen}
use Rattle.fab_model.proofs.Parts.{some_same}
use Rattle.fab_model.proofs.Turns.{slice_get-set_other, slice_get-set_same}
use Rattle.fab_model.proofs.Views as views
use Rattle.fab_laws.specs.Members.{Ahead, In, Never}
use Rattle.fab_laws.specs.Programs.{Deed, Opening, Peer, program}
use Rattle.fab_laws.specs.Moments.{AtEveryMoment, LeadTo, Note, noted, remembered}
use Rattle.fab_laws.specs.Claimed.{handled_of, lost}
use Rattle.fab_laws.specs.Matched.{Came, Cancelled, Event, Got, Lost, Made, Mark, Wish, made, noting, past_of}
use Rattle.fab_laws.specs.MessageLaws.{asked_by, asked_of, keeping_asked}
use Rattle.fab_laws.specs.StreamLaws.{arrived_from, arriving}
use Rattle.fab_laws.proofs.Lists.{ahead_in, in_middle, never}
use Rattle.fab_laws.proofs.matching.Orders.{got_rightly, moment_keeps, served_in_order, taken_in_order}
use Rattle.fab_laws.proofs.replies.Stray.{all_owed, peer_of}
use Rattle.fab_laws.proofs.receiving.Holding.{kept_at}
use Rattle.fab_laws.proofs.streams.Arrived.{come_at}
use Rattle.fab_laws.proofs.streams.Entries.{receives_tell}
use Rattle.fab_doings.specs.Alike.{ServesInTurn, TellsInTurn}
use Rattle.fab_doings.proofs.alike.Turn.{Watched, serves_in_turn}
use Rattle.fab_doings.proofs.alike.Watching.{Alert, alert_next}

-- ---- one turn more

-- the states before the last turn
split_leads : (t : Turn Deed) (front : List (Turn Deed)) (states last : List Peer) → Leads (rule program) states (front ++ t ∷ []) last
    → (mid : List Peer) × (b : Peer) × Leads (rule program) states front mid × (rule program mid t.peer t.step ≡ Some b) × (slice_set mid t.peer b ≡ last)
split_leads t [] states last (b, stood, is) = (states, b, refl, stood, is)
split_leads t (r ∷ front) states last (c, stood, rest) = let m = split_leads t front (slice_set states r.peer c) last rest in (m.0, m.1, (c, stood, m.2), m.3, m.4)

remembered_more :
    {M : Type 0} (note : Note M) (p : ℕ) (t : Turn Deed) (front : List (Turn Deed)) (states mid : List Peer) (b : Peer) (m : M) → Leads (rule program) states front mid → rule program mid t.peer t.step ≡ Some b
    → remembered note p (front ++ t ∷ []) states m ≡ noted note p mid t b (remembered note p front states m)
remembered_more note p t [] states mid b m leads stood =
    subst (λ (z : List Peer). remembered note p (t ∷ []) z m ≡ noted note p mid t b m) (sym leads) (ap (λ (o : Option Peer). elim o [ None ↦ m | Some d ↦ remembered note p [] (slice_set mid t.peer d) (noted note p mid t d m) ]) stood)
remembered_more note p t (r ∷ front) states mid b m (c, ruled, rest) stood =
    ap (λ (o : Option Peer). elim o [ None ↦ m | Some d ↦ remembered note p (front ++ t ∷ []) (slice_set states r.peer d) (noted note p states r d m) ]) ruled
    ∙ remembered_more note p t front (slice_set states r.peer c) mid b (noted note p states r c m) rest stood
    ∙ ap (noted note p mid t b) (sym (ap (λ (o : Option Peer). elim o [ None ↦ m | Some d ↦ remembered note p front (slice_set states r.peer d) (noted note p states r d m) ]) ruled))

noted_own : {M : Type 0} (note : Note M) (p : ℕ) (mid : List Peer) (t : Turn Deed) (b c : Peer) (m : M) → (t.peer == p) ≡ true → slice_get mid p ≡ Some c → noted note p mid t b m ≡ note (seen program mid p) c t.step b m
noted_own note p mid t b c m mine at =
    ap (λ (k : Bool). elim k [ true ↦ elim (slice_get mid p) [ None ↦ m | Some a ↦ note (seen program mid p) a t.step b m ] | false ↦ m ]) mine
    ∙ ap (λ (o : Option Peer). elim o [ None ↦ m | Some a ↦ note (seen program mid p) a t.step b m ]) at

noted_other : {M : Type 0} (note : Note M) (p : ℕ) (mid : List Peer) (t : Turn Deed) (b : Peer) (m : M) → (t.peer == p) ≡ false → noted note p mid t b m ≡ m
noted_other note p mid t b m other = ap (λ (k : Bool). elim k [ true ↦ elim (slice_get mid p) [ None ↦ m | Some a ↦ note (seen program mid p) a t.step b m ] | false ↦ m ]) other

last_of : (t : Turn Deed) (ts : List (Turn Deed)) → (front : List (Turn Deed)) × (last : Turn Deed) × (t ∷ ts ≡ front ++ last ∷ [])
last_of t [] = ([], t, refl)
last_of t (u ∷ ts) = let l = last_of u ts in (t ∷ l.0, l.1, ap (λ us. t ∷ us) l.2)

-- ---- wherever turns lead

module _ (from : Opening) (p source : ℕ) where
  abbrev AlertAt : List (Turn Deed) → State → Type 0
  AlertAt turns s = Alert source (arrived_from from.peers turns p source) (past_of from.peers turns p) (asked_of from.peers turns p) s

  moved : (xs ys : List Item) (es fs : List Event) (m k : List Receive) (s : State) → xs ≡ ys → es ≡ fs → m ≡ k → Alert source xs es m s → Alert source ys fs k s
  moved xs ys es fs m k s a b c alert = subst (λ z. Alert source z fs k s) a (subst (λ z. Alert source xs z k s) b (subst (λ z. Alert source xs es z s) c alert))

  module _ (front : List (Turn Deed)) (t : Turn Deed) (mid states : List Peer) (b : Peer) (led : LeadTo from front mid) (stood : rule program mid t.peer t.step ≡ Some b) (is : slice_set mid t.peer b ≡ states) (leads : LeadTo from (front ++ t ∷ []) states)
      (before : (c : Peer) → slice_get mid p ≡ Some c → AlertAt front c.state) (a : Peer) (here : slice_get states p ≡ Some a) where
    another : (t.peer == p) ≡ false → AlertAt (front ++ t ∷ []) a.state
    another e =
        let differ : t.peer ≡ p → Never = λ same. absurd (let yes : (t.peer == p) ≡ true = eq-eqb t.peer p same in cc (e, yes)) in
        let same : slice_get mid p ≡ Some a = sym (slice_get-set_other mid t.peer p b (λ z. never (differ z))) ∙ ap (λ ss. slice_get ss p) is ∙ here in
        moved _ _ _ _ _ _ a.state
        (sym (remembered_more (arriving source) p t front from.peers mid b [] led stood ∙ noted_other (arriving source) p mid t b _ e))
        (sym (remembered_more noting p t front from.peers mid b [] led stood ∙ noted_other noting p mid t b _ e))
        (sym (remembered_more keeping_asked p t front from.peers mid b [] led stood ∙ noted_other keeping_asked p mid t b _ e)) (before a same)

    own : (t.peer == p) ≡ true → AlertAt (front ++ t ∷ []) a.state
    own e =
        let same : t.peer ≡ p = eqb-true t.peer p e in
        let ruled : rule program mid p t.step ≡ Some b = subst (λ k. rule program mid k t.step ≡ Some b) same stood in
        let at = views.rule_is program mid p t.step b ruled in
        let now : slice_get states p ≡ Some b = ap (λ ss. slice_get ss p) (sym is ∙ ap (λ k. slice_set mid k b) same) ∙ slice_get-set_same mid p b (slice_get_within mid p at.0 at.1) in
        let it : b ≡ a = some_same b a (sym now ∙ here) in
        let v = seen program mid p in
        let asked : asked_of from.peers (front ++ t ∷ []) p ≡ asked_by at.0 t.step b ++ asked_of from.peers front p = remembered_more keeping_asked p t front from.peers mid b [] led stood ∙ noted_own keeping_asked p mid t b at.0 _ e at.1 in
        let come = come_at from front mid led p source at.0 at.1 in
        subst (λ (z : Peer). AlertAt (front ++ t ∷ []) z.state) it
        (moved _ _ _ _ _ _ b.state
        (sym (remembered_more (arriving source) p t front from.peers mid b [] led stood ∙ noted_own (arriving source) p mid t b at.0 _ e at.1))
        (sym (remembered_more noting p t front from.peers mid b [] led stood ∙ noted_own noting p mid t b at.0 _ e at.1)) (sym asked)
        (alert_next (length from.peers) source v (past_of from.peers front p) (asked_of from.peers front p) (handled_of from.peers front p) (arrived_from from.peers front p source) at.0 b t.step (kept_at from front mid led p at.0 at.1)
        (peer_of (length from.peers) mid (all_owed from front mid led) p at.0 at.1) at.2 (ap length come.0 ∙ length-take-le (slice_index (at.0).state.rx.heads source) (v.ready source) come.1) (got_rightly from front mid led p at.0 at.1)
        (subst (λ (ms : List Receive). (f g : Receive) → In f ms → In g ms → f.call ≡ g.call → f ≡ g) asked (kept_at from (front ++ t ∷ []) states leads p b now).told.one) (before at.0 at.1)))

    turned : AlertAt (front ++ t ∷ []) a.state
    turned = go (t.peer == p) refl
      where
        go : (k : Bool) → (t.peer == p) ≡ k → AlertAt (front ++ t ∷ []) a.state
        go true e = own e
        go false e = another e

  alert_for : (n : ℕ) (turns : List (Turn Deed)) (states : List Peer) → length turns < n → LeadTo from turns states → (a : Peer) → slice_get states p ≡ Some a → AlertAt turns a.state
  alert_for zero turns states less leads a here = absurd (omega (arith, less))
  alert_for (suc n) [] states less leads a here = record {
    order = λ x y ahead s. never ahead;
    all = λ j item at message. absurd (cc (at));
    off = λ f x l i none got q there e. never i;
    once = λ f x y k l i none got again. never i;
  }
  alert_for (suc n) (t ∷ ts) states less leads a here =
      let l = last_of t ts in
      let led : LeadTo from (l.0 ++ l.1 ∷ []) states = subst (λ us. LeadTo from us states) l.2 leads in
      let s = split_leads l.1 l.0 from.peers states led in
      let short : length l.0 < n = (let long : suc (length ts) ≡ length l.0 + 1 = ap length l.2 ∙ length-append l.0 (l.1 ∷ []) in omega (arith, less, long)) in
      subst (λ us. AlertAt us a.state) (sym l.2) (turned l.0 l.1 s.0 states s.1 s.2 s.3 s.4 led (λ c at. alert_for n l.0 s.0 short s.2 c at) a here)

-- ---- the laws

is_lost : (x : Mark) (es : List Event) → In (Lost x) es → In x (lost es)
is_lost x [] i = never i
is_lost x (Came m ∷ es) (inl e) = absurd (cc (e))
is_lost x (Came m ∷ es) (inr i) = is_lost x es i
is_lost x (Made w ∷ es) (inl e) = absurd (cc (e))
is_lost x (Made w ∷ es) (inr i) = is_lost x es i
is_lost x (Got d m l ∷ es) (inl e) = absurd (cc (e))
is_lost x (Got d m l ∷ es) (inr i) = is_lost x es i
is_lost x (Lost m ∷ es) (inl e) = inl (let f : x ≡ m = cc (e) in f)
is_lost x (Lost m ∷ es) (inr i) = inr (is_lost x es i)
is_lost x (Cancelled d ∷ es) (inl e) = absurd (cc (e))
is_lost x (Cancelled d ∷ es) (inr i) = is_lost x es i

apart_of : AtEveryMoment (λ from turns states p a. (w u : Wish) → Ahead w u (made (past_of from turns p)) → w.call ≡ u.call → Never)
apart_of from turns states leads p a here w u ahead e =
    let holds = (moment_keeps from turns states leads p a here).holds in
    let both = ahead_in w u (made (past_of from.peers turns p)) ahead in
    let same : w ≡ u = holds.same_calls w u both.0 both.1 e in
    let twice : Ahead w w (made (past_of from.peers turns p)) = subst (λ z. Ahead w z (made (past_of from.peers turns p))) (sym same) ahead in
    holds.made_once w w twice twice

pub served_in_turn : AtEveryMoment (λ from turns states p a. ServesInTurn (arrived_from from turns p) (past_of from turns p) (asked_of from turns p))
served_in_turn from turns states leads p a here source alike newer older f x last is got =
    let alert = alert_for from p source (suc (length turns)) turns states (omega arith) leads a here in
    let holds = (moment_keeps from turns states leads p a here).holds in
    let come = come_at from turns states leads p source a here in
    let long : length (arrived_from from.peers turns p source) ≡ slice_index a.state.rx.heads source = ap length come.0 ∙ length-take-le (slice_index a.state.rx.heads source) ((seen program states p).ready source) come.1 in
    let watched : Watched source (arrived_from from.peers turns p source) (past_of from.peers turns p) (asked_of from.peers turns p) = record {
      order = alert.order;
      all = alert.all;
      within = λ y i s. (let lt : y.place < slice_index a.state.rx.heads source = subst (λ k. y.place < slice_index a.state.rx.heads k) s (holds.fresh_marks y i) in omega (arith, lt, long));
      once = alert.once;
      apart = λ w u ahead e. apart_of from turns states leads p a here w u ahead e;
    } in
    serves_in_turn source (arrived_from from.peers turns p source) (past_of from.peers turns p) (asked_of from.peers turns p) (served_in_order from turns states leads p a here) (taken_in_order from turns states leads p a here) (got_rightly from turns states leads p a here) watched alike newer older f x last is got

pub told_in_turn : AtEveryMoment (λ from turns states p a. TellsInTurn (arrived_from from turns p) (past_of from turns p) (asked_of from turns p) states p a)
told_in_turn from turns states leads p a here source alike newer older f w is there call tells =
    let i : In f (asked_of from.peers turns p) = subst (In f) (sym is) (in_middle f newer older) in
    let told = receives_tell from turns states leads p a here f w i (alike.single f i) there call tells in
    elim told.5 [
      | inl got ↦ (
          let turn = served_in_turn from turns states leads p a here source alike newer older f _ got.0 is got.1 in
          let at : slice_get ((seen program states p).ready source) (length older) ≡ Some told.2 = subst (λ k. slice_get ((seen program states p).ready k) (length older) ≡ Some told.2) turn.0 (subst (λ j. slice_get ((seen program states p).ready told.0) j ≡ Some told.2) turn.1 told.3) in
          let under : length older < slice_index a.state.rx.tails source = subst (λ k. length older < slice_index a.state.rx.tails k) turn.0 (subst (λ j. j < slice_index a.state.rx.tails told.0) turn.1 told.4) in
          (told.2, at, under, told.6 ∙ ap (λ k. entry_of f 0 k (told.2).head (told.2).bytes) turn.0))
      | inr thrown ↦ never (subst (In _) alike.none_lost (is_lost _ (past_of from.peers turns p) thrown.0))
    ]
