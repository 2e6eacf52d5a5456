-- What the own part of a thread's record says of the receives that its endpoint was asked for, and of what it sent.
use Rattle.std.proofs.Common.{◌≡◌, ◌+◌, ℕ, Bool, true, false, List, [], ◌∷◌, ◌++◌, map, reverse, Option, None, Some, inl, inr, refl, sym, ap, ap₂, ◌∙◌, subst, arith, append-nil, append_assoc}
use Rattle.std.specs.Prelude.{nat_lt, ◌==◌}
use Rattle.std.proofs.lemmas.Bool.{lt-ltb}
use Rattle.std.proofs.lemmas.List.{map-append, reverse-append}
use Rattle.fab_base.specs.declared.caps.Caps.{Caps}
use Rattle.fab_base.specs.declared.items.Item.{Item}
use Rattle.fab_base.specs.declared.items.ItemHead.{ItemHead}
use Rattle.fab_base.specs.declared.items.Want.{Want}
use Rattle.fab_base.specs.declared.operations.Receive.{Receive}
use Rattle.fab_base.specs.declared.peers.LineResult.TheVariants.{Done}
use Rattle.fab_link.specs.Joined.{grown, is_last}
use Rattle.fab_model.specs.Calls.{Call, Transmit, Post, Look, TakeClaimed, DropClaimed, Cancel, CancelFirst, Insert, Remove, Reg, Close, Put, Show, Count, answer, do_call}
use Rattle.fab_model.specs.Receiving.{Posting, post, post_fault, receive_of}
use Rattle.fab_model.specs.Sending.{Order, head_of, item_of, operation_of, transmit, transmit_to}
use Rattle.fab_model.specs.State.{State, lookup}
use Rattle.fab_model.proofs.Answering.{done_by as call_done, is_transmitted as transmitted}
use Rattle.fab_face.specs.Held.{Held, begun_of}
use Rattle.fab_face.specs.Acts.{Departs, Ends, headed, is_first, only}
use Rattle.fab_laws.specs.Completed.{Accepted, Receives, Sends, accepts}
use Rattle.fab_laws.specs.Members.{In}
use Rattle.fab_laws.specs.MessageLaws.{asked_by}
use Rattle.fab_laws.specs.Programs.{Counts, Deed, Draw, Head, Makes, Peer, Tail, peer}
use Rattle.fab_laws.specs.Recorded.{recall}
use Rattle.fab_laws.specs.StreamLaws.{posted_for}
use Rattle.fab_laws.proofs.Lists.{never}
use Rattle.fab_laws.proofs.fences.Numbers.{post_calls}
use Rattle.fab_doings.specs.Doings.{Calls, Did, Does, DoesBy, Doing, Drew, Had, Living, Posted, Took, Writes, deeds_by, deeds_of, own_by, own_of}
use Rattle.fab_doings.specs.Heard.{IsSimple, is_simple, order_by, orders_to, posting_by, postings, want_at}
use Rattle.fab_doings.proofs.Fixed.{Fixed, draw_fixed, head_fixed, post_fixed, sent_fixed, still, tail_fixed, then, transmit_fixed}

abbrev pub asking : Peer → Deed → Peer → List Receive → List Receive
asking a x b m = asked_by a x b ++ m

abbrev pub accepting : Peer → Deed → Peer → List Accepted → List Accepted
accepting a x b m = accepts a x b ++ m

-- what an application gives a receive, and what a message is but for its number
pub record Shown : Type 0 where
  pub want : Want
  pub buf : List ℕ
  pub ctx : ℕ
  pub least : Option ℕ

abbrev pub shown : Receive → Shown
shown r = record { want = r.want; buf = r.buf; ctx = r.ctx; least = r.least }

abbrev pub shown_post : State → Posting → Shown
shown_post s q = record { want = want_at s q; buf = q.buf; ctx = q.ctx; least = q.least }

abbrev pub plain_item : Item → ItemHead × List ℕ
plain_item x = (record x.head { op = 0 }, x.bytes)

abbrev pub plain_order : Order → ItemHead × List ℕ
plain_order o = (head_of 0 o, o.bytes ++ o.compared)

-- ---- the states that a doing adds

abbrev more_of : Living → Doing → Living → List State
more_of p (Did own) q = q.held.state ∷ []
more_of p (Had entry) q = q.held.state ∷ []
more_of p (Took source f) q = only (is_first f) (headed (is_first f) p.held.state source f.head.item) ++ only (is_last f.head) q.held.state
more_of p (Posted dest f) q = only (is_last f.head) q.held.state
more_of p Drew q = q.held.state ∷ []

added : (p q : Living) (x : Doing) → Does p x q → q.past ≡ p.past ++ more_of p x q
added p q (Did own) does = does.0.1
added p q (Had entry) does = does.0.4
added p q (Took source f) does = does.1
added p q (Posted dest f) does = does.1
added p q Drew does = does.1

-- a deed of which the note tells nothing
abbrev is_silent : Deed → Bool
is_silent (Makes call) = false
is_silent (Counts counters) = false
is_silent (Head s) = true
is_silent (Tail s) = true
is_silent (Deed.Sent t) = true
is_silent Draw = true
is_silent Deed.Read = true

abbrev is_own : Doing → Bool
is_own (Did own) = true
is_own (Had entry) = false
is_own (Took source f) = false
is_own (Posted dest f) = false
is_own Drew = false

module _ {M : Type 0} (f : Peer → Deed → Peer → M → M) (quiet : (a b : Peer) (x : Deed) (m : M) → is_silent x ≡ true → f a x b m ≡ m) where
  -- a deed with its state
  one_silent : (s u : State) (x : Deed) (ds : List Deed) (us : List State) (m : M) → is_silent x ≡ true → recall f s (x ∷ ds) (u ∷ us) m ≡ recall f u ds us m
  one_silent s u x ds us m e = ap (recall f u ds us) (quiet (peer s) (peer u) x m e)

  took : (s t u : State) (source : ℕ) (b c : Bool) (ds : List Deed) (us : List State) (m : M) → (b ≡ false → t ≡ s) → (c ≡ false → u ≡ t)
      → recall f s ((only b (Head source) ++ only c (Tail source)) ++ ds) ((only b t ++ only c u) ++ us) m ≡ recall f u ds us m
  took s t u source true true ds us m e g = one_silent s t (Head source) (Tail source ∷ ds) (u ∷ us) m refl ∙ one_silent t u (Tail source) ds us m refl
  took s t u source true false ds us m e g = one_silent s t (Head source) ds us m refl ∙ ap (λ z. recall f z ds us m) (sym (g refl))
  took s t u source false true ds us m e g = one_silent s u (Tail source) ds us m refl
  took s t u source false false ds us m e g = ap (λ z. recall f z ds us m) (sym (g refl ∙ e refl))

  let_go : (s u : State) (dest : ℕ) (c : Bool) (ds : List Deed) (us : List State) (m : M) → (c ≡ false → u ≡ s) → recall f s (only c (Deed.Sent dest) ++ ds) (only c u ++ us) m ≡ recall f u ds us m
  let_go s u dest true ds us m g = one_silent s u (Deed.Sent dest) ds us m refl
  let_go s u dest false ds us m g = ap (λ z. recall f z ds us m) (sym (g refl))

  ends_same : (last : Bool) (h : Held) (s : State) (source : ℕ) (item : Item) (t : Held) → Ends last h s source item t → last ≡ false → t.state ≡ s
  ends_same true h s source item t ends e = absurd (cc (e))
  ends_same false h s source item t ends e = ap (λ (x : Held). x.state) ends

  departs_same : (last : Bool) (h : Held) (dest place : ℕ) (t : Held) → Departs last h dest place t → last ≡ false → t.state ≡ h.state
  departs_same true h dest place t departs e = absurd (cc (e))
  departs_same false h dest place t departs e = ap (λ (x : Held). x.state) departs

  headed_same : (b : Bool) (s : State) (source : ℕ) (head : ItemHead) → b ≡ false → headed b s source head ≡ s
  headed_same true s source head e = absurd (cc (e))
  headed_same false s source head e = refl

  silently : (p q : Living) (x : Doing) (ds : List Deed) (us : List State) (m : M) → Does p x q → is_own x ≡ false → recall f p.held.state (deeds_by x ++ ds) (more_of p x q ++ us) m ≡ recall f q.held.state ds us m
  silently p q (Did own) ds us m does e = absurd (cc (e))
  silently p q (Had entry) ds us m does e = one_silent p.held.state q.held.state Deed.Read ds us m refl
  silently p q Drew ds us m does e = one_silent p.held.state q.held.state Draw ds us m refl
  silently p q (Took source g) ds us m does e =
      took p.held.state (headed (is_first g) p.held.state source g.head.item) q.held.state source (is_first g) (is_last g.head) ds us m (headed_same (is_first g) p.held.state source g.head.item)
      (ends_same (is_last g.head) p.held (headed (is_first g) p.held.state source g.head.item) source (grown (begun_of p.held source) g) q.held does.0.3)
  silently p q (Posted dest g) ds us m does e = let_go p.held.state q.held.state dest (is_last g.head) ds us m (departs_same (is_last g.head) p.held dest (g.head.from + g.head.len) q.held does.0.3)

-- ---- what stays

headed_fixed : (b : Bool) (s : State) (source : ℕ) (head : ItemHead) → Fixed s (headed b s source head)
headed_fixed true s source head = head_fixed s source head
headed_fixed false s source head = still s

ends_fixed : (last : Bool) (h : Held) (s : State) (source : ℕ) (item : Item) (t : Held) → Ends last h s source item t → Fixed s t.state
ends_fixed true h s source item t ends = subst (Fixed s) (ap (λ (x : Held). x.state) (sym ends.2)) (tail_fixed s source item.head item.bytes)
ends_fixed false h s source item t ends = subst (Fixed s) (ap (λ (x : Held). x.state) (sym ends)) (still s)

departs_fixed : (last : Bool) (h : Held) (dest place : ℕ) (t : Held) → Departs last h dest place t → Fixed h.state t.state
departs_fixed true h dest place t departs = subst (Fixed h.state) (ap (λ (x : Held). x.state) (sym departs.1)) (sent_fixed h.state dest)
departs_fixed false h dest place t departs = subst (Fixed h.state) (ap (λ (x : Held). x.state) (sym departs)) (still h.state)

posted : (s u : State) (q : Posting) → do_call s (Post q) ≡ (Done, u) → u ≡ post s q
unfolding do_call
posted s u q e = call_done (post_fault s q) s (post s q) u e

-- ---- one call of the thread's own

-- what the note of receives, and that of operations, tell of it
record Told (s0 : State) (d : ℕ) (s u : State) (c : Call) : Type 0 where
  fixed : Fixed s u
  new : List Receive
  asks : asked_by (peer s) (Makes (Some c)) (peer u) ≡ new
  few : reverse new ≡ new
  shows : map shown new ≡ map (shown_post s0) (posting_by c)
  items : List Item
  sends : (m : List Accepted) → posted_for d (accepts (peer s) (Makes (Some c)) (peer u) ++ m) ≡ posted_for d m ++ items
  are : map plain_item items ≡ map plain_order (order_by s0 d c)

none_either : {X : Type 0} (t : Bool) → (let xs : List X = elim t [ true ↦ [] | false ↦ [] ] in xs) ≡ []
none_either true = refl
none_either false = refl

transmit_told : (s0 : State) (d : ℕ) (s u : State) (o : Order) → Fixed s0 s → u ≡ transmit s o → Told s0 d s u (Transmit o)
unfolding transmit transmit_to
transmit_told s0 d s u o same is = by_peer (lookup s.av o.dest) refl
  where
    av : lookup s0.av o.dest ≡ lookup s.av o.dest
    av = ap (λ xs. lookup xs o.dest) (sym same.av)

    by_peer : (t : Option ℕ) → lookup s.av o.dest ≡ t → Told s0 d s u (Transmit o)
    by_peer None e = record {
      fixed = subst (Fixed s) (sym is) (transmit_fixed s o);
      new = [];
      asks = none_either (nat_lt s.calls u.calls);
      few = refl;
      shows = refl;
      items = [];
      sends = λ m. ap (λ (xs : List Accepted). posted_for d (xs ++ m)) (ap (λ (t : Option ℕ). let xs : List Accepted = elim (nat_lt s.calls u.calls) [ true ↦ elim t [ None ↦ [] | Some t ↦ Sends t (operation_of s o) ∷ [] ] | false ↦ [] ] in xs) e ∙ none_either (nat_lt s.calls u.calls)) ∙ sym (append-nil (posted_for d m));
      are = sym (ap (λ (t : Option ℕ). let os : List Order = elim t [ None ↦ [] | Some t ↦ elim (t == d) [ true ↦ o ∷ [] | false ↦ [] ] ] in map plain_order os) (av ∙ e));
    }
    by_peer (Some t) e =
        let u_is : u ≡ transmit_to t s o = is ∙ ap (λ (z : Option ℕ). let v : State = elim z [ None ↦ s | Some t ↦ transmit_to t s o ] in v) e in
        let calls : u.calls ≡ s.calls + 1 = ap (λ (v : State). v.calls) u_is in
        let accepted : accepts (peer s) (Makes (Some (Transmit o))) (peer u) ≡ Sends t (operation_of s o) ∷ [] =
        ap (λ (z : Bool). let xs : List Accepted = elim z [ true ↦ elim (lookup s.av o.dest) [ None ↦ [] | Some t ↦ Sends t (operation_of s o) ∷ [] ] | false ↦ [] ] in xs) (lt-ltb s.calls u.calls (omega (arith, calls)))
        ∙ ap (λ (z : Option ℕ). let xs : List Accepted = elim z [ None ↦ [] | Some t ↦ Sends t (operation_of s o) ∷ [] ] in xs) e in
        record {
          fixed = subst (Fixed s) (sym is) (transmit_fixed s o);
          new = [];
          asks = none_either (nat_lt s.calls u.calls);
          few = refl;
          shows = refl;
          items = elim (t == d) [ true ↦ item_of s.tx.ops o ∷ [] | false ↦ [] ];
          sends = λ m. ap (λ (xs : List Accepted). posted_for d (xs ++ m)) accepted ∙ mine (t == d) m;
          are = same_item (t == d) ∙ sym (ap (λ (t : Option ℕ). let os : List Order = elim t [ None ↦ [] | Some t ↦ elim (t == d) [ true ↦ o ∷ [] | false ↦ [] ] ] in map plain_order os) (av ∙ e));
        }
      where
        mine : (b : Bool) (m : List Accepted) → (let xs : List Item = elim b [ true ↦ posted_for d m ++ item_of s.tx.ops o ∷ [] | false ↦ posted_for d m ] in xs) ≡ posted_for d m ++ elim b [ true ↦ item_of s.tx.ops o ∷ [] | false ↦ [] ]
        mine true m = refl
        mine false m = sym (append-nil (posted_for d m))

        same_item : (b : Bool) → map plain_item (elim b [ true ↦ item_of s.tx.ops o ∷ [] | false ↦ [] ]) ≡ map plain_order (elim b [ true ↦ o ∷ [] | false ↦ [] ])
        same_item true = refl
        same_item false = refl

post_told : (s0 : State) (d : ℕ) (s u : State) (q : Posting) → Fixed s0 s → u ≡ post s q → Told s0 d s u (Post q)
post_told s0 d s u q same is = record {
  fixed = subst (Fixed s) (sym is) (post_fixed s q);
  new = receive_of s q ∷ [];
  asks = ap (λ (t : Bool). let xs : List Receive = elim t [ true ↦ receive_of s q ∷ [] | false ↦ [] ] in xs) (lt-ltb s.calls u.calls (omega (arith, calls)));
  few = refl;
  shows = ap (λ (w : Want). let x : Shown = record { want = w; buf = q.buf; ctx = q.ctx; least = q.least } in x ∷ []) want;
  items = [];
  sends = λ m. none_sent (nat_lt s.calls u.calls) m ∙ sym (append-nil (posted_for d m));
  are = refl;
}
  where
    calls : u.calls ≡ s.calls + 1
    calls = ap (λ (v : State). v.calls) is ∙ post_calls s q

    want : want_at s q ≡ want_at s0 q
    want = ap₂ (λ (b : Bool) (xs : List (Option ℕ)). let w : Want = record { tagged = q.tagged; tag = q.tag; ignore = q.ignore; source = elim q.source [ None ↦ None | Some index ↦ elim b [ true ↦ lookup xs index | false ↦ None ] ] } in w) (ap (λ (c : Caps). c.directed_recv) same.caps) same.av

    none_sent : (t : Bool) (m : List Accepted) → posted_for d ((let xs : List Accepted = elim t [ true ↦ Receives s.calls ∷ [] | false ↦ [] ] in xs) ++ m) ≡ posted_for d m
    none_sent true m = refl
    none_sent false m = refl

call_told : (s0 : State) (d : ℕ) (s u : State) (c : Call) → Fixed s0 s → is_simple c ≡ true → do_call s c ≡ (Done, u) → Told s0 d s u c
call_told s0 d s u (Transmit o) same simple e = transmit_told s0 d s u o same (transmitted s u o e)
call_told s0 d s u (Post q) same simple e = post_told s0 d s u q same (posted s u q e)
call_told s0 d s u (Look how source tag ignore ctx) same simple e = absurd (cc (simple))
call_told s0 d s u (TakeClaimed buf ctx) same simple e = absurd (cc (simple))
call_told s0 d s u (DropClaimed ctx) same simple e = absurd (cc (simple))
call_told s0 d s u (Cancel ctx) same simple e = absurd (cc (simple))
call_told s0 d s u CancelFirst same simple e = absurd (cc (simple))
call_told s0 d s u (Insert name) same simple e = absurd (cc (simple))
call_told s0 d s u (Remove index) same simple e = absurd (cc (simple))
call_told s0 d s u (Reg key access bytes) same simple e = absurd (cc (simple))
call_told s0 d s u (Close key) same simple e = absurd (cc (simple))
call_told s0 d s u (Put key at bytes) same simple e = absurd (cc (simple))
call_told s0 d s u (Show key) same simple e = absurd (cc (simple))
call_told s0 d s u (Count class) same simple e = absurd (cc (simple))

-- ---- all of a record

asking_quiet : (a b : Peer) (x : Deed) (m : List Receive) → is_silent x ≡ true → asking a x b m ≡ m
asking_quiet a b (Makes call) m e = absurd (cc (e))
asking_quiet a b (Counts counters) m e = absurd (cc (e))
asking_quiet a b (Head s) m e = refl
asking_quiet a b (Tail s) m e = refl
asking_quiet a b (Deed.Sent t) m e = refl
asking_quiet a b Draw m e = refl
asking_quiet a b Deed.Read m e = refl

accepting_quiet : (a b : Peer) (x : Deed) (m : List Accepted) → is_silent x ≡ true → accepting a x b m ≡ m
accepting_quiet a b (Makes call) m e = absurd (cc (e))
accepting_quiet a b (Counts counters) m e = absurd (cc (e))
accepting_quiet a b (Head s) m e = refl
accepting_quiet a b (Tail s) m e = refl
accepting_quiet a b (Deed.Sent t) m e = refl
accepting_quiet a b Draw m e = refl
accepting_quiet a b Deed.Read m e = refl

pub record Walked (s0 : State) (d : ℕ) (p q : Living) (xs : List Doing) : Type 0 where
  pub grew : List State
  pub past : q.past ≡ p.past ++ grew
  pub fixed : Fixed s0 q.held.state
  pub receives : List Receive
  pub asked : (m : List Receive) → reverse (recall asking p.held.state (deeds_of xs) grew m) ≡ reverse m ++ receives
  pub shows : map shown receives ≡ map (shown_post s0) (postings (own_of xs))
  pub items : List Item
  pub accepted : (m : List Accepted) → posted_for d (recall accepting p.held.state (deeds_of xs) grew m) ≡ posted_for d m ++ items
  pub are : map plain_item items ≡ map plain_order (orders_to s0 d (own_of xs))

silent_fixed : (p q : Living) (x : Doing) → Does p x q → is_own x ≡ false → Fixed p.held.state q.held.state
silent_fixed p q (Did own) does e = absurd (cc (e))
silent_fixed p q (Had entry) does e = subst (Fixed p.held.state) (sym does.0.3) (record { caps = refl; av = refl })
silent_fixed p q (Took source f) does e =
    let h : State = headed (is_first f) p.held.state source f.head.item in
    then p.held.state h q.held.state (headed_fixed (is_first f) p.held.state source f.head.item) (ends_fixed (is_last f.head) p.held h source (grown (begun_of p.held source) f) q.held does.0.3)
silent_fixed p q (Posted dest f) does e = departs_fixed (is_last f.head) p.held dest (f.head.from + f.head.len) q.held does.0.3
silent_fixed p q Drew does e = subst (Fixed p.held.state) (ap (λ (x : Held). x.state) (sym does.0.2)) (draw_fixed p.held.state)

-- what such a doing is of the thread's own
silent_part : (x : Doing) → is_own x ≡ false → (own : List Doing) → (postings (own_by x ++ own) ≡ postings own) × ((s0 : State) (d : ℕ) → orders_to s0 d (own_by x ++ own) ≡ orders_to s0 d own)
silent_part (Did o) e own = absurd (cc (e))
silent_part (Had entry) e own = (refl, λ s0 d. refl)
silent_part (Took source f) e own = (refl, λ s0 d. refl)
silent_part (Posted dest f) e own = (refl, λ s0 d. refl)
silent_part Drew e own = (refl, λ s0 d. refl)

module _ (s0 : State) (d : ℕ) (p mid q : Living) (xs : List Doing) where
  step_silent : (x : Doing) → Does p x mid → is_own x ≡ false → Walked s0 d mid q xs → Walked s0 d p q (x ∷ xs)
  step_silent x does e w =
      let part = silent_part x e (own_of xs) in
      record {
        grew = more_of p x mid ++ w.grew;
        past = w.past ∙ ap (λ us. us ++ w.grew) (added p mid x does) ∙ append_assoc p.past (more_of p x mid) w.grew;
        fixed = w.fixed;
        receives = w.receives;
        asked = λ m. ap reverse (silently asking asking_quiet p mid x (deeds_of xs) w.grew m does e) ∙ w.asked m;
        shows = w.shows ∙ ap (map (shown_post s0)) (sym part.0);
        items = w.items;
        accepted = λ m. ap (posted_for d) (silently accepting accepting_quiet p mid x (deeds_of xs) w.grew m does e) ∙ w.accepted m;
        are = w.are ∙ ap (map plain_order) (sym (part.1 s0 d));
      }

  step_call : (c : Call) → Does p (Did (Calls c Done)) mid → Told s0 d p.held.state mid.held.state c → Walked s0 d mid q xs → Walked s0 d p q (Did (Calls c Done) ∷ xs)
  step_call c does t w = record {
    grew = mid.held.state ∷ w.grew;
    past = w.past ∙ ap (λ us. us ++ w.grew) (added p mid (Did (Calls c Done)) does) ∙ append_assoc p.past (mid.held.state ∷ []) w.grew;
    fixed = w.fixed;
    receives = t.new ++ w.receives;
    asked = λ m. w.asked (asked_by (peer p.held.state) (Makes (Some c)) (peer mid.held.state) ++ m) ∙ ap (λ (new : List Receive). reverse (new ++ m) ++ w.receives) t.asks ∙ ap (λ ys. ys ++ w.receives) (reverse-append t.new m) ∙ ap (λ ys. (reverse m ++ ys) ++ w.receives) t.few ∙ append_assoc (reverse m) t.new w.receives;
    shows = map-append shown t.new w.receives ∙ ap₂ (λ (cs : List Shown) (bs : List Shown). cs ++ bs) t.shows w.shows ∙ sym (map-append (shown_post s0) (posting_by c) (postings (own_of xs)));
    items = t.items ++ w.items;
    accepted = λ m. w.accepted (accepts (peer p.held.state) (Makes (Some c)) (peer mid.held.state) ++ m) ∙ ap (λ ys. ys ++ w.items) (t.sends m) ∙ append_assoc (posted_for d m) t.items w.items;
    are = map-append plain_item t.items w.items ∙ ap₂ (λ (cs : List (ItemHead × List ℕ)) (bs : List (ItemHead × List ℕ)). cs ++ bs) t.are w.are ∙ sym (map-append plain_order (order_by s0 d c) (orders_to s0 d (own_of xs)));
  }

pub walk : (s0 : State) (d : ℕ) (p q : Living) (xs : List Doing) → DoesBy p xs q → ((z : Doing) → In z (own_of xs) → IsSimple z) → Fixed s0 p.held.state → Walked s0 d p q xs
walk s0 d p q [] does simple same = record {
  grew = [];
  past = ap (λ (z : Living). z.past) (sym does) ∙ sym (append-nil p.past);
  fixed = subst (λ (z : Living). Fixed s0 z.held.state) does same;
  receives = [];
  asked = λ m. sym (append-nil (reverse m));
  shows = refl;
  items = [];
  accepted = λ m. sym (append-nil (posted_for d m));
  are = refl;
}
walk s0 d p q (Did (Calls c answer) ∷ xs) (mid, one, rest) simple same =
    let k = simple (Did (Calls c answer)) (inl refl) in
    let did : do_call p.held.state c ≡ (Done, mid.held.state) = one.0.0 ∙ ap (λ a. (a, mid.held.state)) k.1 in
    let t = call_told s0 d p.held.state mid.held.state c same k.0 did in
    subst (λ a. Walked s0 d p q (Did (Calls c a) ∷ xs)) (sym k.1)
    (step_call s0 d p mid q xs c (subst (λ a. Does p (Did (Calls c a)) mid) k.1 one) t (walk s0 d mid q xs rest (λ z i. simple z (inr i)) (then s0 p.held.state mid.held.state same t.fixed)))
walk s0 d p q (Did (Writes counters) ∷ xs) (mid, one, rest) simple same = never (simple (Did (Writes counters)) (inl refl))
walk s0 d p q (Had entry ∷ xs) (mid, one, rest) simple same = step_silent s0 d p mid q xs (Had entry) one refl (walk s0 d mid q xs rest (λ z i. simple z (inr i)) (then s0 p.held.state mid.held.state same (silent_fixed p mid (Had entry) one refl)))
walk s0 d p q (Took source f ∷ xs) (mid, one, rest) simple same = step_silent s0 d p mid q xs (Took source f) one refl (walk s0 d mid q xs rest simple (then s0 p.held.state mid.held.state same (silent_fixed p mid (Took source f) one refl)))
walk s0 d p q (Posted dest f ∷ xs) (mid, one, rest) simple same = step_silent s0 d p mid q xs (Posted dest f) one refl (walk s0 d mid q xs rest simple (then s0 p.held.state mid.held.state same (silent_fixed p mid (Posted dest f) one refl)))
walk s0 d p q (Drew ∷ xs) (mid, one, rest) simple same = step_silent s0 d p mid q xs Drew one refl (walk s0 d mid q xs rest simple (then s0 p.held.state mid.held.state same (silent_fixed p mid Drew one refl)))
