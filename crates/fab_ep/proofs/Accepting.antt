-- A message is accepted, and goes out as far as it may.
use Rattle.std.proofs.Common.{◌⊎◌, inl, inr, ◌≡◌, ◌≢◌, ◌<◌, ◌≤◌, ◌+◌, ℕ, Bool, true, false, ◌&&◌, ◌||◌, List, [], ◌∷◌, ◌++◌, length, length-append, get_or-set_same, get_or-set_other, append-nil, Option, Some, None, refl, sym, ap, ◌∙◌, subst, arith}
use Rattle.std.specs.Prelude.{slice_index}
use Rattle.std.specs.List.{list_any}
use Rattle.std.proofs.lemmas.Bool.{cases_eq}
use Rattle.fab_base.specs.declared.items.Item.{Item}
use Rattle.fab_base.specs.declared.operations.Held.{Held as Waiting}
use Rattle.fab_base.specs.declared.peers.LineResult.TheVariants.{Done}
use Rattle.fab_base.proofs.Lists.{prefix_get as get_append, none_past as past_end}
use Rattle.fab_base.proofs.Numbers.{rose_later as rose_on}
use Rattle.fab_model.specs.State.{State, Transmitting, accepted_for, held_for, lookup}
use Rattle.fab_model.specs.Sending.{AreFenced, Order, operation_of, is_busy, let_out, transmit, transmit_to}
use Rattle.fab_model.specs.Calls.{Transmit, do_call}
use Rattle.fab_model.proofs.Fences.{waits_has}
use Rattle.fab_model.proofs.Letting.{going_out, accepts_held, accepts_at_once}
use Rattle.fab_model.proofs.Answering.{is_transmitted}
use Rattle.fab_face.specs.Held.{due, IsPledged, Held, Lanes, Seen, next_item, next_frame}
use Rattle.fab_face.specs.Machine.{IsSteady, StayNext}
use Rattle.fab_face.proofs.Repaid.{did_due, did_pledged, drew_due, drew_pledged, repaid_still}
use Rattle.fab_face.specs.Acts.{Act, Did, Drew, DoesCall, Goes, Ported, Went, is_post}
use Rattle.fab_face.specs.Answers.{SawFull, Sends}
use Rattle.fab_face.proofs.Joining.{went_then, ported_same}
use Rattle.fab_face.proofs.Going.{placed_next}
use Rattle.fab_ep.specs.Tries.{IsTied}
use Rattle.fab_ep.specs.Sends.{Admits, LetsOut, IsOnly, IsFree}
use Rattle.fab_ep.proofs.Admitting.{went_as, posts_keep}
use Rattle.fab_ep.proofs.Pushing.{any_append}
use Rattle.fab_ep.proofs.Letting.{none_next}

-- ---- what a fence does

-- an operation waits behind those that are held, or where its own fence holds it
accepts : (busy : Bool) (held : List Waiting) (o : Waiting) → let_out busy held ≡ [] → (let_out busy (held ++ o ∷ []) ≡ []) ⊎ ((held ≡ []) × ((busy && o.fence) ≡ false))
accepts busy [] o none = elim (by (busy && o.fence) refl) [ inl waits ↦ inl waits | inr free ↦ inr (refl, free) ]
  where
    by : (b : Bool) → (busy && o.fence) ≡ b → (let_out busy (o ∷ []) ≡ []) ⊎ ((busy && o.fence) ≡ false)
    by true is = inl (rw (is, let_out) refl)
    by false is = inr is
accepts busy (h ∷ held) o none = (let waits = waits_has busy h held none in inl (rw (waits.0, waits.1) refl))

-- What the machine makes of a transmit call for the peers: nothing is transmitted, and at most one item joins those accepted
-- for a peer. Where one does, nothing is held back for it.
pub record Joins (s u : State) : Type 0 where
  pub sent : u.tx.sent ≡ s.tx.sent
  pub accepted : (d : ℕ) → d < length s.tx.accepted → (more : List Item) × (accepted_for u.tx d ≡ accepted_for s.tx d ++ more) × ((more ≡ []) ⊎ ((length more ≤ 1) × (held_for u.tx d ≡ [])))

joins_none : (s u : State) → u.tx.sent ≡ s.tx.sent → u.tx.accepted ≡ s.tx.accepted → Joins s u
joins_none s u sent same = record { sent = sent; accepted = λ d below. ([], rw same (sym (append-nil (accepted_for s.tx d))), inl refl) }

joins_one : (s u : State) (t : ℕ) (o : Waiting) → held_for s.tx t ≡ [] → u.tx ≡ going_out t o (record s.tx { ops = s.tx.ops + 1 }) → Joins s u
joins_one s u t o none is = record {
  sent = ap (λ (x : Transmitting). x.sent) is;
  accepted = λ d below. elim (cases_eq d t) [
    | inl here ↦ (o.item ∷ [], rw (here, is) (get_or-set_same s.tx.accepted t (accepted_for s.tx t ++ o.item ∷ []) [] (subst (λ n. n < length s.tx.accepted) here below)), inr (omega arith, rw (here, is) none))
    | inr other ↦ ([], rw is (get_or-set_other s.tx.accepted t d (accepted_for s.tx t ++ o.item ∷ []) [] other) ∙ sym (append-nil (accepted_for s.tx d)), inl refl)
  ];
}

joins_to : (s : State) (o : Order) (t : ℕ) → AreFenced s.tx → Joins s (transmit_to t s o)
unfolding transmit_to
joins_to s o t fenced = elim (accepts (is_busy s.tx t) (held_for s.tx t) (operation_of s o) (fenced t)) [
  | inl waits ↦ (let is = accepts_held t (operation_of s o) s.tx waits in joins_none s (transmit_to t s o) (ap (λ (x : Transmitting). x.sent) is) (ap (λ (x : Transmitting). x.accepted) is))
  | inr goes ↦ joins_one s (transmit_to t s o) t (operation_of s o) goes.0 (accepts_at_once t (operation_of s o) s.tx goes.0 goes.1)
]

joins_by : (s : State) (o : Order) (at : Option ℕ) → AreFenced s.tx → lookup s.av o.dest ≡ at → Joins s (transmit s o)
unfolding transmit
joins_by s o None fenced is = rw (is, transmit) (joins_none s s refl refl)
joins_by s o (Some t) fenced is = rw (is, transmit) (joins_to s o t fenced)

pub joins : (s t : State) (o : Order) → AreFenced s.tx → do_call s (Transmit o) ≡ (Done, t) → Joins s t
joins s t o fenced is = subst (λ (x : State). Joins s x) (sym (is_transmitted s t o is)) (joins_by s o (lookup s.av o.dest) fenced refl)

-- what is next stays so
pub next_stays : (s u : State) (d : ℕ) (item : Item) → d < length s.tx.accepted → Joins s u → next_item s d ≡ Some item → next_item u d ≡ Some item
next_stays s u d item below j is =
    let more = j.accepted d below in
    rw (j.sent, more.1) (get_append (accepted_for s.tx d) more.0 (slice_index s.tx.sent d) item is)

-- where nothing waited, one item waits at most, with nothing held back behind it
pub only_one : (h t : Held) (d : ℕ) → d < length h.state.tx.accepted → Joins h.state t.state → next_item h.state d ≡ None → IsOnly t d
only_one h t d below j none =
    let more = j.accepted d below in
    elim more.2 [
      | inl same ↦ inl (rw (j.sent, more.1, same, append-nil (accepted_for h.state.tx d)) none)
      | inr one ↦
          let end = past_end (accepted_for h.state.tx d) (slice_index h.state.tx.sent d) none in
          let sent = ap (λ xs. slice_index xs d) j.sent in
          let l = ap length more.1 ∙ length-append (accepted_for h.state.tx d) more.0 in
          inr (omega (arith, end, sent, l, one.0), one.1)
    ]

-- ---- between calls

pub none_item : (h : Held) (d : ℕ) → next_frame h d ≡ None → next_item h.state d ≡ None
none_item h d none = by (next_item h.state d) refl
  where
    by : (o : Option Item) → next_item h.state d ≡ o → next_item h.state d ≡ None
    by None is = is
    by (Some item) is = absurd (cc (rw is at none))

module _ {Home : Type 0} where
  pub tied_did : (a b : Seen Home) → IsTied a → ((d : ℕ) (item : Item) → d < a.lanes.peers → next_item a.held.state d ≡ Some item → next_item b.held.state d ≡ Some item) → b.held.places ≡ a.held.places → b.held.begun ≡ a.held.begun
      → length b.log ≤ b.log_size → b.log_size ≡ a.log_size → b.lanes ≡ a.lanes → IsPledged b.held → ((d op : ℕ) → due b.held d op ≤ due a.held d op) → IsTied b
  tied_did a b tied stays places begun within size lanes pledged less = record {
    log = rw size tied.log;
    within = within;
    peers = ap length places ∙ tied.peers ∙ sym (ap (λ (x : Lanes Home). x.peers) lanes);
    posted = λ d lt. (let below : d < a.lanes.peers = subst (λ (x : Lanes Home). d < x.peers) lanes lt in
        rw (lanes, places) (placed_next _ _ _ _ (λ item is. stays d item below is) (tied.posted d below)));
    taken = λ s lt. (let below : s < a.lanes.peers = subst (λ (x : Lanes Home). s < x.peers) lanes lt in rw (lanes, begun) (tied.taken s below));
    pledged = pledged;
    repaid = repaid_still a.lanes b.lanes a.held b.held (ported_same a.lanes b.lanes lanes) less tied.repaid;
  }

  pub tied_accepted : (a b : Seen Home) (o : Order) → IsTied a → IsSteady a.held → DoesCall (Some (Transmit o)) a.held b.held → b.log ≡ a.log → b.log_size ≡ a.log_size → b.lanes ≡ a.lanes → IsTied b
  tied_accepted a b o tied steady does log size lanes =
      let all = steady.accepted in
      tied_did a b tied (λ d item lt is. next_stays a.held.state b.held.state d item (let p = tied.peers in omega (arith, lt, all, p)) (joins a.held.state b.held.state o steady.fenced does.0) is)
      (ap (λ (h : Held). h.places) does.1) (ap (λ (h : Held). h.begun) does.1) (rw (log, size) tied.within) size lanes
      (did_pledged (Transmit o) a.held b.held does steady.partly tied.pledged) (did_due (Transmit o) a.held b.held does)

  pub tied_drew : (a b : Seen Home) → IsTied a → Goes None a.held Drew b.held → StayNext a.held.state b.held.state → length b.log ≤ b.log_size → b.log_size ≡ a.log_size → b.lanes ≡ a.lanes → IsSteady a.held → IsTied b
  tied_drew a b tied goes stays within size lanes steady =
      tied_did a b tied (λ d item lt is. stays d item is) (ap (λ (h : Held). h.places) goes.2) (ap (λ (h : Held). h.begun) goes.2) within size lanes
      (drew_pledged a.held b.held goes.2 steady.partly tied.pledged) (drew_due a.held b.held goes.2)

  -- ---- the whole call

  full_by : (a e b : Lanes Home) (acts : List Act) (d : ℕ) → Ported a e acts → SawFull e b d → SawFull a b d
  full_by a e b acts d ported saw = record {
    rose = elim saw.rose [ inl r ↦ inl (rose_on _ _ _ (ported.lane_full d) r) | inr r ↦ inr (rose_on _ _ _ (ported.pool_full d) r) ];
    at_end = saw.at_end;
  }

  pub only_after : (m e : Seen Home) (o : Order) (dest t : ℕ) → IsFree m dest t → Went (Some (Transmit o)) m e (Did ∷ []) → IsOnly e.held t
  only_after m e o dest t free did =
      let goes = did.goes in
      let does : DoesCall (Some (Transmit o)) m.held goes.0 = goes.1 in
      let to : goes.0 ≡ e.held = goes.2 in
      subst (λ (x : Held). IsOnly x t) to (only_one m.held goes.0 t free.listed (joins m.held.state goes.0.state o free.fenced does.0) free.free)

  pub sends_out : (fixed : Bool) (o : Order) (a m e b : Seen Home) (dest t : ℕ) → Admits (Transmit o) a m → IsFree m dest t → Went (Some (Transmit o)) m e (Did ∷ []) → e.pushed ≡ m.pushed → e.lanes.ins ≡ m.lanes.ins → e.next ≡ m.next → LetsOut fixed e b t → b.lanes.ins ≡ e.lanes.ins → b.next ≡ e.next → Sends fixed (Transmit o) dest a b
  sends_out fixed o a m e b dest t admits free did same still stays out ins next =
      let call = Transmit o in
      let before = went_as (Some call) a m admits.acts admits.push admits.went in
      let after = went_as (Some call) e b out.acts out.posts out.went in
      let made = went_then (Some call) m e b (Did ∷ []) out.acts did after in
      let whole = went_then (Some call) a m b admits.acts (Did ∷ out.acts) before made in
      let till = went_then (Some call) a m e admits.acts (Did ∷ []) before did in
      let keep = posts_keep None admits.acts a.held m.held admits.push (let went = admits.went in went.goes) in
      let peer : (k : ℕ) → lookup a.held.state.av dest ≡ Some k → k ≡ t = λ k at. (let x : Some k ≡ Some t = sym at ∙ ap (λ av. lookup av dest) (sym keep.av) ∙ free.at in cc) in
      record {
        before = admits.acts;
        mid = m;
        after = out.acts;
        push = admits.push;
        posts = out.posts;
        went = whole;
        till = admits.went;
        from = made;
        pushed = out.pushed ∙ ap (λ x. x || list_any is_post out.acts) (same ∙ admits.pushed) ∙ sym (any_append is_post admits.acts (Did ∷ out.acts));
        places = admits.places;
        place = admits.left;
        only_if_full = admits.only_if_full;
        tried = admits.tried;
        own = λ k d at other. out.own d (λ is. other (is ∙ sym (peer k at)));
        goes_out = λ k at none f next. (
            let is = peer k at in
            let held = out.held f (subst (λ x. next_frame b.held x ≡ Some f) is next) in
            rw is (elim held [ inl full ↦ inl (full_by a.lanes e.lanes b.lanes (admits.acts ++ Did ∷ []) t till.ported full) | inr rest ↦ inr rest ]));
        behind = λ k at some. absurd (some (subst (λ x. next_frame m.held x ≡ None) (sym (peer k at)) (none_next m.held t free.free)));
        ins = ins ∙ still ∙ admits.ins;
        next = next ∙ stays ∙ admits.next;
      }

  pub sends_later : (fixed : Bool) (o : Order) (a m e : Seen Home) (dest : ℕ) → Admits (Transmit o) a m → ((t : ℕ) → lookup m.held.state.av dest ≡ Some t → next_item m.held.state t ≢ None) → Went (Some (Transmit o)) m e (Did ∷ []) → e.pushed ≡ m.pushed → e.lanes.ins ≡ m.lanes.ins → e.next ≡ m.next → Sends fixed (Transmit o) dest a e
  sends_later fixed o a m e dest admits waits did same still stays =
      let call = Transmit o in
      let before = went_as (Some call) a m admits.acts admits.push admits.went in
      let keep = posts_keep None admits.acts a.held m.held admits.push (let went = admits.went in went.goes) in
      record {
        before = admits.acts;
        mid = m;
        after = [];
        push = admits.push;
        posts = refl;
        went = went_then (Some call) a m e admits.acts (Did ∷ []) before did;
        till = admits.went;
        from = did;
        pushed = same ∙ admits.pushed ∙ sym (any_append is_post admits.acts (Did ∷ []) ∙ or_none (list_any is_post admits.acts));
        places = admits.places;
        place = admits.left;
        only_if_full = admits.only_if_full;
        tried = admits.tried;
        own = λ k d at other. refl;
        goes_out = λ k at none f next. absurd (waits k (ap (λ av. lookup av dest) keep.av ∙ at) (none_item m.held k none));
        behind = λ k at some. refl;
        ins = still ∙ admits.ins;
        next = stays ∙ admits.next;
      }
    where
      or_none : (b : Bool) → (b || false) ≡ b
      or_none true = refl
      or_none false = refl
