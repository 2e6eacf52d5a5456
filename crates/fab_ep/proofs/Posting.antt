-- A frame is posted: the log and the ends of the port's lists.
use Rattle.std.proofs.Common.{◌⊎◌, inl, inr, ◌≡◌, ◌≢◌, ◌<◌, ◌≤◌, ◌+◌, ◌-◌, min, ℕ, true, false, [], ◌∷◌, ◌++◌, length, length-set, get_or-set_same, get_or-set_other, append-nil, Some, None, refl, sym, ap, ◌∙◌, subst, arith}
use Rattle.std.specs.Prelude.{slice_index, slice_set, ◌==◌}
use Rattle.std.proofs.lemmas.Bool.{cases_eq, eq-eqb}
use Rattle.std.proofs.lemmas.Bool.Decides.{nat_tests}
use Rattle.fab_base.specs.Counts.{Rose}
use Rattle.fab_base.specs.declared.frames.Frame.{Frame}
use Rattle.fab_base.specs.declared.items.Item.{Item}
use Rattle.fab_base.proofs.Numbers.{same_number as same_peer}
use Rattle.fab_link.specs.Joined.{is_last}
use Rattle.fab_link.proofs.Lanes.{last_head-push}
use Rattle.fab_link.specs.Meaning.{Outgoing, Incoming, Noticed, Others, end_of, taken_end}
use Rattle.fab_face.specs.Held.{IsOut, IsOpen, Held, Lanes, Seen, IsPlaced, piece, next_item, next_frame}
use Rattle.fab_face.specs.Acts.{Goes, Posted, Took, Ported, only}
use Rattle.fab_face.proofs.Joining.{moved_same}
use Rattle.fab_face.proofs.Tied.{placed_last, placed_more}
use Rattle.fab_face.specs.Machine.{finished, gone_on, IsSteady}
use Rattle.fab_face.proofs.Repaid.{posted_pledged, repaid_posted}
use Rattle.fab_model.specs.State.{fits}
use Rattle.fab_model.specs.Sending.{do_sent}
use Rattle.fab_ep.specs.Tries.{IsTied}

pub other_peer : (k d : ℕ) → d ≢ k → (k == d) ≡ false
other_peer k d other = grind (arith, nat_tests)

pub last_is : (item : Item) (place : ℕ) → place + min 4096 (item.head.total - place) ≡ item.head.total → is_last (piece item place).head ≡ true
last_is item place at = eq-eqb _ _ at

pub last_not : (item : Item) (place : ℕ) → 4096 < item.head.total - place → is_last (piece item place).head ≡ false
last_not item place more =
    let n : place + min 4096 (item.head.total - place) ≢ item.head.total = λ at. omega (arith, at, more) in
    by_eq (place + min 4096 (item.head.total - place)) item.head.total n
  where
    by_eq : (a b : ℕ) → a ≢ b → (a == b) ≡ false
    by_eq a b other = grind (arith, nat_tests)

-- no more than all of the item is posted
pub place_within : (h : Held) (d : ℕ) (item : Item) (place : ℕ) → place ≡ slice_index h.places d → IsOut h → next_item h.state d ≡ Some item → place ≤ item.head.total
place_within h d item place at out next = elim (out d) [
  | inl none ↦ omega (arith, at, none)
  | inr part ↦
      let some : Some part.0 ≡ Some item = sym part.1 ∙ next in
      let same : part.0 ≡ item = cc in
      let total : part.0.head.total ≡ item.head.total = ap (λ (i : Item). i.head.total) same in
      let less = part.2 in
      omega (arith, at, total, less)
]

-- where an item is next, so is a frame
pub some_next : (h : Held) (d : ℕ) (item : Item) → next_item h.state d ≡ Some item → next_frame h d ≢ None
some_next h d item next none = absurd (cc (rw next at none))

module _ {Home : Type 0} (a b : Lanes Home) where
  -- nothing was posted or taken
  pub still_out : (d : ℕ) → Ported a b [] → end_of (b.outs d) ≡ end_of (a.outs d)
  still_out d p = ends (b.outs d) (a.outs d) (p.posted d ∙ append-nil (a.outs d).frames) (p.out_after d)
    where
      ends : (x y : Outgoing) → x.frames ≡ y.frames → x.after ≡ y.after → end_of x ≡ end_of y
      ends x y f h = rw (f, h) refl

  pub still_in : (s : ℕ) → Ported a b [] → taken_end (b.ins s) ≡ taken_end (a.ins s)
  still_in s p = ends (b.ins s) (a.ins s) (p.taken s ∙ append-nil (a.ins s).taken) (p.in_after s)
    where
      ends : (x y : Incoming) → x.taken ≡ y.taken → x.after ≡ y.after → taken_end x ≡ taken_end y
      ends x y f h = rw (f, h) refl

  pub out_here : (d : ℕ) (f : Frame) → Ported a b (Posted d f ∷ []) → end_of (b.outs d) ≡ Some f.head
  out_here d f p =
      let posted : (b.outs d).frames ≡ (a.outs d).frames ++ f ∷ [] = p.posted d ∙ ap (λ x. (a.outs d).frames ++ (only x f ++ [])) (same_peer d) in
      rw posted (last_head-push (b.outs d).after (a.outs d).frames f)

  pub out_other : (d k : ℕ) (f : Frame) → k ≢ d → Ported a b (Posted d f ∷ []) → end_of (b.outs k) ≡ end_of (a.outs k)
  out_other d k f other p =
      let posted : (b.outs k).frames ≡ (a.outs k).frames = p.posted k ∙ ap (λ x. (a.outs k).frames ++ (only x f ++ [])) (other_peer d k other) ∙ append-nil (a.outs k).frames in
      let after = p.out_after k in
      rw (posted, after) refl

  pub in_still : (d s : ℕ) (f : Frame) → Ported a b (Posted d f ∷ []) → taken_end (b.ins s) ≡ taken_end (a.ins s)
  in_still d s f p =
      let taken : (b.ins s).taken ≡ (a.ins s).taken = p.taken s ∙ append-nil (a.ins s).taken in
      let after = p.in_after s in
      rw (taken, after) refl

  pub in_here : (s : ℕ) (f : Frame) → Ported a b (Took s f ∷ []) → taken_end (b.ins s) ≡ Some f.head
  in_here s f p =
      let taken : (b.ins s).taken ≡ (a.ins s).taken ++ f ∷ [] = p.taken s ∙ ap (λ x. (a.ins s).taken ++ (only x f ++ [])) (same_peer s) in
      rw taken (last_head-push (b.ins s).after (a.ins s).taken f)

  pub in_other : (s k : ℕ) (f : Frame) → k ≢ s → Ported a b (Took s f ∷ []) → taken_end (b.ins k) ≡ taken_end (a.ins k)
  in_other s k f other p =
      let taken : (b.ins k).taken ≡ (a.ins k).taken = p.taken k ∙ ap (λ x. (a.ins k).taken ++ (only x f ++ [])) (other_peer s k other) ∙ append-nil (a.ins k).taken in
      let after = p.in_after k in
      rw (taken, after) refl

  pub out_still : (s d : ℕ) (f : Frame) → Ported a b (Took s f ∷ []) → end_of (b.outs d) ≡ end_of (a.outs d)
  out_still s d f p =
      let posted : (b.outs d).frames ≡ (a.outs d).frames = p.posted d ∙ append-nil (a.outs d).frames in
      let after = p.out_after d in
      rw (posted, after) refl

-- where a count last rose changes only as it rises
pub noticed_at : (x y : Outgoing) → Noticed x y → (Rose x.lane_full_seen y.lane_full_seen ⊎ Rose x.pool_full_seen y.pool_full_seen) ⊎ (y.full_at ≡ x.full_at)
noticed_at x y noticed = elim noticed.full_at [ inl still ↦ inr still.2 | inr rose ↦ inl rose.0 ]

-- the port refused a frame for this peer
pub not_posted : {Home : Type 0} (a b : Lanes Home) (dest : ℕ) → (b.outs dest).frames ≡ (a.outs dest).frames → Noticed (a.outs dest) (b.outs dest) → Others dest a.outs b.outs → b.ins ≡ a.ins → b.number ≡ a.number
    → b.peers ≡ a.peers → b.home ≡ a.home → b.in_list ≡ a.in_list → b.moves ≡ a.moves → Ported a b []
not_posted a b dest frames noticed others ins number peers home in_list moves = record {
  taken = λ s. ap (λ (i : ℕ → Incoming). (i s).taken) ins ∙ sym (append-nil (a.ins s).taken);
  posted = λ d. elim (cases_eq d dest) [
    | inl here ↦ rw here (frames ∙ sym (append-nil (a.outs dest).frames))
    | inr other ↦ ap (λ (o : Outgoing). o.frames) (others d other) ∙ sym (append-nil (a.outs d).frames)
  ];
  moves = moved_same a.moves b.moves moves;
  empty_seen = λ s. (let e = ap (λ (i : ℕ → Incoming). (i s).empty_seen) ins in omega (arith, e));
  lane_full = λ d. elim (cases_eq d dest) [
    | inl here ↦ rw here noticed.lane_full
    | inr other ↦ (let e = ap (λ (o : Outgoing). o.lane_full_seen) (others d other) in omega (arith, e))
  ];
  pool_full = λ d. elim (cases_eq d dest) [
    | inl here ↦ rw here noticed.pool_full
    | inr other ↦ (let e = ap (λ (o : Outgoing). o.pool_full_seen) (others d other) in omega (arith, e))
  ];
  empty_at = λ s. inr (ap (λ (i : ℕ → Incoming). (i s).empty_at) ins);
  full_at = λ d. elim (cases_eq d dest) [
    | inl here ↦ rw here (noticed_at (a.outs dest) (b.outs dest) noticed)
    | inr other ↦ inr (ap (λ (o : Outgoing). o.full_at) (others d other))
  ];
  lent = λ s f none lent. ap (λ (i : ℕ → Incoming). (i s).lent) ins ∙ lent;
  number = number;
  peers = peers;
  home = home;
  in_list = in_list;
  in_after = λ s. ap (λ (i : ℕ → Incoming). (i s).after) ins;
  out_after = λ d. elim (cases_eq d dest) [
    | inl here ↦ rw here noticed.after
    | inr other ↦ ap (λ (o : Outgoing). o.after) (others d other)
  ];
  owed = λ d. elim (cases_eq d dest) [
    | inl here ↦ rw here noticed.owed
    | inr other ↦ ap (λ (o : Outgoing). o.owed) (others d other)
  ];
}

-- a piece of the next item is posted: another one, the last one
goes_more : (h t : Held) (dest : ℕ) (item : Item) (place : ℕ) → IsSteady h → dest < length h.places → next_item h.state dest ≡ Some item → place ≡ slice_index h.places dest → 4096 < item.head.total - place → t ≡ gone_on dest (place + 4096) h → Goes None h (Posted dest (piece item place)) t
goes_more h t dest item place is below next at more held =
    let len : min 4096 (item.head.total - place) ≡ 4096 = omega (arith, more) in
    let frame : next_frame h dest ≡ Some (piece item place) = rw (next, ← at) refl in (
      below,
      (let n = is.sent in omega (arith, n, below)),
      frame,
      rw (last_not item place more) (held ∙ sym (ap (λ n. gone_on dest (place + n) h) len)),
    )

goes_last : (h t : Held) (dest : ℕ) (item : Item) (place : ℕ) → IsSteady h → dest < length h.places → next_item h.state dest ≡ Some item → place ≡ slice_index h.places dest → place + min 4096 (item.head.total - place) ≡ item.head.total → fits (do_sent h.state dest).cq ≡ true → t ≡ finished dest h → Goes None h (Posted dest (piece item place)) t
goes_last h t dest item place is below next at last room held =
    let frame : next_frame h dest ≡ Some (piece item place) = rw (next, ← at) refl in (
      below,
      (let n = is.sent in omega (arith, n, below)),
      frame,
      rw (last_is item place last) (room, held),
    )

module _ {Home : Type 0} (a b : Seen Home) (dest : ℕ) (item : Item) (place : ℕ) where
  -- a piece that is not the last is posted
  pub tied_more : IsTied a → dest < a.lanes.peers → next_item a.held.state dest ≡ Some item → place ≡ slice_index a.held.places dest → 4096 < item.head.total - place
      → b.held ≡ gone_on dest (place + 4096) a.held → b.log ≡ a.log → b.log_size ≡ a.log_size → Ported a.lanes b.lanes (Posted dest (piece item place) ∷ []) → IsSteady a.held → IsTied b
  tied_more tied below next at more held log size ported steady =
      let known : dest < length a.held.places = omega (arith, below, tied.peers) in
      let goes = goes_more a.held b.held dest item place steady known next at more held in
      record {
        log = rw size tied.log;
        within = rw (size, log) tied.within;
        peers = ap (λ (h : Held). length h.places) held ∙ length-set a.held.places dest (place + 4096) ∙ tied.peers ∙ sym ported.peers;
        posted = λ d lt. elim (cases_eq d dest) [
          | inl same ↦
              let len : min 4096 (item.head.total - place) ≡ 4096 = omega (arith, more) in
              let on : IsPlaced (Some (piece item place).head) (place + 4096) (Some item) =
              subst (λ n. IsPlaced (Some (piece item place).head) (place + n) (Some item)) len (placed_more item place (last_not item place more) (omega (arith, more))) in
              rw (same, out_here a.lanes b.lanes dest (piece item place) ported, held, get_or-set_same a.held.places dest (place + 4096) 0 known, next) on
          | inr other ↦
              rw (out_other a.lanes b.lanes dest d (piece item place) other ported, held, get_or-set_other a.held.places dest d (place + 4096) 0 other) (tied.posted d (omega (arith, lt, ported.peers)))
        ];
        taken = λ s lt. rw (in_still a.lanes b.lanes dest s (piece item place) ported, held) (tied.taken s (omega (arith, lt, ported.peers)));
        pledged = posted_pledged a.held b.held dest (piece item place) None goes tied.pledged;
        repaid = repaid_posted a.lanes b.lanes None a.held b.held dest (piece item place) ported goes tied.repaid;
      }

  -- the last piece is posted
  pub tied_last : IsTied a → dest < a.lanes.peers → place + min 4096 (item.head.total - place) ≡ item.head.total
      → b.held ≡ finished dest a.held → ((d : ℕ) → d ≢ dest → next_item b.held.state d ≡ next_item a.held.state d) → length b.log ≤ b.log_size → b.log_size ≡ a.log_size
      → Ported a.lanes b.lanes (Posted dest (piece item place) ∷ []) → IsSteady a.held → next_item a.held.state dest ≡ Some item → place ≡ slice_index a.held.places dest → fits (do_sent a.held.state dest).cq ≡ true → IsTied b
  tied_last tied below at held others within size ported steady next here room =
      let known : dest < length a.held.places = omega (arith, below, tied.peers) in
      let goes = goes_last a.held b.held dest item place steady known next here at room held in
      let places : b.held.places ≡ slice_set a.held.places dest 0 = ap (λ (h : Held). h.places) held in
      let begun : b.held.begun ≡ a.held.begun = ap (λ (h : Held). h.begun) held in
      record {
        log = rw size tied.log;
        within = within;
        peers = ap length places ∙ length-set a.held.places dest 0 ∙ tied.peers ∙ sym ported.peers;
        posted = λ d lt. elim (cases_eq d dest) [
          | inl same ↦
              rw (same, out_here a.lanes b.lanes dest (piece item place) ported, places, get_or-set_same a.held.places dest 0 0 known) (placed_last item place (last_is item place at))
          | inr other ↦
              rw (out_other a.lanes b.lanes dest d (piece item place) other ported, others d other, places, get_or-set_other a.held.places dest d 0 0 other) (tied.posted d (omega (arith, lt, ported.peers)))
        ];
        taken = λ s lt. rw (in_still a.lanes b.lanes dest s (piece item place) ported, begun) (tied.taken s (omega (arith, lt, ported.peers)));
        pledged = posted_pledged a.held b.held dest (piece item place) None goes tied.pledged;
        repaid = repaid_posted a.lanes b.lanes None a.held b.held dest (piece item place) ported goes tied.repaid;
      }

-- the two parts of what stands between calls
pub open_of : {Home : Type 0} (e : Seen Home) → IsTied e → IsSteady e.held → IsOpen e
open_of e tied is = record {
  cq = is.cq;
  log = tied.log;
  read = is.read;
  within = tied.within;
  unread = is.room;
  used = is.used;
  receives = is.receives;
  addressed = λ i t at. (let lt = is.addressed i t at in let p = tied.peers in omega (arith, lt, p));
  places = tied.peers;
  begun = is.begun ∙ tied.peers;
  heads = is.heads ∙ tied.peers;
  tails = is.tails ∙ tied.peers;
  coming = is.coming ∙ tied.peers;
  sent = is.sent ∙ tied.peers;
  accepted = is.accepted ∙ tied.peers;
  held = is.held ∙ tied.peers;
  fenced = is.fenced;
  under_way = λ s lt. is.under_way s (let p = tied.peers in omega (arith, lt, p));
  items = is.items;
  out = is.out;
  posted = tied.posted;
  taken = tied.taken;
  pledged = tied.pledged;
  repaid = tied.repaid;
}
