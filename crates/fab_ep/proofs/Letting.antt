-- What goes out at once of an item that was just accepted.
use Rattle.std.proofs.Common.{inl, inr, ◌≡◌, ◌≢◌, ◌<◌, ◌≤◌, ◌+◌, ℕ, Bool, true, false, ◌||◌, List, [], ◌∷◌, ◌++◌, length, get_or-set_same, append-nil, Option, Some, None, Ok, refl, sym, ap, ◌∙◌, subst}
use Rattle.std.specs.Prelude.{slice_index}
use Rattle.std.specs.List.{list_any}
use Rattle.std.proofs.lemmas.Grind.{flat_map-append}
use Rattle.std.proofs.lemmas.Bool.{and_from}
use Rattle.std.proofs.lemmas.List.Folds.{list_all-append}
use Rattle.std.proofs.lemmas.Option.{slice_get_past}
use Rattle.fab_base.specs.declared.frames.Frame.{Frame}
use Rattle.fab_base.proofs.Bools.{or_true, or_false}
use Rattle.fab_link.specs.Joined.{is_last}
use Rattle.fab_model.specs.State.{State, Transmitting, accepted_for, held_for}
use Rattle.fab_model.specs.Sending.{do_sent}
use Rattle.fab_model.proofs.Unchanged.{sent_raised as sent_sent}
use Rattle.fab_face.specs.declared.events.Event.TheVariants.{Sent as Transmitted}
use Rattle.fab_face.specs.Held.{Held, Seen, next_item, next_frame}
use Rattle.fab_face.specs.Acts.{Act, Posted, Departs, Goes, Went, only, is_post, posted_to, posted_by}
use Rattle.fab_face.specs.Answers.{AllAre}
use Rattle.fab_face.proofs.Joining.{went_none, went_then, ported_same}
use Rattle.fab_ep.specs.declared.endpoint.Tried.{Tried}
use Rattle.fab_ep.specs.declared.endpoint.Tried.TheVariants.{Moved, Nothing, Held as HeldBack, Short}
use Rattle.fab_ep.specs.Tries.{PostsOut, has_moved, left_for}
use Rattle.fab_ep.specs.Sends.{IsOnly, LetsOutOne, LetsOut}
use Rattle.fab_ep.proofs.Posting.{other_peer}
use Rattle.fab_ep.proofs.Pushing.{any_append}
use Rattle.fab_ep.proofs.Sent.{transmitting_parts, sent_alone}
use Rattle.fab_ep.proofs.Fairness.{full_on}
use Rattle.fab_ep.proofs.Turning.{went_calm}
use Rattle.fab_ep.proofs.Falling.{left_falls}
use Rattle.fab_face.specs.Machine.{IsSteady}

-- ---- the last frame of the only item

none_then : (s : State) (d : ℕ) → length (accepted_for s.tx d) ≤ slice_index s.tx.sent d + 1 → held_for s.tx d ≡ [] → d < length s.tx.sent → next_item (do_sent s d) d ≡ None
none_then s d few none in_sent =
    let accepted : (do_sent s d).tx.accepted ≡ s.tx.accepted = ap (λ (tx : Transmitting). tx.accepted) (sent_alone s d none) ∙ (transmitting_parts d s.tx).0 in
    let sent : slice_index (do_sent s d).tx.sent d ≡ slice_index s.tx.sent d + 1 = rw (sent_sent s d) (get_or-set_same s.tx.sent d (slice_index s.tx.sent d + 1) 0 in_sent) in
    rw (accepted, sent) (slice_get_past (accepted_for s.tx d) (slice_index s.tx.sent d + 1) few)

none_waits : (last : Bool) (h t : Held) (d place : ℕ) → IsOnly h d → next_item h.state d ≢ None → d < length h.state.tx.sent → Departs last h d place t → last ≡ true → next_item t.state d ≡ None
none_waits true h t d place (inl none) some in_sent departs is = absurd (some none)
none_waits true h t d place (inr (few, none)) some in_sent (room, at) is = rw at (none_then h.state d few none in_sent)
none_waits false h t d place one some in_sent departs is = absurd (cc)

still_only : (last : Bool) (h t : Held) (d place : ℕ) → IsOnly h d → next_item h.state d ≢ None → d < length h.state.tx.sent → Departs last h d place t → IsOnly t d
still_only true h t d place one some in_sent departs = inl (none_waits true h t d place one some in_sent departs refl)
still_only false h t d place one some in_sent at = rw at one

some_frame : (o : Option Frame) (f : Frame) → o ≡ Some f → o ≢ None
some_frame o f is none = absurd (cc (rw is at none))

pub none_next : (h : Held) (d : ℕ) → next_item h.state d ≡ None → next_frame h d ≡ None
none_next h d none = rw none refl

module _ {Home : Type 0} where
  -- between frames: what is posted so far, and a place in the log as long as something waits
  pub record Letting (a e : Seen Home) (d : ℕ) : Type 0 where
    pub acts : List Act
    pub posts : AllAre is_post acts
    pub went : Went None a e acts
    pub pushed : e.pushed ≡ (a.pushed || list_any is_post acts)
    pub own : (k : ℕ) → k ≢ d → posted_to k acts ≡ []
    pub one : IsOnly e.held d
    pub place : next_frame e.held d ≢ None → length e.log + 1 ≤ e.log_size

  pub letting_none : (a : Seen Home) (d : ℕ) → IsOnly a.held d → length a.log + 1 ≤ a.log_size → Letting a a d
  letting_none a d one place = record {
    acts = [];
    posts = refl;
    went = went_none None a a refl refl refl (ported_same a.lanes a.lanes refl);
    pushed = sym (or_false a.pushed);
    own = λ k other. refl;
    one = one;
    place = λ some. place;
  }

  place_after : (last : Bool) (e e1 : Seen Home) (d : ℕ) (f : Frame) → is_last f.head ≡ last → IsOnly e.held d → next_item e.held.state d ≢ None → d < length e.held.state.tx.sent → Departs last e.held d (f.head.from + f.head.len) e1.held
      → (length e.log + 1 ≤ e.log_size) → e1.log ≡ e.log ++ only (is_last f.head) (Transmitted d) → e1.log_size ≡ e.log_size → next_frame e1.held d ≢ None → length e1.log + 1 ≤ e1.log_size
  place_after true e e1 d f is one waits in_sent departs place log size some = absurd (some (none_next e1.held d (none_waits true e.held e1.held d (f.head.from + f.head.len) one waits in_sent departs refl)))
  place_after false e e1 d f is one waits in_sent departs place log size some =
      let same : e1.log ≡ e.log = log ∙ ap (λ b. e.log ++ only b (Transmitted d)) is ∙ append-nil e.log in
      rw (same, size) place

  pub letting_on : (a e e1 : Seen Home) (d : ℕ) (fixed : Bool) → Letting a e d → LetsOutOne fixed e e1 d true → Letting a e1 d
  letting_on a e e1 d fixed was ((f, went), flag) =
      let goes = went.goes in
      let step : Goes None e.held (Posted d f) goes.0 = goes.1 in
      let to : goes.0 ≡ e1.held = goes.2 in
      let some : next_frame e.held d ≢ None = some_frame (next_frame e.held d) f step.2 in
      let waits : next_item e.held.state d ≢ None = λ none. some (none_next e.held d none) in
      let departs : Departs (is_last f.head) e.held d (f.head.from + f.head.len) e1.held = subst (λ (x : Held). Departs (is_last f.head) e.held d (f.head.from + f.head.len) x) to step.3 in
      let log : e1.log ≡ e.log ++ only (is_last f.head) (Transmitted d) = went.log ∙ ap (λ es. e.log ++ es) (append-nil (only (is_last f.head) (Transmitted d))) in
      record {
        acts = was.acts ++ Posted d f ∷ [];
        posts = list_all-append is_post was.acts (Posted d f ∷ []) ∙ and_from _ _ was.posts refl;
        went = went_then None a e e1 was.acts (Posted d f ∷ []) was.went went;
        pushed = flag ∙ sym (ap (λ b. a.pushed || b) (any_append is_post was.acts (Posted d f ∷ []) ∙ or_true (list_any is_post was.acts)) ∙ or_true a.pushed);
        own = λ k other. flat_map-append (posted_by k) was.acts (Posted d f ∷ []) ∙ rw (was.own k other, other_peer d k other) refl;
        one = still_only (is_last f.head) e.held e1.held d _ was.one waits step.1 departs;
        place = place_after (is_last f.head) e e1 d f refl was.one waits step.1 departs (was.place some) log went.size;
      }

  pub letting_end : (fixed : Bool) (a e e1 : Seen Home) (d : ℕ) → Letting a e d → LetsOutOne fixed e e1 d false → LetsOut fixed a e1 d
  letting_end fixed a e e1 d was (calm, held, flag) = record {
    acts = was.acts;
    posts = was.posts;
    went = went_calm a e e1 was.acts was.went calm;
    pushed = flag ∙ was.pushed;
    own = was.own;
    held = λ f next. elim (held f next) [ inl full ↦ inl (full_on a e e1 was.acts d was.went full) | inr rest ↦ inr rest ];
  }

  -- one frame, by the answer of the post
  pub lets_out : (fixed : Bool) (a b : Seen Home) (d : ℕ) (t : Tried) (flag : Bool) → PostsOut a b d (Ok t) → b.pushed ≡ a.pushed → flag ≡ (a.pushed || has_moved t) → LetsOutOne fixed a (record b { pushed = flag }) d (has_moved t)
  lets_out fixed a b d Moved flag (f, went) same is = ((f, record { goes = went.goes; log = went.log; size = went.size; ported = went.ported }), is ∙ or_true a.pushed)
  lets_out fixed a b d Nothing flag (calm, full) same is = (
    (let c = calm.calm in record { held = c.held; log = c.log; size = c.size; ported = c.ported }),
    (λ f next. inl (full (λ none. absurd (cc)))),
    is ∙ or_false a.pushed,
  )
  lets_out fixed a b d HeldBack flag (calm, (f', next', lacks)) same is = (
    (let c = calm.calm in record { held = c.held; log = c.log; size = c.size; ported = c.ported }),
    (λ f next. (let some : Some f' ≡ Some f = sym next' ∙ next in let is_f : f' ≡ f = cc in inr (inl (ap (λ (x : Frame). is_last x.head) (sym is_f) ∙ lacks.0, lacks.1)))),
    is ∙ or_false a.pushed,
  )
  lets_out fixed a b d Short flag posts same is = absurd posts

  pub falls_out : (a b : Seen Home) (d : ℕ) (t : Tried) → IsSteady a.held → PostsOut a b d (Ok t) → has_moved t ≡ true → left_for b.held d < left_for a.held d
  falls_out a b d Moved steady (f, went) is = left_falls a b d f steady went
  falls_out a b d Nothing steady posts is = absurd (cc)
  falls_out a b d HeldBack steady posts is = absurd (cc)
  falls_out a b d Short steady posts is = absurd (cc)
