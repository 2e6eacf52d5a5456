-- Where no buffer for many messages is posted, a receive that is posted takes an unexpected message or stands behind all others.
use Rattle.std.proofs.Common.{◌≡◌, ℕ, Bool, true, false, List, [], ◌∷◌, ◌++◌, Option, Some, None, refl, sym, ap, ◌∙◌}
use Rattle.std.specs.Prelude.{is_some}
use Rattle.std.proofs.lemmas.Bool.{or_from}
use Rattle.std.proofs.lemmas.List.Folds.{list_any-append}
use Rattle.fabric.specs.Answers.{receive_call}
use Rattle.fabric.specs.Calls.{Post, answer, do_call}
use Rattle.fabric.specs.Complete.{book, fill, reply}
use Rattle.fabric.specs.Kinds.{at_match}
use Rattle.fabric.specs.Held.{Held, Seen}
use Rattle.fabric.specs.Late.{ReceivesLate}
use Rattle.fabric.specs.Receiving.{Posting, give, joining_posted, post, post_fault, receive_of, taken_by, without_first}
use Rattle.fabric.specs.State.{Receiving, State, called, with_rx}
use Rattle.fabric.specs.Words.{Arrival, Done, Fault, LineResult, Receive, Refused}
use Rattle.fabric_uses.specs.Uses.{behind, has_multi, posted, posted_after, single, untagged}
use Rattle.fabric_uses.proofs.Calm.{made}

-- an answer that is Ok leaves what it says
pub done : (f : Option Fault) (s after t : State) → answer f s after ≡ (Done, t) → t ≡ after
done None s after t e = sym (ap (λ (p : LineResult × State). p.1) e)
done (Some why) s after t e = (let no : Refused why ≡ Done = ap (λ (p : LineResult × State). p.0) e in absurd (cc (no)))

posts : (s : State) (p : Posting) (t : State) → do_call s (Post p) ≡ (Done, t) → t ≡ post s p
unfolding do_call
posts s p t e = done (post_fault s p) s (post s p) t e

-- a reply that is booked leaves the receives and the completions
pub booked : (due : Bool) (a : Arrival) (s : State) → ((book due a.source a.head s).rx ≡ s.rx) × ((book due a.source a.head s).cq ≡ s.cq)
unfolding book reply
booked true a s = (refl, refl)
booked false a s = (refl, refl)

module _ (tagged : Bool) (tag : ℕ) (buf : List ℕ) (ctx : ℕ) where
  given : (s : State) (a : Arrival) (t : State) → (give (receive_of s (single tagged tag buf ctx)) 0 a t).rx.posted ≡ t.rx.posted
  unfolding give fill
  given s a t = by a.bytes refl
    where
      by : (o : Option (List ℕ)) → a.bytes ≡ o → (give (receive_of s (single tagged tag buf ctx)) 0 a t).rx.posted ≡ t.rx.posted
      by None e = rw e refl
      by (Some bytes) e = rw e (ap (λ (rx : Receiving). rx.posted) (booked (at_match a.head.ack) a (fill (receive_of s (single tagged tag buf ctx)) 0 a.source a.head bytes t)).0)

  pub posted_by : (s : State) → (post s (single tagged tag buf ctx)).rx.posted ≡ behind (single tagged tag buf ctx) s
  unfolding post
  posted_by s = by (taken_by (receive_of s (single tagged tag buf ctx)) s)
    where
      by : (o : Option Arrival) → (let u : State = elim o [
        | None ↦ called (with_rx (joining_posted (receive_of s (single tagged tag buf ctx)) s.rx) s)
        | Some a ↦ give (receive_of s (single tagged tag buf ctx)) 0 a (called (with_rx (without_first (receive_of s (single tagged tag buf ctx)).want s.rx) s))
      ] in u.rx.posted ≡ (let l : List Receive = elim o [ None ↦ s.rx.posted ++ receive_of s (single tagged tag buf ctx) ∷ [] | Some a ↦ s.rx.posted ] in l))
      by None = refl
      by (Some a) = given s a (called (with_rx (without_first (receive_of s (single tagged tag buf ctx)).want s.rx) s))

  pub still_single : (s : State) → has_multi s.rx.posted ≡ false → has_multi (behind (single tagged tag buf ctx) s) ≡ false
  still_single s none = by (taken_by (receive_of s (single tagged tag buf ctx)) s)
    where
      by : (o : Option Arrival) → has_multi (let l : List Receive = elim o [ None ↦ s.rx.posted ++ receive_of s (single tagged tag buf ctx) ∷ [] | Some a ↦ s.rx.posted ] in l) ≡ false
      by None = list_any-append (λ (r : Receive). is_some r.least) s.rx.posted (receive_of s (single tagged tag buf ctx) ∷ []) ∙ or_from _ _ none refl
      by (Some a) = none

  -- such a call makes the post, and nothing else
  pub post_made : {Home : Type 0} (old new : Seen Home) → ReceivesLate (receive_call tagged None tag 0 buf None ctx) old new → has_multi old.held.state.rx.posted ≡ false
      → (has_multi new.held.state.rx.posted ≡ false) × (new.held.state ≡ post old.held.state (single tagged tag buf ctx))
  post_made old new late none =
      let (m, answered, rest) = made (receive_call tagged None tag 0 buf None ctx) old new late none in
      let is = posts old.held.state (single tagged tag buf ctx) m.state answered in
      let still = ap (λ (s : State). has_multi s.rx.posted) is ∙ ap has_multi (posted_by old.held.state) ∙ still_single old.held.state none in
      let same = rest still in
      (ap (λ (h : Held). has_multi h.state.rx.posted) same ∙ still, ap (λ (h : Held). h.state) same ∙ is)

pub posted_behind : {Home : Type 0} (buf : List ℕ) (ctx : ℕ) (old new : Seen Home) → ReceivesLate (receive_call false None 0 0 buf None ctx) old new → has_multi old.held.state.rx.posted ≡ false
    → posted new ≡ posted_after (untagged buf ctx) old
posted_behind buf ctx old new late none =
    let (still, is) = post_made false 0 buf ctx old new late none in
    ap (λ (s : State). s.rx.posted) is ∙ posted_by false 0 buf ctx old.held.state
