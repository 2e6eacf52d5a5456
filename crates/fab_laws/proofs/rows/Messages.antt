-- The law of messages: what it says of a receive that was posted, a history on which it is false, and a message that is claimed and taken.
use Rattle.std.proofs.Common.{◌≡◌, Bool, true, false, List, [], ◌∷◌, Some, None, inl, inr, refl, ap}
use Rattle.std.specs.Prelude.{codes, nat_lt}
use Rattle.fab_base.specs.declared.operations.Receive.{Receive}
use Rattle.fab_base.specs.declared.operations.Written.{Written}
use Rattle.fab_base.specs.declared.peers.Step.{Step}
use Rattle.fab_base.specs.declared.peers.Step.TheVariants.{Do, Head, Tail}
use Rattle.fab_base.specs.declared.script.Bound.{Bound}
use Rattle.fab_base.specs.declared.script.BytesWord.TheVariants.{Text}
use Rattle.fab_base.specs.declared.script.LineOp.{LineOp}
use Rattle.fab_model.specs.State.{State}
use Rattle.fab_model.specs.Receiving.{Posting, receive_of}
use Rattle.fab_model.specs.Calls.{Post}
use Rattle.fab_model.specs.Orders.{by}
use Rattle.fab_model.proofs.Scripts.{line, script_of}
use Rattle.fab_laws.specs.Members.{In, Never}
use Rattle.fab_laws.specs.Matched.{Came, Event, Got, Lost, Made, Mark, Wish, made, makes, past_of, tells_message, wish_of}
use Rattle.fab_laws.specs.MessageLaws.{Went, asking}
use Rattle.fab_laws.specs.Programs.{Peer}
use Rattle.fab_laws.proofs.Lists.{never}
use Rattle.fab_laws.proofs.rows.Following.{Met, met, programs, ran, started}

-- the receive of a recv, trecv or recv_multi is told as posted
told_posted : (p : Posting) (s t : State) (r : Receive) → In r (asking (Some (Post p)) s t) → In (Made (wish_of r)) (makes (Some p) s t)
told_posted p s t r = go (nat_lt s.calls t.calls)
  where
    go : (b : Bool) → In r (let rs : List Receive = elim b [ true ↦ receive_of s p ∷ [] | false ↦ [] ] in rs) → In (Made (wish_of r)) (elim b [ true ↦ Made (wish_of (receive_of s p)) ∷ [] | false ↦ [] ])
    go true (inl e) = inl (ap (λ (f : Receive). Made (wish_of f)) e)
    go true (inr i) = never i
    go false i = never i

-- and it got the message that its entry tells
posted_got : (past : List Event) (w : Wish) (x : Mark) → In w (made past) → Went past w.call x → (last : Bool) × In (Got w.call x last) past
posted_got past w x i (inl got) = got
posted_got past w x i (inr (lost, none)) = never (none w i refl)

-- the entry of a posted receive tells a message that was discarded
discarded : (w : Wish) (x : Mark) → Went (Lost x ∷ Came x ∷ Made w ∷ []) w.call x → Never
discarded w x went = go (posted_got (Lost x ∷ Came x ∷ Made w ∷ []) w x (inl refl) went)
  where
    go : (last : Bool) × In (Got w.call x last) (Lost x ∷ Came x ∷ Made w ∷ []) → Never
    go (last, inl e) = absurd (cc (e))
    go (last, inr (inl e)) = absurd (cc (e))
    go (last, inr (inr (inl e))) = absurd (cc (e))
    go (last, inr (inr (inr n))) = n

-- a message is claimed and taken
taken : Bound
taken = script_of ((line 4 (LineOp.TInject 0 5 (Text (codes "ab")) None) ∷ line 5 (LineOp.Claim 2 None 5 0) ∷ line 6 (LineOp.Take 2 4) ∷ []) ∷ [])

taken_steps : List Step
taken_steps = Do ∷ Head 0 ∷ Do ∷ Do ∷ Step.Sent 0 ∷ Tail 0 ∷ []

-- an entry tells it, and the past that it was lost and that no receive got it
abbrev TellsTaken : List Event → Peer → Type 0
TellsTaken past a =
    ((w : Written) × In w a.state.cq.written × (tells_message w.entry ≡ true) × (w.call ≡ Some 2))
    × ((x : Mark) × In (Lost x) past × Went past 2 x × ((last : Bool) → In (Got 2 x last) past → Never))

taken_met : Met taken (by 0 taken_steps) 0 (λ states a. TellsTaken (past_of (started taken) (ran taken (by 0 taken_steps)) 0) a)
unfolding taken taken_steps programs
taken_met = met taken (by 0 taken_steps) 0 (λ states a. TellsTaken (past_of (started taken) (ran taken (by 0 taken_steps)) 0) a) _ _ refl refl (
  (_, inr (inl refl), refl, refl),
  (_, inl refl, inr (inl refl, λ w i e. i), λ last i. elim i [ inl e ↦ absurd (cc (e)) | inr j ↦ elim j [ inl e ↦ absurd (cc (e)) | inr n ↦ n ] ]),
)
