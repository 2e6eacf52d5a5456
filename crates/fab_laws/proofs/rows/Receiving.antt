-- The laws of streams, claims and receives: histories by computing, and moments that meet their premises.
use Rattle.std.proofs.Common.{◌≡◌, ℕ, true, List, [], ◌∷◌, ◌++◌, map, Some, None, inl, inr, refl}
use Rattle.std.specs.Prelude.{codes}
use Rattle.fab_base.specs.declared.items.Item.{Item}
use Rattle.fab_base.specs.declared.operations.Written.{Written}
use Rattle.fab_base.specs.declared.peers.Step.{Step}
use Rattle.fab_base.specs.declared.peers.Step.TheVariants.{Do, Draw, Head, Tail}
use Rattle.fab_base.specs.declared.script.Bound.{Bound}
use Rattle.fab_base.specs.declared.script.BytesWord.TheVariants.{Text}
use Rattle.fab_base.specs.declared.script.LineOp.{LineOp}
use Rattle.fab_model.specs.Orders.{by}
use Rattle.fab_model.specs.State.{under_way}
use Rattle.fab_model.proofs.Scripts.{line, script_of}
use Rattle.fab_laws.specs.Members.{In}
use Rattle.fab_laws.specs.Matched.{Event, Got, Mark, past_of}
use Rattle.fab_laws.specs.Claimed.{Claimed, Discarded, Dropped, Handling, Slipped, Took, handled_of}
use Rattle.fab_laws.specs.ReceiveLaws.{IsComing}
use Rattle.fab_laws.specs.StreamLaws.{arrived_from, whole_from}
use Rattle.fab_laws.proofs.rows.Following.{Met, met, programs, ran, started}
use Rattle.fab_laws.specs.MultiLaws.{handed_back, placed, release_of, used_in}
use Rattle.fab_laws.proofs.rows.Matching.{drawn, due_steps, full, full_steps, mixed, mixed_steps}

told : Handling → List ℕ
told (Claimed ctx m) = 0 ∷ ctx ∷ m.source ∷ m.place ∷ []
told (Took call ctx m) = 1 ∷ call ∷ ctx ∷ m.source ∷ m.place ∷ []
told (Dropped call ctx m) = 2 ∷ call ∷ ctx ∷ m.source ∷ m.place ∷ []
told (Discarded call m) = 3 ∷ call ∷ m.source ∷ m.place ∷ []
told (Slipped m) = 4 ∷ m.source ∷ m.place ∷ []

handlings : Bound → List Step → List (List ℕ)
handlings bound steps = map told (handled_of (started bound) (ran bound (by 0 steps)) 0)

-- one message is claimed that is not whole, and one discarded that is
mixed_handled : handlings mixed mixed_steps ≡ (3 ∷ 6 ∷ 0 ∷ 1 ∷ []) ∷ (0 ∷ 2 ∷ 0 ∷ 0 ∷ []) ∷ []
unfolding handlings told mixed mixed_steps programs
mixed_handled = refl

-- two messages are claimed under different contexts; the second is taken before it is whole, the first dropped
unfoldable pub both : Bound
both = script_of ((line 4 (LineOp.TInject 0 5 (Text (codes "ab")) None) ∷ line 5 (LineOp.TInject 0 5 (Text (codes "cd")) None) ∷ line 6 (LineOp.Claim 2 None 5 0) ∷ line 7 (LineOp.Claim 3 None 5 0)
    ∷ line 8 (LineOp.Take 3 4) ∷ line 9 (LineOp.DropClaimed 2) ∷ []) ∷ [])

unfoldable pub both_steps : List Step
both_steps = Do ∷ Do ∷ Head 0 ∷ Step.Sent 0 ∷ Tail 0 ∷ Head 0 ∷ Do ∷ Do ∷ Do ∷ Do ∷ []

both_handled : handlings both both_steps ≡ (2 ∷ 5 ∷ 2 ∷ 0 ∷ 0 ∷ []) ∷ (1 ∷ 4 ∷ 3 ∷ 0 ∷ 1 ∷ []) ∷ (0 ∷ 3 ∷ 0 ∷ 1 ∷ []) ∷ (0 ∷ 2 ∷ 0 ∷ 0 ∷ []) ∷ []
unfolding handlings told both both_steps programs
both_handled = refl

-- the message that was taken is still on its way to the take
both_met : Met both (by 0 both_steps) 0 (λ states a. (x : Mark) × In (Took 4 3 x) (handled_of (started both) (ran both (by 0 both_steps)) 0) × IsComing a.state.rx 4 x)
unfolding both both_steps programs
both_met = met both (by 0 both_steps) 0 (λ states a. (x : Mark) × In (Took 4 3 x) (handled_of (started both) (ran both (by 0 both_steps)) 0) × IsComing a.state.rx 4 x) _ _ refl refl (_, inr (inl refl), (refl, refl))

-- an item has arrived and is not whole
unfoldable pub half : Bound
half = script_of ((line 4 (LineOp.TInject 0 5 (Text (codes "ab")) None) ∷ []) ∷ [])

half_row : (item : Item) × (arrived_from (started half) (ran half (by 0 (Do ∷ Head 0 ∷ []))) 0 0 ≡ item ∷ []) × (whole_from (started half) (ran half (by 0 (Do ∷ Head 0 ∷ []))) 0 0 ≡ [])
unfolding half programs
half_row = (_, refl, refl)

-- a buffer of 10 bytes for many messages draws two that wait, of 3 and 2 bytes
abbrev drawn_past : List Event
drawn_past = past_of (started drawn) (ran drawn (by 0 (due_steps ++ Draw ∷ Draw ∷ []))) 0

-- the number of each among its sender's items, and its place in the buffer
place_in : Mark × ℕ → List ℕ
place_in q = q.0.place ∷ q.1 ∷ []

drawn_places : map place_in (placed 10 2 drawn_past) ≡ (1 ∷ 3 ∷ []) ∷ (0 ∷ 0 ∷ []) ∷ []
unfolding place_in drawn due_steps programs
drawn_places = refl

drawn_used : used_in 10 2 drawn_past ≡ 5
unfolding drawn due_steps programs
drawn_used = refl

-- a buffer of 4 bytes takes no more after 3, and a message still comes into it; once it is whole the buffer comes back
full_waits : Met full (by 0 (Do ∷ Do ∷ Do ∷ Head 0 ∷ [])) 0 (λ states a. ((x : Mark) × In (Got 0 x true) (past_of (started full) (ran full (by 0 (Do ∷ Do ∷ Do ∷ Head 0 ∷ []))) 0)) × (under_way a.state.rx 0 ≡ true))
unfolding full programs
full_waits = met full (by 0 (Do ∷ Do ∷ Do ∷ Head 0 ∷ [])) 0 (λ states a. ((x : Mark) × In (Got 0 x true) (past_of (started full) (ran full (by 0 (Do ∷ Do ∷ Do ∷ Head 0 ∷ []))) 0)) × (under_way a.state.rx 0 ≡ true)) _ _ refl refl ((_, inl refl), refl)

full_back : Met full (by 0 full_steps) 0 (λ states a. In (release_of 0 1 3 (codes "abc" ++ 0 ∷ [])) a.state.cq.written)
unfolding full full_steps programs
full_back = met full (by 0 full_steps) 0 (λ states a. In (release_of 0 1 3 (codes "abc" ++ 0 ∷ [])) a.state.cq.written) _ _ refl refl (inr (inl refl))

-- two parts stand one behind the other in the buffer that comes back
unfoldable pub two_parts : Bound
two_parts = script_of ((line 4 (LineOp.MRecv 1 None 8 (Some 4)) ∷ line 5 (LineOp.Inject 0 (Text (codes "abc")) None) ∷ line 6 (LineOp.Inject 0 (Text (codes "de")) None) ∷ []) ∷ [])

unfoldable pub two_parts_steps : List Step
two_parts_steps = Do ∷ Do ∷ Do ∷ Head 0 ∷ Step.Sent 0 ∷ Tail 0 ∷ Head 0 ∷ Step.Sent 0 ∷ Tail 0 ∷ []

two_parts_back : Met two_parts (by 0 two_parts_steps) 0 (λ states a. In (release_of 0 1 5 (codes "abcde" ++ 0 ∷ 0 ∷ 0 ∷ [])) a.state.cq.written)
unfolding two_parts two_parts_steps programs
two_parts_back = met two_parts (by 0 two_parts_steps) 0 (λ states a. In (release_of 0 1 5 (codes "abcde" ++ 0 ∷ 0 ∷ 0 ∷ [])) a.state.cq.written) _ _ refl refl (inr (inr (inl refl)))

-- the receive is cancelled after a part came: its entry hands the buffer back with the part in it
unfoldable pub cut_off : Bound
cut_off = script_of ((line 4 (LineOp.MRecv 1 None 8 (Some 4)) ∷ line 5 (LineOp.Inject 0 (Text (codes "abc")) None) ∷ line 6 (LineOp.Cancel 1) ∷ []) ∷ [])

unfoldable pub cut_off_steps : List Step
cut_off_steps = Do ∷ Do ∷ Head 0 ∷ Step.Sent 0 ∷ Tail 0 ∷ Do ∷ []

cut_off_back : Met cut_off (by 0 cut_off_steps) 0 (λ states a. (w : Written) × In w a.state.cq.written × (w.call ≡ Some 0) × (handed_back w.entry ≡ Some (codes "abc" ++ 0 ∷ 0 ∷ 0 ∷ 0 ∷ 0 ∷ [])))
unfolding cut_off cut_off_steps programs
cut_off_back = met cut_off (by 0 cut_off_steps) 0 (λ states a. (w : Written) × In w a.state.cq.written × (w.call ≡ Some 0) × (handed_back w.entry ≡ Some (codes "abc" ++ 0 ∷ 0 ∷ 0 ∷ 0 ∷ 0 ∷ []))) _ _ refl refl (_, inr (inl refl), refl, refl)
