-- A thread's record goes on with each call of its endpoint, by the call's contract.
use Rattle.std.proofs.Common.{◌≡◌, ℕ, Bool, true, List, [], ◌∷◌, ◌++◌, Option, None, Some, Result, refl, ap, ◌∙◌, subst}
use Rattle.std.specs.List.{list_all}
use Rattle.std.proofs.lemmas.Grind.{flat_map-append}
use Rattle.fab_base.specs.declared.faults.Fault.{Fault}
use Rattle.fab_base.specs.declared.faults.NoMemory.{NoMemory}
use Rattle.fab_model.specs.Calls.{Call}
use Rattle.fab_face.specs.Acts.{Act, Did, Took, Posted, Drew, Had, Went, is_move}
use Rattle.fab_face.specs.declared.events.Moved.{Moved}
use Rattle.fab_face.specs.Answers.{AllAre, Progressed, Receives, ReceivesNot, Sends, SendsNot}
use Rattle.fab_face.proofs.Joining.{draws_move, posts_move}
use Rattle.fab_face.specs.Held.{Lanes, Seen}
use Rattle.fab_doings.specs.Doings.{Doing, doings_by, own_by, own_of}
use Rattle.fab_doings.specs.Law.{Adds}
use Rattle.fab_doings.proofs.Keeping.{adds_then, is_of_call, went_adds}
use Rattle.fab_doings.specs.Recording.{IsRecorded, called}

-- ---- what acts of calls are of the thread's own

moves_are : (call : Option Call) (acts : List Act) → AllAre is_move acts → (list_all is_of_call acts ≡ true) × (own_of (doings_by call acts) ≡ [])
moves_are call [] are = (refl, refl)
moves_are call (Did ∷ acts) are = absurd (cc)
moves_are call (Had ∷ acts) are = absurd (cc)
moves_are None (Took source f ∷ acts) are = moves_are None acts are
moves_are (Some c) (Took source f ∷ acts) are = moves_are (Some c) acts are
moves_are None (Posted dest f ∷ acts) are = moves_are None acts are
moves_are (Some c) (Posted dest f ∷ acts) are = moves_are (Some c) acts are
moves_are None (Drew ∷ acts) are = moves_are None acts are
moves_are (Some c) (Drew ∷ acts) are = moves_are (Some c) acts are

call_is : (c : Call) (before after : List Act) → AllAre is_move before → AllAre is_move after → (list_all is_of_call (before ++ Did ∷ after) ≡ true) × (own_of (doings_by (Some c) (before ++ Did ∷ after)) ≡ called c ∷ [])
call_is c [] after first then = let m = moves_are (Some c) after then in (m.0, ap (λ xs. called c ∷ xs) m.1)
call_is c (Did ∷ before) after first then = absurd (cc)
call_is c (Had ∷ before) after first then = absurd (cc)
call_is c (Took source f ∷ before) after first then = call_is c before after first then
call_is c (Posted dest f ∷ before) after first then = call_is c before after first then
call_is c (Drew ∷ before) after first then = call_is c before after first then

module _ {Home : Type 0} where
  adds_recorded : (old new : Seen Home) (more : List Doing) → new.lanes.home ≡ old.lanes.home → new.lanes.number ≡ old.lanes.number → Adds old new more → IsRecorded old new (own_of more)
  adds_recorded old new more home number adds = record { more = more; adds = adds; are = refl; home = home; number = number }

  -- progress, and a call that is refused
  pub moved_recorded : (old new : Seen Home) (call : Option Call) (acts : List Act) → AllAre is_move acts → Went call old new acts → IsRecorded old new []
  moved_recorded old new call acts are went =
      let m = moves_are call acts are in
      subst (IsRecorded old new) m.1 (adds_recorded old new (doings_by call acts) went.ported.home went.ported.number (went_adds old new call acts m.0 went))

  -- a call that is Ok
  pub call_recorded : (old new : Seen Home) (c : Call) (before after : List Act) → AllAre is_move before → AllAre is_move after → Went (Some c) old new (before ++ Did ∷ after) → IsRecorded old new (called c ∷ [])
  call_recorded old new c before after first then went =
      let m = call_is c before after first then in
      subst (IsRecorded old new) m.1 (adds_recorded old new (doings_by (Some c) (before ++ Did ∷ after)) went.ported.home went.ported.number (went_adds old new (Some c) (before ++ Did ∷ after) m.0 went))

  -- transmit calls, receive calls and progress, by what they say

  pub sends_recorded : (fixed : Bool) (c : Call) (dest : ℕ) (old new : Seen Home) → Sends fixed c dest old new → IsRecorded old new (called c ∷ [])
  sends_recorded fixed c dest old new s = call_recorded old new c s.before s.after (posts_move s.before s.push) (posts_move s.after s.posts) s.went

  pub sends_not_recorded : (fixed : Bool) (c : Call) (old new : Seen Home) (fault : Fault) → SendsNot fixed c old new fault → IsRecorded old new []
  sends_not_recorded fixed c old new fault s = moved_recorded old new (Some c) s.acts (posts_move s.acts s.push) s.went

  pub receives_recorded : (c : Call) (old new : Seen Home) → Receives c old new → IsRecorded old new (called c ∷ [])
  receives_recorded c old new r = call_recorded old new c r.before r.after (draws_move r.before r.draws) (draws_move r.after r.then_draws) r.went

  pub receives_not_recorded : (c : Call) (old new : Seen Home) (fault : Fault) → ReceivesNot c old new fault → IsRecorded old new []
  receives_not_recorded c old new fault r = moved_recorded old new (Some c) r.acts (draws_move r.acts r.draws) r.went

  pub progressed_recorded : (fixed : Bool) (budget : ℕ) (old new : Seen Home) (answer : Result Moved NoMemory) → Progressed fixed budget old new answer → IsRecorded old new []
  progressed_recorded fixed budget old new answer p = moved_recorded old new None p.acts p.moves p.went

  -- calls that leave the lanes
  pub still_recorded : (old new : Seen Home) (more : List Doing) → new.lanes ≡ old.lanes → Adds old new more → IsRecorded old new (own_of more)
  still_recorded old new more lanes = adds_recorded old new more (ap (λ (l : Lanes Home). l.home) lanes) (ap (λ (l : Lanes Home). l.number) lanes)

  pub recorded_then : (old mid new : Seen Home) {xs ys : List Doing} → IsRecorded old mid xs → IsRecorded mid new ys → IsRecorded old new (xs ++ ys)
  recorded_then old mid new first second = record {
    more = first.more ++ second.more;
    adds = adds_then old mid new first.more second.more first.adds second.adds;
    are = flat_map-append own_by first.more second.more ∙ (λ i. first.are i ++ second.are i);
    home = second.home ∙ first.home;
    number = second.number ∙ first.number;
  }
