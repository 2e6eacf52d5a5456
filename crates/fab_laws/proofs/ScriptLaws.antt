-- The laws of scripts, from those of programs.
use Rattle.std.proofs.Common.{◌≡◌, ℕ, List, [], subst, subst₂}
use Rattle.std.specs.Prelude.{filter}
use Rattle.fab_base.specs.declared.items.Item.{Item}
use Rattle.fab_base.specs.declared.operations.Receive.{Receive}
use Rattle.fab_base.specs.declared.peers.Step.{Step}
use Rattle.fab_base.specs.declared.script.Bound.{Bound}
use Rattle.fab_model.specs.Orders.{Turn}
use Rattle.fab_model.specs.Peers.{Actor}
use Rattle.fab_model.specs.Replay.{opening}
use Rattle.fab_model.specs.State.{accepted_for}
use Rattle.fab_model.specs.Views.{IsPrefixOf}
use Rattle.fab_laws.specs.Scripts.{ScriptLeadTo, deeds_of, peer_of, peers}
use Rattle.fab_laws.specs.Matched.{Event, noting, past_of}
use Rattle.fab_laws.specs.MatchingLaws.{GetsRightly, PassesNoneOver, ServesInOrder, TakesInOrder, TellsPosted, TellsUnexpected}
use Rattle.fab_laws.specs.Completed.{Operations, keeping_books, operations_of}
use Rattle.fab_laws.specs.CompletionLaws.{AllCompleteOnce, NumberCompletes}
use Rattle.fab_laws.specs.FenceLaws.{FenceHolds, GoesInOrder, HoldsNothing, IsOfACall, ComesAfterAll, ItemIsOfACall}
use Rattle.fab_laws.specs.ReplyLaws.{FindsItsOperation, WaitsAtMatch}
use Rattle.fab_laws.specs.StreamLaws.{HasArrived, IsFirst, IsPosted, TakesAll, arrived_from, arriving, asks, posted_for, taking, whole_from}
use Rattle.fab_laws.specs.MessageLaws.{EntryTells, LetsOutSized, ReceiveTells, asked_of, keeping_asked}
use Rattle.fab_laws.specs.Claimed.{Handling, handled_of, handling}
use Rattle.fab_laws.specs.ClaimLaws.{EntryIsOwn, FreesClaimed, IsPutAway, NoneSlips, StaysAside}
use Rattle.fab_laws.specs.MultiLaws.{ClosesWhenFull, HandsBackParts, PlacesTell, ReleaseTells, ReleasedInTime, TellsEach}
use Rattle.fab_laws.specs.ReceiveLaws.{AllHaveFates, GotTold, LeavesOnce, OneTellsIt, TookTold}
use Rattle.fab_laws.specs.ScriptLaws as script
use Rattle.fab_laws.specs.ScriptLaws.{script_arrived, script_asked, script_handled, script_operations, script_past, script_whole}
use Rattle.fab_laws.proofs.Scripts.{of_scripts, of_turns, same_memory, script_opening}
use Rattle.fab_laws.proofs.matching.Orders.{got_rightly, none_passed_over, past_tells_state, served_in_order, taken_in_order}
use Rattle.fab_laws.proofs.completion.Once.{nothing_is_held_back, numbers_complete, one_final_completion}
use Rattle.fab_laws.proofs.fences.Law.{fences_hold, gone_in_order, items_are_of_calls}
use Rattle.fab_laws.proofs.replies.Stray.{answered_once, no_stray}
use Rattle.fab_laws.proofs.replies.Waiting.{all_wait_at_match}
use Rattle.fab_laws.proofs.streams.Taken.{taken_is_first}
use Rattle.fab_laws.proofs.streams.Posted.{taken_is_posted}
use Rattle.fab_laws.proofs.streams.Arrived.{all_is_taken, arrived_is_first, arrived_is_posted, whole_has_arrived}
use Rattle.fab_laws.proofs.streams.Entries.{entries_tell, receives_tell}
use Rattle.fab_laws.proofs.streams.Sized.{items_are_sized}
use Rattle.fab_laws.proofs.receiving.Holding.{closes_in_time, freed_rightly, goes_once, got_is_told, lost_is_put_away, none_is_lost, one_tells, parts_stand, places_follow, releases_in_time, releases_tell, stays_claimed, takes_tell, tells_once, took_is_told}

-- the history words of the program that makes the calls of a script's lines are those of the script
module _ (bound : Bound) (turns : List (Turn Step)) (states : List Actor) (leads : ScriptLeadTo bound turns states) where
  past : (p : ℕ) → past_of (peers (opening bound)) (deeds_of (opening bound) turns) p ≡ script_past bound turns p
  past p = same_memory noting p turns (opening bound) states [] leads

  operations : (p : ℕ) → operations_of (peers (opening bound)) (deeds_of (opening bound) turns) p ≡ script_operations bound turns p
  operations p = same_memory keeping_books p turns (opening bound) states (record { accepted = []; ended = [] }) leads

  whole : (p source : ℕ) → whole_from (peers (opening bound)) (deeds_of (opening bound) turns) p source ≡ script_whole bound turns p source
  whole p source = same_memory (taking source) p turns (opening bound) states [] leads

  -- of all sources at once
  all_whole : (p : ℕ) → whole_from (peers (opening bound)) (deeds_of (opening bound) turns) p ≡ script_whole bound turns p
  all_whole p = λ i source. whole p source i

  all_arrived : (p : ℕ) → arrived_from (peers (opening bound)) (deeds_of (opening bound) turns) p ≡ script_arrived bound turns p
  all_arrived p = λ i source. same_memory (arriving source) p turns (opening bound) states [] leads i

  all_operations : (λ source. operations_of (peers (opening bound)) (deeds_of (opening bound) turns) source) ≡ script_operations bound turns
  all_operations = λ i source. operations source i

  asked : (p : ℕ) → asked_of (peers (opening bound)) (deeds_of (opening bound) turns) p ≡ script_asked bound turns p
  asked p = same_memory keeping_asked p turns (opening bound) states [] leads

  handled : (p : ℕ) → handled_of (peers (opening bound)) (deeds_of (opening bound) turns) p ≡ script_handled bound turns p
  handled p = same_memory handling p turns (opening bound) states [] leads

-- ---- matching

pub script_none_passed_over : script.NonePassedOver
script_none_passed_over = of_scripts (λ from turns states p a. PassesNoneOver a.state.rx) none_passed_over

pub script_served_in_order : script.ServedInOrder
script_served_in_order bound turns states leads p a here =
    subst ServesInOrder (past bound turns states leads p) (of_scripts (λ from turns states p a. ServesInOrder (past_of from turns p)) served_in_order bound turns states leads p a here)

pub script_taken_in_order : script.TakenInOrder
script_taken_in_order bound turns states leads p a here =
    subst TakesInOrder (past bound turns states leads p) (of_scripts (λ from turns states p a. TakesInOrder (past_of from turns p)) taken_in_order bound turns states leads p a here)

pub script_got_rightly : script.GotRightly
script_got_rightly bound turns states leads p a here =
    subst GetsRightly (past bound turns states leads p) (of_scripts (λ from turns states p a. GetsRightly (past_of from turns p)) got_rightly bound turns states leads p a here)

pub script_past_tells_state : script.PastTellsState
script_past_tells_state bound turns states leads p a here =
    subst (λ events. TellsUnexpected events a.state.rx × TellsPosted events a.state.rx) (past bound turns states leads p)
    (of_scripts (λ from turns states p a. TellsUnexpected (past_of from turns p) a.state.rx × TellsPosted (past_of from turns p) a.state.rx) past_tells_state bound turns states leads p a here)

-- ---- completion

pub script_one_final_completion : script.OneFinalCompletion
script_one_final_completion bound turns states leads p a here =
    subst (λ (m : Operations). AllCompleteOnce m (peers states) p (peer_of a)) (operations bound turns states leads p)
    (of_scripts (λ from turns states p a. AllCompleteOnce (operations_of from turns p) states p a) one_final_completion bound turns states leads p a here)

pub script_numbers_complete : script.NumbersComplete
script_numbers_complete bound turns states leads p a here call =
    subst (λ (m : Operations). NumberCompletes m (peer_of a) call) (operations bound turns states leads p)
    (of_scripts (λ from turns states p a. (call : ℕ) → NumberCompletes (operations_of from turns p) a call) numbers_complete bound turns states leads p a here call)

-- ---- fences

pub script_fences_hold : script.FencesHold
script_fences_hold bound turns states leads p a here source c x at next =
    subst (λ (m : Operations). ComesAfterAll m p c x) (operations bound turns states leads source)
    (of_scripts (λ from turns states p a. FenceHolds (operations_of from turns) states p a) fences_hold bound turns states leads p a here source c x at next)

pub script_gone_in_order : script.GoneInOrder
script_gone_in_order bound turns states leads source c here p =
    subst (λ (m : Operations). GoesInOrder m p (peer_of c)) (operations bound turns states leads source)
    (of_scripts (λ from turns states source c. (p : ℕ) → GoesInOrder (operations_of from turns source) p c) gone_in_order bound turns states leads source c here p)

pub script_items_are_of_calls : script.ItemsAreOfCalls
script_items_are_of_calls bound turns states leads p a here source c x at next asks =
    subst (λ (m : Operations). IsOfACall m p x) (operations bound turns states leads source)
    (of_scripts (λ from turns states p a. ItemIsOfACall (operations_of from turns) states p a) items_are_of_calls bound turns states leads p a here source c x at next asks)

pub script_nothing_is_held_back : script.NothingIsHeldBack
script_nothing_is_held_back = of_scripts (λ from turns states p a. HoldsNothing states a) nothing_is_held_back

-- ---- replies

pub script_no_stray : script.NoStray
script_no_stray = of_scripts (λ from turns states p a. FindsItsOperation states p a) no_stray

pub script_answered_once : script.AnsweredOnce
unfolding script_opening opening
script_answered_once bound turns states leads p = answered_once (script_opening bound) (deeds_of (opening bound) turns) (peers states) (of_turns turns (opening bound) states leads) p

pub script_all_wait_at_match : script.AllWaitAtMatch
script_all_wait_at_match = of_scripts (λ from turns states p a. WaitsAtMatch states p a) all_wait_at_match

-- ---- streams and messages

pub script_taken_is_first : script.TakenIsFirst
script_taken_is_first bound turns states leads p a here source c at =
    subst (λ (items : List Item). IsPrefixOf items (accepted_for c.state.tx p)) (whole bound turns states leads p source)
    (of_scripts (λ from turns states p a. IsFirst (whole_from from turns p) states p) taken_is_first bound turns states leads p a here source c at)

pub script_taken_is_posted : script.TakenIsPosted
script_taken_is_posted bound turns states leads p a here source c at =
    subst (λ (m : Operations). IsPrefixOf (filter asks (script_whole bound turns p source)) (posted_for p m.accepted)) (operations bound turns states leads source)
    (subst (λ (items : List Item). IsPrefixOf (filter asks items) (posted_for p (operations_of (peers (opening bound)) (deeds_of (opening bound) turns) source).accepted)) (whole bound turns states leads p source)
    (of_scripts (λ from turns states p a. IsPosted (whole_from from turns p) (operations_of from turns) states p) taken_is_posted bound turns states leads p a here source c at))

pub script_arrived_is_first : script.ArrivedIsFirst
script_arrived_is_first bound turns states leads p a here =
    subst (λ (arrived : ℕ → List Item). IsFirst arrived (peers states) p) (all_arrived bound turns states leads p)
    (of_scripts (λ from turns states p a. IsFirst (arrived_from from turns p) states p) arrived_is_first bound turns states leads p a here)

pub script_arrived_is_posted : script.ArrivedIsPosted
script_arrived_is_posted bound turns states leads p a here =
    subst₂ (λ (arrived : ℕ → List Item) (m : ℕ → Operations). IsPosted arrived m (peers states) p) (all_arrived bound turns states leads p) (all_operations bound turns states leads)
    (of_scripts (λ from turns states p a. IsPosted (arrived_from from turns p) (operations_of from turns) states p) arrived_is_posted bound turns states leads p a here)

pub script_whole_has_arrived : script.WholeHasArrived
script_whole_has_arrived bound turns states leads p a here =
    subst₂ HasArrived (all_whole bound turns states leads p) (all_arrived bound turns states leads p)
    (of_scripts (λ from turns states p a. HasArrived (whole_from from turns p) (arrived_from from turns p)) whole_has_arrived bound turns states leads p a here)

pub script_all_is_taken : script.AllIsTaken
script_all_is_taken bound turns states leads p a here =
    subst₂ (λ (whole arrived : ℕ → List Item). TakesAll whole arrived (peers states) p) (all_whole bound turns states leads p) (all_arrived bound turns states leads p)
    (of_scripts (λ from turns states p a. TakesAll (whole_from from turns p) (arrived_from from turns p) states p) all_is_taken bound turns states leads p a here)

pub script_entries_tell : script.EntriesTell
script_entries_tell bound turns states leads p a here =
    subst (λ (m : List Receive). EntryTells (script_past bound turns p) m (peers states) p (peer_of a)) (asked bound turns states leads p)
    (subst (λ (events : List Event). EntryTells events (asked_of (peers (opening bound)) (deeds_of (opening bound) turns) p) (peers states) p (peer_of a)) (past bound turns states leads p)
    (of_scripts (λ from turns states p a. EntryTells (past_of from turns p) (asked_of from turns p) states p a) entries_tell bound turns states leads p a here))

pub script_receives_tell : script.ReceivesTell
script_receives_tell bound turns states leads p a here =
    subst (λ (m : List Receive). ReceiveTells (script_past bound turns p) m (peers states) p (peer_of a)) (asked bound turns states leads p)
    (subst (λ (events : List Event). ReceiveTells events (asked_of (peers (opening bound)) (deeds_of (opening bound) turns) p) (peers states) p (peer_of a)) (past bound turns states leads p)
    (of_scripts (λ from turns states p a. ReceiveTells (past_of from turns p) (asked_of from turns p) states p a) receives_tell bound turns states leads p a here))

-- ---- claims and receives

pub script_freed_rightly : script.FreedRightly
script_freed_rightly bound turns states leads p a here =
    subst (λ (h : List Handling). FreesClaimed h × NoneSlips h) (handled bound turns states leads p)
    (of_scripts (λ from turns states p a. FreesClaimed (handled_of from turns p) × NoneSlips (handled_of from turns p)) freed_rightly bound turns states leads p a here)

pub script_stays_claimed : script.StaysClaimed
script_stays_claimed bound turns states leads p a here =
    subst (λ (h : List Handling). StaysAside h a.state.rx) (handled bound turns states leads p)
    (of_scripts (λ from turns states p a. StaysAside (handled_of from turns p) a.state.rx) stays_claimed bound turns states leads p a here)

pub script_lost_is_put_away : script.LostIsPutAway
script_lost_is_put_away bound turns states leads p a here =
    subst₂ IsPutAway (past bound turns states leads p) (handled bound turns states leads p)
    (of_scripts (λ from turns states p a. IsPutAway (past_of from turns p) (handled_of from turns p)) lost_is_put_away bound turns states leads p a here)

pub script_takes_tell : script.TakesTell
script_takes_tell bound turns states leads p a here =
    subst (λ (m : List Receive). EntryIsOwn (script_past bound turns p) (script_handled bound turns p) m (peers states) p (peer_of a)) (asked bound turns states leads p)
    (subst₂ (λ (events : List Event) (h : List Handling). EntryIsOwn events h (asked_of (peers (opening bound)) (deeds_of (opening bound) turns) p) (peers states) p (peer_of a)) (past bound turns states leads p) (handled bound turns states leads p)
    (of_scripts (λ from turns states p a. EntryIsOwn (past_of from turns p) (handled_of from turns p) (asked_of from turns p) states p a) takes_tell bound turns states leads p a here))

pub script_got_is_told : script.GotIsTold
script_got_is_told bound turns states leads p a here =
    subst₂ (λ (events : List Event) (m : List Receive). GotTold events m (peers states) p (peer_of a)) (past bound turns states leads p) (asked bound turns states leads p)
    (of_scripts (λ from turns states p a. GotTold (past_of from turns p) (asked_of from turns p) states p a) got_is_told bound turns states leads p a here)

pub script_took_is_told : script.TookIsTold
script_took_is_told bound turns states leads p a here =
    subst₂ (λ (h : List Handling) (m : List Receive). TookTold h m (peers states) p (peer_of a)) (handled bound turns states leads p) (asked bound turns states leads p)
    (of_scripts (λ from turns states p a. TookTold (handled_of from turns p) (asked_of from turns p) states p a) took_is_told bound turns states leads p a here)

pub script_one_tells : script.OneTells
script_one_tells bound turns states leads p a here =
    subst₂ (λ (events : List Event) (m : List Receive). OneTellsIt events m (peers states) p (peer_of a)) (past bound turns states leads p) (asked bound turns states leads p)
    (of_scripts (λ from turns states p a. OneTellsIt (past_of from turns p) (asked_of from turns p) states p a) one_tells bound turns states leads p a here)

pub script_goes_once : script.GoesOnce
script_goes_once bound turns states leads p a here =
    subst LeavesOnce (past bound turns states leads p) (of_scripts (λ from turns states p a. LeavesOnce (past_of from turns p)) goes_once bound turns states leads p a here)

pub script_none_is_lost : script.NoneIsLost
script_none_is_lost bound turns states leads p a here =
    subst₂ (λ (events : List Event) (h : List Handling). AllHaveFates events h a.state.rx) (past bound turns states leads p) (handled bound turns states leads p)
    (of_scripts (λ from turns states p a. AllHaveFates (past_of from turns p) (handled_of from turns p) a.state.rx) none_is_lost bound turns states leads p a here)

pub script_places_follow : script.PlacesFollow
script_places_follow bound turns states leads p a here =
    subst₂ (λ (events : List Event) (m : List Receive). PlacesTell events m (peers states) p (peer_of a)) (past bound turns states leads p) (asked bound turns states leads p)
    (of_scripts (λ from turns states p a. PlacesTell (past_of from turns p) (asked_of from turns p) states p a) places_follow bound turns states leads p a here)

pub script_closes_in_time : script.ClosesInTime
script_closes_in_time bound turns states leads p a here =
    subst₂ ClosesWhenFull (past bound turns states leads p) (asked bound turns states leads p)
    (of_scripts (λ from turns states p a. ClosesWhenFull (past_of from turns p) (asked_of from turns p)) closes_in_time bound turns states leads p a here)

pub script_parts_stand : script.PartsStand
script_parts_stand bound turns states leads p a here =
    subst₂ (λ (events : List Event) (m : List Receive). HandsBackParts events m (peers states) p (peer_of a)) (past bound turns states leads p) (asked bound turns states leads p)
    (of_scripts (λ from turns states p a. HandsBackParts (past_of from turns p) (asked_of from turns p) states p a) parts_stand bound turns states leads p a here)

pub script_releases_tell : script.ReleasesTell
script_releases_tell bound turns states leads p a here =
    subst₂ (λ (events : List Event) (m : List Receive). ReleaseTells events m (peer_of a)) (past bound turns states leads p) (asked bound turns states leads p)
    (of_scripts (λ from turns states p a. ReleaseTells (past_of from turns p) (asked_of from turns p) a) releases_tell bound turns states leads p a here)

pub script_releases_in_time : script.ReleasesInTime
script_releases_in_time bound turns states leads p a here =
    subst₂ (λ (events : List Event) (m : List Receive). ReleasedInTime events m (peer_of a)) (past bound turns states leads p) (asked bound turns states leads p)
    (of_scripts (λ from turns states p a. ReleasedInTime (past_of from turns p) (asked_of from turns p) a) releases_in_time bound turns states leads p a here)

pub script_tells_once : script.TellsOnce
script_tells_once bound turns states leads p a here =
    subst₂ (λ (events : List Event) (m : List Receive). TellsEach events m (peer_of a)) (past bound turns states leads p) (asked bound turns states leads p)
    (of_scripts (λ from turns states p a. TellsEach (past_of from turns p) (asked_of from turns p) a) tells_once bound turns states leads p a here)

pub script_items_are_sized : script.ItemsAreSized
script_items_are_sized bound turns states leads p a here = of_scripts (λ from turns states p a. LetsOutSized a) items_are_sized bound turns states leads p a here
