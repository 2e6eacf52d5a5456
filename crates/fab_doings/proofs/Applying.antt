-- A thread's record goes on with each call of an application's endpoint, by the call's contract: that a call begins with an empty log changes nothing that a record has.
use Rattle.std.proofs.Common.{◌≡◌, ℕ, ◌-◌, Bool, List, [], ◌∷◌, ◌++◌, length, map, Option, None, Result, Ok, Err, inl, inr, refl, sym, ap, ◌∙◌, subst, arith, append-nil}
use Rattle.fab_base.specs.declared.entries.Entry.{Entry as EntryValue}
use Rattle.fab_base.specs.declared.entries.Taken.TheVariants.{Success, Failure}
use Rattle.fab_base.specs.declared.faults.Fault.{Fault}
use Rattle.fab_base.specs.declared.faults.NoMemory.{NoMemory}
use Rattle.fab_model.specs.Calls.{Call}
use Rattle.fab_face.specs.declared.events.Moved.{Moved}
use Rattle.fab_face.specs.Held.{Seen}
use Rattle.fab_face.specs.Acts.{Act, Did, Took, Posted, Drew as DrewOne, Had as HadOne, GoesBy, Ported, events, is_draw, is_move}
use Rattle.fab_face.specs.Answers.{AllAre, Sends, SendsNot}
use Rattle.fab_face.proofs.Joining.{ported_still}
use Rattle.fab_app.specs.declared.completions.Polled.{Polled}
use Rattle.fab_app.specs.declared.completions.Polled.TheVariants.{Entry, Error, Idle, More}
use Rattle.fab_app.specs.declared.moving.Next.{Next}
use Rattle.fab_app.specs.Cleared.{cleared}
use Rattle.fab_app.specs.Late.{Drew, ReceivesLate, ReceivesLateNot}
use Rattle.fab_app.specs.Polls.{Polls, PollsAs, Waits}
use Rattle.fab_app.specs.Progresses.{Moves, Progresses}
use Rattle.fab_app.specs.Takes.{TakesAll}
use Rattle.fab_app.specs.Trying.{ReceivesWithin, ReceivesWithinNot, SendsLate, SendsLateNot}
use Rattle.fab_collectives.specs.declared.collective.Collective.{Collective}
use Rattle.fab_collectives.specs.declared.collective.Work.{Work}
use Rattle.fab_collectives.specs.Driving.{Asks, AsksAll, AsksNot, Drives, Drove, Ends, Goes, InTurn, Tells, TellsAll, TellsNot, asking, between, telling}
use Rattle.fab_doings.specs.Doings.{Doing, Had}
use Rattle.fab_doings.proofs.Keeping.{log_adds, pop_adds}
use Rattle.fab_doings.specs.Recording.{IsRecorded, called}
use Rattle.fab_collectives.specs.Routes.{rounds_in, target_in}
use Rattle.fab_doings.specs.Driven.{asked_in, driven, its_asks, its_tells, told_in}
use Rattle.fab_doings.specs.Talking.{read_of}
use Rattle.fab_doings.proofs.Recording.{moved_recorded, progressed_recorded, receives_recorded, receives_not_recorded, recorded_then, still_recorded}
use Rattle.fab_doings.proofs.Recording as recording

-- what an answer says that was read
abbrev pub reads_in : Result Polled NoMemory → List Doing
reads_in (Ok polled) = read_of polled
reads_in (Err lacks) = []

-- nothing is told in no rounds
none_told : (work : Work) (own : List ℕ) (received : List (List ℕ)) (a b : ℕ) → b ≡ a → its_tells work own received a b ≡ []
none_told work own received a b same =
    let none : b - a ≡ 0 = omega (arith, same) in
    rw none refl

module _ {Home : Type 0} where
  -- the log was emptied first
  cleared_first : (old new : Seen Home) {own : List Doing} → IsRecorded (cleared old) new own → IsRecorded old new own
  cleared_first old new recorded = record { more = recorded.more; adds = λ kept past. recorded.adds kept past; are = recorded.are; home = recorded.home; number = recorded.number }

  -- whatever became of the log
  goes_recorded : (old new : Seen Home) (acts : List Act) → AllAre is_move acts → GoesBy None old.held acts new.held → new.log_size ≡ old.log_size → Ported old.lanes new.lanes acts → IsRecorded old new []
  goes_recorded old new acts are goes size ported =
      let told : Seen Home = record new { log = old.log ++ events acts } in
      let recorded = moved_recorded old told None acts are (record { goes = goes; log = refl; size = size; ported = ported }) in
      record { more = recorded.more; adds = λ kept past. recorded.adds kept past; are = recorded.are; home = ported.home; number = ported.number }

  pub same_recorded : (old new : Seen Home) → new ≡ old → IsRecorded old new []
  same_recorded old new same = still_recorded old new [] (ap (λ (e : Seen Home). e.lanes) same) (log_adds old new (ap (λ (e : Seen Home). e.held) same) (ap (λ (e : Seen Home). e.lanes) same))

  -- ---- transmit calls

  pub sends_recorded : (fixed : Bool) (call : Call) (dest : ℕ) (old new : Seen Home) → Sends fixed call dest (cleared old) new → IsRecorded old new (called call ∷ [])
  sends_recorded fixed call dest old new s = cleared_first old new (recording.sends_recorded fixed call dest (cleared old) new s)

  pub sends_not_recorded : (fixed : Bool) (call : Call) (old new : Seen Home) (fault : Fault) → SendsNot fixed call (cleared old) new fault → IsRecorded old new []
  sends_not_recorded fixed call old new fault s = cleared_first old new (recording.sends_not_recorded fixed call (cleared old) new fault s)

  -- ---- progress

  pub progresses_recorded : (old new : Seen Home) → Progresses old new → IsRecorded old new []
  progresses_recorded old new p = goes_recorded old new p.acts p.moves p.goes p.size p.ported

  pub moves_recorded : (fixed : Bool) (budget : ℕ) (old new : Seen Home) (answer : Result Next NoMemory) → Moves fixed budget (cleared old) new answer → IsRecorded old new []
  moves_recorded fixed budget old new answer moves = cleared_first old new (progressed_recorded fixed budget (cleared old) new moves.moved moves.progressed)

  -- ---- receive calls

  draws_recorded : (acts : List Act) (old new : Seen Home) → AllAre is_draw acts → GoesBy None old.held acts new.held → new.log_size ≡ old.log_size → new.lanes ≡ old.lanes → IsRecorded old new []
  draws_recorded [] old new are goes size lanes = goes_recorded old new [] refl goes size (ported_still old.lanes new.lanes [] lanes (λ s. refl) (λ d. refl) refl)
  draws_recorded (DrewOne ∷ acts) old new are (mid, one, rest) size lanes =
      let drawn : Seen Home = record old { held = mid } in
      recorded_then old drawn new (goes_recorded old drawn (DrewOne ∷ []) refl (mid, one, refl) refl (ported_still old.lanes old.lanes (DrewOne ∷ []) refl (λ s. refl) (λ d. refl) refl))
      (draws_recorded acts drawn new are rest size lanes)
  draws_recorded (Did ∷ acts) old new are goes size lanes = absurd (cc)
  draws_recorded (Took source f ∷ acts) old new are goes size lanes = absurd (cc)
  draws_recorded (Posted dest f ∷ acts) old new are goes size lanes = absurd (cc)
  draws_recorded (HadOne ∷ acts) old new are goes size lanes = absurd (cc)

  drew_recorded : (old new : Seen Home) → Drew old new → IsRecorded old new []
  drew_recorded old new drew = draws_recorded drew.acts old new drew.draws drew.goes drew.size drew.lanes

  pub late_recorded : (call : Call) (old new : Seen Home) → ReceivesLate call old new → IsRecorded old new (called call ∷ [])
  late_recorded call old new late = recorded_then old late.mid new (drew_recorded old late.mid late.drew) (cleared_first late.mid new (receives_recorded call (cleared late.mid) new late.receives))

  pub late_not_recorded : (call : Call) (old new : Seen Home) (fault : Fault) → ReceivesLateNot call old new fault → IsRecorded old new []
  late_not_recorded call old new fault late = recorded_then old late.mid new (drew_recorded old late.mid late.drew) (cleared_first late.mid new (receives_not_recorded call (cleared late.mid) new fault late.refused))

  -- ---- calls that are made again while they are refused for now

  pub sends_late_recorded : (fixed : Bool) (call : Call) (dest : ℕ) (old new : Seen Home) → SendsLate fixed call dest old new → IsRecorded old new (called call ∷ [])
  sends_late_recorded fixed call dest old new late = recorded_then old late.mid new (progresses_recorded old late.mid late.before) (sends_recorded fixed call dest late.mid new late.sends)

  pub sends_late_not_recorded : (fixed : Bool) (call : Call) (old new : Seen Home) (fault : Fault) → SendsLateNot fixed call old new fault → IsRecorded old new []
  sends_late_not_recorded fixed call old new fault late = recorded_then old late.mid new (progresses_recorded old late.mid late.before) (sends_not_recorded fixed call late.mid new fault late.refused)

  pub receives_within_recorded : (call : Call) (old new : Seen Home) → ReceivesWithin call old new → IsRecorded old new (called call ∷ [])
  receives_within_recorded call old new within = recorded_then old within.mid new (progresses_recorded old within.mid within.before) (late_recorded call within.mid new within.receives)

  pub receives_within_not_recorded : (call : Call) (old new : Seen Home) (fault : Fault) → ReceivesWithinNot call old new fault → IsRecorded old new []
  receives_within_not_recorded call old new fault within = recorded_then old within.mid new (progresses_recorded old within.mid within.before) (late_not_recorded call within.mid new fault within.refused)

  -- ---- completions

  told_recorded : (budget : ℕ) (old mid new : Seen Home) (acts : List Act) (moved : Result Moved NoMemory) (answer : Result Polled NoMemory) → PollsAs budget old mid new acts moved answer → IsRecorded mid new (reads_in answer)
  told_recorded budget old mid new acts moved (Ok (Entry entry)) pops = still_recorded mid new _ (ap (λ (e : Seen Home). e.lanes) pops.read) (pop_adds mid new (Success entry) pops)
  told_recorded budget old mid new acts moved (Ok (Error entry)) pops = still_recorded mid new _ (ap (λ (e : Seen Home). e.lanes) pops.read) (pop_adds mid new (Failure entry) pops)
  told_recorded budget old mid new acts moved (Ok Idle) none = same_recorded mid new none.0.0
  told_recorded budget old mid new acts moved (Ok More) none = same_recorded mid new none.0.0
  told_recorded budget old mid new acts moved (Err lacks) none = same_recorded mid new none.0.0

  pub polls_recorded : (fixed : Bool) (budget : ℕ) (old new : Seen Home) (answer : Result Polled NoMemory) → Polls fixed budget (cleared old) new answer → IsRecorded old new (reads_in answer)
  polls_recorded fixed budget old new answer polls =
      recorded_then old polls.mid new (cleared_first old polls.mid (progressed_recorded fixed budget (cleared old) polls.mid polls.moved polls.progressed))
      (told_recorded budget (cleared old) polls.mid new polls.progressed.acts polls.moved answer polls.told)

  pub waits_recorded : (fixed : Bool) (budget : ℕ) (old new : Seen Home) (answer : Result Polled NoMemory) → Waits fixed budget old new answer → IsRecorded old new (reads_in answer)
  waits_recorded fixed budget old new answer waits = recorded_then old waits.mid new (progresses_recorded old waits.mid waits.before) (polls_recorded fixed budget waits.mid new answer waits.polls)

  pub takes_recorded : (entries : List EntryValue) (old new : Seen Home) → TakesAll entries old new → IsRecorded old new (map (λ (entry : EntryValue). Had (Success entry)) entries)
  takes_recorded [] old new same = same_recorded old new same
  takes_recorded (entry ∷ entries) old new (mid, pops, rest) = recorded_then old mid new (still_recorded old mid _ (ap (λ (e : Seen Home). e.lanes) pops.read) (pop_adds old mid (Success entry) pops)) (takes_recorded entries mid new rest)

  -- ---- a drive of a collective

  in_turn_recorded :
      (one : ℕ → Seen Home → Seen Home → Type 0) (call : ℕ → Call) → ((rank : ℕ) (old new : Seen Home) → one rank old new → IsRecorded old new (called (call rank) ∷ [])) → (ranks : List ℕ) (old new : Seen Home) → InTurn one ranks old new
      → IsRecorded old new (map (λ (rank : ℕ). called (call rank)) ranks)
  in_turn_recorded one call each [] old new same = same_recorded old new same
  in_turn_recorded one call each (rank ∷ ranks) old new (mid, made, rest) = recorded_then old mid new (each rank old mid made) (in_turn_recorded one call each ranks mid new rest)

  ends_recorded :
      (not : ℕ → Seen Home → Seen Home → Fault → Type 0) → ((rank : ℕ) (old new : Seen Home) (why : Fault) → not rank old new why → IsRecorded old new []) → (b last : ℕ) (old new : Seen Home) (answer : Result (Unit {0}) Fault) → Ends not b last old new answer
      → IsRecorded old new []
  ends_recorded not each b last old new (Ok done) (inl (all, same)) = same_recorded old new same
  ends_recorded not each b last old new (Ok done) (inr (lt, passing)) = each b old new passing.0 passing.2
  ends_recorded not each b last old new (Err why) (lt, (good, inl refused)) = each b old new why refused
  ends_recorded not each b last old new (Err why) (lt, (good, inr (lacks, same))) = same_recorded old new same

  half_recorded :
      (one : ℕ → Seen Home → Seen Home → Type 0) (not : ℕ → Seen Home → Seen Home → Fault → Type 0) (call : ℕ → Call) → ((rank : ℕ) (old new : Seen Home) → one rank old new → IsRecorded old new (called (call rank) ∷ []))
      → ((rank : ℕ) (old new : Seen Home) (why : Fault) → not rank old new why → IsRecorded old new []) → (test : ℕ → Bool) (a b last : ℕ) (old new : Seen Home) (answer : Result (Unit {0}) Fault) → Goes one not test a b last old new answer
      → IsRecorded old new (map (λ (rank : ℕ). called (call rank)) (between test a b))
  half_recorded one not call each each_not test a b last old new answer goes =
      subst (IsRecorded old new) (append-nil (map (λ (rank : ℕ). called (call rank)) (between test a b)))
      (recorded_then old goes.mid new (in_turn_recorded one call each (between test a b) old goes.mid goes.made) (ends_recorded not each_not b last goes.mid new answer goes.ends))

  asks_recorded : (work : Work) (len a b : ℕ) (old new : Seen Home) (answer : Result (Unit {0}) Fault) → AsksAll work len a b old new answer → IsRecorded old new (its_asks work len a b)
  asks_recorded work len a b old new answer =
      half_recorded (Asks work len) (AsksNot work len) (asked_in work len) (λ k x y. late_recorded (asked_in work len k) x y) (λ k x y why. late_not_recorded (asked_in work len k) x y why) _ a b (rounds_in work len) old new answer

  tells_recorded : (fixed : Bool) (work : Work) (own : List ℕ) (received : List (List ℕ)) (last a b : ℕ) (old new : Seen Home) (answer : Result (Unit {0}) Fault) → TellsAll fixed work own received last a b old new answer
      → IsRecorded old new (its_tells work own received a b)
  tells_recorded fixed work own received last a b old new answer =
      half_recorded (Tells fixed work own received) (TellsNot fixed work own received) (told_in work own received) (λ k x y. sends_recorded fixed (told_in work own received k) (target_in work (length own) k) x y) (λ k x y why. sends_not_recorded fixed (told_in work own received k) x y why) _ a b last old new answer

  drove_recorded : (fixed : Bool) (c d : Collective) (old new : Seen Home) (answer : Result (Unit {0}) Fault) → Drove fixed c d old new answer → IsRecorded old new (driven c d)
  drove_recorded fixed c d old new answer (mid, asks, (due, is, tells)) =
      recorded_then old mid new (asks_recorded c.work (length c.own) c.asked d.asked old mid (Ok tt) asks) (tells_recorded fixed c.work c.own c.received.items due c.sent d.sent mid new answer tells)

  pub drives_recorded : (fixed : Bool) (c d : Collective) (old new : Seen Home) (answer : Result (Option (List ℕ)) Fault) → Drives fixed c d old new answer → IsRecorded old new (driven c d)
  unfolding Drives
  drives_recorded fixed c d old new (Ok given) drove = drove_recorded fixed c d old new (Ok tt) drove
  drives_recorded fixed c d old new (Err why) (inl (asks, none)) =
      let all : its_asks c.work (length c.own) c.asked d.asked ≡ driven c d = sym (append-nil (its_asks c.work (length c.own) c.asked d.asked)) ∙ ap (λ xs. its_asks c.work (length c.own) c.asked d.asked ++ xs) (sym (none_told c.work c.own c.received.items c.sent d.sent none)) in
      subst (IsRecorded old new) all (asks_recorded c.work (length c.own) c.asked d.asked old new (Err why) asks)
  drives_recorded fixed c d old new (Err why) (inr (inl drove)) = drove_recorded fixed c d old new (Err why) drove
  drives_recorded fixed c d old new (Err why) (inr (inr (drove, nothing))) = drove_recorded fixed c d old new (Ok tt) drove
