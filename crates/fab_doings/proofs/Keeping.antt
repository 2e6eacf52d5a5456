-- What a thread adds to its record at each call, from the call's contract.
use Rattle.std.proofs.Common.{◌≡◌, ℕ, Bool, true, false, List, [], ◌∷◌, ◌++◌, map, fold, Option, Some, None, refl, sym, ap, ◌∙◌, subst, append_assoc, append-nil}
use Rattle.std.specs.List.{flat_map, list_all}
use Rattle.std.proofs.lemmas.Bool.{and_parts}
use Rattle.fab_base.specs.declared.entries.Taken.{Taken}
use Rattle.fab_base.specs.declared.entries.Class.{Class}
use Rattle.fab_base.specs.declared.peers.LineResult.{LineResult}
use Rattle.fab_base.specs.declared.peers.LineResult.TheVariants.{Index}
use Rattle.fab_model.specs.State.{State}
use Rattle.fab_model.specs.Calls.{Call, do_call, insert}
use Rattle.fab_av.specs.Addresses.{insert_next, inserting}
use Rattle.fab_av.specs.declared.addresses.InsertReport.{InsertReport}
use Rattle.fab_face.specs.Held.{Held, Seen, with_machine}
use Rattle.fab_face.specs.Acts as acts
use Rattle.fab_face.specs.Acts.{headed, is_first, only, Act, Goes, GoesBy, MovedBy, Went}
use Rattle.fab_link.specs.Joined.{is_last}
use Rattle.fab_face.specs.Answers.{Inserts, Locally, Pops, adding}
use Rattle.fab_doings.specs.Doings.{Did, Does, Doing, DoesBy, Had, Living, Own, Owns, Calls, Posted, Took, Writes, act_of, acts_of, doing_of, doings_by, inserted}
use Rattle.fab_doings.specs.Law.{Adds, KeptBy, Past, past_in}
use Rattle.fab_merging.proofs.Composing.{moved_same, moved_then}
use Rattle.fab_merging.proofs.Lists.{posted_then, taken_then, trail_then, ways_then}

abbrev living : Held → List State → Living
living h past = record { held = h; past = past }

-- ---- acts

-- no call reads
abbrev pub is_of_call : Act → Bool
is_of_call acts.Had = false
is_of_call _ = true

-- the states after what an act does
abbrev states_by : Option Call → Held → Act → Held → List State
states_by None h acts.Did t = []
states_by (Some call) h acts.Did t = t.state ∷ []
states_by call h (acts.Took source f) t = only (is_first f) (headed (is_first f) h.state source f.head.item) ++ only (is_last f.head) t.state
states_by call h (acts.Posted dest f) t = only (is_last f.head) t.state
states_by call h acts.Drew t = t.state ∷ []
states_by call h acts.Had t = []

one_does : (call : Option Call) (h t : Held) (act : Act) (rest : List Doing) (past : List State) (u : Living) → is_of_call act ≡ true → Goes call h act t → DoesBy (living t (past ++ states_by call h act t)) rest u → DoesBy (living h past) (doing_of call act ++ rest) u
one_does None h t acts.Did rest past u calls goes more = elim goes [ ]
one_does (Some call) h t acts.Did rest past u calls (does, is) more = (living t (past ++ t.state ∷ []), ((does, refl), (ap (λ (x : Held). x.places) is, ap (λ (x : Held). x.begun) is)), more)
one_does None h t (acts.Took source f) rest past u calls goes more = (living t (past ++ states_by None h (acts.Took source f) t), (goes, refl), more)
one_does (Some call) h t (acts.Took source f) rest past u calls goes more = (living t (past ++ states_by (Some call) h (acts.Took source f) t), (goes, refl), more)
one_does None h t (acts.Posted dest f) rest past u calls goes more = (living t (past ++ only (is_last f.head) t.state), (goes, refl), more)
one_does (Some call) h t (acts.Posted dest f) rest past u calls goes more = (living t (past ++ only (is_last f.head) t.state), (goes, refl), more)
one_does None h t acts.Drew rest past u calls goes more = (living t (past ++ t.state ∷ []), (goes, refl), more)
one_does (Some call) h t acts.Drew rest past u calls goes more = (living t (past ++ t.state ∷ []), (goes, refl), more)
one_does call h t acts.Had rest past u calls goes more = absurd (cc (calls))

all_do : (call : Option Call) (xs : List Act) (h t : Held) (past : List State) → list_all is_of_call xs ≡ true → GoesBy call h xs t → (states : List State) × DoesBy (living h past) (doings_by call xs) (living t (past ++ states))
all_do call [] h t past calls goes = ([], (λ i. record { held = goes i; past = sym (append-nil past) i }))
all_do call (x ∷ xs) h t past calls (mid, one, rest) =
    let mine = states_by call h x mid in
    let each = and_parts (is_of_call x) (list_all is_of_call xs) calls in
    let more = all_do call xs mid t (past ++ mine) each.1 rest in
    let done : DoesBy (living mid (past ++ mine)) (doings_by call xs) (living t (past ++ (mine ++ more.0))) = subst (λ us. DoesBy (living mid (past ++ mine)) (doings_by call xs) (living t us)) (append_assoc past mine more.0) more.1 in
    (mine ++ more.0, one_does call h mid x (doings_by call xs) past (living t (past ++ (mine ++ more.0))) each.0 one done)

-- the doings move what the acts do: whatever is told of acts, and nothing of a call
same_by : {X : Type 0} (f : Act → List X) → f acts.Did ≡ [] → f acts.Had ≡ [] → (call : Option Call) (xs : List Act) → flat_map f (acts_of (doings_by call xs)) ≡ flat_map f xs
same_by f none read call [] = refl
same_by f none read None (acts.Did ∷ xs) = same_by f none read None xs ∙ ap (λ ys. ys ++ flat_map f xs) (sym none)
same_by f none read (Some c) (acts.Did ∷ xs) = ap (λ ys. f acts.Did ++ ys) (same_by f none read (Some c) xs)
same_by f none read None (acts.Took e g ∷ xs) = ap (λ ys. f (acts.Took e g) ++ ys) (same_by f none read None xs)
same_by f none read (Some c) (acts.Took e g ∷ xs) = ap (λ ys. f (acts.Took e g) ++ ys) (same_by f none read (Some c) xs)
same_by f none read None (acts.Posted e g ∷ xs) = ap (λ ys. f (acts.Posted e g) ++ ys) (same_by f none read None xs)
same_by f none read (Some c) (acts.Posted e g ∷ xs) = ap (λ ys. f (acts.Posted e g) ++ ys) (same_by f none read (Some c) xs)
same_by f none read None (acts.Drew ∷ xs) = ap (λ ys. f acts.Drew ++ ys) (same_by f none read None xs)
same_by f none read (Some c) (acts.Drew ∷ xs) = ap (λ ys. f acts.Drew ++ ys) (same_by f none read (Some c) xs)
same_by f none read None (acts.Had ∷ xs) = same_by f none read None xs ∙ ap (λ ys. ys ++ flat_map f xs) (sym read)
same_by f none read (Some c) (acts.Had ∷ xs) = same_by f none read (Some c) xs ∙ ap (λ ys. ys ++ flat_map f xs) (sym read)

-- ---- names, inserted one by one

answers_of : State → List (List ℕ) → List LineResult
answers_of s [] = []
answers_of s (name ∷ names) = (insert s name).0 ∷ answers_of (insert s name).1 names

all_answered : (names : List (List ℕ)) (done : List LineResult) (s : State) → (fold insert_next (done, s) names).0 ≡ done ++ answers_of s names
unfolding answers_of
all_answered [] done s = sym (append-nil done)
all_answered (name ∷ names) done s = all_answered names (done ++ (insert s name).0 ∷ []) (insert s name).1 ∙ append_assoc done ((insert s name).0 ∷ []) (answers_of (insert s name).1 names)

all_insert : (names : List (List ℕ)) (done : List LineResult) (h : Held) (past : List State) → (states : List State) × DoesBy (living h past) (inserted names (answers_of h.state names)) (living (with_machine (fold insert_next (done, h.state) names).1 h) (past ++ states))
unfolding answers_of do_call
all_insert [] done h past = ([], (λ i. record { held = h; past = sym (append-nil past) i }))
all_insert (name ∷ names) done h past =
    let one = insert h.state name in
    let more = all_insert names (done ++ one.0 ∷ []) (with_machine one.1 h) (past ++ one.1 ∷ []) in
    let rest = inserted names (answers_of one.1 names) in (
      one.1 ∷ more.0,
      (
        living (with_machine one.1 h) (past ++ one.1 ∷ []),
        ((refl, refl), (refl, refl)),
        subst (λ us. DoesBy (living (with_machine one.1 h) (past ++ one.1 ∷ [])) rest (living (with_machine (fold insert_next (done ++ one.0 ∷ [], one.1) names).1 h) us)) (append_assoc past (one.1 ∷ []) more.0) more.1,
      ),
    )

none_by : {X : Type 0} (f : Act → List X) → f acts.Did ≡ [] → (names : List (List ℕ)) (answers : List LineResult) → flat_map f (acts_of (inserted names answers)) ≡ []
none_by f none [] answers = refl
none_by f none (name ∷ names) [] = refl
none_by f none (name ∷ names) (answer ∷ answers) = ap (λ ys. ys ++ flat_map f (acts_of (inserted names answers))) none ∙ none_by f none names answers

-- ---- one call

module _ {Home : Type 0} (old new : Seen Home) where
  -- a call whose contract gives acts: transmit and receive calls, Ok or refused, and progress
  pub went_adds : (call : Option Call) (xs : List Act) → list_all is_of_call xs ≡ true → Went call old new xs → Adds old new (doings_by call xs)
  went_adds call xs calls went kept past =
      let all = all_do call xs old.held new.held past calls went.goes in (
        all.0,
        record {
          lives = all.1;
          doings = refl;
          moves = subst (λ ws. MovedBy old.lanes.moves new.lanes.moves ws) (sym (same_by acts.ways_by refl refl call xs)) went.ported.moves;
          outs = λ d. went.ported.posted d ∙ ap (λ fs. (old.lanes.outs d).frames ++ fs) (sym (same_by (acts.posted_by d) refl refl call xs));
          ins = λ s. went.ported.taken s ∙ ap (λ fs. (old.lanes.ins s).taken ++ fs) (sym (same_by (acts.taken_by s) refl refl call xs));
        },
      )

  -- what leaves the lanes
  stays : (xs : List Doing) → new.lanes ≡ old.lanes → ((past : List State) → (states : List State) × DoesBy (living old.held past) xs (living new.held (past ++ states))) → acts.ways_of (acts_of xs) ≡ [] → ((d : ℕ) → acts.posted_to d (acts_of xs) ≡ []) → ((s : ℕ) → acts.taken_of s (acts_of xs) ≡ []) → Adds old new xs
  stays xs lanes lives none posts takes kept past =
      let all = lives past in (
        all.0,
        record {
          lives = all.1;
          doings = refl;
          moves = subst (λ ws. MovedBy old.lanes.moves new.lanes.moves ws) (sym none) (subst (λ o. MovedBy old.lanes.moves o []) (ap (λ l. l.moves) (sym lanes)) (moved_same old.lanes.moves));
          outs = λ d. ap (λ l. (l.outs d).frames) lanes ∙ sym (append-nil (old.lanes.outs d).frames) ∙ ap (λ fs. (old.lanes.outs d).frames ++ fs) (sym (posts d));
          ins = λ s. ap (λ l. (l.ins s).taken) lanes ∙ sym (append-nil (old.lanes.ins s).taken) ∙ ap (λ fs. (old.lanes.ins s).taken ++ fs) (sym (takes s));
        },
      )

  -- what a peer does alone to its state
  own_adds : (own : Own) → new ≡ record old { held = with_machine new.held.state old.held } → Owns own old.held.state new.held.state → Adds old new (Did own ∷ [])
  own_adds own changed is = stays (Did own ∷ []) (ap (λ (e : Seen Home). e.lanes) changed)
      (λ past. (new.held.state ∷ [], (living new.held (past ++ new.held.state ∷ []), ((is, refl), (ap (λ (e : Seen Home). e.held.places) changed, ap (λ (e : Seen Home). e.held.begun) changed)), refl))) refl (λ d. refl) (λ s. refl)

  -- calls that log nothing, with their answers
  pub local_adds : (call : Call) (answer : LineResult) → Locally call answer old new → Adds old new (Did (Calls call answer) ∷ [])
  local_adds call answer local = own_adds (Calls call answer) local.changed local.answered

  -- a counter is added to
  pub counter_adds : (class : Class) (n : ℕ) → new ≡ record old { held = with_machine (adding class n old.held.state) old.held } → Adds old new (Did (Writes (adding class n old.held.state).counters) ∷ [])
  counter_adds class n e = own_adds (Writes (adding class n old.held.state).counters) (e ∙ ap (λ (s : State). let x : Seen Home = record old { held = with_machine s old.held } in x) (sym (ap (λ (x : Seen Home). x.held.state) e)))
      (ap (λ (x : Seen Home). x.held.state) e)

  -- an entry is read
  pub pop_adds : (entry : Taken) → Pops entry old new → Adds old new (Had entry ∷ [])
  pop_adds entry pops = stays (Had entry ∷ []) (ap (λ (e : Seen Home). e.lanes) pops.read)
      (λ past. (new.held.state ∷ [], (living new.held (past ++ new.held.state ∷ []), ((pops.written, pops.first, pops.is, ap (λ (e : Seen Home). e.held.state) pops.read, refl), (ap (λ (e : Seen Home). e.held.places) pops.read, ap (λ (e : Seen Home). e.held.begun) pops.read)), refl))) refl (λ d. refl) (λ s. refl)

  -- names are inserted, each with its answer
  pub inserts_add : (names : List (List ℕ)) (report : InsertReport) → Inserts names report old new → Adds old new (inserted names (map Index report.indices))
  inserts_add names report ins =
      let is : with_machine (inserting old.held.state names).1 old.held ≡ new.held =
      ap (λ (r : List LineResult × State). with_machine r.1 old.held) ins.answers ∙ ap (λ (e : Seen Home). e.held) (sym ins.changed) in
      let answers : answers_of old.held.state names ≡ map Index report.indices = sym (all_answered names [] old.held.state) ∙ ap (λ (r : List LineResult × State). r.0) ins.answers in
      let lives : (past : List State) → (states : List State) × DoesBy (living old.held past) (inserted names (answers_of old.held.state names)) (living new.held (past ++ states)) =
      λ past. (let all = all_insert names [] old.held past in (all.0, subst (λ h. DoesBy (living old.held past) (inserted names (answers_of old.held.state names)) (living h (past ++ all.0))) is all.1)) in
      subst (λ (rs : List LineResult). Adds old new (inserted names rs)) answers
      (stays (inserted names (answers_of old.held.state names)) (ap (λ (e : Seen Home). e.lanes) ins.changed) lives (none_by acts.ways_by refl names _) (λ d. none_by (acts.posted_by d) refl names _) (λ s. none_by (acts.taken_by s) refl names _))

  -- nothing changed but the log
  pub log_adds : new.held ≡ old.held → new.lanes ≡ old.lanes → Adds old new []
  log_adds held lanes = stays [] lanes (λ past. ([], (λ i. record { held = sym held i; past = sym (append-nil past) i }))) refl (λ d. refl) (λ s. refl)

-- ---- one call after another

kept_then : (x y z : Past) (xs ys : List Doing) → KeptBy x y xs → KeptBy y z ys → KeptBy x z (xs ++ ys)
kept_then x y z xs ys f g = record {
  lives = trail_then Does x.living y.living z.living xs ys f.lives g.lives;
  doings = g.doings ∙ ap (λ l. l ++ ys) f.doings ∙ append_assoc x.steps xs ys;
  moves = subst (λ ws. MovedBy x.moves z.moves ws) (sym (ways_then act_of xs ys)) (moved_then x.moves y.moves z.moves (acts.ways_of (acts_of xs)) (acts.ways_of (acts_of ys)) f.moves g.moves);
  outs = λ d. g.outs d ∙ ap (λ l. l ++ acts.posted_to d (acts_of ys)) (f.outs d) ∙ append_assoc (x.outs d) (acts.posted_to d (acts_of xs)) (acts.posted_to d (acts_of ys)) ∙ ap (λ l. x.outs d ++ l) (sym (posted_then act_of d xs ys));
  ins = λ s. g.ins s ∙ ap (λ l. l ++ acts.taken_of s (acts_of ys)) (f.ins s) ∙ append_assoc (x.ins s) (acts.taken_of s (acts_of xs)) (acts.taken_of s (acts_of ys)) ∙ ap (λ l. x.ins s ++ l) (sym (taken_then act_of s xs ys));
}

-- so at each call a thread's record goes on
pub adds_then : {Home : Type 0} (old mid new : Seen Home) (xs ys : List Doing) → Adds old mid xs → Adds mid new ys → Adds old new (xs ++ ys)
adds_then old mid new xs ys first second kept past =
    let a = first kept past in
    let b = second (kept ++ xs) (past ++ a.0) in
    let both = kept_then (past_in old kept past) (past_in mid (kept ++ xs) (past ++ a.0)) (past_in new ((kept ++ xs) ++ ys) ((past ++ a.0) ++ b.0)) xs ys a.1 b.1 in (
      a.0 ++ b.0,
      subst (λ ds. KeptBy (past_in old kept past) (past_in new ds (past ++ (a.0 ++ b.0))) (xs ++ ys)) (append_assoc kept xs ys)
          (subst (λ us. KeptBy (past_in old kept past) (past_in new ((kept ++ xs) ++ ys) us) (xs ++ ys)) (append_assoc past a.0 b.0) both),
    )
