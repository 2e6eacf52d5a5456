-- A line that a peer does alone, and what it makes of the peer.
use Rattle.std.proofs.Common.{◌≡◌, ◌≢◌, ℕ, ◌+◌, length, Bool, true, false, List, [], ◌∷◌, ◌++◌, map, Option, Some, None, Result, Ok, Err, OnOk, IfOk, IfErr, inl, refl, sym, ap, ◌∙◌, subst, subst₂}
use Rattle.std.specs.Prelude.{nat_le, nat_lt, position}
use Rattle.std.specs.Option.{option_map}
use Rattle.fab_base.specs.declared.items.Access.{Access}
use Rattle.fab_base.specs.declared.entries.Class.{Class}
use Rattle.fab_base.specs.declared.faults.Fault.{Fault}
use Rattle.fab_base.specs.declared.faults.Fault.TheVariants.{NoMemory as LacksMemory, NoKey, NotSupported}
use Rattle.fab_base.specs.declared.faults.NoMemory.{NoMemory}
use Rattle.fab_base.specs.declared.faults.Refused.{Refused as RefusedWith}
use Rattle.fab_base.specs.declared.peers.LineResult.{LineResult}
use Rattle.fab_base.specs.declared.peers.LineResult.TheVariants.{Done, Refused, Index, Bytes}
use Rattle.fab_base.specs.declared.script.BytesWord.{BytesWord}
use Rattle.fab_base.specs.declared.script.LineOp.TheVariants as line
use Rattle.fab_av.specs.Addresses.{inserting, answer_of}
use Rattle.fab_model.specs.State.{State, Region, lookup, tally_of}
use Rattle.fab_model.specs.Sending.{first_fault}
use Rattle.fab_model.specs.Calls.{Call, Insert, Remove, Reg, Close, Put, Show, Count, do_call, call_of, answer, word_bytes, reg, close, put, show, remove, insert, insert_new, region_of, peer_named, is_peer}
use Rattle.fab_model.specs.Peers.{do_next, do_line, call_line, is_again}
use Rattle.fab_face.specs.Held.{Seen}
use Rattle.fab_face.specs.Acts.{Did}
use Rattle.fab_face.specs.Answers.{Locally}
use Rattle.fab_face.proofs.Joining.{ported_did}
use Rattle.fab_peer.specs.declared.peer.Outcome.{Outcome}
use Rattle.fab_peer.specs.Turns.{Told, living_of, actor_in, actor_of, waited_back, SameParts, IsCounted, WentOn, with_seen, next_op, noted, why_of}
use Rattle.fab_peer.proofs.Paths.{living}
use Rattle.fab_face.proofs.Writing.{Adds, adds_call}
use Rattle.fab_peer.proofs.Counting.{counted_grown, counted_noted}
use Rattle.fab_peer.proofs.Calling.{IsCalled, did_lives, next_is, lived_same}

-- ---- the calls are never told to come again

abbrev pub IsFinal : Call → Type 0
IsFinal call = (s : State) → is_again (do_call s call).0 ≡ false

pub reg_final : (key : ℕ) (access : Access) (bytes : List ℕ) → IsFinal (Reg key access bytes)
unfolding do_call reg
reg_final key access bytes s = judged _ _ _
  where
    judged : (x y : Bool) (after : State) → is_again (answer (first_fault ((x, NotSupported) ∷ (y, NoKey) ∷ [])) s after).0 ≡ false
    judged true y after = refl
    judged false true after = refl
    judged false false after = refl

pub close_final : (key : ℕ) → IsFinal (Close key)
unfolding do_call close
close_final key s = judged (region_of s key) refl
  where
    judged : (o : Option Region) → region_of s key ≡ o → is_again (do_call s (Close key)).0 ≡ false
    judged None there = rw (there, is_again, close) refl
    judged (Some region) there = rw (there, is_again, close) refl

pub put_final : (key at : ℕ) (bytes : List ℕ) → IsFinal (Put key at bytes)
unfolding do_call put
put_final key at bytes s = judged (region_of s key) refl
  where
    ranged : (region : Region) → region_of s key ≡ Some region → (b : Bool) → nat_lt (length region.bytes) (at + length bytes) ≡ b → is_again (do_call s (Put key at bytes)).0 ≡ false
    ranged region there true over = rw (there, over, is_again, put) refl
    ranged region there false over = rw (there, over, is_again, put) refl

    judged : (o : Option Region) → region_of s key ≡ o → is_again (do_call s (Put key at bytes)).0 ≡ false
    judged None there = rw (there, is_again, put) refl
    judged (Some region) there = ranged region there (nat_lt (length region.bytes) (at + length bytes)) refl

pub show_final : (key : ℕ) → IsFinal (Show key)
unfolding do_call show
show_final key s = judged (region_of s key) refl
  where
    judged : (o : Option Region) → region_of s key ≡ o → is_again (do_call s (Show key)).0 ≡ false
    judged None there = rw (there, is_again, show) refl
    judged (Some region) there = rw (there, is_again, show) refl

pub remove_final : (index : ℕ) → IsFinal (Remove index)
unfolding do_call remove
remove_final index s = judged (lookup s.av index) refl
  where
    judged : (o : Option ℕ) → lookup s.av index ≡ o → is_again (do_call s (Remove index)).0 ≡ false
    judged None there = rw (there, is_again, remove) refl
    judged (Some peer) there = rw (there, is_again, remove) refl

pub insert_final : (name : List ℕ) → IsFinal (Insert name)
unfolding do_call insert
insert_final name s = judged (peer_named (length s.tx.sent) name) refl
  where
    fresh : (k : ℕ) (b : Bool) → nat_lt (length s.av) 4_096 ≡ b → is_again (insert_new s k).0 ≡ false
    fresh k true room = rw (room, is_again, insert_new) refl
    fresh k false room = rw (room, is_again, insert_new) refl

    placed : (k : ℕ) → peer_named (length s.tx.sent) name ≡ Some k → (o : Option ℕ) → position (is_peer k) s.av ≡ o → is_again (do_call s (Insert name)).0 ≡ false
    placed k there (Some index) stands = rw (there, stands, is_again, insert) refl
    placed k there None stands = rw (there, stands, insert) (fresh k (nat_lt (length s.av) 4_096) refl)

    judged : (o : Option ℕ) → peer_named (length s.tx.sent) name ≡ o → is_again (do_call s (Insert name)).0 ≡ false
    judged None there = rw (there, is_again, insert) refl
    judged (Some k) there = placed k there (position (is_peer k) s.av) refl

pub count_final : (class : Class) → IsFinal (Count class)
unfolding do_call
count_final class s = refl

-- ---- a line that is done alone

module _ {Home : Type 0} where
  did_alone : (a b : Told Home) (e : Seen Home) (outcome : LineResult) → ((ctx : ℕ) → waited_back ctx outcome ≡ false) → (IsCounted (living_of a) → IsCounted (living e.held a.lines a.results a.kept)) → do_next (actor_of a) ≡ Some (actor_in (living e.held a.lines (a.results ++ outcome ∷ []) a.kept)) → SameParts a.seen.held e.held
      → e.lanes ≡ a.seen.lanes → e.log_size ≡ a.seen.log_size → e.log ≡ [] → b ≡ noted outcome (with_seen a e) → WentOn a b true true
  did_alone a b e outcome plain grown step parts lanes sized log is = rw is (record {
    acts = Did ∷ [];
    lived = record {
      lives = (living e.held a.lines (a.results ++ outcome ∷ []) a.kept, (step, parts), refl);
      schedule = refl;
      ported = ported_did a.seen.lanes e.lanes lanes;
    };
    moved_is = refl;
    held = λ nay. absurd (cc nay);
    log = log;
    is_done = λ was. refl;
    lines = refl;
    counted = λ c. counted_noted a.lines a.results a.kept e.held outcome plain (grown c);
    one = refl;
    size = sized;
    waits = λ nay. absurd (cc nay);
  })

  pub here_line : (a b : Told Home) (e : Seen Home) (call : Call) (outcome : LineResult) → ((ctx : ℕ) → waited_back ctx outcome ≡ false) → IsCalled a.lines a.results a.kept call → IsFinal call → a.seen.log ≡ []
      → Locally call outcome a.seen e → b ≡ noted outcome (with_seen a e) → WentOn a b true true
  here_line a b e call outcome plain next final none here is =
      let again : is_again outcome ≡ false = sym (ap (λ (d : LineResult × State). is_again d.0) here.answered) ∙ final a.seen.held.state in
      let parts : SameParts a.seen.held e.held = (ap (λ (x : Seen Home). x.held.places) here.changed, ap (λ (x : Seen Home). x.held.begun) here.changed) in
      let step = did_lives a.seen.held e.held a.lines a.results a.kept call outcome next here.answered again parts in
      let adds : Adds 1 a.seen.held.state e.held.state = subst (λ (x : LineResult × State). Adds 1 a.seen.held.state x.1) here.answered (adds_call a.seen.held.state call) in
      did_alone a b e outcome plain (counted_grown a.lines a.results a.kept 1 a.seen.held e.held adds (ap (λ (x : Seen Home). x.held.multis) here.changed)) step.0 parts (ap (λ (x : Seen Home). x.lanes) here.changed) (ap (λ (x : Seen Home). x.log_size) here.changed) (ap (λ (x : Seen Home). x.log) here.changed ∙ none) is

  -- a call that changes nothing
  pub still_line : (a b : Told Home) (call : Call) (outcome : LineResult) → ((ctx : ℕ) → waited_back ctx outcome ≡ false) → IsCalled a.lines a.results a.kept call → IsFinal call → a.seen.log ≡ []
      → do_call a.seen.held.state call ≡ (outcome, a.seen.held.state) → b ≡ noted outcome a → WentOn a b true true
  still_line a b call outcome plain next final none answered is = here_line a b a.seen call outcome plain next final none (record { answered = answered; changed = refl }) is

  -- the same, as a function of a peer sees it
  pub noted_line : (r : Result Outcome NoMemory) (a b : Told Home) (Q : Type 0) → (Q → WentOn a b true true) → OnOk r Q → IfOk r (λ o. (o.done ≡ true) × (o.moved ≡ true)) → IfOk r (λ o. WentOn a b o.done o.moved)
  noted_line (Ok o) a b Q went is (done, moved) = subst₂ (λ d m. WentOn a b d m) (sym done) (sym moved) (went is)
  noted_line (Err _) a b Q went is done = tt

  pub settled_line : (r : Result Outcome NoMemory) (a b : Told Home) (e : Seen Home) (call : Call) (why : Result (Unit {0}) Fault) → IsCalled a.lines a.results a.kept call → IsFinal call → a.seen.log ≡ []
      → OnOk why (Locally call Done a.seen e) → IfErr why (λ f. f ≢ LacksMemory → Locally call (Refused f) a.seen e)
      → OnOk r (b ≡ noted (answer_of why) (with_seen a e)) → OnOk r (why ≢ Err LacksMemory) → IfOk r (λ o. (o.done ≡ true) × (o.moved ≡ true)) → IfOk r (λ o. WentOn a b o.done o.moved)
  settled_line (Ok o) a b e call (Ok u) next final none ok err is memory done = noted_line (Ok o) a b _ (here_line a b e call Done (λ ctx. refl) next final none ok) is done
  settled_line (Ok o) a b e call (Err f) next final none ok err is memory done = noted_line (Ok o) a b _ (here_line a b e call (Refused f) (λ ctx. refl) next final none (err (λ lacks. memory (ap Err lacks)))) is done
  settled_line (Err _) a b e call why next final none ok err is memory done = tt

  -- ---- the calls of the lines

  pub calls_reg : (a : Told Home) (key : ℕ) (access : Access) (word : BytesWord) (bytes : List ℕ) → next_op a ≡ Some (line.Reg key access word) → bytes ≡ word_bytes word
      → IsCalled a.lines a.results a.kept (Reg key access bytes)
  unfolding do_line call_of
  calls_reg a key access word bytes next is =
      ((λ m. next_is (actor_in (living m a.lines a.results a.kept)) _ next ∙ ap (λ bs. call_line (actor_in (living m a.lines a.results a.kept)) (Reg key access bs)) (sym is)), tt)

  pub calls_close : (a : Told Home) (key : ℕ) → next_op a ≡ Some (line.Close key) → IsCalled a.lines a.results a.kept (Close key)
  unfolding do_line call_of
  calls_close a key next = ((λ m. next_is (actor_in (living m a.lines a.results a.kept)) _ next), tt)

  pub calls_put : (a : Told Home) (key at : ℕ) (word : BytesWord) (bytes : List ℕ) → next_op a ≡ Some (line.Put key at word) → bytes ≡ word_bytes word
      → IsCalled a.lines a.results a.kept (Put key at bytes)
  unfolding do_line call_of
  calls_put a key at word bytes next is =
      ((λ m. next_is (actor_in (living m a.lines a.results a.kept)) _ next ∙ ap (λ bs. call_line (actor_in (living m a.lines a.results a.kept)) (Put key at bs)) (sym is)), tt)

  pub calls_show : (a : Told Home) (key : ℕ) → next_op a ≡ Some (line.Show key) → IsCalled a.lines a.results a.kept (Show key)
  unfolding do_line call_of
  calls_show a key next = ((λ m. next_is (actor_in (living m a.lines a.results a.kept)) _ next), tt)

  pub calls_insert : (a : Told Home) (name : List ℕ) → next_op a ≡ Some (line.Insert name) → IsCalled a.lines a.results a.kept (Insert name)
  unfolding do_line call_of
  calls_insert a name next = ((λ m. next_is (actor_in (living m a.lines a.results a.kept)) _ next), tt)

  pub calls_remove : (a : Told Home) (index : ℕ) → next_op a ≡ Some (line.Remove index) → IsCalled a.lines a.results a.kept (Remove index)
  unfolding do_line call_of
  calls_remove a index next = ((λ m. next_is (actor_in (living m a.lines a.results a.kept)) _ next), tt)

  pub calls_count : (a : Told Home) (class : Class) → next_op a ≡ Some (line.Count class) → IsCalled a.lines a.results a.kept (Count class)
  unfolding do_line call_of
  calls_count a class next = ((λ m. next_is (actor_in (living m a.lines a.results a.kept)) _ next), tt)

  -- ---- regions

  pub reg_line : (r : Result Outcome NoMemory) (a b : Told Home) (e : Seen Home) (key : ℕ) (access : Access) (word : BytesWord) (buf : List ℕ) (answer : Result (Unit {0}) RefusedWith) (why : Result (Unit {0}) Fault)
      → next_op a ≡ Some (line.Reg key access word) → buf ≡ word_bytes word → a.seen.log ≡ []
      → OnOk answer (Locally (Reg key access buf) Done a.seen e) → IfErr answer (λ x. (x.buf ≡ buf) × (e ≡ a.seen) × (x.why ≢ LacksMemory → Locally (Reg key access buf) (Refused x.why) a.seen e))
      → why ≡ why_of answer → OnOk r (b ≡ noted (answer_of why) (with_seen a e)) → OnOk r (why ≢ Err LacksMemory) → IfOk r (λ o. (o.done ≡ true) × (o.moved ≡ true)) → IfOk r (λ o. WentOn a b o.done o.moved)
  reg_line r a b e key access word buf answer why next bytes none ok err is_why is memory done =
      settled_line r a b e (Reg key access buf) why (calls_reg a key access word buf next bytes) (reg_final key access buf) none (rw is_why (when_ok answer ok)) (rw is_why (when_err answer err)) is memory done
    where
      when_ok : (x : Result (Unit {0}) RefusedWith) → OnOk x (Locally (Reg key access buf) Done a.seen e) → OnOk (why_of x) (Locally (Reg key access buf) Done a.seen e)
      when_ok (Ok u) here = here
      when_ok (Err x) here = tt

      when_err : (x : Result (Unit {0}) RefusedWith) → IfErr x (λ x. (x.buf ≡ buf) × (e ≡ a.seen) × (x.why ≢ LacksMemory → Locally (Reg key access buf) (Refused x.why) a.seen e))
          → IfErr (why_of x) (λ f. f ≢ LacksMemory → Locally (Reg key access buf) (Refused f) a.seen e)
      when_err (Ok u) here = tt
      when_err (Err x) here = here.2

  -- ---- counters

  pub reach_not : (a b : Told Home) (class : Class) (n : ℕ) → next_op a ≡ Some (line.Reach class n) → nat_le n (tally_of a.seen.held.state.counters class).ok ≡ false → a.seen.log ≡ [] → b ≡ a → WentOn a b false false
  unfolding do_line
  reach_not a b class n next less log same = rw same (record {
    acts = [];
    lived = lived_same a;
    moved_is = refl;
    held = λ d m. next_is (actor_of a) (line.Reach class n) next ∙ rw (less, do_line) refl;
    log = log;
    is_done = λ was. absurd (cc was);
    lines = refl;
    counted = λ c. c;
    one = refl;
    size = refl;
    waits = λ d. inl (next_is (actor_of a) (line.Reach class n) next ∙ rw (less, do_line) refl);
  })

  pub reach_done : (a b : Told Home) (class : Class) (n : ℕ) → next_op a ≡ Some (line.Reach class n) → nat_le n (tally_of a.seen.held.state.counters class).ok ≡ true → a.seen.log ≡ [] → b ≡ noted Done a → WentOn a b true true
  unfolding do_line
  reach_done a b class n next enough log is =
      let step : do_next (actor_of a) ≡ Some (actor_in (living a.seen.held a.lines (a.results ++ Done ∷ []) a.kept)) = next_is (actor_of a) (line.Reach class n) next ∙ rw (enough, do_line) refl in
      did_alone a b a.seen Done (λ ctx. refl) (λ c. c) step (refl, refl) refl refl log is

-- ---- what calls answer

pub always : (Q : Fault → Type 0) (r : Result (Unit {0}) Fault) → IfErr r Q → IfErr r (λ f. f ≢ LacksMemory → Q f)
always Q (Ok u) err = tt
always Q (Err f) err = λ lacks. err

pub shows_none : (s : State) (key : ℕ) → None ≡ option_map (λ (r : Region). r.bytes) (region_of s key) → do_call s (Show key) ≡ (Refused NoKey, s)
unfolding do_call show
shows_none s key is = by_region (region_of s key) refl
  where
    by_region : (o : Option Region) → region_of s key ≡ o → do_call s (Show key) ≡ (Refused NoKey, s)
    by_region None there = rw (there, show) refl
    by_region (Some r) there = let nay : None ≡ option_map (λ (x : Region). x.bytes) (Some r) = rw there at is in absurd (cc nay)

pub shows_some : (s : State) (key : ℕ) (bytes : List ℕ) → Some bytes ≡ option_map (λ (r : Region). r.bytes) (region_of s key) → do_call s (Show key) ≡ (Bytes bytes, s)
unfolding do_call show
shows_some s key bytes is = by_region (region_of s key) refl
  where
    by_region : (o : Option Region) → region_of s key ≡ o → do_call s (Show key) ≡ (Bytes bytes, s)
    by_region None there = let nay : Some bytes ≡ option_map (λ (x : Region). x.bytes) None = rw there at is in absurd (cc nay)
    by_region (Some r) there = let same : Some bytes ≡ option_map (λ (x : Region). x.bytes) (Some r) = rw there at is in let shown : bytes ≡ r.bytes = cc in rw (there, show) (ap (λ bs. (Bytes bs, s)) (sym shown))

pub counted : (s : State) (class : Class) (ok err : ℕ) → ok ≡ (tally_of s.counters class).ok → err ≡ (tally_of s.counters class).err → do_call s (Count class) ≡ (LineResult.Count ok err, s)
unfolding do_call
counted s class ok err is_ok is_err = λ i. (LineResult.Count (sym is_ok i) (sym is_err i), s)

pub one_inserted : (s t : State) (name : List ℕ) (indices : List (Option ℕ)) → inserting s (name ∷ []) ≡ (map Index indices, t) → do_call s (Insert name) ≡ (Index (lookup indices 0), t)
unfolding do_call
one_inserted s t name [] e = let nay : (insert s name).0 ∷ [] ≡ [] = ap (λ (d : List LineResult × State). d.0) e in absurd (cc nay)
one_inserted s t name (i ∷ []) e =
    let first : (insert s name).0 ∷ [] ≡ Index i ∷ [] = ap (λ (d : List LineResult × State). d.0) e in
    let then : (insert s name).1 ≡ t = ap (λ (d : List LineResult × State). d.1) e in
    let is : (insert s name).0 ≡ Index i = cc in
    λ k. (is k, then k)
one_inserted s t name (i ∷ j ∷ more) e = let nay : (insert s name).0 ∷ [] ≡ Index i ∷ Index j ∷ map Index more = ap (λ (d : List LineResult × State). d.0) e in absurd (cc nay)
