-- Endpoints as their threads left them are used as the law of the library asks.
use Rattle.std.proofs.Common.{◌≡◌, ◌≢◌, ◌≤◌, ◌<◌, ◌+◌, ℕ, zero, suc, Bool, true, false, ◌&&◌, List, [], ◌∷◌, length, map, replicate, set, get_or, take, Some, inl, inr, refl, sym, ap, ◌∙◌, subst, arith}
use Rattle.std.specs.Prelude.{slice_get}
use Rattle.std.specs.List.{All}
use Rattle.std.specs.Option.{option_map}
use Rattle.std.proofs.lemmas.List.{length-map}
use Rattle.std.proofs.lemmas.List.Elements.{All-get_or}
use Rattle.std.proofs.lemmas.Option.{get_or_from_slice_get, slice_get-map, slice_get_within}
use Rattle.std.proofs.lemmas.Simd.{map-map}
use Rattle.std.proofs.lemmas.Bool.{cases_eq, leb-true}
use Rattle.fab_base.specs.declared.caps.Info.{Info}
use Rattle.fab_base.proofs.Bools.{and_true_left as first_of}
use Rattle.fab_link.specs.Merged.{merges}
use Rattle.fab_link.specs.Plain.{Plain}
use Rattle.fab_model.proofs.Turns.{slice_get-set_other, slice_get-set_same}
use Rattle.fab_table.specs.declared.lane_table.LaneTable.{LaneTable}
use Rattle.fab_face.specs.Held.{IsOpen}
use Rattle.fab_face.specs.Ports.{is_granted}
use Rattle.fab_ep.specs.Value.{Whole}
use Rattle.fab_ring.specs.declared.port.RingPort.{RingPort}
use Rattle.fab_ring.specs.Gather.{AreAll, Gathered}
use Rattle.fab_ring.specs.Made.{AreMade}
use Rattle.fab_ring.specs.Ports.{moves_of, number_of, table_of}
use Rattle.fab_domain.specs.Domain.{port_of}
use Rattle.fab_domain.specs.Seen.{ring_seen}
use Rattle.fab_merging.proofs.Lists.{member}
use Rattle.fab_finish.proofs.Resting.{mapped}
use Rattle.fab_doings.specs.Doings.{Doing, own_of}
use Rattle.fab_doings.proofs.Keeping.{log_adds}
use Rattle.fab_library_laws.specs.Closing.{AreLeft, IsKept, endpoints_of}
use Rattle.fab_library_laws.specs.Exchanging.{AreExchanged, its_own}
use Rattle.fab_library_laws.specs.declared.example.TheConstants.{MESSAGE}
use Rattle.fab_library_laws.specs.Library.{AreUsed, IsLibraryRun, LibraryObeys, Thread, ports_of}
use Rattle.fab_doings.specs.Recording.{AreRecordedSome, IsRecorded, exchanged}

-- so a thread has a record of what its code ensures this of
pub thread_of : (e f : Whole RingPort) (own : List Doing) → IsRecorded (ring_seen e) (ring_seen f) own → (t : Thread) × (t.endpoint ≡ f) × IsKept e t × (own_of t.doings ≡ own)
unfolding ring_seen
thread_of e f own recorded =
    let on = recorded.adds [] [] in
    (record { endpoint = f; doings = recorded.more; states = on.0 }, refl, record { kept = (recorded.more, on.1); home = recorded.home; number = recorded.number }, recorded.are)

-- ---- their ports

module _ (info : Info) (selective : Bool) (all : List (Whole RingPort)) (threads : List Thread) (l : AreLeft info selective all threads) where
  abbrev table : LaneTable
  table = l.opened.lanes.0

  abbrev made : AreMade info.peers info.lane info.pool table (map port_of all)
  made = l.opened.lanes.1

  abbrev port_in : Thread → RingPort
  port_in t = port_of t.endpoint

  all_count : length all ≡ info.peers
  all_count = sym (length-map all port_of) ∙ made.count

  -- the endpoint that was opened
  before : (k : ℕ) (t : Thread) → slice_get threads k ≡ Some t → (e : Whole RingPort) × (slice_get all k ≡ Some e)
  before k t at = member all k (let lt = slice_get_within threads k t at in let n = l.count in omega (arith, lt, n))

  port_before : (k : ℕ) (e : Whole RingPort) → slice_get all k ≡ Some e → slice_get (map port_of all) k ≡ Some (port_of e)
  port_before k e at = slice_get-map port_of all k ∙ ap (option_map port_of) at

  number_left : (k : ℕ) (p : RingPort) → slice_get (ports_of threads) k ≡ Some p → number_of p ≡ k
  unfolding ring_seen
  number_left k p at =
      let m = mapped port_in threads k p at in
      let e = before k m.0 m.1 in
      subst (λ q. number_of q ≡ k) m.2 ((l.kept k e.0 m.0 e.1 m.1).number ∙ made.numbers k (port_of e.0) (port_before k e.0 e.1))

  table_left : (k : ℕ) (p : RingPort) → slice_get (ports_of threads) k ≡ Some p → table_of p ≡ table
  unfolding ring_seen
  table_left k p at =
      let m = mapped port_in threads k p at in
      let e = before k m.0 m.1 in
      subst (λ q. table_of q ≡ table) m.2 ((l.kept k e.0 m.0 e.1 m.1).home ∙ made.tables k (port_of e.0) (port_before k e.0 e.1))

  peers_in : table.peers ≡ info.peers
  peers_in =
      let some = l.some in
      let n = all_count in
      let e = member all zero (omega (arith, some, n)) in
      let at = port_before zero e.0 e.1 in
      ap (λ (f : LaneTable). f.peers) (sym (made.tables zero (port_of e.0) at)) ∙ (made.sizes zero (port_of e.0) at).0

  are_all : AreAll table (ports_of threads)
  are_all = record { count = length-map threads port_in ∙ l.count ∙ all_count ∙ sym peers_in; numbers = number_left; tables = table_left }

  -- ---- the endpoints that are closed are those of the threads

  module _ (left : List (Whole RingPort)) (are : endpoints_of threads ≡ left) (ports : List RingPort) (closed : ports ≡ map port_of left) where
    ports_same : ports ≡ ports_of threads
    ports_same = closed ∙ ap (λ es. map port_of es) (sym are) ∙ map-map port_of (λ (t : Thread). t.endpoint) threads

    pub all_left : (f : LaneTable) × AreAll f ports
    all_left = (table, subst (AreAll table) (sym ports_same) are_all)

    module _ (plain : List Plain) (known : All (λ (e : Whole RingPort). IsOpen (ring_seen e)) left) (gathered : Gathered ports plain) (merged : merges (map moves_of ports) ≡ true) where
      known_of : (p : ℕ) (t : Thread) → slice_get threads p ≡ Some t → IsOpen (ring_seen t.endpoint)
      known_of p t at =
          let here : slice_get left p ≡ Some t.endpoint = ap (λ es. slice_get es p) (sym are) ∙ slice_get-map (λ (u : Thread). u.endpoint) threads p ∙ ap (option_map (λ (u : Thread). u.endpoint)) at in
          subst (λ (e : Whole RingPort). IsOpen (ring_seen e)) (get_or_from_slice_get left p t.endpoint t.endpoint here)
          (All-get_or (λ (e : Whole RingPort). IsOpen (ring_seen e)) left p t.endpoint (slice_get_within left p t.endpoint here) known)

      used : AreUsed info selective all threads
      used = record {
        opened = l.opened;
        count = l.count;
        kept = λ p e t he ht. (l.kept p e t he ht).kept;
        known = known_of;
        table = table;
        ports = are_all;
        plain = plain;
        gathered = subst (λ ps. Gathered ps plain) ports_same gathered;
        merged = ap (λ ps. merges (map moves_of ps)) (sym ports_same) ∙ merged;
      }

      pub lawful : LibraryObeys → IsLibraryRun all threads
      lawful obeys = obeys info selective all threads used

-- ---- an example

itself : (k : ℕ) → k ≤ k
itself k = omega arith

-- from here on each endpoint is as it was
abbrev pub AreSame : ℕ → List (Whole RingPort) → List (Whole RingPort) → Type 0
AreSame k all now = (p : ℕ) (e f : Whole RingPort) → k ≤ p → slice_get all p ≡ Some e → slice_get now p ≡ Some f → f ≡ e

pub same_at_first : (all : List (Whole RingPort)) → AreSame 0 all all
same_at_first all p e f above ha hb = cc (ha, hb)

pub none_recorded : (e : Whole RingPort) → IsRecorded (ring_seen e) (ring_seen e) []
none_recorded e = record { more = []; adds = log_adds (ring_seen e) (ring_seen e) refl refl; are = refl; home = refl; number = refl }

pub none_exchanged : (all : List (Whole RingPort)) → AreExchanged all all
none_exchanged all p e f ha hb = let same : e ≡ f = cc (ha, hb) in (0, subst (λ (x : Whole RingPort). IsRecorded (ring_seen e) (ring_seen x) []) same (none_recorded e))

-- both buffers are zeros
pub zeros_exchanged : (old new : Whole RingPort) (p : ℕ) (room bytes : List ℕ) → room ≡ replicate MESSAGE 0 → bytes ≡ replicate MESSAGE 0 → AreRecordedSome (ring_seen old) (ring_seen new) (exchanged 0 p room bytes) → AreRecordedSome (ring_seen old) (ring_seen new) (its_own p)
zeros_exchanged old new p room bytes r b some =
    subst (λ (xs : List ℕ). AreRecordedSome (ring_seen old) (ring_seen new) (exchanged 0 p xs (replicate MESSAGE 0))) r
    (subst (λ (ys : List ℕ). AreRecordedSome (ring_seen old) (ring_seen new) (exchanged 0 p room ys)) b some)

module _ (all now : List (Whole RingPort)) (k : ℕ) (old new : Whole RingPort) (within : k < length now) (is : old ≡ get_or now k old) (same : AreSame k all now) where
  pub one_exchanged : AreRecordedSome (ring_seen old) (ring_seen new) (its_own k) → AreExchanged all now → AreExchanged all (set now k new)
  one_exchanged recorded others p e f ha hb = elim (cases_eq p k) [
    | inl here ↦ (
        let z = member now k within in
        let ha' : slice_get all k ≡ Some e = subst (λ q. slice_get all q ≡ Some e) here ha in
        let hb' : slice_get (set now k new) k ≡ Some f = subst (λ q. slice_get (set now k new) q ≡ Some f) here hb in
        let at_new : slice_get (set now k new) k ≡ Some new = slice_get-set_same now k new within in
        let is_f : new ≡ f = cc (at_new, hb') in
        let is_old : old ≡ e = is ∙ get_or_from_slice_get now k z.0 old z.1 ∙ same k e z.0 (itself k) ha' z.1 in
        subst (λ q. AreRecordedSome (ring_seen e) (ring_seen f) (its_own q)) (sym here)
        (subst (λ (x : Whole RingPort). AreRecordedSome (ring_seen e) (ring_seen x) (its_own k)) is_f (subst (λ (x : Whole RingPort). AreRecordedSome (ring_seen x) (ring_seen new) (its_own k)) is_old recorded)))
    | inr differ ↦ others p e f ha (sym (slice_get-set_other now k p new (λ z. differ (sym z))) ∙ hb)
  ]

  pub same_after : AreSame (k + 1) all (set now k new)
  same_after p e f above ha hb =
      let differ : k ≢ p = λ z. omega (arith, above, z) in
      same p e f (omega (arith, above)) ha (sym (slice_get-set_other now k p new differ) ∙ hb)

-- ---- of the members at each place of two lists, and of one list

each_first :
    {X Y : Type 0} (R : X → Y → Type 0) (x : X) (xs : List X) (y : Y) (ys : List Y) → R x y → ((p : ℕ) (a : X) (b : Y) → slice_get xs p ≡ Some a → slice_get ys p ≡ Some b → R a b) → (p : ℕ) (a : X) (b : Y) → slice_get (x ∷ xs) p ≡ Some a
    → slice_get (y ∷ ys) p ≡ Some b → R a b
each_first R x xs y ys first others zero a b ha hb =
    let same_x : x ≡ a = cc in
    let same_y : y ≡ b = cc in
    subst (λ c. R c b) same_x (subst (λ d. R x d) same_y first)
each_first R x xs y ys first others (suc p) a b ha hb = others p a b ha hb

place_first : {Y : Type 0} (Q : ℕ → Y → Type 0) (y : Y) (ys : List Y) → Q 0 y → ((p : ℕ) (b : Y) → slice_get ys p ≡ Some b → Q (suc p) b) → (p : ℕ) (b : Y) → slice_get (y ∷ ys) p ≡ Some b → Q p b
place_first Q y ys first others zero b hb = let same : y ≡ b = cc in subst (λ d. Q 0 d) same first
place_first Q y ys first others (suc p) b hb = others p b hb

-- the threads of endpoints, each with its record
abbrev Its : (ℕ → List Doing) → ℕ → Thread → Type 0
Its own p t = (n : ℕ) × (own_of t.doings ≡ take n (own p))

pub record AreThreads (own : ℕ → List Doing) (all left : List (Whole RingPort)) : Type 0 where
  pub threads : List Thread
  pub are : endpoints_of threads ≡ left
  pub kept : (p : ℕ) (e : Whole RingPort) (t : Thread) → slice_get all p ≡ Some e → slice_get threads p ≡ Some t → IsKept e t
  pub its : (p : ℕ) (t : Thread) → slice_get threads p ≡ Some t → (n : ℕ) × (own_of t.doings ≡ take n (own p))

one_thread :
    (own : ℕ → List Doing) (e f : Whole RingPort) (all left : List (Whole RingPort)) → (t : Thread) × (t.endpoint ≡ f) × IsKept e t × Its own 0 t → AreThreads (λ p. own (suc p)) all left → AreThreads own (e ∷ all) (f ∷ left)
one_thread own e f all left (t, is, kept, its) more = record {
  threads = t ∷ more.threads;
  are = λ i. is i ∷ more.are i;
  kept = each_first IsKept e all t more.threads kept more.kept;
  its = place_first (Its own) t more.threads its more.its;
}

pub threads_of :
    (own : ℕ → List Doing) (all left : List (Whole RingPort)) → length left ≡ length all → ((p : ℕ) (e f : Whole RingPort) → slice_get all p ≡ Some e → slice_get left p ≡ Some f → AreRecordedSome (ring_seen e) (ring_seen f) (own p))
    → AreThreads own all left
threads_of own [] [] count each = record { threads = []; are = refl; kept = λ p e t he ht. absurd (cc (he)); its = λ p t ht. absurd (cc (ht)) }
threads_of own [] (f ∷ left) count each = absurd (omega (arith, count))
threads_of own (e ∷ all) [] count each = absurd (omega (arith, count))
threads_of own (e ∷ all) (f ∷ left) count each =
    let some = each zero e f refl refl in
    let t = thread_of e f (take some.0 (own zero)) some.1 in
    one_thread own e f all left (t.0, t.1, t.2, (some.0, t.3)) (threads_of (λ p. own (suc p)) all left (omega (arith, count)) (λ p. each (suc p)))

second_of : (a b c d e f g h i j : Bool) → (a && b && c && d && e && f && g && h && i && j) ≡ true → b ≡ true
second_of false b c d e f g h i j all = absurd (cc)
second_of true false c d e f g h i j all = absurd (cc)
second_of true true c d e f g h i j all = refl

-- what is granted has a peer
pub some_granted : (i : Info) → is_granted i i.peers ≡ true → 0 < i.peers
some_granted i e = leb-true 1 i.peers (first_of _ _ (second_of _ _ _ _ _ _ _ _ _ _ e))
