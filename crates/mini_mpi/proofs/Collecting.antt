-- A collective, turn by turn.
--     IsHeard work len k read received awaited     the message of round k is awaited, or one of these completions brought it
--     Partly fixed begun old now                   the rank takes part in this collective, and so it is of each round in which it hears
use Rattle.std.proofs.Common.{◌≡◌, ◌≢◌, ℕ, zero, suc, ◌<◌, Bool, true, false, ◌&&◌, ◌==◌, if◌then◌else◌, List, [], ◌∷◌, ◌++◌, length, get_or, Option, None, Some, Ok, inl, inr, ◌⊎◌, refl, sym, ap, ◌∙◌, subst, arith, All}
use Rattle.std.specs.Prelude.{Any, IfOk, IfSome, IsSome, OnOk, Result, slice_index_or, slice_set}
use Rattle.std.proofs.lemmas.Bool.{eqb-true, eqb-false}
use Rattle.std.proofs.lemmas.List.{get_or-set_other, length-replicate, length-set}
use Rattle.std.proofs.lemmas.List.FromFn.{get_or-map-range_with_len}
use Rattle.std.proofs.lemmas.Grind.{get_or-set_at}
use Rattle.std.proofs.lemmas.List.Quantifiers.{Any-push as any_last}
use Rattle.std.proofs.lemmas.Option.{same_Some}
use Rattle.fabric.specs.Beginning.{IsFresh, hearings, next_of, work_of}
use Rattle.fabric.specs.Driving.{HasAll}
use Rattle.fabric.specs.Lengths.{AreWhole}
use Rattle.fabric.specs.Offering.{awaited_after, brought, bytes_of, is_of, received_after, round_of, with_message, without_round}
use Rattle.fabric.specs.Rounds.{round_from}
use Rattle.fabric.specs.Routes.{hears_in, others_of, rounds_in, source_in, topology_of}
use Rattle.fabric.specs.Shares.{outcome_of}
use Rattle.fabric.specs.Words.{Coll, Collective, Group, Message, Polled, Work}
use Rattle.mini_mpi.specs.Collecting.{Brings, Collects, Completes, DrivesAs, HearsOf, Member, TakesPart, kept_beside}
use Rattle.mini_mpi.specs.Going.{Rank}
use Rattle.mini_mpi.specs.Requests.{kept_of}

-- ---- lists

any_more : {X : Type 0} (P : X → Type 0) (xs ys : List X) → Any P xs → Any P (xs ++ ys)
any_more P [] ys (at, one, below, is, it) = absurd (omega (arith, below))
any_more P (x ∷ xs) ys (zero, one, below, is, it) = (zero, one, omega arith, is, it)
any_more P (x ∷ xs) ys (suc at, one, below, is, it) = let more = any_more P xs ys (at, one, omega (arith, below), is, it) in
    let within = more.2 in (suc more.0, more.1, omega (arith, within), more.3, more.4)

none_waits : (awaited : List Bool) (k : ℕ) → All (λ a. a ≡ false) awaited → get_or awaited k false ≢ true
none_waits [] k all waits = cc waits
none_waits (a ∷ awaited) zero all waits = let none = all zero false (omega arith) in cc (none, waits)
none_waits (a ∷ awaited) (suc k) all waits = none_waits awaited k (λ j d below. all (suc j) d (omega (arith, below))) waits

-- ---- one round

module _ (work : Work) (len : ℕ) where
  -- the source of a message is the rank that is heard in its round
  source_is : (source n k : ℕ) → round_from (topology_of work len) work.peers work.rank source n ≡ Some k → source ≡ source_in work len k
  source_is source zero k is = absurd (cc (is))
  source_is source (suc n) k is = by (hears_in work len n) (source_in work len n == source) refl (source_is source n k) is
    where
      by : (h e : Bool) → (source_in work len n == source) ≡ e → (round_from (topology_of work len) work.peers work.rank source n ≡ Some k → source ≡ source_in work len k)
          → (if h && e then Some n else round_from (topology_of work len) work.peers work.rank source n) ≡ Some k → source ≡ source_in work len k
      by true true same less at = sym (eqb-true (source_in work len n) source same) ∙ ap (λ (j : ℕ). source_in work len j) (same_Some n k at)
      by true false other less at = less at
      by false e other less at = less at

  from : (k : ℕ) (message : Option Message) → round_of work len message ≡ Some k → (one : Message) × (message ≡ Some one) × (one.source ≡ source_in work len k)
  from k None is = absurd (cc (is))
  from k (Some one) is = (one, refl, source_is one.source (rounds_in work len) k is)

module _ (work : Work) (len k : ℕ) where
  abbrev pub IsHeard : List Polled → List (List ℕ) → List Bool → Type 0
  IsHeard read received awaited = (get_or awaited k false ≡ true) ⊎ Any (Brings work len k (slice_index_or received k [])) read

  brings : (polled : Polled) (bytes : List ℕ) → is_of work.tag polled ≡ true → round_of work len (brought polled) ≡ Some k → bytes ≡ bytes_of (brought polled) → Brings work len k bytes polled
  brings polled bytes own is same = let it = from work len k (brought polled) is in (own, it.0, it.1, it.2, same ∙ ap bytes_of it.1)

  pub heard_on : (read : List Polled) (received : List (List ℕ)) (awaited : List Bool) (polled : Polled) → k < length received → IsHeard read received awaited
      → IsHeard (read ++ polled ∷ []) (received_after work len received polled) (awaited_after work len awaited polled)
  heard_on read received awaited polled below was = by (is_of work.tag polled) (round_of work len (brought polled)) refl refl
    where
      bytes : List ℕ
      bytes = bytes_of (brought polled)

      still : (r : List (List ℕ)) (a : List Bool) → slice_index_or r k [] ≡ slice_index_or received k [] → get_or a k false ≡ get_or awaited k false → IsHeard (read ++ polled ∷ []) r a
      still r a same waits = elim was [
        | inl unheard ↦ inl (waits ∙ unheard)
        | inr any ↦ inr (subst (λ (b : List ℕ). Any (Brings work len k b) (read ++ polled ∷ [])) (sym same) (any_more (Brings work len k (slice_index_or received k [])) read (polled ∷ []) any))
      ]

      here : (j : ℕ) (b : Bool) → (j == k) ≡ b → is_of work.tag polled ≡ true → round_of work len (brought polled) ≡ Some j
          → IsHeard (read ++ polled ∷ []) (slice_set received j bytes) (slice_set awaited j false)
      here j true same own is = let e = eqb-true j k same in
          inr (any_last (Brings work len k (slice_index_or (slice_set received j bytes) k [])) read polled
          (brings polled (slice_index_or (slice_set received j bytes) k []) own (is ∙ ap Some e) (get_or-set_at received j k bytes [] (sym e) (omega (arith, e, below)))))
      here j false other own is = still (slice_set received j bytes) (slice_set awaited j false)
          (get_or-set_other received j k bytes [] (λ e. eqb-false j k other (sym e))) (get_or-set_other awaited j k false false (λ e. eqb-false j k other (sym e)))

      by : (own : Bool) (round : Option ℕ) → is_of work.tag polled ≡ own → round_of work len (brought polled) ≡ round
          → IsHeard (read ++ polled ∷ []) (if own then with_message received round bytes else received) (if own then without_round awaited round else awaited)
      by false round own is = still received awaited refl refl
      by true None own is = still received awaited refl refl
      by true (Some j) own is = here j (j == k) refl own is

  pub heard_first : k < rounds_in work len → hears_in work len k ≡ true → (received : List (List ℕ)) (awaited : List Bool) → awaited ≡ hearings work len → IsHeard [] received awaited
  heard_first below hears received awaited are = inl (ap (λ (a : List Bool). get_or a k false) are ∙ get_or-map-range_with_len (λ j. hears_in work len j) 0 (rounds_in work len) k k false below (omega arith) ∙ hears)

  pub heard_all : (read : List Polled) (received : List (List ℕ)) (awaited : List Bool) → All (λ a. a ≡ false) awaited → IsHeard read received awaited
      → Any (Brings work len k (slice_index_or received k [])) read
  heard_all read received awaited all (inl waits) = absurd (none_waits awaited k all waits)
  heard_all read received awaited all (inr any) = any

-- ---- turns

same_long : (work : Work) (len : ℕ) (received : List (List ℕ)) (polled : Polled) → length (received_after work len received polled) ≡ length received
same_long work len received polled = by (is_of work.tag polled) (round_of work len (brought polled))
  where
    by : (own : Bool) (round : Option ℕ) → length (if own then with_message received round (bytes_of (brought polled)) else received) ≡ length received
    by false round = refl
    by true None = refl
    by true (Some j) = length-set received j (bytes_of (brought polled))

module _ {Home : Type 0} where
  takes_on : (fixed : Bool) (read : List Polled) (polled : Polled) (a b driven c : Member Home) → TakesPart fixed read a b → DrivesAs fixed (Ok None) b driven → HearsOf fixed polled driven c
      → TakesPart fixed (read ++ polled ∷ []) a c
  takes_on fixed [] polled a b driven c same drives hears = (driven, c, subst (λ (m : Member Home). DrivesAs fixed (Ok None) m driven) same drives, hears, refl)
  takes_on fixed (first ∷ read) polled a b driven c (d, h, drove, heard, more) drives hears = (d, h, drove, heard, takes_on fixed read polled h b driven c more drives hears)

  pub record Partly (fixed : Bool) (begun : Collective) (old : Rank Home) (now : Member Home) : Type 0 where
    pub read : List Polled
    pub takes : TakesPart fixed read (record { rank = old; part = begun }) now
    pub work : now.part.work ≡ begun.work
    pub share : now.part.own ≡ begun.own
    pub long : length now.part.received.items ≡ rounds_in begun.work (length begun.own)
    pub heard : (k : ℕ) → k < rounds_in begun.work (length begun.own) → hears_in begun.work (length begun.own) k ≡ true
        → IsHeard begun.work (length begun.own) k read now.part.received.items now.part.awaited.items

  pub begins : (fixed : Bool) (begun : Collective) (old : Rank Home) → IsFresh begun → Partly fixed begun old (record { rank = old; part = begun })
  begins fixed begun old fresh = record {
    read = [];
    takes = refl;
    work = refl;
    share = refl;
    long = ap (λ (r : List (List ℕ)). length r) fresh.3 ∙ length-replicate (rounds_in begun.work (length begun.own)) [];
    heard = λ k below hears. heard_first begun.work (length begun.own) k below hears begun.received.items begun.awaited.items fresh.2;
  }

  pub one_turn : (fixed : Bool) (begun : Collective) (old : Rank Home) (polled : Polled) (a b c : Member Home) → Partly fixed begun old a → DrivesAs fixed (Ok None) a b → HearsOf fixed polled b c
      → Partly fixed begun old c
  one_turn fixed begun old polled a b c p drives hears =
      let work = drives.messages.0 ∙ p.work in
      let share = drives.messages.1 ∙ p.share in
      let n = length begun.own in
      let received : c.part.received.items ≡ received_after begun.work n a.part.received.items polled
      = hears.offered.2
      ∙ ap (λ (w : Work). received_after w (length b.part.own) b.part.received.items polled) work
      ∙ ap (λ (own : List ℕ). received_after begun.work (length own) b.part.received.items polled) share
      ∙ ap (λ (r : List (List ℕ)). received_after begun.work n r polled) drives.messages.2 in
      let awaited : c.part.awaited.items ≡ awaited_after begun.work n a.part.awaited.items polled
      = hears.offered.3
      ∙ ap (λ (w : Work). awaited_after w (length b.part.own) b.part.awaited.items polled) work
      ∙ ap (λ (own : List ℕ). awaited_after begun.work (length own) b.part.awaited.items polled) share
      ∙ ap (λ (r : List Bool). awaited_after begun.work n r polled) drives.messages.3 in
      record {
        read = p.read ++ polled ∷ [];
        takes = takes_on fixed p.read polled (record { rank = old; part = begun }) a b c p.takes drives hears;
        work = hears.offered.0 ∙ work;
        share = hears.offered.1 ∙ share;
        long = ap (λ (r : List (List ℕ)). length r) received ∙ same_long begun.work n a.part.received.items polled ∙ p.long;
        heard = λ k below hears_it. let long = p.long in
            subst (λ (r : List (List ℕ)). IsHeard begun.work n k (p.read ++ polled ∷ []) r c.part.awaited.items) (sym received)
            (subst (λ (x : List Bool). IsHeard begun.work n k (p.read ++ polled ∷ []) (received_after begun.work n a.part.received.items polled) x) (sym awaited)
            (heard_on begun.work n k p.read a.part.received.items a.part.awaited.items polled (omega (arith, below, long)) (p.heard k below hears_it)));
      }

  pub completes : (fixed : Bool) (begun : Collective) (old : Rank Home) (a : Member Home) (new : Rank Home) (done : Collective) (given : Option (List ℕ)) (bytes : List ℕ) → given ≡ Some bytes
      → Partly fixed begun old a → DrivesAs fixed (Ok given) a (record { rank = new; part = done }) → (IsSome given → HasAll a.part × (a.part.failed ≡ false))
      → (IsSome given → AreWhole a.part.work a.part.own a.part.received.items)
      → IfSome given (λ b. b ≡ outcome_of a.part.work.coll a.part.work.rank a.part.own (others_of a.part.work a.part.own a.part.received.items)) → Completes fixed begun old new bytes
  completes fixed begun old a new done given bytes is p drives waits whole made =
      let all : HasAll a.part = (subst (λ (o : Option (List ℕ)). IsSome o → HasAll a.part × (a.part.failed ≡ false)) is waits refl).0 in
      record {
        read = p.read;
        last = a;
        done = done;
        takes = p.takes;
        drives = subst (λ (o : Option (List ℕ)). DrivesAs fixed (Ok o) a (record { rank = new; part = done })) is drives;
        outcome = record {
          received = a.part.received.items;
          heard = λ k below hears_it. heard_all begun.work (length begun.own) k p.read a.part.received.items a.part.awaited.items all (p.heard k below hears_it);
          whole = subst (λ (w : Work). AreWhole w begun.own a.part.received.items) p.work
              (subst (λ (own : List ℕ). AreWhole a.part.work own a.part.received.items) p.share
              (subst (λ (o : Option (List ℕ)). IsSome o → AreWhole a.part.work a.part.own a.part.received.items) is whole refl));
          gives = subst (λ (o : Option (List ℕ)). IfSome o (λ b. b ≡ outcome_of a.part.work.coll a.part.work.rank a.part.own (others_of a.part.work a.part.own a.part.received.items))) is made
              ∙ ap (λ (w : Work). outcome_of w.coll w.rank a.part.own (others_of w a.part.own a.part.received.items)) p.work
              ∙ ap (λ (own : List ℕ). outcome_of begun.work.coll begun.work.rank own (others_of begun.work own a.part.received.items)) p.share;
        };
      }

-- ---- a completion that is offered

not_taken : (polled other : Polled) (own : Bool) → (own ≡ false → Some other ≡ Some polled) → (own ≡ true → Some other ≡ None) → (own ≡ false) × (other ≡ polled)
not_taken polled other false back taken = let same = back refl in (refl, cc (same))
not_taken polled other true back taken = absurd (let none = taken refl in cc (none))

was_taken : (polled : Polled) (own : Bool) → (own ≡ false → None ≡ Some polled) → own ≡ true
was_taken polled true back = refl
was_taken polled false back = absurd (let same = back refl in cc (same))

-- the end of one that is handed back is kept
pub kept_back : (work : Work) (polled other : Polled) → (is_of work.tag polled ≡ false → Some other ≡ Some polled) → (is_of work.tag polled ≡ true → Some other ≡ None)
    → kept_of other ≡ kept_beside work polled
kept_back work polled other back taken = let it = not_taken polled other (is_of work.tag polled) back taken in
    ap (λ (p : Polled). kept_of p) it.1 ∙ ap (λ (own : Bool). if own then [] else kept_of polled) (sym it.0)

-- one that is taken has none
pub kept_none : (work : Work) (polled : Polled) → (is_of work.tag polled ≡ false → None ≡ Some polled) → [] ≡ kept_beside work polled
kept_none work polled back = ap (λ (own : Bool). if own then [] else kept_of polled) (sym (was_taken polled (is_of work.tag polled) back))

-- ---- calls

pub of_ok : {T E : Type 0} (r : Result T E) (x : T) (P : T → Type 0) → r ≡ Ok x → IfOk r P → P x
of_ok {T} {E} r x P is p = subst (λ (r : Result T E). IfOk r P) is p

pub on_ok : {T E : Type 0} (r : Result T E) (x : T) (P : Type 0) → r ≡ Ok x → OnOk r P → P
on_ok {T} {E} r x P is p = subst (λ (r : Result T E). OnOk r P) is p

module _ {Home : Type 0} where
  pub collected : (fixed : Bool) (coll : Coll) (own : List ℕ) (before between after : Group) (begun : Collective) (old new : Rank Home) (bytes : List ℕ)
      → (begun.own ≡ own) × (begun.work ≡ work_of before coll) × IsFresh begun → between ≡ next_of before → after ≡ between → Completes fixed begun old new bytes
      → Collects fixed coll own (record { group = before; rank = old }) (record { group = after; rank = new }) bytes
  collected fixed coll own before between after begun old new bytes is next same completes = record {
    begun = begun;
    work = is.1;
    share = is.0;
    fresh = is.2;
    next = same ∙ next;
    completes = completes;
  }
