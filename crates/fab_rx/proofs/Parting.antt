-- A message that was kept leaves, from those that are unexpected or from those that are claimed: what is stored stays true.
use Rattle.std.proofs.Common.{◌≡◌, ◌≢◌, ℕ, ◌+◌, ◌<◌, ◌≤◌, ◌==◌, false, List, [], ◌∷◌, ◌++◌, length, Option, Some, None, get_or, set, refl, sym, ap, subst, ◌∙◌, arith, length-append, length-set}
use Rattle.std.specs.Prelude.{find}
use Rattle.std.specs.Option.{option_map}
use Rattle.std.specs.List.{AllZip}
use Rattle.std.proofs.lemmas.List.{set-get_or, set-set}
use Rattle.fab_base.specs.declared.items.Item.{Item}
use Rattle.fab_base.specs.declared.items.Want.{Want}
use Rattle.fab_base.specs.declared.items.Sign.{Sign}
use Rattle.fab_base.specs.declared.operations.Receive.{Receive}
use Rattle.fab_base.specs.declared.operations.Arrival.{Arrival}
use Rattle.fab_base.specs.declared.operations.Coming.{Coming}
use Rattle.fab_base.specs.declared.operations.Coming.TheVariants.{Into as IntoReceive, Throw as ThrowIt}
use Rattle.fab_base.proofs.Lists.{some_within as id_within}
use Rattle.fab_model.specs.Matching.{takes, remove_first}
use Rattle.fab_model.specs.State.{Receiving, coming_from}
use Rattle.fab_model.specs.Receiving.{without_claim, without_first}
use Rattle.fab_match.specs.Signs.{fits}
use Rattle.fab_match.specs.Matcher.{first_id, has_id}
use Rattle.fab_match.proofs.Pairs.{has_id-first}
use Rattle.fab_rx.specs.declared.stored.Seat.{Seat}
use Rattle.fab_rx.specs.declared.stored.Waiting.{Waiting}
use Rattle.fab_rx.specs.declared.stored.Parcel.{Parcel}
use Rattle.fab_rx.specs.declared.stored.Way.{Way}
use Rattle.fab_rx.specs.declared.stored.Way.TheVariants.{Into, Part, Keep, Throw, Gather}
use Rattle.fab_rx.specs.declared.stored.Begun.{Begun}
use Rattle.fab_rx.specs.Table.{Cells, at}
use Rattle.fab_rx.specs.Arriving.{Arriving, IsSingle, begun_of, given, posting}
use Rattle.fab_rx.specs.Claims.{claiming_first, discarding, dropping, taking, thrown}
use Rattle.fab_rx.specs.Stored.{AreApart, AreClaimed, GoesBy, IsClaim, IsComing, IsKept, IsKeptAs, IsKeptWay, IsWay, Lies, moved, parcel_of, parcel_without, redirected, seat_of, thrown_on, turned}
use Rattle.fab_rx.proofs.Tying.{IsTaken, retied_but, tied_push}
use Rattle.fab_rx.proofs.Apart.{apart_claim, apart_fewer, apart_less, given_up, not_claimed}
use Rattle.fab_rx.proofs.Keeping.{at_other, lies_agrees, lies_at, lies_set, way_stays, ways_set}
use Rattle.fab_rx.proofs.Finding.{claim_agrees, claim_found, claim_here, claim_partly, first_found, found_here, found_partly}

-- an item is kept under one id
pub kept_once : (way : Way) (i j : ℕ) → IsKeptWay i way → IsKeptWay j way → i ≡ j
kept_once (Into seat) i j a b = absurd a
kept_once (Part k place bytes) i j a b = absurd a
kept_once (Keep k bytes) i j a b = sym a ∙ b
kept_once Throw i j a b = absurd a
kept_once (Gather bytes) i j a b = absurd a

-- what is stored where a message is kept
pub stored_where_kept : (o : Option Begun) (id : ℕ) → IsKeptAs id o → (b : Begun) × (o ≡ Some b) × IsKeptWay id b.way
stored_where_kept None id k = absurd k
stored_where_kept (Some b) id k = (b, refl, k)

-- ---- where what still comes goes

redirected_goes : (parcels others : Cells Parcel) (source id : ℕ) (way : Way) (c : Coming) (item : Item) (r : Receive) (buf : List ℕ) (ctx : ℕ) → GoesBy parcels source way c item → IsKeptWay id way → IsSingle r → seat_of r ≡ record { buf = buf; ctx = ctx }
    → GoesBy others source (Into (record { buf = moved way buf; ctx = ctx })) (IntoReceive r 0) item
redirected_goes parcels others source id (Into seat) c item r buf ctx g k single same = absurd k
redirected_goes parcels others source id (Part n place bytes) c item r buf ctx g k single same = absurd k
redirected_goes parcels others source id (Keep n bytes) c item r buf ctx g k single same =
    let is_buf : r.buf ≡ buf = ap (λ (s : Seat). s.buf) same in
    let is_ctx : r.ctx ≡ ctx = ap (λ (s : Seat). s.ctx) same in
    (r, refl, single, rw (← is_buf, ← is_ctx, g.1) refl)
redirected_goes parcels others source id Throw c item r buf ctx g k single same = absurd k
redirected_goes parcels others source id (Gather bytes) c item r buf ctx g k single same = absurd k

pub redirected_turns : (parcels others : Cells Parcel) (id : ℕ) (r : Receive) (buf : List ℕ) (ctx : ℕ) → IsSingle r → seat_of r ≡ record { buf = buf; ctx = ctx }
    → (source : ℕ) (b : Begun) (c : Coming) (item : Item) → IsKeptWay id b.way → IsComing parcels source b c item → IsComing others source (redirected buf ctx b) (IntoReceive r 0) item
redirected_turns parcels others id r buf ctx single same source b c item k is =
    record { head = is.head; got = is.got; within = is.within; way = redirected_goes parcels others source id b.way c item r buf ctx is.way k single same }

pub thrown_turns : (parcels others : Cells Parcel) (id source : ℕ) (b : Begun) (c : Coming) (item : Item) → IsKeptWay id b.way → IsComing parcels source b c item → IsComing others source (thrown_on b) ThrowIt item
thrown_turns parcels others id source b c item k is = record { head = is.head; got = is.got; within = is.within; way = refl }

pub given_turned : (o : Option (List ℕ)) (source : ℕ) (r : Receive) (rx : Receiving) → given o source r rx ≡ record rx { coming = turned (λ x. Some (IntoReceive r 0)) o source rx.coming }
given_turned None source r rx = refl
given_turned (Some bytes) source r rx = refl

pub thrown_turned : (o : Option (List ℕ)) (source : ℕ) (rx : Receiving) → thrown o source rx ≡ record rx { coming = turned (λ x. Some ThrowIt) o source rx.coming }
thrown_turned None source rx = refl
thrown_turned (Some bytes) source rx = refl

pub length_turned : {X : Type 0} → (f : Option X → Option X) (o : Option (List ℕ)) (source : ℕ) (xs : List (Option X)) → length (turned f o source xs) ≡ length xs
length_turned f o source xs = by o
  where
    by : (o : Option (List ℕ)) → length (turned f o source xs) ≡ length xs
    by None = length-set xs source (f (get_or xs source None))
    by (Some bytes) = refl

-- ---- what is under way of its source, where it is not whole

module _ (parcels : Cells Parcel) (coming : List (Option Begun)) (id : ℕ) (p : Parcel) (there : Some p ≡ at parcels id) (none : p.bytes ≡ None)
    (partly : (a : Arrival) → at parcels id ≡ Some (parcel_of a) → a.bytes ≡ None → IsKeptAs id (get_or coming a.source None)) where
  gathered : (b : Begun) × (get_or coming p.source None ≡ Some b) × IsKeptWay id b.way
  gathered = stored_where_kept (get_or coming p.source None) id (partly (record { source = p.source; place = 0; head = p.head; bytes = p.bytes }) (sym there) none)

  pub source_within : p.source < length coming
  source_within = id_within coming p.source gathered.0 gathered.1

  pub begun_there : get_or coming p.source None ≡ None → ⊥
  begun_there missing = let no : Some gathered.0 ≡ None = sym gathered.1 ∙ missing in cc

  pub turns_to : (f : Begun → Begun) (b : Begun) (now : List (Option Begun)) → Some b ≡ get_or coming p.source None → now ≡ set (set coming p.source None) p.source (Some (f b))
      → (a : Arrival) → at parcels id ≡ Some (parcel_of a) → now ≡ turned (option_map f) a.bytes a.source coming
  turns_to f b now stored is a here =
      let both : Some (parcel_of a) ≡ Some p = sym here ∙ sym there in
      let equal : parcel_of a ≡ p = cc in
      let from : a.source ≡ p.source = ap (λ (x : Parcel). x.source) equal in
      let bytes : a.bytes ≡ None = ap (λ (x : Parcel). x.bytes) equal ∙ none in
      rw (bytes, from, ← stored) (is ∙ set-set coming p.source None (Some (f b)))

-- ---- it leaves

-- what contracts see then, with these messages unexpected and these claimed
abbrev pub gone_by : Coming → Arrival → List Arrival → List (ℕ × Arrival) → ℕ → Arriving → Arriving
gone_by c a un cl next v = record { rx = record v.rx { coming = turned (λ x. Some c) a.bytes a.source v.rx.coming; unexpected = un; claimed = cl }; begun = v.begun; most = v.most; next = next; multis = v.multis }

module _ (ps : List (ℕ × Want)) (us : List (ℕ × Sign)) (room : ℕ) (seats : Cells Waiting) (parcels : Cells Parcel) (coming : List (Option Begun)) (v : Arriving) (kept : IsKept ps us room seats parcels coming v)
    (id : ℕ) (a : Arrival) (there : at parcels id ≡ Some (parcel_of a)) (partly : a.bytes ≡ None → IsKeptAs id (get_or coming a.source None)) (others : Cells Parcel) (is : others.cells ≡ set parcels.cells id None)
    (turn : Begun → Begun) (c : Coming) (turns : (b : Begun) (w : Coming) (i : Item) → IsKeptWay id b.way → IsComing parcels a.source b w i → IsComing others a.source (turn b) c i) where
  abbrev after : Option (List ℕ) → List (Option Begun)
  after o = turned (option_map turn) o a.source coming

  abbrev comes : Option (List ℕ) → List (Option Coming)
  comes o = turned (λ x. Some c) o a.source v.rx.coming

  record IsLeft (o : Option (List ℕ)) : Type 0 where
    lies : (p : ℕ × Sign) (x : Arrival) → p.0 ≢ id → Lies parcels coming p x → Lies others (after o) p x
    ways : (t : ℕ) → IsWay others t (get_or (after o) t None) (get_or (comes o) t None) (begun_of v t)
    stored : length (after o) ≡ length coming
    count : length (comes o) ≡ length v.rx.coming

  same_else : (k : ℕ) → k ≢ id → at others k ≡ at parcels k
  same_else k other = at_other parcels others id None is k other

  left_by : (o : Option (List ℕ)) → a.bytes ≡ o → IsLeft o
  left_by (Some bytes) whole = record {
    lies = λ p x other l. lies_at parcels others coming p x (same_else p.0 other) l;
    ways = λ t. way_stays parcels others t (get_or coming t None) (coming_from v.rx t) (begun_of v t)
        (λ k h holds. same_else k (λ same.
        let both : Some (parcel_without t h) ≡ Some (parcel_of a) = sym holds ∙ ap (at parcels) same ∙ there in
        let equal : parcel_without t h ≡ parcel_of a = cc in
        let no : None ≡ Some bytes = ap (λ (p : Parcel). p.bytes) equal ∙ whole in cc) ∙ holds)
        (kept.ways t);
    stored = refl;
    count = refl;
  }
  left_by None none =
      let s = a.source in
      let k = stored_where_kept (get_or coming s None) id (partly none) in
      let b = k.0 in
      let row = id_within coming s b k.1 in
      let within : s < length v.begun = let peers = kept.peers in omega arith in
      let is_after : set coming s (option_map turn (get_or coming s None)) ≡ set coming s (Some (turn b)) = ap (λ (o : Option Begun). set coming s (option_map turn o)) k.1 in
      let way : IsWay parcels s (Some b) (coming_from v.rx s) (begun_of v s) = subst (λ (o : Option Begun). IsWay parcels s o (coming_from v.rx s) (begun_of v s)) k.1 (kept.ways s) in
      let now : IsWay others s (Some (turn b)) (Some c) (begun_of v s) = (c, way.1, refl, way.3, turns b way.0 way.1 k.2 way.4) in
      let ways = ways_set ps us room seats parcels coming v kept s within others (Some (turn b)) (Some c) (begun_of v s)
      (λ t j h differs holds. same_else j (λ same.
      differs (let both : Some (parcel_without t h) ≡ Some (parcel_of a) = sym holds ∙ ap (at parcels) same ∙ there in let equal : parcel_without t h ≡ parcel_of a = cc in ap (λ (p : Parcel). p.source) equal)) ∙ holds)
      now in
      record {
        lies = λ p x other l. rw is_after (lies_at parcels others (set coming s (Some (turn b))) p x (same_else p.0 other)
            (lies_set parcels coming s (Some (turn b)) p x row
            (λ none same. absurd (other (kept_once b.way p.0 id (subst (λ (o : Option Begun). IsKeptAs p.0 o) (ap (λ t. get_or coming t None) same ∙ k.1) (l.partly none)) k.2))) l));
        ways = λ t. rw is_after
            (subst (λ (is : List (Option Item)). IsWay others t (get_or (set coming s (Some (turn b))) t None) (get_or (set v.rx.coming s (Some c)) t None) (get_or is t None)) (set-get_or v.begun s None) (ways t));
        stored = length-set coming s (option_map turn (get_or coming s None));
        count = length-set v.rx.coming s (Some c);
      }

  left : IsLeft a.bytes
  left = left_by a.bytes refl

  pub kept_besides : (rest : List (ℕ × Sign)) (un : List Arrival) (cl : List (ℕ × Arrival)) (next : ℕ) (now : List (Option Begun)) → now ≡ after a.bytes → AllZip (Lies parcels coming) rest un → has_id id rest ≡ false
      → IsKept ps rest room seats others now (gone_by c a un cl next v)
  kept_besides rest un cl next now is_now tied gone = rw is_now (record {
    receives = kept.receives;
    messages = retied_but (Lies parcels coming) (Lies others (after a.bytes)) id rest un (λ p x other l. left.lies p x other l) gone tied;
    ways = left.ways;
    few = kept.few;
    most = kept.most;
    peers = left.stored ∙ kept.peers;
    comings = left.count ∙ kept.comings;
    heads = kept.heads;
    tails = kept.tails;
    under_way = kept.under_way;
  })

  pub claims_besides : (rest : List (ℕ × Sign)) (cs : List (ℕ × ℕ)) (cl : List (ℕ × Arrival)) (capacity : ℕ) (now : List (Option Begun)) → now ≡ after a.bytes → AllZip (IsClaim parcels coming) cs cl → has_id id cs ≡ false → AreApart rest cs
      → others.spare + length rest + length cs ≡ length others.cells → length rest + length cs ≤ capacity → AreClaimed rest others now cs capacity cl
  claims_besides rest cs cl capacity now is_now tied gone apart filed reserved = rw is_now (record {
    messages = retied_but (IsClaim parcels coming) (IsClaim others (after a.bytes)) id cs cl (λ p x other l. record { ctx = l.ctx; sign = l.sign; lies = left.lies _ x.1 other l.lies }) gone tied;
    apart = apart;
    filed = filed;
    reserved = reserved;
  })

-- ---- which one it was

module _ (ps : List (ℕ × Want)) (us : List (ℕ × Sign)) (room : ℕ) (seats : Cells Waiting) (parcels : Cells Parcel) (coming : List (Option Begun)) (v : Arriving) (kept : IsKept ps us room seats parcels coming v) (cs : List (ℕ × ℕ)) (capacity : ℕ) (aside : AreClaimed us parcels coming cs capacity v.rx.claimed)
    (id : ℕ) (others : Cells Parcel) (is : others.cells ≡ set parcels.cells id None) (more : others.spare ≡ parcels.spare + 1) (turn : Begun → Begun) (c : Coming)
    (turns : (s : ℕ) (b : Begun) (w : Coming) (i : Item) → IsKeptWay id b.way → IsComing parcels s b w i → IsComing others s (turn b) c i)
    (now : List (Option Begun)) (is_now : (a : Arrival) → at parcels id ≡ Some (parcel_of a) → now ≡ turned (option_map turn) a.bytes a.source coming) (next : ℕ) where
  same_long : length others.cells ≡ length parcels.cells
  same_long = ap length is ∙ length-set parcels.cells id None

  -- the first unexpected message that the want takes
  module _ (want : Want) (e : first_id (λ sign. fits want sign) us ≡ Some id) (rest : List (ℕ × Sign)) (are : rest ≡ remove_first (λ p. fits want p.1) us) (gone : has_id id rest ≡ false) where
    abbrev t : IsTaken (Lies parcels coming) (λ sign. fits want sign) (takes want) (lies_agrees want parcels coming) id us v.rx.unexpected
    t = first_found ps us room seats parcels coming v kept want id e

    lacking : has_id id cs ≡ false
    lacking = not_claimed us cs id (has_id-first (λ sign. fits want sign) id us e) aside.apart

    pub unexpected_kept : IsKept ps rest room seats others now (gone_by c t.member (remove_first (takes want) v.rx.unexpected) v.rx.claimed next v)
    unexpected_kept =
        let here = found_here ps us room seats parcels coming v kept want id e in
        kept_besides ps us room seats parcels coming v kept id t.member here (found_partly ps us room seats parcels coming v kept want id e t.member here) others is turn c (turns t.member.source) rest (remove_first (takes want) v.rx.unexpected) v.rx.claimed next now (is_now t.member here)
        (subst (λ (xs : List (ℕ × Sign)). AllZip (Lies parcels coming) xs (remove_first (takes want) v.rx.unexpected)) (sym are) t.rest) gone

    pub unexpected_claims : AreClaimed rest others now cs capacity v.rx.claimed
    unexpected_claims =
        let here = found_here ps us room seats parcels coming v kept want id e in
        let fewer : length rest + 1 ≡ length us = ap (λ (xs : List (ℕ × Sign)). length xs + 1) are ∙ t.shorter in
        let long = same_long in
        let filed = aside.filed in
        let reserved = aside.reserved in
        claims_besides ps us room seats parcels coming v kept id t.member here (found_partly ps us room seats parcels coming v kept want id e t.member here) others is turn c (turns t.member.source) rest cs v.rx.claimed capacity now (is_now t.member here)
        aside.messages lacking (subst (λ (xs : List (ℕ × Sign)). AreApart xs cs) (sym are) (apart_fewer (λ p. fits want p.1) us cs aside.apart)) (omega arith) (omega arith)

  -- the one claimed under the context
  module _ (ctx : ℕ) (e : first_id (λ other. other == ctx) cs ≡ Some id) (rest : List (ℕ × ℕ)) (are : rest ≡ remove_first (λ p. p.1 == ctx) cs) where
    abbrev u : IsTaken (IsClaim parcels coming) (λ other. other == ctx) (λ k. k.0 == ctx) (claim_agrees parcels coming ctx) id cs v.rx.claimed
    u = claim_found us parcels coming cs capacity v.rx.claimed aside ctx id e

    nowhere : (has_id id us ≡ false) × (has_id id (remove_first (λ p. p.1 == ctx) cs) ≡ false)
    nowhere = given_up (λ other. other == ctx) us cs id e aside.apart

    pub claimed_kept : IsKept ps us room seats others now (gone_by c u.member.1 v.rx.unexpected (remove_first (λ k. k.0 == ctx) v.rx.claimed) next v)
    claimed_kept =
        let here = claim_here us parcels coming cs capacity v.rx.claimed aside ctx id e in
        kept_besides ps us room seats parcels coming v kept id u.member.1 here (claim_partly us parcels coming cs capacity v.rx.claimed aside ctx id e u.member.1 here) others is turn c (turns u.member.1.source) us v.rx.unexpected (remove_first (λ k. k.0 == ctx) v.rx.claimed) next now (is_now u.member.1 here)
        kept.messages nowhere.0

    pub claimed_claims : AreClaimed us others now rest capacity (remove_first (λ k. k.0 == ctx) v.rx.claimed)
    claimed_claims =
        let here = claim_here us parcels coming cs capacity v.rx.claimed aside ctx id e in
        let shorter = u.shorter in
        let long = same_long in
        let filed = aside.filed in
        let reserved = aside.reserved in
        rw are
        (claims_besides ps us room seats parcels coming v kept id u.member.1 here (claim_partly us parcels coming cs capacity v.rx.claimed aside ctx id e u.member.1 here) others is turn c (turns u.member.1.source) us (remove_first (λ p. p.1 == ctx) cs) (remove_first (λ k. k.0 == ctx) v.rx.claimed) capacity now (is_now u.member.1 here)
        u.rest nowhere.1 (apart_less (λ other. other == ctx) us cs aside.apart) (omega arith) (omega arith))

-- ---- what the calls make of it

pub posting_is : (v : Arriving) (r : Receive) (a : Arrival) → find (takes r.want) v.rx.unexpected ≡ Some a → posting r v ≡ gone_by (IntoReceive r 0) a (remove_first (takes r.want) v.rx.unexpected) v.rx.claimed (r.call + 1) v
posting_is v r a found = rw found (ap (λ (rx : Receiving). record { rx = rx; begun = v.begun; most = v.most; next = r.call + 1; multis = v.multis }) (given_turned a.bytes a.source r (without_first r.want v.rx)))

pub discarding_is : (v : Arriving) (want : Want) (a : Arrival) → find (takes want) v.rx.unexpected ≡ Some a → discarding want v ≡ gone_by ThrowIt a (remove_first (takes want) v.rx.unexpected) v.rx.claimed v.next v
discarding_is v want a found = rw found (ap (λ (rx : Receiving). record { rx = rx; begun = v.begun; most = v.most; next = v.next; multis = v.multis }) (thrown_turned a.bytes a.source (without_first want v.rx)))

pub taking_is : (v : Arriving) (r : Receive) (k : ℕ × Arrival) → find (λ k. k.0 == r.ctx) v.rx.claimed ≡ Some k → taking r v ≡ gone_by (IntoReceive r 0) k.1 v.rx.unexpected (remove_first (λ k. k.0 == r.ctx) v.rx.claimed) (r.call + 1) v
taking_is v r k found = rw found (ap (λ (rx : Receiving). record { rx = rx; begun = v.begun; most = v.most; next = r.call + 1; multis = v.multis }) (given_turned k.1.bytes k.1.source r (without_claim r.ctx v.rx)))

pub dropping_is : (v : Arriving) (ctx : ℕ) (k : ℕ × Arrival) → find (λ k. k.0 == ctx) v.rx.claimed ≡ Some k → dropping ctx v ≡ gone_by ThrowIt k.1 v.rx.unexpected (remove_first (λ k. k.0 == ctx) v.rx.claimed) v.next v
dropping_is v ctx k found = rw found (ap (λ (rx : Receiving). record { rx = rx; begun = v.begun; most = v.most; next = v.next; multis = v.multis }) (thrown_turned k.1.bytes k.1.source (without_claim ctx v.rx)))

-- ---- an unexpected message is claimed: its bytes stay where they are

abbrev pub set_aside : List Arrival → List (ℕ × Arrival) → Arriving → Arriving
set_aside un cl v = record { rx = record v.rx { unexpected = un; claimed = cl }; begun = v.begun; most = v.most; next = v.next; multis = v.multis }

pub claiming_is : (v : Arriving) (want : Want) (ctx : ℕ) (a : Arrival) → find (takes want) v.rx.unexpected ≡ Some a → claiming_first want ctx v ≡ set_aside (remove_first (takes want) v.rx.unexpected) (v.rx.claimed ++ (ctx, a) ∷ []) v
claiming_is v want ctx a found = rw found refl

module _ (ps : List (ℕ × Want)) (us : List (ℕ × Sign)) (room : ℕ) (seats : Cells Waiting) (parcels : Cells Parcel) (coming : List (Option Begun)) (v : Arriving) (kept : IsKept ps us room seats parcels coming v) (cs : List (ℕ × ℕ)) (capacity : ℕ) (aside : AreClaimed us parcels coming cs capacity v.rx.claimed)
    (want : Want) (ctx : ℕ) (id : ℕ) (e : first_id (λ sign. fits want sign) us ≡ Some id) (rest : List (ℕ × Sign)) (are : rest ≡ remove_first (λ p. fits want p.1) us) (gone : has_id id rest ≡ false) where
  abbrev s : IsTaken (Lies parcels coming) (λ sign. fits want sign) (takes want) (lies_agrees want parcels coming) id us v.rx.unexpected
  s = first_found ps us room seats parcels coming v kept want id e

  fewer : length rest + 1 ≡ length us
  fewer = ap (λ (xs : List (ℕ × Sign)). length xs + 1) are ∙ s.shorter

  pub aside_kept : IsKept ps rest room seats parcels coming (set_aside (remove_first (takes want) v.rx.unexpected) (v.rx.claimed ++ (ctx, s.member) ∷ []) v)
  aside_kept = record {
    receives = kept.receives;
    messages = subst (λ (xs : List (ℕ × Sign)). AllZip (Lies parcels coming) xs (remove_first (takes want) v.rx.unexpected)) (sym are) s.rest;
    ways = kept.ways;
    few = kept.few;
    most = kept.most;
    peers = kept.peers;
    comings = kept.comings;
    heads = kept.heads;
    tails = kept.tails;
    under_way = kept.under_way;
  }

  pub aside_claims : AreClaimed rest parcels coming (cs ++ (id, ctx) ∷ []) capacity (v.rx.claimed ++ (ctx, s.member) ∷ [])
  aside_claims =
      let there = has_id-first (λ sign. fits want sign) id us e in
      let less = fewer in
      let longer = length-append cs ((id, ctx) ∷ []) in
      let filed = aside.filed in
      record {
        messages = tied_push (IsClaim parcels coming) cs v.rx.claimed (id, ctx) (ctx, s.member) aside.messages
            (record { ctx = refl; sign = s.pair.1; lies = subst (λ (k : ℕ). Lies parcels coming (k, s.pair.1) s.member) s.is s.tie });
        apart = apart_claim us rest cs (id, ctx) there gone aside.apart (subst (λ (xs : List (ℕ × Sign)). AreApart xs cs) (sym are) (apart_fewer (λ p. fits want p.1) us cs aside.apart));
        filed = omega arith;
        reserved = let reserved = aside.reserved in omega arith;
      }
