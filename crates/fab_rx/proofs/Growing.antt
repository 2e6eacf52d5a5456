-- What is stored stays true as bytes come and items end.
use Rattle.std.proofs.Common.{◌≡◌, ◌≢◌, ◌⊎◌, inl, inr, ℕ, ◌+◌, ◌<◌, ◌==◌, Bool, true, false, List, length, Option, Some, None, get_or, set, refl, sym, ap, subst, ◌∙◌, arith, length-set}
use Rattle.std.specs.Prelude.{IsSomeAnd, Vec}
use Rattle.std.proofs.lemmas.Bool.{eqb-true, eq-eqb}
use Rattle.std.proofs.lemmas.List.{set-get_or}
use Rattle.fab_base.specs.declared.items.Item.{Item}
use Rattle.fab_base.specs.declared.items.Kind.{Kind}
use Rattle.fab_base.specs.declared.items.Kind.TheVariants.{Msg, TagMsg, WriteReq, ReadReq, AtomicReq, Reply}
use Rattle.fab_base.specs.declared.items.Want.{Want}
use Rattle.fab_base.specs.declared.items.Sign.{Sign}
use Rattle.fab_base.specs.declared.operations.Arrival.{Arrival}
use Rattle.fab_base.specs.declared.operations.Receive.{Receive}
use Rattle.fab_base.specs.declared.operations.Coming.{Coming}
use Rattle.fab_base.specs.declared.operations.Coming.TheVariants.{Into as IntoReceive, Keep as KeepIt}
use Rattle.fab_base.proofs.Lists.{some_within as id_within}
use Rattle.fab_model.specs.State.{Receiving, coming_from, raise, under_way}
use Rattle.fab_model.specs.Complete.{filling}
use Rattle.fab_model.specs.Arrivals.{completed as whole_now, keeping, made_whole, way_of}
use Rattle.fab_rx.specs.declared.stored.Seat.{Seat}
use Rattle.fab_rx.specs.declared.stored.Waiting.{Waiting}
use Rattle.fab_rx.specs.declared.stored.Parcel.{Parcel}
use Rattle.fab_rx.specs.declared.stored.Way.{Way}
use Rattle.fab_rx.specs.declared.stored.Way.TheVariants.{Into, Part, Keep, Throw, Gather}
use Rattle.fab_rx.specs.declared.stored.Begun.{Begun}
use Rattle.fab_rx.specs.Table.{Cells, at}
use Rattle.fab_rx.specs.Arriving.{Arriving, begun_of, bytes_come, count_begun, finishing, growing, kept as kept_by, lengthened, shared, without_closed}
use Rattle.fab_rx.specs.Homes.{IsMore}
use Rattle.fab_rx.specs.Stored.{AreClaimed, GoesBy, IsClaim, IsComing, IsKept, IsKeptAs, IsKeptWay, IsWay, Lies, parcel_of, parcel_without}
use Rattle.fab_rx.proofs.Tying.{same_or, retied, retied_map}
use Rattle.fab_rx.proofs.Keeping.{IsStored, at_other, at_same, counts_set, lies_at, lies_set, row, some_stored, ways_set}

-- there is an item where a fact of one is asked for
pub item_there : (P : Item → Type 0) (o : Option Item) → IsSomeAnd o P → (item : Item) × (o ≡ Some item) × P item
item_there P None h = absurd h
item_there P (Some item) h = (item, refl, h)

-- more bytes came of what is stored, as it says
pub more_there : (bytes : List ℕ) (source : ℕ) (coming next : List (Option Begun)) → IsSomeAnd (get_or coming source None) (λ b. (new : Begun) × (next ≡ set coming source (Some new)) × IsMore bytes b new)
    → (b : Begun) × (get_or coming source None ≡ Some b) × (new : Begun) × (next ≡ set coming source (Some new)) × IsMore bytes b new
more_there bytes source coming next h = by (get_or coming source None) refl h
  where
    by : (o : Option Begun) → get_or coming source None ≡ o → IsSomeAnd o (λ b. (new : Begun) × (next ≡ set coming source (Some new)) × IsMore bytes b new)
        → (b : Begun) × (get_or coming source None ≡ Some b) × (new : Begun) × (next ≡ set coming source (Some new)) × IsMore bytes b new
    by None is h = absurd h
    by (Some b) is h = (b, is, h.0, h.1, h.2)

-- what is no message is not kept
pub kept_other : (kind : Kind) (source : ℕ) (bytes : List ℕ) (rx : Receiving) → kept_by (Some (way_of kind)) source bytes rx ≡ rx
kept_other Msg source bytes rx = refl
kept_other TagMsg source bytes rx = refl
kept_other WriteReq source bytes rx = refl
kept_other ReadReq source bytes rx = refl
kept_other AtomicReq source bytes rx = refl
kept_other Reply source bytes rx = refl

-- bytes that come into a receive for one message are in its completion alone
pub kept_single : (r : Receive) (place source : ℕ) (bytes : List ℕ) (rx : Receiving) → r.least ≡ None → kept_by (Some (IntoReceive r place)) source bytes rx ≡ rx
kept_single r place source bytes rx single = rw single refl

-- what comes into a multi-receive leaves the claimed messages
shared_claimed : (o : Option ℕ) (r : Receive) (place : ℕ) (bytes : List ℕ) (rx : Receiving) → (shared o r place bytes rx).claimed ≡ rx.claimed
shared_claimed None r place bytes rx = refl
shared_claimed (Some least) r place bytes rx = by (under_way (filling r place bytes rx) r.call) refl
  where
    by : (b : Bool) → under_way (filling r place bytes rx) r.call ≡ b → (without_closed r.call (filling r place bytes rx)).claimed ≡ rx.claimed
    by true is = rw (is, without_closed) refl
    by false is = rw (is, without_closed) refl

-- an arrival whose bytes do not come now stays as it is
pub not_whole_now : (source : ℕ) (bytes : List ℕ) (a : Arrival) → (a.bytes ≡ None → a.source ≡ source → ⊥) → whole_now source bytes a ≡ a
not_whole_now source bytes a differs = by_source (a.source == source) refl a.bytes refl
  where
    by_source : (b : Bool) → (a.source == source) ≡ b → (o : Option (List ℕ)) → a.bytes ≡ o → whole_now source bytes a ≡ a
    by_source false e o is = rw (e, whole_now) refl
    by_source true e (Some there) is = rw (e, is, whole_now) (ap (λ (o : Option (List ℕ)). record a { bytes = o }) is)
    by_source true e None is = absurd (differs is (eqb-true a.source source e))

-- the arrival whose bytes come now has them
pub is_whole_now : (source : ℕ) (bytes : List ℕ) (a : Arrival) → a.bytes ≡ None → a.source ≡ source → whole_now source bytes a ≡ record a { bytes = Some bytes }
is_whole_now source bytes a none same = rw (eq-eqb a.source source same, none, whole_now) refl

module _ (ps : List (ℕ × Want)) (us : List (ℕ × Sign)) (room : ℕ) (seats : Cells Waiting) (parcels : Cells Parcel) (coming : List (Option Begun)) (v : Arriving) (kept : IsKept ps us room seats parcels coming v)
    (source : ℕ) (within : source < length v.begun) (item : Item) (begun : begun_of v source ≡ Some item) where
  pub stored : IsStored parcels source (get_or coming source None) (coming_from v.rx source) item
  stored = some_stored parcels source (get_or coming source None) (coming_from v.rx source) (begun_of v source) item begun (kept.ways source)

  counted : get_or v.rx.heads source 0 ≡ get_or v.rx.tails source 0 + 1
  counted = kept.under_way source within ∙ ap (λ (i : Option Item). get_or v.rx.tails source 0 + count_begun i) begun

  -- more of its bytes came
  pub grows : (b : Begun) (bytes : List ℕ) (rest : List (Option Begun)) → rest ≡ set coming source (Some b) → IsComing parcels source b stored.way (lengthened bytes item) → ((id : ℕ) → IsKeptWay id stored.begun.way → IsKeptWay id b.way)
      → IsKept ps us room seats parcels rest (growing source bytes v)
  grows b bytes rest is comes ids =
      let now = Some (lengthened bytes item) in
      rw (is, begun) (record {
        receives = kept.receives;
        messages = retied (Lies parcels coming) (Lies parcels (set coming source (Some b))) us v.rx.unexpected
            (λ p a l. lies_set parcels coming source (Some b) p a (row ps us room seats parcels coming v kept source within)
            (λ none same. ids p.0 (subst (λ (o : Option Begun). IsKeptAs p.0 o) (ap (λ t. get_or coming t None) same ∙ stored.stored) (l.partly none))) l)
            kept.messages;
        ways = λ t. subst (λ (cs : List (Option Coming)). IsWay parcels t (get_or (set coming source (Some b)) t None) (get_or cs t None) (get_or (set v.begun source now) t None)) (set-get_or v.rx.coming source None)
            (ways_set ps us room seats parcels coming v kept source within parcels (Some b) (coming_from v.rx source) now (λ t id h differs there. there)
            (stored.way, lengthened bytes item, stored.comes, refl, comes) t);
        few = kept.few;
        most = kept.most;
        peers = length-set coming source (Some b) ∙ kept.peers ∙ sym (length-set v.begun source now);
        comings = kept.comings ∙ sym (length-set v.begun source now);
        heads = kept.heads ∙ sym (length-set v.begun source now);
        tails = kept.tails ∙ sym (length-set v.begun source now);
        under_way = λ t below.
            let set_heads = set-get_or v.rx.heads source 0 in
            let set_tails = set-get_or v.rx.tails source 0 in
            ap (λ (hs : List ℕ). get_or hs t 0) (sym set_heads)
            ∙ counts_set ps us room seats parcels coming v kept source within parcels (Some b) None now (get_or v.rx.heads source 0) (get_or v.rx.tails source 0) counted t below
            ∙ ap (λ (ts : List ℕ). get_or ts t 0 + count_begun (get_or (set v.begun source now) t None)) set_tails;
      })

  pub counts_finish : (t : ℕ) → t < length (set v.begun source None) → get_or v.rx.heads t 0 ≡ get_or (raise v.rx.tails source) t 0 + count_begun (get_or (set v.begun source None) t None)
  counts_finish t below =
      let now : get_or v.rx.heads source 0 ≡ (get_or v.rx.tails source 0 + 1) + count_begun None = let was = counted in omega arith in
      ap (λ (hs : List ℕ). get_or hs t 0) (sym (set-get_or v.rx.heads source 0))
      ∙ counts_set ps us room seats parcels coming v kept source within parcels None None None (get_or v.rx.heads source 0) (get_or v.rx.tails source 0 + 1) now t below

  pub lies_after : ((id : ℕ) → IsKeptWay id stored.begun.way → ⊥) → (p : ℕ × Sign) (a : Arrival) → Lies parcels coming p a → Lies parcels (set coming source None) p a
  lies_after other p a l =
      lies_set parcels coming source None p a (row ps us room seats parcels coming v kept source within)
      (λ none same. other p.0 (subst (λ (o : Option Begun). IsKeptAs p.0 o) (ap (λ t. get_or coming t None) same ∙ stored.stored) (l.partly none))) l

  -- it is whole, and was not kept
  pub ends : ((id : ℕ) → IsKeptWay id stored.begun.way → ⊥) → (rest : List (Option Begun)) → rest ≡ set coming source None → ((rx : Receiving) (bytes : List ℕ) → kept_by (Some stored.way) source bytes rx ≡ rx)
      → IsKept ps us room seats parcels rest (finishing source v)
  unfolding made_whole
  ends other rest is same =
      rw (is, stored.comes, same (made_whole source v.rx) (bytes_come (begun_of v source)), made_whole) (record {
        receives = kept.receives;
        messages = retied (Lies parcels coming) (Lies parcels (set coming source None)) us v.rx.unexpected (lies_after other) kept.messages;
        ways = ways_set ps us room seats parcels coming v kept source within parcels None None None (λ t id h differs there. there) (refl, refl);
        few = kept.few;
        most = kept.most;
        peers = length-set coming source None ∙ kept.peers ∙ sym (length-set v.begun source None);
        comings = length-set v.rx.coming source None ∙ kept.comings ∙ sym (length-set v.begun source None);
        heads = kept.heads ∙ sym (length-set v.begun source None);
        tails = length-set v.rx.tails source (get_or v.rx.tails source 0 + 1) ∙ kept.tails ∙ sym (length-set v.begun source None);
        under_way = counts_finish;
      })

  -- it is whole, and was kept under this id
  module _ (id : ℕ) (under : (k : ℕ) → IsKeptWay k stored.begun.way → k ≡ id) (there : at parcels id ≡ Some (parcel_without source item.head)) (others : Cells Parcel)
      (is : others.cells ≡ set parcels.cells id (Some (record { source = source; head = item.head; bytes = Some item.bytes }))) where
    stays_else : (k : ℕ) → k ≢ id → at others k ≡ at parcels k
    stays_else k other = at_other parcels others id (Some (record { source = source; head = item.head; bytes = Some item.bytes })) is k other

    lies_whole : (p : ℕ × Sign) (a : Arrival) → Lies parcels coming p a → Lies others (set coming source None) p (whole_now source item.bytes a)
    lies_whole p a l = by_id (same_or p.0 id)
      where
        by_id : (p.0 ≡ id) ⊎ (p.0 ≢ id) → Lies others (set coming source None) p (whole_now source item.bytes a)
        by_id (inl same) =
            let parcel : Some (parcel_of a) ≡ Some (parcel_without source item.head) = sym l.parcel ∙ ap (at parcels) same ∙ there in
            let equal : parcel_of a ≡ parcel_without source item.head = cc in
            let from : a.source ≡ source = ap (λ (x : Parcel). x.source) equal in
            let none : a.bytes ≡ None = ap (λ (x : Parcel). x.bytes) equal in
            let headed : a.head ≡ item.head = ap (λ (x : Parcel). x.head) equal in
            let now : at others id ≡ Some (record { source = source; head = item.head; bytes = Some item.bytes }) =
            at_same parcels others id (Some (record { source = source; head = item.head; bytes = Some item.bytes })) is (id_within parcels.cells id (parcel_without source item.head) there) in
            rw (is_whole_now source item.bytes a none from) (record {
              parcel = ap (at others) same ∙ now ∙ rw (from, headed) refl;
              sign = l.sign;
              message = l.message;
              partly = λ missing. absurd (cc);
            })
        by_id (inr other) =
            let never : a.bytes ≡ None → a.source ≡ source → ⊥ = λ none from.
            other (under p.0 (subst (λ (o : Option Begun). IsKeptAs p.0 o) (ap (λ t. get_or coming t None) from ∙ stored.stored) (l.partly none))) in
            rw (not_whole_now source item.bytes a never)
            (lies_at parcels others (set coming source None) p a (stays_else p.0 other)
            (lies_set parcels coming source None p a (row ps us room seats parcels coming v kept source within) (λ none from. absurd (never none from)) l))

    pub ends_kept : (rest : List (Option Begun)) → rest ≡ set coming source None → stored.way ≡ KeepIt → IsKept ps us room seats others rest (finishing source v)
    unfolding made_whole keeping
    ends_kept rest put_begun keeps =
        let comes : coming_from v.rx source ≡ Some KeepIt = stored.comes ∙ ap (λ (w : Coming). Some w) keeps in
        rw (put_begun, comes, begun, keeping, made_whole) (record {
          receives = kept.receives;
          messages = retied_map (Lies parcels coming) (Lies others (set coming source None)) (whole_now source item.bytes) us v.rx.unexpected lies_whole kept.messages;
          ways = ways_set ps us room seats parcels coming v kept source within others None None None
              (λ t k h differs holds. stays_else k (λ same. differs (let parcel : Some (parcel_without t h) ≡ Some (parcel_without source item.head) = sym holds ∙ ap (at parcels) same ∙ there in let equal : parcel_without t h ≡ parcel_without source item.head = cc in ap (λ (x : Parcel). x.source) equal)) ∙ holds)
              (refl, refl);
          few = kept.few;
          most = kept.most;
          peers = length-set coming source None ∙ kept.peers ∙ sym (length-set v.begun source None);
          comings = length-set v.rx.coming source None ∙ kept.comings ∙ sym (length-set v.begun source None);
          heads = kept.heads ∙ sym (length-set v.begun source None);
          tails = length-set v.rx.tails source (get_or v.rx.tails source 0 + 1) ∙ kept.tails ∙ sym (length-set v.begun source None);
          under_way = counts_finish;
        })

    -- so it is where it was claimed
    pub claims_ended : (cs : List (ℕ × ℕ)) (capacity : ℕ) → AreClaimed us parcels coming cs capacity v.rx.claimed → others.spare ≡ parcels.spare → (rest : List (Option Begun)) → rest ≡ set coming source None → stored.way ≡ KeepIt
        → AreClaimed us others rest cs capacity (finishing source v).rx.claimed
    unfolding made_whole keeping
    claims_ended cs capacity aside free rest put_begun keeps =
        let comes : coming_from v.rx source ≡ Some KeepIt = stored.comes ∙ ap (λ (w : Coming). Some w) keeps in
        let long : length others.cells ≡ length parcels.cells = ap length is ∙ length-set parcels.cells id (Some (record { source = source; head = item.head; bytes = Some item.bytes })) in
        let filed = aside.filed in
        let reserved = aside.reserved in
        rw (put_begun, comes, begun, keeping, made_whole) (record {
          messages = retied_map (IsClaim parcels coming) (IsClaim others (set coming source None)) (λ k. (k.0, whole_now source item.bytes k.1)) cs v.rx.claimed
              (λ p k l. record { ctx = l.ctx; sign = l.sign; lies = lies_whole _ k.1 l.lies }) aside.messages;
          apart = aside.apart;
          filed = omega arith;
          reserved = omega arith;
        })

  -- ---- the same by what is stored

  module _ (b : Begun) (is_stored : Some b ≡ get_or coming source None) where
    equal : b ≡ stored.begun
    equal = let both : Some b ≡ Some stored.begun = is_stored ∙ stored.stored in cc

    comes : IsComing parcels source b stored.way item
    comes = subst (λ (x : Begun). IsComing parcels source x stored.way item) (sym equal) stored.coming

    pub grows_by : (new : Begun) (bytes : List ℕ) (rest : List (Option Begun)) → rest ≡ set coming source (Some new)
        → ((ps : Cells Parcel) (s : ℕ) (c : Coming) (i : Item) → IsComing ps s b c i → IsComing ps s new c (lengthened bytes i)) → ((id : ℕ) → IsKeptWay id b.way → IsKeptWay id new.way)
        → IsKept ps us room seats parcels rest (growing source bytes v)
    grows_by new bytes rest is more ids =
        grows new bytes rest is (more parcels source stored.way item comes) (λ id k. ids id (subst (λ (x : Begun). IsKeptWay id x.way) (sym equal) k))

    -- a claimed message lies as it did, where what is under way is kept under the same id, if it was
    module _ (cs : List (ℕ × ℕ)) (capacity : ℕ) (aside : AreClaimed us parcels coming cs capacity v.rx.claimed) where
      claims_set : (now : Option Begun) → ((id : ℕ) → IsKeptWay id b.way → IsKeptAs id now) → AreClaimed us parcels (set coming source now) cs capacity v.rx.claimed
      claims_set now ids = record {
        messages = retied (IsClaim parcels coming) (IsClaim parcels (set coming source now)) cs v.rx.claimed
            (λ p k l. record {
              ctx = l.ctx;
              sign = l.sign;
              lies = lies_set parcels coming source now _ k.1 (row ps us room seats parcels coming v kept source within)
                  (λ none same. ids p.0 (subst (λ (o : Option Begun). IsKeptAs p.0 o) (ap (λ t. get_or coming t None) same ∙ sym is_stored) (l.lies.partly none))) l.lies;
            })
            aside.messages;
        apart = aside.apart;
        filed = aside.filed;
        reserved = aside.reserved;
      }

      pub claims_grown : (new : Begun) (bytes : List ℕ) (rest : List (Option Begun)) → rest ≡ set coming source (Some new) → ((id : ℕ) → IsKeptWay id b.way → IsKeptWay id new.way)
          → AreClaimed us parcels rest cs capacity (growing source bytes v).rx.claimed
      claims_grown new bytes rest is ids = rw is (claims_set (Some new) ids)

      claimed_still : (way : Way) → b.way ≡ way → ((id : ℕ) → IsKeptWay id way → ⊥) → (finishing source v).rx.claimed ≡ v.rx.claimed
      unfolding made_whole
      claimed_still way e never = rw (stored.comes, begun, made_whole) (by_way way never (subst (λ (w : Way). GoesBy parcels source w stored.way item) e comes.way))
        where
          by_way : (way : Way) → ((id : ℕ) → IsKeptWay id way → ⊥) → GoesBy parcels source way stored.way item → (kept_by (Some stored.way) source item.bytes (made_whole source v.rx)).claimed ≡ v.rx.claimed
          by_way (Into seat) never g = rw (g.1, g.2.least, made_whole) refl
          by_way (Part id place bytes) never g = rw g.1 (shared_claimed g.0.least g.0 place item.bytes (made_whole source v.rx))
          by_way (Keep id bytes) never g = absurd (never id refl)
          by_way Throw never g = rw (g, made_whole) refl
          by_way (Gather bytes) never g = rw (g.0, kept_other item.head.kind source item.bytes (made_whole source v.rx), made_whole) refl

      pub claims_still : (rest : List (Option Begun)) → rest ≡ set coming source None → (way : Way) → b.way ≡ way → ((id : ℕ) → IsKeptWay id way → ⊥) → AreClaimed us parcels rest cs capacity (finishing source v).rx.claimed
      claims_still rest is way e never =
          subst (λ (cl : List (ℕ × Arrival)). AreClaimed us parcels rest cs capacity cl) (sym (claimed_still way e never))
          (subst (λ (r : List (Option Begun)). AreClaimed us parcels r cs capacity v.rx.claimed) (sym is) (claims_set None (λ id k. never id (subst (λ (w : Way). IsKeptWay id w) e k))))

    module _ (rest : List (Option Begun)) (is : rest ≡ set coming source None) where
      by_way : (way : Way) → b.way ≡ way → ((id : ℕ) → IsKeptWay id way → ⊥) → ((rx : Receiving) (bytes : List ℕ) → kept_by (Some stored.way) source bytes rx ≡ rx) → IsKept ps us room seats parcels rest (finishing source v)
      by_way way e never same =
          ends (λ id k. never id (subst (λ (w : Way). IsKeptWay id w) (ap (λ (x : Begun). x.way) (sym equal) ∙ e) k)) rest is same

      pub ends_into : (seat : Seat) → b.way ≡ Into seat → IsKept ps us room seats parcels rest (finishing source v)
      ends_into seat e =
          let goes : GoesBy parcels source (Into seat) stored.way item = subst (λ (w : Way). GoesBy parcels source w stored.way item) e comes.way in
          by_way (Into seat) e (λ id k. k) (λ rx bytes. ap (λ c. kept_by (Some c) source bytes rx) goes.1 ∙ kept_single goes.0 0 source bytes rx goes.2.least)

      pub ends_thrown : b.way ≡ Throw → IsKept ps us room seats parcels rest (finishing source v)
      ends_thrown e =
          let goes : GoesBy parcels source Throw stored.way item = subst (λ (w : Way). GoesBy parcels source w stored.way item) e comes.way in
          by_way Throw e (λ id k. k) (λ rx bytes. rw goes refl)

      pub ends_gathered : (gathered : Vec ℕ _) → b.way ≡ Gather gathered → IsKept ps us room seats parcels rest (finishing source v)
      ends_gathered gathered e =
          let goes : GoesBy parcels source (Gather gathered) stored.way item = subst (λ (w : Way). GoesBy parcels source w stored.way item) e comes.way in
          by_way (Gather gathered) e (λ id k. k) (λ rx bytes. rw goes.0 (kept_other item.head.kind source bytes rx))

      pub ends_as_kept : (id : ℕ) (gathered : Vec ℕ _) (bytes : List ℕ) (others : Cells Parcel) → b.way ≡ Keep id gathered → bytes ≡ gathered.items → others.cells ≡ set parcels.cells id (Some (record { source = source; head = b.head; bytes = Some bytes }))
          → IsKept ps us room seats others rest (finishing source v)
      ends_as_kept id gathered bytes others e all set_to =
          let goes : GoesBy parcels source (Keep id gathered) stored.way item = subst (λ (w : Way). GoesBy parcels source w stored.way item) e comes.way in
          ends_kept id (λ k held. let is_id : IsKeptWay k (Keep id gathered) = subst (λ (w : Way). IsKeptWay k w) (ap (λ (x : Begun). x.way) (sym equal) ∙ e) held in sym is_id) goes.3 others
          (set_to ∙ ap (λ (p : Parcel). set parcels.cells id (Some p)) (λ i. record { source = source; head = sym comes.head i; bytes = Some ((all ∙ goes.1) i) })) rest is goes.0

      pub claims_as_kept : (cs : List (ℕ × ℕ)) (capacity : ℕ) → AreClaimed us parcels coming cs capacity v.rx.claimed → (id : ℕ) (gathered : Vec ℕ _) (bytes : List ℕ) (others : Cells Parcel) → b.way ≡ Keep id gathered → bytes ≡ gathered.items
          → others.cells ≡ set parcels.cells id (Some (record { source = source; head = b.head; bytes = Some bytes })) → others.spare ≡ parcels.spare → AreClaimed us others rest cs capacity (finishing source v).rx.claimed
      claims_as_kept cs capacity aside id gathered bytes others e all set_to free =
          let goes : GoesBy parcels source (Keep id gathered) stored.way item = subst (λ (w : Way). GoesBy parcels source w stored.way item) e comes.way in
          claims_ended id (λ k held. let is_id : IsKeptWay k (Keep id gathered) = subst (λ (w : Way). IsKeptWay k w) (ap (λ (x : Begun). x.way) (sym equal) ∙ e) held in sym is_id) goes.3 others
          (set_to ∙ ap (λ (p : Parcel). set parcels.cells id (Some p)) (λ i. record { source = source; head = sym comes.head i; bytes = Some ((all ∙ goes.1) i) })) cs capacity aside free rest is goes.0

      -- the id under which it is kept has a message
      pub kept_there : (id : ℕ) (gathered : Vec ℕ _) → b.way ≡ Keep id gathered → at parcels id ≡ Some (parcel_without source item.head)
      kept_there id gathered e =
          let goes : GoesBy parcels source (Keep id gathered) stored.way item = subst (λ (w : Way). GoesBy parcels source w stored.way item) e comes.way in
          goes.3
