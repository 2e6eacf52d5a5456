-- What is stored of the receive half stands for what contracts see, whatever happens.
use Rattle.std.proofs.Common.{◌≡◌, ◌≢◌, ◌⊎◌, inl, inr, ℕ, ◌+◌, ◌<◌, ◌≤◌, true, false, List, [], ◌∷◌, ◌++◌, length, Option, Some, None, get_or, set, vec_capacity, refl, sym, ap, subst, ◌∙◌, arith, length-set}
use Rattle.std.specs.Prelude.{Vec}
use Rattle.std.specs.List.{AllZip}
use Rattle.std.proofs.lemmas.List.{get_or-set_other, get_or-set_same, set-get_or}
use Rattle.fab_base.specs.declared.items.Item.{Item}
use Rattle.fab_base.specs.declared.items.ItemHead.{ItemHead}
use Rattle.fab_base.specs.declared.items.Want.{Want}
use Rattle.fab_base.specs.declared.items.Sign.{Sign}
use Rattle.fab_base.specs.declared.operations.Receive.{Receive}
use Rattle.fab_base.specs.declared.operations.Arrival.{Arrival}
use Rattle.fab_base.specs.declared.operations.Coming.{Coming}
use Rattle.fab_base.specs.declared.operations.Coming.TheVariants.{Into as IntoReceive, Keep as KeepIt}
use Rattle.fab_model.specs.Matching.{matches, takes, remove_first}
use Rattle.fab_base.specs.Kinds.{is_message}
use Rattle.fab_model.specs.State.{coming_from, raise}
use Rattle.fab_model.specs.Arrivals.{is_wanted, taker, newcomer, way_of, heading_message, heading_other, shut, stays}
pub use Rattle.fab_model.proofs.Unchanged.{single_seated}
use Rattle.fab_match.specs.Signs.{sign_of, fits}
use Rattle.fab_match.specs.Matcher.{first_id, has_id}
use Rattle.fab_match.proofs.Showing.{fits-sign_of}
use Rattle.fab_rx.specs.declared.stored.Waiting.{Waiting}
use Rattle.fab_rx.specs.declared.stored.Parcel.{Parcel}
use Rattle.fab_rx.specs.declared.stored.Way.{Way}
use Rattle.fab_rx.specs.declared.stored.Way.TheVariants.{Into, Part, Keep, Throw, Gather}
use Rattle.fab_rx.specs.declared.stored.Begun.{Begun}
use Rattle.fab_rx.specs.Table.{Cells, at}
use Rattle.fab_rx.specs.Arriving.{Arriving, IsSingle, arriving, bare, begun_of, count_begun}
use Rattle.fab_rx.specs.Stored.{GoesBy, IsComing, IsKept, IsKeptAs, IsWay, Lies, Sits, multi_of, parcel_of, parcel_without, seat_of, seat_with, waiting_of}
use Rattle.fab_rx.proofs.Pasting.{paste_nothing}
use Rattle.fab_rx.proofs.Tying.{same_or, tied_push, retied, retied_but, tied_fresh, IsTaken, taken, missed}

-- ---- one member

-- what is under way stays where the messages without bytes stay
pub goes_stays : (ps qs : Cells Parcel) (t : ℕ) (way : Way) (c : Coming) (item : Item) → ((id : ℕ) (head : ItemHead) → at ps id ≡ Some (parcel_without t head) → at qs id ≡ Some (parcel_without t head)) → GoesBy ps t way c item → GoesBy qs t way c item
goes_stays ps qs t (Into seat) c item more w = w
goes_stays ps qs t (Part id at bytes) c item more w = w
goes_stays ps qs t (Keep id bytes) c item more w = (w.0, w.1, w.2, more id item.head w.3)
goes_stays ps qs t Throw c item more w = w
goes_stays ps qs t (Gather bytes) c item more w = w

pub way_stays : (ps qs : Cells Parcel) (t : ℕ) (b : Option Begun) (c : Option Coming) (i : Option Item) → ((id : ℕ) (head : ItemHead) → at ps id ≡ Some (parcel_without t head) → at qs id ≡ Some (parcel_without t head)) → IsWay ps t b c i → IsWay qs t b c i
way_stays ps qs t None c i more w = w
way_stays ps qs t (Some b) c i more w =
    (w.0, w.1, w.2, w.3, record { head = w.4.head; got = w.4.got; within = w.4.within; way = goes_stays ps qs t b.way w.0 w.1 more w.4.way })

-- where no item is begun, nothing is stored and nothing is coming
pub none_stored : (ps : Cells Parcel) (t : ℕ) (b : Option Begun) (c : Option Coming) (i : Option Item) → i ≡ None → IsWay ps t b c i → (b ≡ None) × (c ≡ None)
none_stored ps t None c i e w = (refl, w.0)
none_stored ps t (Some b) c i e w = absurd (let no : Some w.1 ≡ None = sym w.3 ∙ e in cc)

pub record IsStored (ps : Cells Parcel) (t : ℕ) (b : Option Begun) (c : Option Coming) (item : Item) : Type 0 where
  pub begun : Begun
  pub way : Coming
  pub stored : b ≡ Some begun
  pub comes : c ≡ Some way
  pub coming : IsComing ps t begun way item

-- where an item is begun, it is stored
pub some_stored : (ps : Cells Parcel) (t : ℕ) (b : Option Begun) (c : Option Coming) (i : Option Item) (item : Item) → i ≡ Some item → IsWay ps t b c i → IsStored ps t b c item
some_stored ps t None c i item e w = absurd (let no : None ≡ Some item = sym w.1 ∙ e in cc)
some_stored ps t (Some b) c i item e w =
    let same : w.1 ≡ item = let is : Some w.1 ≡ Some item = sym w.3 ∙ e in cc in
    record { begun = b; way = w.0; stored = refl; comes = w.2; coming = subst (λ (x : Item). IsComing ps t b w.0 x) same w.4 }

-- the message under its id is not moved by a change elsewhere
pub lies_set : (parcels : Cells Parcel) (coming : List (Option Begun)) (s : ℕ) (b : Option Begun) (p : ℕ × Sign) (a : Arrival) → s < length coming → (a.bytes ≡ None → a.source ≡ s → IsKeptAs p.0 b)
    → Lies parcels coming p a → Lies parcels (set coming s b) p a
lies_set parcels coming s b p a within here l = record { parcel = l.parcel; sign = l.sign; message = l.message; partly = λ none. by_source none (same_or a.source s) }
  where
    by_source : a.bytes ≡ None → (a.source ≡ s) ⊎ (a.source ≢ s) → IsKeptAs p.0 (get_or (set coming s b) a.source None)
    by_source none (inl same) = subst (λ (o : Option Begun). IsKeptAs p.0 o) (sym (ap (λ t. get_or (set coming s b) t None) same ∙ get_or-set_same coming s b None within)) (here none same)
    by_source none (inr other) = subst (λ (o : Option Begun). IsKeptAs p.0 o) (sym (get_or-set_other coming s a.source b None other)) (l.partly none)

pub lies_at : (parcels others : Cells Parcel) (coming : List (Option Begun)) (p : ℕ × Sign) (a : Arrival) → at others p.0 ≡ at parcels p.0 → Lies parcels coming p a → Lies others coming p a
lies_at parcels others coming p a same l = record { parcel = same ∙ l.parcel; sign = l.sign; message = l.message; partly = l.partly }

pub sits_at : (seats others : Cells Waiting) (p : ℕ × Want) (r : Receive) → at others p.0 ≡ at seats p.0 → Sits seats p r → Sits others p r
sits_at seats others p r same t = record { want = t.want; seat = same ∙ t.seat; fit = t.fit }

-- a message fits as its sign does
pub lies_agrees : (want : Want) (parcels : Cells Parcel) (coming : List (Option Begun)) (p : ℕ × Sign) (a : Arrival) → Lies parcels coming p a → fits want p.1 ≡ takes want a
lies_agrees want parcels coming p a l = ap (fits want) l.sign ∙ fits-sign_of want a.source a.head l.message

pub sits_agrees : (seats : Cells Waiting) (source : ℕ) (head : ItemHead) (sign : Sign) → ((want : Want) → fits want sign ≡ matches want source head) → (p : ℕ × Want) (r : Receive) → Sits seats p r → fits p.1 sign ≡ is_wanted source head r
sits_agrees seats source head sign same p r t = same p.1 ∙ ap (λ (w : Want). matches w source head) t.want

-- a receive is for one message where nothing is stored of it as a multi-receive
pub least_none : (r : Receive) → multi_of r ≡ None → r.least ≡ None
least_none r e = by r.least refl
  where
    by : (o : Option ℕ) → r.least ≡ o → r.least ≡ None
    by None is = is
    by (Some least) is = absurd (let no : Some _ ≡ None = rw is at e in cc)

pub single_shut : (total : ℕ) (r : Receive) → r.least ≡ None → shut total r ≡ []
single_shut total r e = rw (e, shut) refl

-- two ids with different values are different
pub apart : {T : Type 0} (t : Cells T) (i j : ℕ) (x : Option T) → at t i ≡ x → (at t j ≡ x → ⊥) → j ≢ i
apart t i j x is differs same = differs (ap (at t) same ∙ is)

module _ {T : Type 0} (t u : Cells T) (id : ℕ) (x : Option T) (is : u.cells ≡ set t.cells id x) where
  pub at_other : (j : ℕ) → j ≢ id → at u j ≡ at t j
  at_other j other = ap (λ (cells : List (Option T)). get_or cells j None) is ∙ get_or-set_other t.cells id j x None other

  pub at_same : id < length t.cells → at u id ≡ x
  at_same within = ap (λ (cells : List (Option T)). get_or cells id None) is ∙ get_or-set_same t.cells id x None within

module _ (ps : List (ℕ × Want)) (us : List (ℕ × Sign)) (room : ℕ) (seats : Cells Waiting) (parcels : Cells Parcel) (coming : List (Option Begun)) (v : Arriving) (kept : IsKept ps us room seats parcels coming v) where
  -- ---- the rows by source

  pub row : (s : ℕ) → s < length v.begun → s < length coming
  row s within = let same = kept.peers in omega arith

  module _ (s : ℕ) (within : s < length v.begun) (qs : Cells Parcel) (b : Option Begun) (c : Option Coming) (i : Option Item) where
    pub ways_set : ((t id : ℕ) (head : ItemHead) → t ≢ s → at parcels id ≡ Some (parcel_without t head) → at qs id ≡ Some (parcel_without t head)) → IsWay qs s b c i
        → (t : ℕ) → IsWay qs t (get_or (set coming s b) t None) (get_or (set v.rx.coming s c) t None) (get_or (set v.begun s i) t None)
    ways_set stays new t = by_source (same_or t s)
      where
        by_source : (t ≡ s) ⊎ (t ≢ s) → IsWay qs t (get_or (set coming s b) t None) (get_or (set v.rx.coming s c) t None) (get_or (set v.begun s i) t None)
        by_source (inl same) =
            let peers = kept.peers in
            let comings = kept.comings in
            let here : IsWay qs s (get_or (set coming s b) s None) (get_or (set v.rx.coming s c) s None) (get_or (set v.begun s i) s None) =
            rw (get_or-set_same coming s b None (omega arith), get_or-set_same v.rx.coming s c None (omega arith), get_or-set_same v.begun s i None within) new in
            subst (λ (k : ℕ). IsWay qs k (get_or (set coming s b) k None) (get_or (set v.rx.coming s c) k None) (get_or (set v.begun s i) k None)) (sym same) here
        by_source (inr other) =
            rw (get_or-set_other coming s t b None other, get_or-set_other v.rx.coming s t c None other, get_or-set_other v.begun s t i None other)
            (way_stays parcels qs t (get_or coming t None) (get_or v.rx.coming t None) (get_or v.begun t None) (λ id head. stays t id head other) (kept.ways t))

    pub counts_set : (h k : ℕ) → h ≡ k + count_begun i → (t : ℕ) → t < length (set v.begun s i)
        → get_or (set v.rx.heads s h) t 0 ≡ get_or (set v.rx.tails s k) t 0 + count_begun (get_or (set v.begun s i) t None)
    counts_set h k e t below = by_source (same_or t s)
      where
        by_source : (t ≡ s) ⊎ (t ≢ s) → get_or (set v.rx.heads s h) t 0 ≡ get_or (set v.rx.tails s k) t 0 + count_begun (get_or (set v.begun s i) t None)
        by_source (inl same) =
            let heads = kept.heads in
            let tails = kept.tails in
            let here : get_or (set v.rx.heads s h) s 0 ≡ get_or (set v.rx.tails s k) s 0 + count_begun (get_or (set v.begun s i) s None) =
            rw (get_or-set_same v.rx.heads s h 0 (omega arith), get_or-set_same v.rx.tails s k 0 (omega arith), get_or-set_same v.begun s i None within) e in
            subst (λ (j : ℕ). get_or (set v.rx.heads s h) j 0 ≡ get_or (set v.rx.tails s k) j 0 + count_begun (get_or (set v.begun s i) j None)) (sym same) here
        by_source (inr other) =
            rw (get_or-set_other v.rx.heads s t h 0 other, get_or-set_other v.rx.tails s t k 0 other, get_or-set_other v.begun s t i None other) (kept.under_way t (let same = length-set v.begun s i in omega arith))

  -- ---- an item arrives

  module _ (source : ℕ) (head : ItemHead) (within : source < length v.begun) (nothing : begun_of v source ≡ None) where
    pub idle : (get_or coming source None ≡ None) × (coming_from v.rx source ≡ None)
    idle = none_stored parcels source (get_or coming source None) (coming_from v.rx source) (begun_of v source) nothing (kept.ways source)

    -- no message of the source is partly here
    pub lies_still : (b : Option Begun) (p : ℕ × Sign) (a : Arrival) → Lies parcels coming p a → Lies parcels (set coming source b) p a
    lies_still b p a l =
        lies_set parcels coming source b p a (row source within)
        (λ none same. absurd (let held : IsKeptAs p.0 None = subst (λ (o : Option Begun). IsKeptAs p.0 o) (ap (λ t. get_or coming t None) same ∙ idle.0) (l.partly none) in held)) l

    pub counts_arrive : (t : ℕ) → t < length (set v.begun source (Some (bare head)))
        → get_or (raise v.rx.heads source) t 0 ≡ get_or v.rx.tails t 0 + count_begun (get_or (set v.begun source (Some (bare head))) t None)
    counts_arrive t below =
        let was : get_or v.rx.heads source 0 ≡ get_or v.rx.tails source 0 + count_begun (begun_of v source) = kept.under_way source within in
        let none : count_begun (begun_of v source) ≡ 0 = ap count_begun nothing in
        let now : get_or v.rx.heads source 0 + 1 ≡ get_or v.rx.tails source 0 + count_begun (Some (bare head)) = omega arith in
        counts_set source within parcels None None (Some (bare head)) (get_or v.rx.heads source 0 + 1) (get_or v.rx.tails source 0) now t below
        ∙ ap (λ (ts : List ℕ). get_or ts t 0 + count_begun (get_or (set v.begun source (Some (bare head))) t None)) (set-get_or v.rx.tails source 0)

    abbrev begun_with : Way → Begun
    begun_with way = record { head = head; got = 0; way = way }

    -- one that is no message
    pub gathers : (bytes : Vec ℕ _) → is_message head.kind ≡ false → bytes.items ≡ [] → head.total ≤ vec_capacity bytes
        → IsKept ps us room seats parcels (set coming source (Some (begun_with (Gather bytes)))) (arriving source head v)
    unfolding heading_other
    gathers bytes other none room =
        rw (other, heading_other) (record {
          receives = kept.receives;
          messages = retied (Lies parcels coming) (Lies parcels (set coming source (Some (begun_with (Gather bytes))))) us v.rx.unexpected (lies_still (Some (begun_with (Gather bytes)))) kept.messages;
          ways =
              ways_set source within parcels (Some (begun_with (Gather bytes))) (Some (way_of head.kind)) (Some (bare head)) (λ t id h differs there. there)
              (way_of head.kind, bare head, refl, refl, record { head = refl; got = refl; within = omega arith; way = (refl, none, room) });
          few = kept.few;
          most = kept.most;
          peers = rw (length-set, length-set) kept.peers;
          comings = rw (length-set, length-set) kept.comings;
          heads = rw (length-set, length-set) kept.heads;
          tails = rw length-set kept.tails;
          under_way = counts_arrive;
        })

    -- the first posted receive that matches takes a message
    module _ (message : is_message head.kind ≡ true) (sign : Sign) (agree : (want : Want) → fits want sign ≡ matches want source head) where
      pub seat_taken : (id : ℕ) → first_id (λ want. fits want sign) ps ≡ Some id → IsTaken (Sits seats) (λ want. fits want sign) (is_wanted source head) (sits_agrees seats source head sign agree) id ps v.rx.posted
      seat_taken id e = taken (Sits seats) (λ want. fits want sign) (is_wanted source head) (sits_agrees seats source head sign agree) id ps v.rx.posted kept.receives e

      pub seat_missed : first_id (λ want. fits want sign) ps ≡ None → taker source head v.rx ≡ None
      seat_missed e = missed (Sits seats) (λ want. fits want sign) (is_wanted source head) (sits_agrees seats source head sign agree) ps v.rx.posted kept.receives e

      -- it has a place
      pub seat_there : (id : ℕ) → first_id (λ want. fits want sign) ps ≡ Some id → at seats id ≡ None → ⊥
      seat_there id e none = let t = seat_taken id e in let no : Some (waiting_of t.member) ≡ None = sym t.tie.seat ∙ ap (at seats) t.is ∙ none in cc

      -- what stands under its id tells whether it is for one message
      module _ (id : ℕ) (e : first_id (λ want. fits want sign) ps ≡ Some id) (w : Waiting) (there : at seats id ≡ Some w) where
        pub waiting_is : w ≡ waiting_of (seat_taken id e).member
        waiting_is = let t = seat_taken id e in let is : Some w ≡ Some (waiting_of t.member) = sym there ∙ ap (at seats) (sym t.is) ∙ t.tie.seat in cc

        pub taken_single : w.multi ≡ None → IsSingle (seat_taken id e).member
        taken_single none =
            let t = seat_taken id e in
            let least = least_none t.member (ap (λ (x : Waiting). x.multi) (sym waiting_is) ∙ none) in
            record { least = least; used = t.tie.fit.single least }

      pub seated : (id : ℕ) (w : Waiting) (rest : List (ℕ × Want)) (others : Cells Waiting) → w.multi ≡ None → first_id (λ want. fits want sign) ps ≡ Some id → rest ≡ remove_first (λ p. fits p.1 sign) ps → has_id id rest ≡ false → at seats id ≡ Some w → others.cells ≡ set seats.cells id None
          → others.spare ≡ seats.spare + 1 → IsKept rest us room others parcels (set coming source (Some (begun_with (Into w.seat)))) (arriving source head v)
      unfolding heading_message
      seated id w rest others alone e are gone there is more =
          let t = seat_taken id e in
          let r = t.member in
          let single : IsSingle r = taken_single id e w there alone in
          let same : w.seat ≡ seat_of r = ap (λ (x : Waiting). x.seat) (waiting_is id e w there) in
          let empty : w.seat ≡ seat_with r [] = same ∙ ap (λ (buf : List ℕ). record { buf = buf; ctx = r.ctx }) (sym (paste_nothing r.buf)) in
          let b = begun_with (Into w.seat) in
          rw (message, heading_message, t.found, single_seated (is_wanted source head) head.total r v.rx.posted single.least, single_shut head.total r single.least) (record {
            receives =
                retied_but (Sits seats) (Sits others) id rest (remove_first (is_wanted source head) v.rx.posted) (λ p q other s. sits_at seats others p q (at_other seats others id None is p.0 other) s) gone
                (subst (λ (xs : List (ℕ × Want)). AllZip (Sits seats) xs (remove_first (is_wanted source head) v.rx.posted)) (sym are) t.rest);
            messages = retied (Lies parcels coming) (Lies parcels (set coming source (Some b))) us v.rx.unexpected (lies_still (Some b)) kept.messages;
            ways =
                ways_set source within parcels (Some b) (Some (IntoReceive r r.used)) (Some (bare head)) (λ t id h differs there. there)
                (IntoReceive r r.used, bare head, refl, refl, record { head = refl; got = refl; within = omega arith; way = (r, ap (IntoReceive r) single.used, single, empty) });
            few = let shorter = t.shorter in let long = ap length are in let few = kept.few in omega arith;
            most = kept.most;
            peers = length-set coming source (Some b) ∙ kept.peers ∙ sym (length-set v.begun source (Some (bare head)));
            comings = length-set v.rx.coming source (Some (IntoReceive r r.used)) ∙ kept.comings ∙ sym (length-set v.begun source (Some (bare head)));
            heads = length-set v.rx.heads source (get_or v.rx.heads source 0 + 1) ∙ kept.heads ∙ sym (length-set v.begun source (Some (bare head)));
            tails = kept.tails ∙ sym (length-set v.begun source (Some (bare head)));
            under_way = counts_arrive;
          })

    -- a message that no posted receive takes
    module _ (message : is_message head.kind ≡ true) (id : ℕ) (wider : Cells Parcel) (wide : (k : ℕ) → at wider k ≡ at parcels k) (empty : at wider id ≡ None) where
      pub other_ids : (p : ℕ × Sign) (a : Arrival) → Lies parcels coming p a → p.0 ≢ id
      other_ids p a l = apart parcels id p.0 None (sym (wide id) ∙ empty) (λ none. let no : Some (parcel_of a) ≡ None = sym l.parcel ∙ none in cc)

      pub fresh_message : has_id id us ≡ false
      fresh_message = tied_fresh (Lies parcels coming) id us v.rx.unexpected other_ids kept.messages

      pub keeps : (sign : Sign) (bytes : Vec ℕ _) (others : Cells Parcel) → sign ≡ sign_of source head → taker source head v.rx ≡ None → bytes.items ≡ [] → head.total ≤ vec_capacity bytes → id < length wider.cells
          → others.cells ≡ set wider.cells id (Some (parcel_without source head)) → IsKept ps (us ++ (id, sign) ∷ []) room seats others (set coming source (Some (begun_with (Keep id bytes)))) (arriving source head v)
      unfolding heading_message
      keeps sign bytes others signed untaken none fits_in there is =
          let b = begun_with (Keep id bytes) in
          let place = get_or v.rx.heads source 0 in
          let same : (k : ℕ) → k ≢ id → at others k ≡ at parcels k = λ k other. at_other wider others id (Some (parcel_without source head)) is k other ∙ wide k in
          let new : at others id ≡ Some (parcel_without source head) = at_same wider others id (Some (parcel_without source head)) is there in
          rw (message, heading_message, untaken) (record {
            receives = kept.receives;
            messages =
                tied_push (Lies others (set coming source (Some b))) us v.rx.unexpected (id, sign) (newcomer source place head)
                (retied (Lies parcels coming) (Lies others (set coming source (Some b))) us v.rx.unexpected (λ p a l. lies_at parcels others (set coming source (Some b)) p a (same p.0 (other_ids p a l)) (lies_still (Some b) p a l)) kept.messages)
                (record {
                  parcel = new;
                  sign = signed;
                  message = message;
                  partly = λ none. subst (λ (o : Option Begun). IsKeptAs id o) (sym (get_or-set_same coming source (Some b) None (row source within))) refl;
                });
            ways =
                ways_set source within others (Some b) (Some KeepIt) (Some (bare head))
                (λ t k h differs there. same k (apart parcels id k None (sym (wide id) ∙ empty) (λ none. let no : Some (parcel_without t h) ≡ None = sym there ∙ none in cc)) ∙ there)
                (KeepIt, bare head, refl, refl, record { head = refl; got = refl; within = omega arith; way = (refl, none, fits_in, new) });
            few = kept.few;
            most = kept.most;
            peers = length-set coming source (Some b) ∙ kept.peers ∙ sym (length-set v.begun source (Some (bare head)));
            comings = length-set v.rx.coming source (Some KeepIt) ∙ kept.comings ∙ sym (length-set v.begun source (Some (bare head)));
            heads = length-set v.rx.heads source (get_or v.rx.heads source 0 + 1) ∙ kept.heads ∙ sym (length-set v.begun source (Some (bare head)));
            tails = kept.tails ∙ sym (length-set v.begun source (Some (bare head)));
            under_way = counts_arrive;
          })

  -- more empty ids change nothing
  pub widened : (wider : Cells Parcel) → ((k : ℕ) → at wider k ≡ at parcels k) → IsKept ps us room seats wider coming v
  widened wider wide = record {
    receives = kept.receives;
    messages = retied (Lies parcels coming) (Lies wider coming) us v.rx.unexpected (λ p a l. lies_at parcels wider coming p a (wide p.0) l) kept.messages;
    ways = λ t. way_stays parcels wider t (get_or coming t None) (coming_from v.rx t) (begun_of v t) (λ id head there. wide id ∙ there) (kept.ways t);
    few = kept.few;
    most = kept.most;
    peers = kept.peers;
    comings = kept.comings;
    heads = kept.heads;
    tails = kept.tails;
    under_way = kept.under_way;
  }
