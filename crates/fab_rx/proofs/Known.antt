-- What callers know of the receive half between calls.
use Rattle.std.proofs.Common.{◌≡◌, ◌≢◌, ℕ, zero, suc, replicate, nat_le, ◌≤◌, Bool, true, false, List, [], ◌∷◌, ◌++◌, ◌==◌, length, Option, Some, None, get_or, refl, sym, ap, subst, ◌∙◌, arith}
use Rattle.std.specs.Prelude.{find, is_some, unwrap_or, IfSome}
use Rattle.std.proofs.lemmas.Bool.{eq-eqb}
use Rattle.std.specs.List.{AllZip, list_any, AllByRecursion}
use Rattle.std.proofs.lemmas.List.Elements.{All-from_recursion}
use Rattle.fab_base.specs.declared.items.Item.{Item}
use Rattle.fab_base.specs.declared.items.ItemHead.{ItemHead}
use Rattle.fab_base.specs.declared.items.Want.{Want}
use Rattle.fab_base.specs.declared.items.Sign.{Sign}
use Rattle.fab_base.specs.declared.operations.Receive.{Receive}
use Rattle.fab_base.specs.declared.operations.Arrival.{Arrival}
use Rattle.fab_base.specs.declared.operations.Coming.{Coming}
use Rattle.fab_base.specs.Kinds.{is_message}
use Rattle.fab_model.specs.State.{coming_from}
use Rattle.fab_model.specs.Receiving.{draw_due, draws}
use Rattle.fab_model.specs.Arrivals.{is_wanted, way_of}
use Rattle.fab_base.specs.declared.items.Kind.{Kind}
use Rattle.fab_base.specs.declared.items.Kind.TheVariants.{Msg, TagMsg, WriteReq, ReadReq, AtomicReq, Reply}
use Rattle.fab_rx.specs.declared.stored.Waiting.{Waiting}
use Rattle.fab_rx.specs.declared.stored.Parcel.{Parcel}
use Rattle.fab_rx.specs.declared.stored.Way.{Way}
use Rattle.fab_rx.specs.declared.stored.Way.TheVariants.{Into, Part, Keep, Throw, Gather}
use Rattle.fab_rx.specs.declared.stored.Begun.{Begun}
use Rattle.fab_rx.specs.Table.{Cells, at}
use Rattle.fab_base.specs.declared.operations.Coming.TheVariants.{Keep as KeepIt}
use Rattle.fab_rx.specs.Arriving.{Arriving, GoesToSingle, IsArriving, IsNamed, IsPartly, IsPlain, IsSingle, PartlyIn, begun_of, call_in, id_in, nothing_arrived}
use Rattle.fab_rx.specs.Stored.{AreClaimed, GoesBy, IsClaim, IsKept, IsKeptAs, IsKeptWay, IsWay, Lies, Sits, entries_by, parcel_of, parcel_without}
use Rattle.fab_rx.specs.Homes.{AreMulti, GoesHome, GoesHomeBy, IsHome, Rests}
use Rattle.fab_rx.specs.Results.{entries_due}
use Rattle.std.proofs.lemmas.Bool.Decides.{nat_tests}
use Rattle.std.proofs.lemmas.List.{length-replicate}
use Rattle.fab_rx.proofs.Tying.{tied_length}

-- ---- where no multi-receive is known

-- a receive whose call has no home is for one message
pub not_multi : (homes : ℕ → Option ℕ) (calls : ℕ → ℕ) (p : ℕ × Want) (r : Receive) → IsHome homes calls p r → homes r.call ≡ None → r.least ≡ None
not_multi homes calls p r is none = by r.least refl
  where
    by : (o : Option ℕ) → r.least ≡ o → r.least ≡ None
    by None e = e
    by (Some least) e = absurd (let no : Some p.0 ≡ None = sym (rw e at is.home) ∙ none in cc)

module _ (homes : ℕ → Option ℕ) (calls : ℕ → ℕ) (seats : Cells Waiting) (none : (call : ℕ) → homes call ≡ None) where
  all_single : (ps : List (ℕ × Want)) (rs : List Receive) → AllZip (Sits seats) ps rs → AllZip (IsHome homes calls) ps rs → AllByRecursion IsSingle rs
  all_single [] [] t h = tt
  all_single [] (r ∷ rs) t h = absurd t
  all_single (p ∷ ps) [] t h = absurd t
  all_single (p ∷ ps) (r ∷ rs) t h = let least = not_multi homes calls p r h.0 (none r.call) in (record { least = least; used = t.0.fit.single least }, all_single ps rs t.1 h.1)

  none_draws : (us : List Arrival) (ps : List (ℕ × Want)) (rs : List Receive) → AllZip (IsHome homes calls) ps rs → list_any (draws us) rs ≡ false
  none_draws us [] [] h = refl
  none_draws us [] (r ∷ rs) h = absurd h
  none_draws us (p ∷ ps) [] h = absurd h
  none_draws us (p ∷ ps) (r ∷ rs) h = rw (not_multi homes calls p r h.0 (none r.call)) (none_draws us ps rs h.1)

  none_closing : (cs : List (ℕ × ℕ)) (rs : List Receive) → AllZip (Rests homes calls seats) cs rs → rs ≡ []
  none_closing [] [] t = refl
  none_closing [] (r ∷ rs) t = absurd t
  none_closing (c ∷ cs) [] t = absurd t
  none_closing (c ∷ cs) (r ∷ rs) t = absurd (let no : Some c.0 ≡ None = sym t.0.home ∙ none r.call in cc)

-- ---- the ids of multi-receives

-- a call that has an id is the last one under it, or another one is
named_once : (multis : List (ℕ × ℕ)) (id call : ℕ) → id_in multis call ≡ Some id → is_some (call_in multis id) ≡ true
named_once [] id call e = absurd (cc)
named_once (p ∷ ps) id call e = by (p.1 == call) refl (p.0 == id) refl (λ rest. named_once ps id call rest)
  where
    by : (b : Bool) → (p.1 == call) ≡ b → (d : Bool) → (p.0 == id) ≡ d → (id_in ps call ≡ Some id → is_some (call_in ps id) ≡ true) → is_some (call_in (p ∷ ps) id) ≡ true
    by b is true here more = rw here refl
    by true is false other more = absurd (let both : Some p.0 ≡ Some id = rw is at e in let same : p.0 ≡ id = cc in let no : true ≡ false = sym (eq-eqb p.0 id same) ∙ other in cc)
    by false is false other more = rw other (more (rw is at e))

pub named_by : (multis : List (ℕ × ℕ)) (id call : ℕ) → id_in multis call ≡ Some id → unwrap_or (call_in multis id) 0 ≡ call → call_in multis id ≡ Some call
named_by multis id call e is = by (call_in multis id) refl
  where
    by : (o : Option ℕ) → call_in multis id ≡ o → call_in multis id ≡ Some call
    by None none = absurd (let no : false ≡ true = sym (ap is_some none) ∙ named_once multis id call e in cc)
    by (Some k) some = some ∙ ap (λ j. Some j) (sym (ap (λ o. unwrap_or o 0) some) ∙ is)

module _ (ps : List (ℕ × Want)) (cs : List (ℕ × ℕ)) (seats : Cells Waiting) (coming : List (Option Begun)) (posted closing : List Receive) (comes : List (Option Coming)) (next : ℕ) (multis : List (ℕ × ℕ)) (most : ℕ) (m : AreMulti ps cs seats coming posted closing comes next multis most) where
  pub call_of_home : (id call : ℕ) → m.homes call ≡ Some id → m.calls id ≡ call → call_in multis id ≡ Some call
  call_of_home id call home is = named_by multis id call (sym (m.ids call) ∙ home) (sym (m.numbers id) ∙ is)

  named_home : (p : ℕ × Want) (r : Receive) → IsHome m.homes m.calls p r → IsNamed multis r
  named_home p r is some =
      let home : m.homes r.call ≡ Some p.0 = by r.least refl in
      (p.0, sym (m.ids r.call) ∙ home, call_of_home p.0 r.call home (is.call some))
    where
      by : (o : Option ℕ) → r.least ≡ o → m.homes r.call ≡ Some p.0
      by None e = absurd (let no : false ≡ true = rw e at some in cc)
      by (Some least) e = is.home ∙ rw e refl

  named_closing : (xs : List (ℕ × ℕ)) (rs : List Receive) → AllZip (Rests m.homes m.calls seats) xs rs → AllByRecursion (IsNamed multis) rs
  named_closing [] [] t = tt
  named_closing [] (r ∷ rs) t = absurd t
  named_closing (x ∷ xs) [] t = absurd t
  named_closing (x ∷ xs) (r ∷ rs) t = (λ some. (x.0, sym (m.ids r.call) ∙ t.0.home, call_of_home x.0 r.call t.0.home t.0.call), named_closing xs rs t.1)

  named_all : (xs : List (ℕ × Want)) (rs : List Receive) → AllZip (IsHome m.homes m.calls) xs rs → AllByRecursion (IsNamed multis) (rs ++ closing)
  named_all [] [] t = named_closing cs closing m.closing_rest
  named_all [] (r ∷ rs) t = absurd t
  named_all (x ∷ xs) [] t = absurd t
  named_all (x ∷ xs) (r ∷ rs) t = (named_home x r t.0, named_all xs rs t.1)

  pub all_named : AllByRecursion (IsNamed multis) (posted ++ closing)
  all_named = named_all ps posted m.posted_home

same_ways : (ps : Cells Parcel) (s : ℕ) (b : Option Begun) (c : Option Coming) (i : Option Item) → IsWay ps s b c i → is_some c ≡ is_some i
same_ways ps s None c i w = rw (w.0, w.1) refl
same_ways ps s (Some b) c i w = rw (w.2, w.3) refl

bytes_within : (ps : Cells Parcel) (s : ℕ) (b : Option Begun) (c : Option Coming) (i : Option Item) → IsWay ps s b c i → IfSome i (λ item. length item.bytes ≤ item.head.total)
bytes_within ps s None c i w = rw w.1 tt
bytes_within ps s (Some b) c i w = rw w.3 w.4.within

no_receive : (kind : Kind) → GoesToSingle (Some (way_of kind))
no_receive Msg = tt
no_receive TagMsg = tt
no_receive WriteReq = tt
no_receive ReadReq = tt
no_receive AtomicReq = tt
no_receive Reply = tt

module _ (homes : ℕ → Option ℕ) (calls : ℕ → ℕ) (seats : Cells Waiting) (none : (call : ℕ) → homes call ≡ None) where
  goes_single : (ps : Cells Parcel) (s : ℕ) (way : Way) (c : Coming) (item : Item) → GoesBy ps s way c item → GoesHomeBy homes calls seats way (Some c) → GoesToSingle (Some c)
  goes_single ps s (Into seat) c item g h = rw g.1 (g.2, refl)
  goes_single ps s (Part id place bytes) c item g h = absurd (let no : Some id ≡ None = sym h.2.home ∙ none h.0.call in cc)
  goes_single ps s (Keep id bytes) c item g h = rw g.0 tt
  goes_single ps s Throw c item g h = rw g tt
  goes_single ps s (Gather bytes) c item g h = rw g.0 (no_receive item.head.kind)

  into_single : (ps : Cells Parcel) (s : ℕ) (b : Option Begun) (c : Option Coming) (i : Option Item) → IsWay ps s b c i → GoesHome homes calls seats b c → GoesToSingle c
  into_single ps s None c i w h = rw w.0 tt
  into_single ps s (Some b) c i w h = rw w.2 (goes_single ps s b.way w.0 w.1 w.4.way (subst (λ (o : Option Coming). GoesHomeBy homes calls seats b.way o) w.2 h))

-- an unexpected message that is not whole is the item that is coming
kept_head : (ps : Cells Parcel) (id : ℕ) (a : Arrival) (way : Way) (c : Coming) (item : Item) → at ps id ≡ Some (parcel_of a) → GoesBy ps a.source way c item → IsKeptWay id way → (c ≡ KeepIt) × (item.head ≡ a.head)
kept_head ps id a (Into seat) c item there g k = absurd k
kept_head ps id a (Part n place bytes) c item there g k = absurd k
kept_head ps id a (Keep n bytes) c item there g k =
    let same : Some (parcel_of a) ≡ Some (parcel_without a.source item.head) = sym there ∙ ap (at ps) (sym k) ∙ g.3 in
    let parcels : parcel_of a ≡ parcel_without a.source item.head = cc in
    (g.0, sym (ap (λ (p : Parcel). p.head) parcels))
kept_head ps id a Throw c item there g k = absurd k
kept_head ps id a (Gather bytes) c item there g k = absurd k

partly_by : (ps : Cells Parcel) (id : ℕ) (a : Arrival) (b : Option Begun) (c : Option Coming) (i : Option Item) → at ps id ≡ Some (parcel_of a) → IsWay ps a.source b c i → IsKeptAs id b → IsPartly a c i
partly_by ps id a None c i there w k = absurd k
partly_by ps id a (Some b) c i there w k =
    let both = kept_head ps id a b.way w.0 w.1 there w.4.way k in
    record { way = w.2 ∙ ap Some both.0; item = w.1; begun = w.3; head = both.1 }

module _ (parcels : Cells Parcel) (coming : List (Option Begun)) (v : Arriving) (ways : (s : ℕ) → IsWay parcels s (get_or coming s None) (coming_from v.rx s) (begun_of v s)) where
  all_partly : (us : List (ℕ × Sign)) (rs : List Arrival) → AllZip (Lies parcels coming) us rs → AllByRecursion (PartlyIn v) rs
  all_partly [] [] t = tt
  all_partly [] (a ∷ rs) t = absurd t
  all_partly (u ∷ us) [] t = absurd t
  all_partly (u ∷ us) (a ∷ rs) t =
      ((λ none. partly_by parcels u.0 a (get_or coming a.source None) (coming_from v.rx a.source) (begun_of v a.source) t.0.parcel (ways a.source) (t.0.partly none)), all_partly us rs t.1)

  claims_partly : (cs : List (ℕ × ℕ)) (ks : List (ℕ × Arrival)) → AllZip (IsClaim parcels coming) cs ks → AllByRecursion (λ k. PartlyIn v k.1) ks
  claims_partly [] [] t = tt
  claims_partly [] (k ∷ ks) t = absurd t
  claims_partly (c ∷ cs) [] t = absurd t
  claims_partly (c ∷ cs) (k ∷ ks) t =
      ((λ none. partly_by parcels c.0 k.1 (get_or coming k.1.source None) (coming_from v.rx k.1.source) (begun_of v k.1.source) t.0.lies.parcel (ways k.1.source) (t.0.lies.partly none)), claims_partly cs ks t.1)

-- a receive takes messages alone
pub none_takes : (source : ℕ) (head : ItemHead) (rs : List Receive) → is_message head.kind ≡ false → find (is_wanted source head) rs ≡ None
none_takes source head [] e = refl
none_takes source head (r ∷ rs) e = rw e (none_takes source head rs e)

-- a store is full exactly where as many receives are posted as may be
pub full_is : (b : Bool) (n room most count : ℕ) → (b ≡ true → n ≡ room) × (n ≡ room → b ≡ true) → n ≤ room → room ≡ most → n ≡ count → b ≡ nat_le most count
full_is true n room most count iff le a c = let same : n ≡ room = iff.0 refl in grind (arith, nat_tests)
full_is false n room most count iff le a c = let differs : n ≢ room = λ same. (let yes : false ≡ true = iff.1 same in absurd (cc)) in grind (arith, nat_tests)

due_other : (kind : Kind) → entries_due (Some (way_of kind)) ≡ 0
due_other Msg = refl
due_other TagMsg = refl
due_other WriteReq = refl
due_other ReadReq = refl
due_other AtomicReq = refl
due_other Reply = refl

due_by : (ps : Cells Parcel) (s : ℕ) (way : Way) (c : Coming) (item : Item) → GoesBy ps s way c item → entries_by way ≡ entries_due (Some c)
due_by ps s (Into seat) c item g = rw g.1 refl
due_by ps s (Part id place bytes) c item g = rw g.1 refl
due_by ps s (Keep id bytes) c item g = rw g.0 refl
due_by ps s Throw c item g = rw g refl
due_by ps s (Gather bytes) c item g = rw g.0 (sym (due_other item.head.kind))

pub none_due : (ps : Cells Parcel) (s : ℕ) (b : Option Begun) (c : Option Coming) (i : Option Item) → b ≡ None → IsWay ps s b c i → 0 ≡ entries_due c
none_due ps s None c i e w = rw w.0 refl
none_due ps s (Some b) c i e w = absurd (cc)

-- in a row without items none is begun
pub none_in_row : {X : Type 0} (n s : ℕ) → get_or {A = Option X} (replicate n None) s None ≡ None
none_in_row zero s = refl
none_in_row (suc n) zero = refl
none_in_row (suc n) (suc s) = none_in_row n s

zero_in_row : (n s : ℕ) → ◌≡◌ {A = ℕ} (get_or (replicate n 0) s 0) 0
zero_in_row zero s = refl
zero_in_row (suc n) zero = refl
zero_in_row (suc n) (suc s) = zero_in_row n s

-- nothing is stored where nothing has arrived
pub opens : (peers most room : ℕ) (ps : List (ℕ × Want)) (us : List (ℕ × Sign)) (seats : Cells Waiting) (parcels : Cells Parcel) (coming : List (Option Begun)) → ps ≡ [] → us ≡ [] → room ≡ most → coming ≡ replicate peers None
    → IsKept ps us room seats parcels coming (nothing_arrived peers most)
opens peers most room ps us seats parcels coming none_posted none_there same none =
    rw (none_posted, none_there, none) (record {
      receives = tt;
      messages = tt;
      ways = λ s. rw (none_in_row {X = Begun} peers s, none_in_row {X = Coming} peers s, none_in_row {X = Item} peers s) (refl, refl);
      few = omega arith;
      most = same;
      peers = length-replicate peers None ∙ sym (length-replicate peers None);
      comings = length-replicate peers None ∙ sym (length-replicate peers None);
      heads = length-replicate peers 0 ∙ sym (length-replicate peers None);
      tails = length-replicate peers 0 ∙ sym (length-replicate peers None);
      under_way = λ s below. rw (zero_in_row peers s, none_in_row {X = Item} peers s) refl;
    })

module _ (ps : List (ℕ × Want)) (us : List (ℕ × Sign)) (room : ℕ) (seats : Cells Waiting) (parcels : Cells Parcel) (coming : List (Option Begun)) (v : Arriving) (kept : IsKept ps us room seats parcels coming v) where
  pub posted_count : length ps ≡ length v.rx.posted
  posted_count = tied_length (Sits seats) ps v.rx.posted kept.receives

  is_plain : (closing : List (ℕ × ℕ)) → AreMulti ps closing seats coming v.rx.posted v.rx.closing v.rx.coming v.next v.multis v.most → v.multis ≡ [] → IsPlain v.rx
  is_plain closing m alone =
      let none = m.plain alone in
      record {
        single = All-from_recursion IsSingle v.rx.posted (all_single m.homes m.calls seats none ps v.rx.posted kept.receives m.posted_home);
        into = λ s. into_single m.homes m.calls seats none parcels s (get_or coming s None) (coming_from v.rx s) (begun_of v s) (kept.ways s) (m.ways s);
        closing = none_closing m.homes m.calls seats none closing v.rx.closing m.closing_rest;
        still = none_draws m.homes m.calls seats none v.rx.unexpected ps v.rx.posted m.posted_home;
      }

  pub is_arriving : (cs : List (ℕ × ℕ)) (capacity : ℕ) → AreClaimed us parcels coming cs capacity v.rx.claimed → (closing : List (ℕ × ℕ)) → AreMulti ps closing seats coming v.rx.posted v.rx.closing v.rx.coming v.next v.multis v.most → IsArriving v
  is_arriving cs capacity claims closing m = record {
    coming = kept.comings;
    heads = kept.heads;
    tails = kept.tails;
    under_way = kept.under_way;
    ways = λ s. same_ways parcels s (get_or coming s None) (coming_from v.rx s) (begun_of v s) (kept.ways s);
    within = λ s. bytes_within parcels s (get_or coming s None) (coming_from v.rx s) (begun_of v s) (kept.ways s);
    plain = is_plain closing m;
    named = All-from_recursion (IsNamed v.multis) (v.rx.posted ++ v.rx.closing) (all_named ps closing seats coming v.rx.posted v.rx.closing v.rx.coming v.next v.multis v.most m);
    partly = All-from_recursion (PartlyIn v) v.rx.unexpected (all_partly parcels coming v kept.ways us v.rx.unexpected kept.messages);
    aside = All-from_recursion (λ k. PartlyIn v k.1) v.rx.claimed (claims_partly parcels coming v kept.ways cs v.rx.claimed claims.messages);
    room = let same = posted_count in let few = kept.few in omega arith;
  }

  -- no draw is due where no multi-receive was posted
  pub still_alone : (closing : List (ℕ × ℕ)) → AreMulti ps closing seats coming v.rx.posted v.rx.closing v.rx.coming v.next v.multis v.most → v.multis ≡ [] → draw_due v.rx ≡ false
  still_alone closing m alone = (is_plain closing m alone).still
