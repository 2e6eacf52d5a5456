-- What is known of multi-receives stays true as items arrive, as their bytes come, and as they end.
use Rattle.std.proofs.Common.{◌≡◌, ℕ, ◌+◌, ◌<◌, ◌≤◌, true, false, List, [], length, Option, Some, None, get_or, set, refl, sym, ap, subst, ◌∙◌, arith}
use Rattle.std.specs.Prelude.{Vec, is_some, replicate}
use Rattle.std.specs.List.{AllZip}
use Rattle.std.proofs.lemmas.Bool.{eqb-true, eq-eqb}
use Rattle.std.proofs.lemmas.List.{append-nil, set-get_or, length-replicate}
use Rattle.fab_base.specs.declared.items.ItemHead.{ItemHead}
use Rattle.fab_base.specs.declared.items.Want.{Want}
use Rattle.fab_base.specs.declared.items.Sign.{Sign}
use Rattle.fab_base.specs.declared.operations.Receive.{Receive}
use Rattle.fab_base.specs.declared.operations.Coming.{Coming}
use Rattle.fab_base.specs.declared.operations.Coming.TheVariants.{Into as IntoReceive, Keep as KeepIt}
use Rattle.fab_model.specs.Matching.{matches, remove_first}
use Rattle.fab_base.specs.Kinds.{is_message}
use Rattle.fab_model.specs.State.{coming_from}
use Rattle.fab_model.specs.Arrivals.{heading_message, heading_other, is_wanted, keeping, made_whole, taker, way_of}
use Rattle.fab_model.proofs.Unchanged.{single_seated}
use Rattle.fab_match.specs.Signs.{fits}
use Rattle.fab_match.specs.Matcher.{first_id, without}
use Rattle.fab_rx.specs.declared.stored.Waiting.{Waiting}
use Rattle.fab_rx.specs.declared.stored.Parcel.{Parcel}
use Rattle.fab_rx.specs.declared.stored.Way.{Way}
use Rattle.fab_rx.specs.declared.stored.Way.TheVariants.{Into, Part, Keep, Throw, Gather}
use Rattle.fab_rx.specs.declared.stored.Begun.{Begun}
use Rattle.fab_rx.specs.Table.{Cells, at}
use Rattle.fab_rx.specs.Arriving.{Arriving, IsSingle, arriving, begun_of, bytes_come, finishing}
use Rattle.fab_rx.specs.Stored.{IsKept, Sits, waiting_of}
use Rattle.fab_rx.specs.Homes.{AreMulti, GoesHome, GoesHomeBy, IsHome, is_fed_by, is_part_of}
use Rattle.fab_rx.proofs.Tying.{IsTaken, retied, taken, tied_both}
use Rattle.fab_rx.proofs.Keeping.{idle, least_none, row, sits_agrees, single_shut}
use Rattle.fab_rx.proofs.Growing.{kept_other, kept_single}
use Rattle.fab_rx.proofs.Known.{none_in_row}
use Rattle.fab_rx.proofs.Sharing.{multi_change, multi_gone}

-- no multi-receive is known where nothing has arrived
pub multi_begins : (peers most : ℕ) (ps : List (ℕ × Want)) (cs : List (ℕ × ℕ)) (seats : Cells Waiting) (coming : List (Option Begun)) → ps ≡ [] → cs ≡ [] → most + peers ≤ seats.spare → coming ≡ replicate peers None → AreMulti ps cs seats coming [] [] (replicate peers None) 0 [] most
multi_begins peers most ps cs seats coming none_posted none_closing free none = rw (none_posted, none_closing, none) (record {
  homes = λ call. None;
  calls = λ id. 0;
  posted_home = tt;
  closing_rest = tt;
  distinct = tt;
  apart = tt;
  ways = λ s. rw (none_in_row {X = Begun} peers s, none_in_row {X = Coming} peers s) refl;
  live = tt;
  fresh = λ call later. refl;
  plain = λ alone call. refl;
  ids = λ call. refl;
  numbers = λ id. refl;
  back = λ id call last. absurd (cc);
  spare = let long = length-replicate {A = Option Begun} peers None in omega arith;
})

module _ (ps : List (ℕ × Want)) (us : List (ℕ × Sign)) (room : ℕ) (seats : Cells Waiting) (parcels : Cells Parcel) (coming : List (Option Begun)) (v : Arriving) (kept : IsKept ps us room seats parcels coming v)
    (cs : List (ℕ × ℕ)) (m : AreMulti ps cs seats coming v.rx.posted v.rx.closing v.rx.coming v.next v.multis v.most) where
  long : length v.rx.coming ≡ length coming
  long = kept.comings ∙ sym kept.peers

  abbrev change : (s : ℕ) (b : Option Begun) (c : Option Coming) → s < length v.begun → GoesHome m.homes m.calls seats b c → ((id : ℕ) → is_fed_by id (get_or coming s None) ≡ true → is_fed_by id b ≡ true)
      → AreMulti ps cs seats (set coming s b) v.rx.posted v.rx.closing (set v.rx.coming s c) v.next v.multis v.most
  change s b c within new stays = multi_change ps cs seats coming v.rx.posted v.rx.closing v.rx.coming v.next v.multis v.most m s b c (row ps us room seats parcels coming v kept s within) long new stays v.next (omega arith)

  -- ---- an item arrives

  module _ (source : ℕ) (head : ItemHead) (within : source < length v.begun) (nothing : begun_of v source ≡ None) where
    unfed : (b : Option Begun) (id : ℕ) → is_fed_by id (get_or coming source None) ≡ true → is_fed_by id b ≡ true
    unfed b id fed = absurd (let no : false ≡ true = sym (ap (is_fed_by id) (idle ps us room seats parcels coming v kept source head within nothing).0) ∙ fed in cc)

    pub multi_gather : (b : Begun) (bytes : Vec ℕ _) → b.way ≡ Gather bytes → is_message head.kind ≡ false → AreMulti ps cs seats (set coming source (Some b)) (arriving source head v).rx.posted (arriving source head v).rx.closing (arriving source head v).rx.coming v.next v.multis v.most
    unfolding heading_other
    multi_gather b bytes e other =
        rw (other, heading_other) (change source (Some b) (Some (way_of head.kind)) within (subst (λ (w : Way). GoesHomeBy m.homes m.calls seats w (Some (way_of head.kind))) (sym e) (head.kind, refl)) (unfed (Some b)))

    pub multi_keep : (b : Begun) (id : ℕ) (bytes : Vec ℕ _) → b.way ≡ Keep id bytes → is_message head.kind ≡ true → taker source head v.rx ≡ None → AreMulti ps cs seats (set coming source (Some b)) (arriving source head v).rx.posted (arriving source head v).rx.closing (arriving source head v).rx.coming v.next v.multis v.most
    unfolding heading_message
    multi_keep b id bytes e message untaken =
        rw (message, heading_message, untaken) (change source (Some b) (Some KeepIt) within (subst (λ (w : Way). GoesHomeBy m.homes m.calls seats w (Some KeepIt)) (sym e) refl) (unfed (Some b)))

    -- ---- the first posted receive that matches takes it

    module _ (message : is_message head.kind ≡ true) (sign : Sign) (agree : (want : Want) → fits want sign ≡ matches want source head) where
      abbrev pub Both : ℕ × Want → Receive → Type 0
      Both p r = Sits seats p r × IsHome m.homes m.calls p r

      pub both_agree : (p : ℕ × Want) (r : Receive) → Both p r → fits p.1 sign ≡ is_wanted source head r
      both_agree p r b = sits_agrees seats source head sign agree p r b.0

      pub taken_home : (id : ℕ) → first_id (λ want. fits want sign) ps ≡ Some id → IsTaken Both (λ want. fits want sign) (is_wanted source head) both_agree id ps v.rx.posted
      taken_home id e = taken Both (λ want. fits want sign) (is_wanted source head) both_agree id ps v.rx.posted (tied_both (Sits seats) (IsHome m.homes m.calls) ps v.rx.posted kept.receives m.posted_home) e

      -- it is for one message
      module _ (id : ℕ) (e : first_id (λ want. fits want sign) ps ≡ Some id) (w : Waiting) (there : at seats id ≡ Some w) (alone : w.multi ≡ None) where
        no_part : (s : ℕ) → is_fed_by id (get_or coming s None) ≡ true → ⊥
        no_part s fed = by (get_or coming s None) (get_or v.rx.coming s None) (m.ways s) fed
          where
            by_way : (way : Way) (c : Option Coming) → GoesHomeBy m.homes m.calls seats way c → is_part_of id way ≡ true → ⊥
            by_way (Into seat) c g fed = absurd (cc)
            by_way (Part k place bytes) c g fed =
                let same : k ≡ id = eqb-true k id fed in
                let both : Some g.2.there ≡ Some w = sym g.2.seat ∙ ap (at seats) same ∙ there in
                let equal : g.2.there ≡ w = cc in
                let no : false ≡ true = sym (ap is_some alone) ∙ sym (ap (λ (x : Waiting). is_some x.multi) equal) ∙ g.2.shared in
                absurd (cc)
            by_way (Keep k bytes) c g fed = absurd (cc)
            by_way Throw c g fed = absurd (cc)
            by_way (Gather bytes) c g fed = absurd (cc)

            by : (b : Option Begun) (c : Option Coming) → GoesHome m.homes m.calls seats b c → is_fed_by id b ≡ true → ⊥
            by None c g fed = absurd (cc)
            by (Some b) c g fed = by_way b.way c g fed

        pub home_single : IsSingle (taken_home id e).member
        home_single =
            let t = taken_home id e in
            let is : Some w ≡ Some (waiting_of t.member) = sym there ∙ ap (at seats) (sym t.is) ∙ t.tie.0.seat in
            let equal : w ≡ waiting_of t.member = cc in
            let least = least_none t.member (ap (λ (x : Waiting). x.multi) (sym equal) ∙ alone) in
            record { least = least; used = t.tie.0.fit.single least }

        module _ (single : IsSingle (taken_home id e).member) (rest : List (ℕ × Want)) (are : rest ≡ without id ps) (first : rest ≡ remove_first (λ p. fits p.1 sign) ps) (others : Cells Waiting) (is : others.cells ≡ set seats.cells id None) (more : others.spare ≡ seats.spare + 1) where
          pub multi_seat : (b : Begun) → b.way ≡ Into w.seat → AreMulti rest cs others (set coming source (Some b)) (arriving source head v).rx.posted (arriving source head v).rx.closing (arriving source head v).rx.coming v.next v.multis v.most
          unfolding heading_message
          multi_seat b way =
              let t = taken_home id e in
              let r = t.member in
              let test = is_wanted source head in
              let tied : AllZip (IsHome m.homes m.calls) rest (remove_first test v.rx.posted) =
              retied Both (IsHome m.homes m.calls) rest (remove_first test v.rx.posted) (λ p q b. b.1) (subst (λ (xs : List (ℕ × Want)). AllZip Both xs (remove_first test v.rx.posted)) (sym first) t.rest) in
              let shorter : length rest + 1 ≡ length ps = ap (λ (xs : List (ℕ × Want)). length xs + 1) first ∙ t.shorter in
              let home : m.homes r.call ≡ None = t.tie.1.home ∙ rw single.least refl in
              let gone = multi_gone ps cs seats coming v.rx.posted v.rx.closing v.rx.coming v.next v.multis v.most m id others is more rest are shorter (remove_first test v.rx.posted) tied no_part in
              rw (message, heading_message, t.found, single_seated test head.total r v.rx.posted single.least, single_shut head.total r single.least, append-nil v.rx.closing)
              (multi_change rest cs others coming (remove_first test v.rx.posted) v.rx.closing v.rx.coming v.next v.multis v.most gone source (Some b) (Some (IntoReceive r r.used)) (row ps us room seats parcels coming v kept source within) long
              (subst (λ (x : Way). GoesHomeBy m.homes m.calls others x (Some (IntoReceive r r.used))) (sym way) (r, ap (λ n. Some (IntoReceive r n)) single.used, single.least, home)) (unfed (Some b)) v.next (omega arith))

  -- ---- its bytes come, and it ends

  module _ (source : ℕ) (within : source < length v.begun) (b : Begun) (is_stored : Some b ≡ get_or coming source None) where
    pub multi_grown : (new : Begun) (bytes : List ℕ) (rest : List (Option Begun)) → rest ≡ set coming source (Some new)
        → ((c : Option Coming) → GoesHomeBy m.homes m.calls seats b.way c → GoesHomeBy m.homes m.calls seats new.way c) → ((id : ℕ) → is_part_of id new.way ≡ is_part_of id b.way) → AreMulti ps cs seats rest v.rx.posted v.rx.closing v.rx.coming v.next v.multis v.most
    multi_grown new bytes rest is home same =
        let c = get_or v.rx.coming source None in
        let was : GoesHomeBy m.homes m.calls seats b.way c = subst (λ (o : Option Begun). GoesHome m.homes m.calls seats o c) (sym is_stored) (m.ways source) in
        rw is (subst (λ (xs : List (Option Coming)). AreMulti ps cs seats (set coming source (Some new)) v.rx.posted v.rx.closing xs v.next v.multis v.most) (set-get_or v.rx.coming source None)
        (change source (Some new) c within (home c was) (λ id fed. same id ∙ subst (λ (o : Option Begun). is_fed_by id o ≡ true) (sym is_stored) fed)))

    -- an item that goes to no multi-receive
    pub multi_ended : (way : Way) → b.way ≡ way → ((id : ℕ) → is_part_of id way ≡ false) → (rest : List (Option Begun)) → rest ≡ set coming source None
        → AreMulti ps cs seats rest (finishing source v).rx.posted (finishing source v).rx.closing (finishing source v).rx.coming v.next v.multis v.most
    unfolding made_whole keeping
    multi_ended way e never rest is =
        let c = coming_from v.rx source in
        let was : GoesHomeBy m.homes m.calls seats way c = subst (λ (w : Way). GoesHomeBy m.homes m.calls seats w c) e (subst (λ (o : Option Begun). GoesHome m.homes m.calls seats o c) (sym is_stored) (m.ways source)) in
        let none : AreMulti ps cs seats (set coming source None) v.rx.posted v.rx.closing (set v.rx.coming source None) v.next v.multis v.most =
        change source None None within refl (λ id fed. absurd (let not_so : false ≡ true = sym (ap (is_part_of id) e ∙ never id) ∙ subst (λ (o : Option Begun). is_fed_by id o ≡ true) (sym is_stored) fed in cc)) in
        rw is (by_way way never was none)
      where
        by_way : (way : Way) → ((id : ℕ) → is_part_of id way ≡ false) → GoesHomeBy m.homes m.calls seats way (coming_from v.rx source) → AreMulti ps cs seats (set coming source None) v.rx.posted v.rx.closing (set v.rx.coming source None) v.next v.multis v.most
            → AreMulti ps cs seats (set coming source None) (finishing source v).rx.posted (finishing source v).rx.closing (finishing source v).rx.coming v.next v.multis v.most
        by_way (Into seat) never g none = rw (g.1, kept_single g.0 0 source (bytes_come (begun_of v source)) (made_whole source v.rx) g.2, made_whole) none
        by_way (Part id place bytes) never g none = absurd (let not_so : true ≡ false = sym (eq-eqb id id refl) ∙ never id in cc)
        by_way (Keep id bytes) never g none = rw (g, keeping, made_whole) none
        by_way Throw never g none = rw (g, made_whole) none
        by_way (Gather bytes) never g none = rw (g.1, kept_other g.0 source (bytes_come (begun_of v source)) (made_whole source v.rx), made_whole) none
