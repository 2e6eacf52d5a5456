-- A draw: what is stored stays true, and what it hands out is what the machine's draw writes.
use Rattle.std.proofs.Common.{◌≡◌, ℕ, ◌+◌, ◌<◌, Bool, true, false, not, List, [], ◌∷◌, ◌++◌, length, map, Option, Some, None, get_or, set, refl, sym, ap, subst, ◌∙◌, arith}
use Rattle.std.specs.Prelude.{find, is_some, IsSomeAnd}
use Rattle.std.specs.Option.{option_map}
use Rattle.std.specs.List.{AllByRecursion, list_any}
use Rattle.std.proofs.lemmas.Bool.{eq-eqb}
use Rattle.std.proofs.lemmas.List.{append-nil, get_or-set_same, set-set}
use Rattle.fab_base.specs.declared.items.Item.{Item}
use Rattle.fab_base.specs.declared.items.Want.{Want}
use Rattle.fab_base.specs.declared.items.Sign.{Sign}
use Rattle.fab_base.specs.declared.operations.Receive.{Receive}
use Rattle.fab_base.specs.declared.operations.Arrival.{Arrival}
use Rattle.fab_base.specs.declared.operations.Coming.{Coming}
use Rattle.fab_base.specs.declared.operations.Coming.TheVariants.{Into as IntoReceive}
use Rattle.fab_base.proofs.Lists.{some_within as id_within}
use Rattle.fab_base.proofs.Options.{not_some, some_there as there_is}
use Rattle.fab_model.specs.Matching.{change_first, remove_first, takes}
use Rattle.fab_model.specs.State.{Receiving, under_way}
use Rattle.fab_model.specs.Complete.{filled, filling, is_made_by}
use Rattle.fab_model.specs.Receiving.{draws, goes}
use Rattle.fab_model.specs.Arrivals.{seated, stays, used_up}
use Rattle.fab_match.specs.Signs.{fits}
use Rattle.fab_match.specs.Matcher.{first_id, has_id, without}
use Rattle.fab_rx.specs.declared.stored.Waiting.{Waiting}
use Rattle.fab_rx.specs.declared.stored.Multi.{Multi}
use Rattle.fab_rx.specs.declared.stored.Parcel.{Parcel}
use Rattle.fab_rx.specs.declared.stored.Way.{Way}
use Rattle.fab_rx.specs.declared.stored.Way.TheVariants.{Into, Part, Keep, Throw, Gather}
use Rattle.fab_rx.specs.declared.stored.Begun.{Begun}
use Rattle.fab_rx.specs.declared.results.Completed.{Completed}
use Rattle.fab_rx.specs.declared.results.Released.{Released}
use Rattle.fab_rx.specs.declared.results.Drawn.TheVariants.{GoesOn, Part as PartDrawn, Last}
use Rattle.fab_rx.specs.Table.{Cells, at}
use Rattle.fab_rx.specs.Arriving.{Arriving, shared, with_receiving}
use Rattle.fab_rx.specs.Results.{closed_if, completed, released}
use Rattle.fab_rx.specs.Draws.{draws_at}
use Rattle.fab_rx.specs.Drawing.{drawing, drawn, drawn_as, drawn_into, drawn_last, entries_drawn, set_apart}
use Rattle.fab_rx.specs.Stored.{AreClaimed, GoesBy, IsComing, IsFit, IsKept, IsKeptAs, IsKeptWay, Lies, Sits, gone_on, parcel_of, part_way, turned, waiting_of}
use Rattle.fab_rx.specs.Homes.{AreMulti, GoesHomeBy, IsPart, is_fed_by, is_part_of}
use Rattle.fab_rx.specs.Numbers.{IsNumbered}
use Rattle.fab_rx.specs.Sharing.{IsUsable, is_closed, kept_or, left_by, multi_at, placed_in, released_of, taken_in, used_up_by}
use Rattle.fab_rx.specs.Whole.{IsInbox}
use Rattle.fab_rx.proofs.Tables.{same_ids}
use Rattle.fab_rx.proofs.Tying.{IsTaken}
use Rattle.fab_rx.proofs.Keeping.{at_same, lies_agrees}
use Rattle.fab_rx.proofs.Finding.{first_found, found_here, found_partly}
use Rattle.fab_rx.proofs.Numbering.{below_found, numbers_gone, numbers_leave_by, others_found}
use Rattle.fab_rx.proofs.Parting.{gone_by, length_turned, stored_where_kept, unexpected_claims, unexpected_kept}
use Rattle.fab_rx.proofs.Sharing.{any_at, kept_unfed, multi_moved}
use Rattle.fab_rx.proofs.Drawing.{draws_agree}
use Rattle.fab_rx.proofs.Ending.{fit_filled, released_as}
use Rattle.fab_rx.proofs.Taking.{fit_used, left_none, left_some, seated_off, seated_on, shut_off, shut_on, stays_by, usable_of, waiting_used}
use Rattle.fab_rx.proofs.Pasting.{length_paste_at}
use Rattle.fab_rx.proofs.Onces.{any_where, change_none, change_twice, others_none}
use Rattle.fab_rx.proofs.Closing.{apart_alone, closing_less_by, others_unfed}
use Rattle.fab_rx.proofs.Shutting.{closes_as, fed_as, last_if, none_made, shared_fed, shared_last, shared_on}
use Rattle.fab_rx.proofs.Giving.{IsSameBut, fit, giver, giver_found, home, kept_off, kept_on, kept_out, multi, multi_off, multi_on, multi_out, numbers_off, numbers_on, part, room_given, some, there, unclosed, want_same}

-- a kept message goes on as a part
part_goes : (parcels others : Cells Parcel) (s id place mid : ℕ) (r : Receive) → place ≡ r.used → (way : Way) (w : Coming) (i : Item) → IsKeptWay mid way → GoesBy parcels s way w i → GoesBy others s (part_way id place way) (IntoReceive r r.used) i
part_goes parcels others s id place mid r used (Into seat) w i k g = absurd k
part_goes parcels others s id place mid r used (Part n at bytes) w i k g = absurd k
part_goes parcels others s id place mid r used (Keep n bytes) w i k g = (r, ap (IntoReceive r) (sym used), g.1, g.2)
part_goes parcels others s id place mid r used Throw w i k g = absurd k
part_goes parcels others s id place mid r used (Gather bytes) w i k g = absurd k

part_home : (homes : ℕ → Option ℕ) (calls : ℕ → ℕ) (seats : Cells Waiting) (id place mid : ℕ) (r : Receive) → place ≡ r.used → IsPart homes calls seats id r → (way : Way) → IsKeptWay mid way → GoesHomeBy homes calls seats (part_way id place way) (Some (IntoReceive r r.used))
part_home homes calls seats id place mid r used p (Into seat) k = absurd k
part_home homes calls seats id place mid r used p (Part n at bytes) k = absurd k
part_home homes calls seats id place mid r used p (Keep n bytes) k = (r, ap (λ n. Some (IntoReceive r n)) (sym used), p)
part_home homes calls seats id place mid r used p Throw k = absurd k
part_home homes calls seats id place mid r used p (Gather bytes) k = absurd k

part_fed : (id place mid : ℕ) (way : Way) → IsKeptWay mid way → is_part_of id (part_way id place way) ≡ true
part_fed id place mid (Into seat) k = absurd k
part_fed id place mid (Part n at bytes) k = absurd k
part_fed id place mid (Keep n bytes) k = eq-eqb id id refl
part_fed id place mid Throw k = absurd k
part_fed id place mid (Gather bytes) k = absurd k

module _ (ps : List (ℕ × Want)) (us : List (ℕ × Sign)) (room : ℕ) (seats : Cells Waiting) (parcels : Cells Parcel) (coming : List (Option Begun)) (claims : List (ℕ × ℕ)) (claimable : ℕ) (cs : List (ℕ × ℕ)) (room_to_close : ℕ) (shares : Bool) (v : Arriving)
    (inv : IsInbox ps us room seats parcels coming claims claimable cs room_to_close shares v) (id : ℕ) (e : find (draws_at seats us) (map (λ p. p.0) ps) ≡ Some id) (q : Multi) (shared_at : multi_at seats id ≡ Some q) where
  abbrev test : Receive → Bool
  test = draws v.rx.unexpected

  abbrev m : AreMulti ps cs seats coming v.rx.posted v.rx.closing v.rx.coming v.next v.multis v.most
  m = inv.shared

  agree : (x : ℕ × Want) (y : Receive) → Sits seats x y → draws_at seats us x.0 ≡ test y
  agree = draws_agree ps us room seats parcels coming v inv.kept

  -- what is known of the multi-receive that draws
  pub record IsDrawer (r : Receive) : Type 0 where
    pub found : find (draws v.rx.unexpected) v.rx.posted ≡ Some r
    pub there : at seats id ≡ Some (waiting_of r)
    pub some : (least : ℕ) × (r.least ≡ Some least) × (q.used ≡ r.used)
    pub multi : is_some r.least ≡ true
    pub want : q.want ≡ r.want
    pub home : inv.shared.homes r.call ≡ Some id
    pub part : IsPart inv.shared.homes inv.shared.calls seats id r
    pub lacks : has_id id cs ≡ false
    pub fit : IsFit r

  pub drawer_told : (r : Receive) × IsDrawer r
  drawer_told = (
    giver ps us room seats parcels coming v inv.kept cs m (draws_at seats us) test agree id e q shared_at,
    record {
      found = giver_found ps us room seats parcels coming v inv.kept cs m (draws_at seats us) test agree id e q shared_at;
      there = there ps us room seats parcels coming v inv.kept cs m (draws_at seats us) test agree id e q shared_at;
      some = some ps us room seats parcels coming v inv.kept cs m (draws_at seats us) test agree id e q shared_at;
      multi = multi ps us room seats parcels coming v inv.kept cs m (draws_at seats us) test agree id e q shared_at;
      want = want_same ps us room seats parcels coming v inv.kept cs m (draws_at seats us) test agree id e q shared_at;
      home = home ps us room seats parcels coming v inv.kept cs m (draws_at seats us) test agree id e q shared_at;
      part = part ps us room seats parcels coming v inv.kept cs m (draws_at seats us) test agree id e q shared_at;
      lacks = unclosed ps us room seats parcels coming v inv.kept cs m (draws_at seats us) test agree id e q shared_at;
      fit = fit ps us room seats parcels coming v inv.kept cs m (draws_at seats us) test agree id e q shared_at;
    },
  )

  module _ (r : Receive) (d : IsDrawer r) where
    abbrev r_found : find test v.rx.posted ≡ Some r
    r_found = d.found

    abbrev r_there : at seats id ≡ Some (waiting_of r)
    r_there = d.there

    abbrev r_some : (least : ℕ) × (r.least ≡ Some least) × (q.used ≡ r.used)
    r_some = d.some

    abbrev r_multi : is_some r.least ≡ true
    r_multi = d.multi

    abbrev r_want : q.want ≡ r.want
    r_want = d.want

    abbrev r_home : m.homes r.call ≡ Some id
    r_home = d.home

    abbrev r_part : IsPart m.homes m.calls seats id r
    r_part = d.part

    abbrev r_lacks : has_id id cs ≡ false
    r_lacks = d.lacks

    abbrev r_fit : IsFit r
    r_fit = d.fit

    pub usable_drawn : IsSomeAnd (at seats id) IsUsable
    usable_drawn = rw r_there (usable_of r r_fit)

    none_closing : find (is_made_by r.call) v.rx.closing ≡ None
    none_closing = none_made m.homes m.calls seats id r r_part cs v.rx.closing m.closing_rest r_lacks

    fed_same : under_way v.rx r.call ≡ list_any (is_fed_by id) coming
    fed_same = fed_as m.homes m.calls seats id r r_part coming v.rx.coming (inv.kept.comings ∙ sym inv.kept.peers) m.ways

    module _ (mid : ℕ) (first : first_id (λ sign. fits q.want sign) us ≡ Some mid) where
      abbrev t : IsTaken (Lies parcels coming) (λ sign. fits q.want sign) (takes q.want) (lies_agrees q.want parcels coming) mid us v.rx.unexpected
      t = first_found ps us room seats parcels coming v inv.kept q.want mid first

      here : at parcels mid ≡ Some (parcel_of t.member)
      here = found_here ps us room seats parcels coming v inv.kept q.want mid first

      module _ (p : Parcel) (taken : at parcels mid ≡ Some p) where
        abbrev total : ℕ
        total = p.head.total

        same_parcel : parcel_of t.member ≡ p
        same_parcel = let both : Some (parcel_of t.member) ≡ Some p = sym here ∙ taken in cc

        abbrev a : Arrival
        a = record { source = p.source; place = t.member.place; head = p.head; bytes = p.bytes }

        a_is : t.member ≡ a
        a_is = λ i. record { source = (same_parcel i).source; place = t.member.place; head = (same_parcel i).head; bytes = (same_parcel i).bytes }

        a_found : find (takes r.want) v.rx.unexpected ≡ Some a
        a_found = ap (λ (w : Want). find (takes w) v.rx.unexpected) (sym r_want) ∙ t.found ∙ ap (λ (x : Arrival). Some x) a_is

        abbrev apart_rx : Receiving
        apart_rx = set_apart r a v.rx

        drawing_is : drawing v ≡ with_receiving (drawn_into p.bytes r p.source apart_rx) v
        drawing_is = rw (r_found, a_found) refl

        drawn_is : drawn v ≡ drawn_as p.bytes r a v
        drawn_is = rw (r_found, a_found) refl

        -- what is handed out of a message that is not whole
        pub rest_drawn : p.bytes ≡ None → GoesOn ≡ drawn v
        rest_drawn none = sym (drawn_is ∙ ap (λ o. drawn_as o r a v) none)

        partly : a.bytes ≡ None → IsKeptAs mid (get_or coming a.source None)
        partly = found_partly ps us room seats parcels coming v inv.kept q.want mid first a taken

        pub source_kept : p.bytes ≡ None → IsKeptAs mid (get_or coming p.source None)
        source_kept none = partly none

        -- what is under way of its source
        pub rest_within : p.bytes ≡ None → p.source < length coming
        rest_within none = let k = stored_where_kept (get_or coming p.source None) mid (partly none) in id_within coming p.source k.0 k.1

        pub rest_begun : p.bytes ≡ None → get_or coming p.source None ≡ None → ⊥
        rest_begun none missing = let k = stored_where_kept (get_or coming p.source None) mid (partly none) in let not_so : Some k.0 ≡ None = sym k.1 ∙ missing in cc

        pub turned_rest : p.bytes ≡ None → (b : Begun) → Some b ≡ get_or coming p.source None → (now : List (Option Begun)) → now ≡ set (set coming p.source None) p.source (Some (gone_on id q.used b)) → now ≡ turned (option_map (gone_on id q.used)) p.bytes p.source coming
        turned_rest none b stored now is = is ∙ set-set coming p.source None (Some (gone_on id q.used b)) ∙ ap (λ o. set coming p.source (option_map (gone_on id q.used) o)) stored ∙ sym (ap (λ o. turned (option_map (gone_on id q.used)) o p.source coming) none)

        pub turned_whole : (bytes : List ℕ) → p.bytes ≡ Some bytes → coming ≡ turned (option_map (gone_on id q.used)) p.bytes p.source coming
        turned_whole bytes whole = sym (ap (λ o. turned (option_map (gone_on id q.used)) o p.source coming) whole)

        -- where the multi-receive leaves and is not over, an item is under way to it
        fed_open : is_closed coming id total (at seats id) ≡ false → (ctx : ℕ) → left_by total (at seats id) ≡ Some ctx → list_any (is_fed_by id) coming ≡ true
        fed_open goes_on ctx leave = by (list_any (is_fed_by id) coming) refl
          where
            by : (b : Bool) → list_any (is_fed_by id) coming ≡ b → list_any (is_fed_by id) coming ≡ true
            by true e = e
            by false e = absurd (let not_so : true ≡ false = rw (leave, e) at goes_on in cc)

        over_yes : is_closed coming id total (at seats id) ≡ true → (ctx : ℕ) × (left_by total (at seats id) ≡ Some ctx) × (list_any (is_fed_by id) coming ≡ false)
        over_yes over = by (left_by total (at seats id)) refl (list_any (is_fed_by id) coming) refl
          where
            by : (o : Option ℕ) → left_by total (at seats id) ≡ o → (b : Bool) → list_any (is_fed_by id) coming ≡ b → (ctx : ℕ) × (left_by total (at seats id) ≡ Some ctx) × (list_any (is_fed_by id) coming ≡ false)
            by None stay b e = absurd (let not_so : false ≡ true = rw stay at over in cc)
            by (Some ctx) leave true e = absurd (let not_so : false ≡ true = rw (leave, e) at over in cc)
            by (Some ctx) leave false e = (ctx, leave, e)

        -- ---- what is handed out of one that is whole

        module _ (bytes : List ℕ) (whole : p.bytes ≡ Some bytes) where
          abbrev closed : Option Receive
          closed = closed_if r.least r.call (filling r r.used bytes apart_rx)

          whole_drawn : drawn v ≡ drawn_last (option_map (released v) closed) (completed r r.used p.source p.head bytes)
          whole_drawn = drawn_is ∙ ap (λ o. drawn_as o r a v) whole

          closed_where : is_closed coming id total (at seats id) ≡ is_some closed
          closed_where = ap (λ o. is_closed coming id total o) r_there ∙ closes_as r r_some.0 r_some.1 total r.used bytes v.rx.closing none_closing apart_rx refl (list_any (is_fed_by id) coming) fed_same

          pub completes : (x : Completed) → ((w : Waiting) (y : Receive) (some_bytes : List ℕ) → at seats id ≡ Some w → is_some y.least ≡ true → w.seat.ctx ≡ y.ctx → length w.seat.buf ≡ length y.buf → x ≡ completed y q.used p.source p.head some_bytes) → x ≡ completed r r.used p.source p.head bytes
          completes x made = made (waiting_of r) r bytes r_there r_multi refl refl ∙ ap (λ n. completed r n p.source p.head bytes) r_some.2

          part_drawn : is_closed coming id total (at seats id) ≡ false → drawn v ≡ PartDrawn (completed r r.used p.source p.head bytes)
          part_drawn goes_on = whole_drawn ∙ ap (λ o. drawn_last (option_map (released v) o) (completed r r.used p.source p.head bytes)) (not_some closed (sym closed_where ∙ goes_on))

          pub told_part : is_closed coming id total (at seats id) ≡ false → (x : Completed) → x ≡ completed r r.used p.source p.head bytes → PartDrawn x ≡ drawn v
          told_part goes_on x is = ap (λ y. PartDrawn y) is ∙ sym (part_drawn goes_on)

          abbrev last_one : Receive
          last_one = filled r.used bytes (used_up total r)

          last_drawn : is_closed coming id total (at seats id) ≡ true → drawn v ≡ Last (completed r r.used p.source p.head bytes) (released v last_one)
          last_drawn over =
              let is = over_yes over in
              whole_drawn
              ∙ ap (λ o. drawn_last (option_map (released v) o) (completed r r.used p.source p.head bytes)) (last_if r r_some.0 r_some.1 total r.used bytes v.rx.closing none_closing apart_rx refl (stays_by total r r_some.0 r_some.1 ∙ ap not (left_some total (waiting_of r) is.0 (ap (left_by total) (sym r_there) ∙ is.1)).0) (fed_same ∙ is.2))

          pub told_last : is_closed coming id total (at seats id) ≡ true → (x : Completed) → x ≡ completed r r.used p.source p.head bytes → (y : Released) → Some y ≡ option_map (λ w. released_of id (taken_in total q.used bytes w)) (at seats id) → Last x y ≡ drawn v
          told_last over x is y are =
              let both : Some y ≡ Some (released_of id (taken_in total q.used bytes (waiting_of r))) = are ∙ ap (option_map (λ w. released_of id (taken_in total q.used bytes w))) r_there in
              let stored : y ≡ released_of id (taken_in total q.used bytes (waiting_of r)) = cc in
              let as_last : released_of id (taken_in total q.used bytes (waiting_of r)) ≡ released v last_one =
              ap (λ n. released_of id (taken_in total n bytes (waiting_of r))) r_some.2 ∙ ap (λ w. released_of id (placed_in r.used bytes w)) (waiting_used total r) ∙ released_as v id last_one (sym (m.ids r.call) ∙ r_home) r_multi in
              ap (λ z. Last z y) is ∙ ap (λ z. Last (completed r r.used p.source p.head bytes) z) (stored ∙ as_last) ∙ sym (last_drawn over)

          pub one_counts : is_closed coming id total (at seats id) ≡ false → 1 ≡ entries_drawn (drawn v)
          one_counts goes_on = sym (ap entries_drawn (part_drawn goes_on))

          pub two_count : is_closed coming id total (at seats id) ≡ true → 2 ≡ entries_drawn (drawn v)
          two_count over = sym (ap entries_drawn (last_drawn over))

        -- ---- room among those that are closing

        pub room_rest : p.bytes ≡ None → length cs < length coming
        room_rest none =
            let k = stored_where_kept (get_or coming p.source None) mid (partly none) in
            closing_less_by coming p.source cs (id_within coming p.source k.0 k.1) (feeds_none k.0 k.1 k.2 cs) (apart_alone ps cs m.apart) m.live
          where
            feeds_none : (b : Begun) → get_or coming p.source None ≡ Some b → IsKeptWay mid b.way → (xs : List (ℕ × ℕ)) → AllByRecursion (λ c. is_fed_by c.0 (get_or coming p.source None) ≡ false) xs
            feeds_none b is k [] = tt
            feeds_none b is k (x ∷ xs) = (ap (is_fed_by x.0) is ∙ by (is_part_of x.0 b.way) refl, feeds_none b is k xs)
              where
                by : (d : Bool) → is_part_of x.0 b.way ≡ d → is_part_of x.0 b.way ≡ false
                by false e = e
                by true e = absurd (kept_unfed x.0 mid b.way k e)

        pub room_part : is_closed coming id total (at seats id) ≡ false → is_some (left_by total (at seats id)) ≡ true → length cs < length coming
        room_part goes_on leaves =
            let o = there_is (left_by total (at seats id)) leaves in
            let s = any_where (is_fed_by id) coming (fed_open goes_on o.0 o.1) in
            closing_less_by coming s.0 cs s.1 (others_unfed (get_or coming s.0 None) id cs s.2 r_lacks) (apart_alone ps cs m.apart) m.live

        -- ---- the message is unexpected no more

        module _ (others : Cells Parcel) (is : others.cells ≡ set parcels.cells mid None) (more : others.spare ≡ parcels.spare + 1) (rest : List (ℕ × Sign)) (are : rest ≡ remove_first (λ s. fits q.want s.1) us) (lacks : has_id mid rest ≡ false)
            (now : List (Option Begun)) (is_now : now ≡ turned (option_map (gone_on id q.used)) p.bytes p.source coming) where
          now_for : (x : Arrival) → at parcels mid ≡ Some (parcel_of x) → now ≡ turned (option_map (gone_on id q.used)) x.bytes x.source coming
          now_for x stored =
              let both : Some p ≡ Some (parcel_of x) = sym taken ∙ stored in
              let same : p ≡ parcel_of x = cc in
              subst (λ (y : Parcel). now ≡ turned (option_map (gone_on id q.used)) y.bytes y.source coming) same is_now

          turns : (s : ℕ) (b : Begun) (w : Coming) (i : Item) → IsKeptWay mid b.way → IsComing parcels s b w i → IsComing others s (gone_on id q.used b) (IntoReceive r r.used) i
          turns s b w i k c = record { head = c.head; got = c.got; within = c.within; way = part_goes parcels others s id q.used mid r r_some.2 b.way w i k c.way }

          abbrev un : List Arrival
          un = remove_first (takes q.want) v.rx.unexpected

          abbrev left : Arriving
          left = gone_by (IntoReceive r r.used) a un v.rx.claimed v.next v

          kept_left : IsKept ps rest room seats others now left
          kept_left = subst (λ (x : Arrival). IsKept ps rest room seats others now (gone_by (IntoReceive r r.used) x un v.rx.claimed v.next v)) a_is
              (unexpected_kept ps us room seats parcels coming v inv.kept claims claimable inv.aside mid others is more (gone_on id q.used) (IntoReceive r r.used) turns now now_for v.next q.want first rest are lacks)

          claims_left : AreClaimed rest others now claims claimable v.rx.claimed
          claims_left = unexpected_claims ps us room seats parcels coming v inv.kept claims claimable inv.aside mid others is more (gone_on id q.used) (IntoReceive r r.used) turns now now_for v.next q.want first rest are lacks

          abbrev comes : List (Option Coming)
          comes = turned (λ x. Some (IntoReceive r r.used)) p.bytes p.source v.rx.coming

          multi_left : AreMulti ps cs seats now v.rx.posted v.rx.closing comes v.next v.multis v.most
          multi_left = multi_moved ps cs seats coming v.rx.posted v.rx.closing v.rx.coming v.next v.multis v.most m mid a partly (inv.kept.comings ∙ sym inv.kept.peers) (gone_on id q.used) (IntoReceive r r.used)
              (λ b k. part_home m.homes m.calls seats id q.used mid r r_some.2 r_part b.way k) v.next (omega arith) now is_now

          numbers_left : IsNumbered v.rx.posted comes v.next
          numbers_left = numbers_gone v inv.numbers (IntoReceive r r.used) p.bytes p.source v.next (omega arith)
              (below_found test v.next v.rx.posted r inv.numbers.below r_found, λ single. absurd (let no : false ≡ true = rw single at r_multi in cc))

          long : length now ≡ length coming
          long = ap length is_now ∙ length_turned (option_map (gone_on id q.used)) p.bytes p.source coming

          same_giver : giver ps rest room seats others now left kept_left cs multi_left (draws_at seats us) test agree id e q shared_at ≡ r
          same_giver =
              let both : Some (giver ps rest room seats others now left kept_left cs multi_left (draws_at seats us) test agree id e q shared_at) ≡ Some r =
              sym (giver_found ps rest room seats others now left kept_left cs multi_left (draws_at seats us) test agree id e q shared_at) ∙ r_found in
              cc

          -- what is stored stands for the draw, with these seats
          abbrev pub Given : Cells Waiting → Type 0
          Given seats_then = (posted : List (ℕ × Want)) (closing : List (ℕ × ℕ)) (to_close : ℕ) → posted ≡ kept_or (left_by total (at seats id)) ps (without id ps) → (is_some (left_by total (at seats id)) ≡ true → has_id id posted ≡ false)
              → ((ctx : ℕ) → left_by total (at seats id) ≡ Some ctx → closing ≡ cs ++ (id, ctx) ∷ [])
              → (left_by total (at seats id) ≡ None → closing ≡ cs) → to_close ≡ room_to_close → IsInbox posted rest room seats_then others now claims claimable closing to_close shares (drawing v)

          -- ---- the receive has given room to it

          module _ (g : Receive → Receive) (same : (y : Receive) → IsSameBut y (g y)) (fitting : (y : Receive) → is_some y.least ≡ true → IsFit y → IsFit (g y)) (f : Waiting → Waiting) (alike : (y : Receive) → f (waiting_of y) ≡ waiting_of (g y))
              (seats_then : Cells Waiting) (cells : seats_then.cells ≡ set seats.cells id (option_map f (at seats id))) (free : seats_then.spare ≡ seats.spare) (fed_off : (ctx : ℕ) → left_by total (at seats id) ≡ Some ctx → list_any (is_fed_by id) now ≡ true)
              (eq_on : left_by total (at seats id) ≡ None → drawing v ≡ room_given (change_first test g v.rx.posted) v.rx.closing left)
              (eq_off : (ctx : ℕ) → left_by total (at seats id) ≡ Some ctx → drawing v ≡ room_given (remove_first test v.rx.posted) (v.rx.closing ++ g r ∷ []) left) where
            given : Given seats_then
            given posted closing to_close is_posted gone closes opens is_room = by (left_by total (at seats id)) refl
              where
                by : (o : Option ℕ) → left_by total (at seats id) ≡ o → IsInbox posted rest room seats_then others now claims claimable closing to_close shares (drawing v)
                by None stay =
                    rw (is_posted, stay, opens stay, is_room, eq_on stay) (record {
                      kept = kept_on ps rest room seats others now left kept_left cs multi_left (draws_at seats us) test agree id e q shared_at g same fitting f alike seats_then cells free;
                      numbers = numbers_on ps rest room seats others now left kept_left cs multi_left (draws_at seats us) test agree id e q shared_at g same fitting f alike seats_then cells free numbers_left;
                      aside = claims_left;
                      shared = multi_on ps rest room seats others now left kept_left cs multi_left (draws_at seats us) test agree id e q shared_at g same fitting f alike seats_then cells free;
                      closable = let closable = inv.closable in let same_long = long in omega arith;
                      ids = same_ids seats seats_then id _ cells inv.ids;
                      sharing = inv.sharing;
                    })
                by (Some ctx) leave =
                    let left_ctx : ctx ≡ r.ctx = (left_some total (waiting_of r) ctx (ap (left_by total) (sym r_there) ∙ leave)).1 in
                    let is_ctx = left_ctx ∙ ap (λ (y : Receive). y.ctx) (sym same_giver) in
                    let out : posted ≡ without id ps = rw leave at is_posted in
                    let lacking = gone (ap is_some leave) in
                    let fed = fed_off ctx leave in
                    rw (closes ctx leave, is_room, eq_off ctx leave) (record {
                      kept = subst (λ (y : Receive). IsKept posted rest room seats_then others now (room_given (remove_first test v.rx.posted) (v.rx.closing ++ g y ∷ []) left)) same_giver
                          (kept_off ps rest room seats others now left kept_left cs multi_left (draws_at seats us) test agree id e q shared_at g same fitting f alike seats_then cells free ctx is_ctx fed posted out lacking);
                      numbers = numbers_off ps rest room seats others now left kept_left cs multi_left (draws_at seats us) test agree id e q shared_at g same fitting f alike seats_then cells free ctx is_ctx fed posted out lacking numbers_left;
                      aside = claims_left;
                      shared = subst (λ (y : Receive). AreMulti posted (cs ++ (id, ctx) ∷ []) seats_then now (remove_first test v.rx.posted) (v.rx.closing ++ g y ∷ []) comes v.next v.multis v.most) same_giver
                          (multi_off ps rest room seats others now left kept_left cs multi_left (draws_at seats us) test agree id e q shared_at g same fitting f alike seats_then cells free ctx is_ctx fed posted out lacking);
                      closable = let closable = inv.closable in let same_long = long in omega arith;
                      ids = same_ids seats seats_then id _ cells inv.ids;
                      sharing = inv.sharing;
                    })

          on_by : left_by total (at seats id) ≡ None → stays total r ≡ true
          on_by stay = stays_by total r r_some.0 r_some.1 ∙ ap not (left_none total (waiting_of r) (ap (left_by total) (sym r_there) ∙ stay))

          off_by : (ctx : ℕ) → left_by total (at seats id) ≡ Some ctx → stays total r ≡ false
          off_by ctx leave = stays_by total r r_some.0 r_some.1 ∙ ap not (left_some total (waiting_of r) ctx (ap (left_by total) (sym r_there) ∙ leave)).0

          -- ---- a message that is not whole

          module _ (none : p.bytes ≡ None) where
            kept_there : (b : Begun) × (get_or coming p.source None ≡ Some b) × IsKeptWay mid b.way
            kept_there = stored_where_kept (get_or coming p.source None) mid (partly none)

            fed_rest : list_any (is_fed_by id) now ≡ true
            fed_rest =
                let b = kept_there.0 in
                let is_set : now ≡ set coming p.source (Some (gone_on id q.used b)) = is_now ∙ ap (λ o. turned (option_map (gone_on id q.used)) o p.source coming) none ∙ ap (λ o. set coming p.source (option_map (gone_on id q.used) o)) kept_there.1 in
                let stored = ap (λ (xs : List (Option Begun)). get_or xs p.source None) is_set ∙ get_or-set_same coming p.source (Some (gone_on id q.used b)) None (id_within coming p.source b kept_there.1) in
                any_at (is_fed_by id) now p.source refl (ap (is_fed_by id) stored ∙ part_fed id q.used mid b.way kept_there.2)

            eq_rest : drawing v ≡ with_receiving (goes p.source (IntoReceive r r.used) apart_rx) v
            eq_rest = drawing_is ∙ ap (λ o. with_receiving (drawn_into o r p.source apart_rx) v) none

            rest_on : left_by total (at seats id) ≡ None → drawing v ≡ room_given (change_first test (used_up total) v.rx.posted) v.rx.closing left
            rest_on stay = eq_rest ∙ rw (seated_on test total r v.rx.posted (on_by stay), shut_on total r r_some.0 r_some.1 (on_by stay), append-nil v.rx.closing, none, r_want) refl

            rest_off : (ctx : ℕ) → left_by total (at seats id) ≡ Some ctx → drawing v ≡ room_given (remove_first test v.rx.posted) (v.rx.closing ++ used_up total r ∷ []) left
            rest_off ctx leave = eq_rest ∙ rw (seated_off test total r v.rx.posted (off_by ctx leave), shut_off total r r_some.0 r_some.1 (off_by ctx leave), none, r_want) refl

            same_used : (y : Receive) → IsSameBut y (used_up total y)
            same_used y = record { call = refl; want = refl; ctx = refl; least = refl; long = refl }

            pub drawn_rest : (seats_then : Cells Waiting) → seats_then.cells ≡ set seats.cells id (option_map (used_up_by total) (at seats id)) → seats_then.spare ≡ seats.spare → Given seats_then
            drawn_rest seats_then cells free = given (used_up total) same_used (fit_used total) (used_up_by total) (waiting_used total) seats_then cells free (λ ctx leave. fed_rest) rest_on rest_off

          -- ---- one that is whole

          module _ (bytes : List ℕ) (whole : p.bytes ≡ Some bytes) where
            abbrev g : Receive → Receive
            g = λ y. filled r.used bytes (used_up total y)

            same_whole : (y : Receive) → IsSameBut y (g y)
            same_whole y = record { call = refl; want = refl; ctx = refl; least = refl; long = length_paste_at y.buf bytes r.used }

            fit_whole : (y : Receive) → is_some y.least ≡ true → IsFit y → IsFit (g y)
            fit_whole y multi fitting = fit_filled r.used bytes (used_up total y) (fit_used total y multi fitting)

            alike_whole : (y : Receive) → taken_in total r.used bytes (waiting_of y) ≡ waiting_of (g y)
            alike_whole y = ap (placed_in r.used bytes) (waiting_used total y)

            now_is : now ≡ coming
            now_is = is_now ∙ ap (λ o. turned (option_map (gone_on id q.used)) o p.source coming) whole

            eq_whole : drawing v ≡ with_receiving (shared r.least r r.used bytes apart_rx) v
            eq_whole = drawing_is ∙ ap (λ o. with_receiving (drawn_into o r p.source apart_rx) v) whole

            posted_on : stays total r ≡ true → change_first (is_made_by r.call) (filled r.used bytes) (seated test total r v.rx.posted) ≡ change_first test g v.rx.posted
            posted_on on = ap (change_first (is_made_by r.call) (filled r.used bytes)) (seated_on test total r v.rx.posted on) ∙ change_twice test (filled r.used bytes) (used_up total) (λ y. refl) v.rx.posted r r_found inv.numbers.distinct

            posted_off : stays total r ≡ false → change_first (is_made_by r.call) (filled r.used bytes) (seated test total r v.rx.posted) ≡ remove_first test v.rx.posted
            posted_off off =
                ap (change_first (is_made_by r.call) (filled r.used bytes)) (seated_off test total r v.rx.posted off)
                ∙ change_none (is_made_by r.call) (filled r.used bytes) (remove_first test v.rx.posted) (others_none r.call (remove_first test v.rx.posted) (others_found test v.rx.posted r inv.numbers.distinct r_found))

            abbrev with_lists : List Receive → List Receive → Arriving
            with_lists posted closing = with_receiving (record apart_rx { posted = posted; closing = closing }) v

            same_lists : (posted closing : List Receive) → with_lists posted closing ≡ room_given posted closing left
            same_lists posted closing = rw (whole, r_want) refl

            whole_on : left_by total (at seats id) ≡ None → drawing v ≡ room_given (change_first test g v.rx.posted) v.rx.closing left
            whole_on stay =
                eq_whole ∙ ap (λ rx. with_receiving rx v) (shared_on r r_some.0 r_some.1 total r.used bytes v.rx.closing none_closing apart_rx refl (on_by stay)) ∙ ap (λ xs. with_lists xs v.rx.closing) (posted_on (on_by stay))
                ∙ same_lists (change_first test g v.rx.posted) v.rx.closing

            whole_fed : (ctx : ℕ) → left_by total (at seats id) ≡ Some ctx → list_any (is_fed_by id) coming ≡ true → drawing v ≡ room_given (remove_first test v.rx.posted) (v.rx.closing ++ g r ∷ []) left
            whole_fed ctx leave fed =
                eq_whole ∙ ap (λ rx. with_receiving rx v) (shared_fed r r_some.0 r_some.1 total r.used bytes v.rx.closing none_closing apart_rx refl (off_by ctx leave) (fed_same ∙ fed)) ∙ ap (λ xs. with_lists xs (v.rx.closing ++ g r ∷ [])) (posted_off (off_by ctx leave))
                ∙ same_lists (remove_first test v.rx.posted) (v.rx.closing ++ g r ∷ [])

            whole_over : (ctx : ℕ) → left_by total (at seats id) ≡ Some ctx → list_any (is_fed_by id) coming ≡ false → drawing v ≡ room_given (remove_first test v.rx.posted) v.rx.closing left
            whole_over ctx leave unfed =
                eq_whole ∙ ap (λ rx. with_receiving rx v) (shared_last r r_some.0 r_some.1 total r.used bytes v.rx.closing none_closing apart_rx refl (off_by ctx leave) (fed_same ∙ unfed)) ∙ ap (λ xs. with_lists xs v.rx.closing) (posted_off (off_by ctx leave))
                ∙ same_lists (remove_first test v.rx.posted) v.rx.closing

            pub drawn_part : is_closed coming id total (at seats id) ≡ false → (between seats_then : Cells Waiting) → between.cells ≡ set seats.cells id (option_map (used_up_by total) (at seats id)) → between.spare ≡ seats.spare
                → seats_then.cells ≡ set between.cells id (option_map (placed_in q.used bytes) (at between id)) → seats_then.spare ≡ between.spare → Given seats_then
            drawn_part goes_on between seats_then before free after same_free =
                given g same_whole fit_whole (taken_in total r.used bytes) alike_whole seats_then cells (same_free ∙ free) (λ ctx leave. ap (list_any (is_fed_by id)) now_is ∙ fed_open goes_on ctx leave) whole_on (λ ctx leave. whole_fed ctx leave (fed_open goes_on ctx leave))
              where
                cells : seats_then.cells ≡ set seats.cells id (option_map (taken_in total r.used bytes) (at seats id))
                cells =
                    let now_at = at_same seats between id (option_map (used_up_by total) (at seats id)) before (id_within seats.cells id (waiting_of r) r_there) in
                    after ∙ ap (λ (o : Option Waiting). set between.cells id (option_map (placed_in q.used bytes) o)) now_at
                    ∙ ap (λ (xs : List (Option Waiting)). set xs id (option_map (placed_in q.used bytes) (option_map (used_up_by total) (at seats id)))) before
                    ∙ set-set seats.cells id (option_map (used_up_by total) (at seats id)) (option_map (placed_in q.used bytes) (option_map (used_up_by total) (at seats id)))
                    ∙ ap (set seats.cells id) (rw (r_there, r_some.2) refl)

            pub drawn_over : is_closed coming id total (at seats id) ≡ true → (seats_then : Cells Waiting) → seats_then.cells ≡ set seats.cells id None → seats_then.spare ≡ seats.spare + 1 → (posted : List (ℕ × Want)) → posted ≡ without id ps → has_id id posted ≡ false
                → IsInbox posted rest room seats_then others now claims claimable cs room_to_close shares (drawing v)
            drawn_over over seats_then cells one_more posted out lacking =
                let is = over_yes over in
                let unfed = ap (list_any (is_fed_by id)) now_is ∙ is.2 in
                rw (whole_over is.0 is.1 is.2) (record {
                  kept = kept_out ps rest room seats others now left kept_left cs multi_left (draws_at seats us) test agree id e q shared_at unfed seats_then cells one_more posted out lacking;
                  numbers = numbers_leave_by test v.next v.rx.posted comes numbers_left;
                  aside = claims_left;
                  shared = multi_out ps rest room seats others now left kept_left cs multi_left (draws_at seats us) test agree id e q shared_at unfed seats_then cells one_more posted out lacking;
                  closable = let closable = inv.closable in let same_long = long in omega arith;
                  ids = same_ids seats seats_then id _ cells inv.ids;
                  sharing = inv.sharing;
                })
