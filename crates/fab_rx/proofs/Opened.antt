-- What is known of the receives that are posted or closing.
use Rattle.std.proofs.Common.{◌≡◌, ℕ, ◌==◌, Bool, true, false, List, [], ◌∷◌, ◌++◌, length-append, Option, Some, None, refl, sym, ap, ◌∙◌, arith}
use Rattle.std.proofs.lemmas.Bool.{eq-eqb}
use Rattle.std.specs.Prelude.{is_some}
use Rattle.std.specs.Option.{option_map}
use Rattle.std.specs.List.{AllZip, AllByRecursion}
use Rattle.std.proofs.lemmas.List.Elements.{All-from_recursion}
use Rattle.std.proofs.lemmas.Slice.Zip.{AllZip-long}
use Rattle.fab_base.specs.declared.items.Want.{Want}
use Rattle.fab_base.specs.declared.items.Sign.{Sign}
use Rattle.fab_base.specs.declared.operations.Receive.{Receive}
use Rattle.fab_match.specs.Matcher.{has_id}
use Rattle.fab_rx.specs.declared.stored.Waiting.{Waiting}
use Rattle.fab_rx.specs.declared.stored.Parcel.{Parcel}
use Rattle.fab_rx.specs.declared.stored.Begun.{Begun}
use Rattle.fab_rx.specs.Table.{Cells}
use Rattle.fab_rx.specs.Arriving.{Arriving, id_in}
use Rattle.fab_rx.specs.Stored.{AreApart, IsKept, Sits}
use Rattle.fab_rx.specs.Homes.{AreMulti, IsHome, Rests}
use Rattle.fab_rx.specs.Numbers.{AreDistinct, HaveOtherCalls, IsNumbered}
use Rattle.fab_rx.specs.Opened.{AreOpened, IsPosted, is_multi}
use Rattle.fab_rx.proofs.Closing.{few_closing}
use Rattle.fab_rx.proofs.Apart.{not_claimed}

-- ---- pairs with an id

has_first : {X : Type 0} (p : ℕ × X) (ps : List (ℕ × X)) → has_id p.0 (p ∷ ps) ≡ true
has_first p ps = rw (eq-eqb p.0 p.0 refl) refl

lacks_rest : {X : Type 0} (id : ℕ) (p : ℕ × X) (ps : List (ℕ × X)) → has_id id (p ∷ ps) ≡ false → has_id id ps ≡ false
lacks_rest id p ps e = by (p.0 == id) refl
  where
    by : (b : Bool) → (p.0 == id) ≡ b → has_id id ps ≡ false
    by true is = absurd (let no : true ≡ false = rw is at e in cc)
    by false is = rw is at e

apart_rest : (p : ℕ × Want) (ps : List (ℕ × Want)) (cs : List (ℕ × ℕ)) → AreApart (p ∷ ps) cs → AreApart ps cs
apart_rest p ps [] a = tt
apart_rest p ps (c ∷ cs) a = (lacks_rest c.0 p ps a.0, a.1, apart_rest p ps cs a.2)

-- ---- receives and their ids

some_map : (o : Option ℕ) (k : ℕ) → is_some (option_map (λ least. k) o) ≡ is_some o
some_map None k = refl
some_map (Some x) k = refl

module _ (multis : List (ℕ × ℕ)) (homes : ℕ → Option ℕ) (calls : ℕ → ℕ) (seats : Cells Waiting) (ids : (call : ℕ) → homes call ≡ id_in multis call) where
  all_posted : (ps : List (ℕ × Want)) (rs : List Receive) → AllZip (Sits seats) ps rs → AllZip (IsHome homes calls) ps rs → AllByRecursion (IsPosted multis) rs
  all_posted [] [] t h = tt
  all_posted [] (r ∷ rs) t h = absurd t
  all_posted (p ∷ ps) [] t h = absurd t
  all_posted (p ∷ ps) (r ∷ rs) t h =
      (record { multi = ap is_some (sym (ids r.call)) ∙ ap is_some h.0.home ∙ some_map r.least p.0; within = t.0.fit.within }, all_posted ps rs t.1 h.1)

  all_closing : (cs : List (ℕ × ℕ)) (rs : List Receive) → AllZip (Rests homes calls seats) cs rs → AllByRecursion (λ r. (is_multi multis r.call ≡ true) × (is_some r.least ≡ true)) rs
  all_closing [] [] t = tt
  all_closing [] (r ∷ rs) t = absurd t
  all_closing (c ∷ cs) [] t = absurd t
  all_closing (c ∷ cs) (r ∷ rs) t = ((ap is_some (sym (ids r.call)) ∙ ap is_some t.0.home, t.0.multi), all_closing cs rs t.1)

  -- a receive at home under none of these ids has another call than those that are closing
  others_rest : (call : ℕ) (cs : List (ℕ × ℕ)) (rs : List Receive) → AllZip (Rests homes calls seats) cs rs → ((id : ℕ) → homes call ≡ Some id → has_id id cs ≡ false) → HaveOtherCalls call rs
  others_rest call [] [] t lacks = tt
  others_rest call [] (r ∷ rs) t lacks = absurd t
  others_rest call (c ∷ cs) [] t lacks = absurd t
  others_rest call (c ∷ cs) (r ∷ rs) t lacks = (
    (λ same. let home : homes call ≡ Some c.0 = ap homes (sym same) ∙ t.0.home in let no : true ≡ false = sym (has_first c cs) ∙ lacks c.0 home in absurd (cc)),
    others_rest call cs rs t.1 (λ id home. lacks_rest id c cs (lacks id home)),
  )

  distinct_closing : (cs : List (ℕ × ℕ)) (rs : List Receive) (ps : List (ℕ × Want)) → AllZip (Rests homes calls seats) cs rs → AreApart ps cs → AreDistinct rs
  distinct_closing [] [] ps t a = tt
  distinct_closing [] (r ∷ rs) ps t a = absurd t
  distinct_closing (c ∷ cs) [] ps t a = absurd t
  distinct_closing (c ∷ cs) (r ∷ rs) ps t a = (
    others_rest r.call cs rs t.1 (λ id home. let both : Some c.0 ≡ Some id = sym t.0.home ∙ home in let same : c.0 ≡ id = cc in ap (λ k. has_id k cs) (sym same) ∙ a.1),
    distinct_closing cs rs ps t.1 a.2,
  )

  others_both : (call : ℕ) (rs cls : List Receive) → HaveOtherCalls call rs → HaveOtherCalls call cls → HaveOtherCalls call (rs ++ cls)
  others_both call [] cls h k = k
  others_both call (r ∷ rs) cls h k = (h.0, others_both call rs cls h.1 k)

  module _ (cs : List (ℕ × ℕ)) (closing : List Receive) (rest : AllZip (Rests homes calls seats) cs closing) where
    homed : (p : ℕ × Want) (r : Receive) → IsHome homes calls p r → (id : ℕ) → homes r.call ≡ Some id → p.0 ≡ id
    homed p r h id home = by r.least refl
      where
        by : (o : Option ℕ) → r.least ≡ o → p.0 ≡ id
        by None e = let no : None ≡ Some id = sym (h.home ∙ rw e refl) ∙ home in absurd (cc)
        by (Some least) e = let both : Some p.0 ≡ Some id = sym (h.home ∙ rw e refl) ∙ home in cc

    distinct_all : (ps : List (ℕ × Want)) (rs : List Receive) → AllZip (IsHome homes calls) ps rs → AreApart ps cs → AreDistinct rs → AreDistinct (rs ++ closing)
    distinct_all [] [] h a d = distinct_closing cs closing [] rest a
    distinct_all [] (r ∷ rs) h a d = absurd h
    distinct_all (p ∷ ps) [] h a d = absurd h
    distinct_all (p ∷ ps) (r ∷ rs) h a d = (
      others_both r.call rs closing d.0 (others_rest r.call cs closing rest (λ id home. ap (λ k. has_id k cs) (sym (homed p r h.0 id home)) ∙ not_claimed (p ∷ ps) cs p.0 (has_first p ps) a)),
      distinct_all ps rs h.1 (apart_rest p ps cs a) d.1,
    )

pub are_opened : (ps : List (ℕ × Want)) (us : List (ℕ × Sign)) (room : ℕ) (seats : Cells Waiting) (parcels : Cells Parcel) (coming : List (Option Begun)) (v : Arriving) → IsKept ps us room seats parcels coming v
    → IsNumbered v.rx.posted v.rx.coming v.next → (cs : List (ℕ × ℕ)) → AreMulti ps cs seats coming v.rx.posted v.rx.closing v.rx.coming v.next v.multis v.most → AreOpened v
are_opened ps us room seats parcels coming v kept numbers cs m = record {
  posted = All-from_recursion (IsPosted v.multis) v.rx.posted (all_posted v.multis m.homes m.calls seats m.ids ps v.rx.posted kept.receives m.posted_home);
  closing = All-from_recursion (λ r. (is_multi v.multis r.call ≡ true) × (is_some r.least ≡ true)) v.rx.closing (all_closing v.multis m.homes m.calls seats m.ids cs v.rx.closing m.closing_rest);
  below = numbers.below;
  once = distinct_all v.multis m.homes m.calls seats m.ids cs v.rx.closing m.closing_rest ps v.rx.posted m.posted_home m.apart numbers.distinct;
  fresh = λ call le. ap is_some (sym (m.ids call) ∙ m.fresh call le);
  room = (let many = AllZip-long (Sits seats) ps v.rx.posted kept.receives in
      let few = AllZip-long (Rests m.homes m.calls seats) cs v.rx.closing m.closing_rest in
      let both = length-append v.rx.posted v.rx.closing in
      let closing = few_closing ps us room seats parcels coming v kept cs m in let most = kept.few in let peers = kept.peers in omega (arith, many, few, both, closing, most, peers));
}
