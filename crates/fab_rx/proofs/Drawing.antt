-- A draw is due exactly where one is by what is stored.
use Rattle.std.proofs.Common.{◌≡◌, ◌&&◌, length, arith, ℕ, Bool, true, false, List, [], ◌∷◌, map, Option, Some, None, refl, sym, ap, ◌∙◌}
use Rattle.std.specs.Prelude.{find, is_some}
use Rattle.std.specs.List.{AllZip, list_any}
use Rattle.fab_base.specs.declared.items.Want.{Want}
use Rattle.fab_base.specs.declared.items.Sign.{Sign}
use Rattle.fab_base.specs.declared.operations.Receive.{Receive}
use Rattle.fab_base.specs.declared.operations.Arrival.{Arrival}
use Rattle.fab_base.proofs.Options.{not_some}
use Rattle.fab_model.specs.Matching.{takes}
use Rattle.fab_model.specs.Receiving.{draw_due, draws}
use Rattle.fab_match.specs.Signs.{fits}
use Rattle.fab_rx.specs.declared.stored.Waiting.{Waiting}
use Rattle.fab_rx.specs.declared.stored.Parcel.{Parcel}
use Rattle.fab_rx.specs.declared.stored.Begun.{Begun}
use Rattle.fab_rx.specs.Table.{Cells}
use Rattle.fab_rx.specs.Arriving.{Arriving}
use Rattle.fab_rx.specs.Stored.{AreClaimed, IsKept, Lies, Sits, multi_of}
use Rattle.fab_rx.specs.Sharing.{multi_in}
use Rattle.fab_rx.specs.Draws.{draws_at, draws_by}
use Rattle.fab_rx.specs.Drawing.{drawer, drawn}
use Rattle.fab_rx.specs.declared.results.Drawn.TheVariants.{GoesOn}
use Rattle.fab_rx.proofs.Tying.{found_alike, tied_length}
use Rattle.fab_rx.proofs.Keeping.{lies_agrees}
use Rattle.fab_rx.proofs.Leaving.{leaving, staying}

some_found : {X : Type 0} → (test : X → Bool) (xs : List X) → is_some (find test xs) ≡ list_any test xs
some_found test [] = refl
some_found test (x ∷ xs) = by (test x) refl (some_found test xs)
  where
    by : (b : Bool) → test x ≡ b → is_some (find test xs) ≡ list_any test xs → is_some (find test (x ∷ xs)) ≡ list_any test (x ∷ xs)
    by true e more = rw e refl
    by false e more = rw e more

-- nothing is handed out where no draw is due
pub undue : (v : Arriving) → draw_due v.rx ≡ false → drawn v ≡ GoesOn
undue v e = rw (not_some (drawer v.rx) (some_found (draws v.rx.unexpected) v.rx.posted ∙ e)) refl

module _ (ps : List (ℕ × Want)) (us : List (ℕ × Sign)) (room : ℕ) (seats : Cells Waiting) (parcels : Cells Parcel) (coming : List (Option Begun)) (v : Arriving) (kept : IsKept ps us room seats parcels coming v) where
  draws_of : (r : Receive) → draws_by us (multi_of r) ≡ draws v.rx.unexpected r
  draws_of r = by r.least refl
    where
      by : (o : Option ℕ) → r.least ≡ o → draws_by us (multi_of r) ≡ draws v.rx.unexpected r
      by None e = rw e refl
      by (Some least) e =
          rw e (found_alike (Lies parcels coming) (λ sign. fits r.want sign) (takes r.want) (lies_agrees r.want parcels coming) us v.rx.unexpected kept.messages ∙ some_found (takes r.want) v.rx.unexpected)

  pub draws_agree : (p : ℕ × Want) (r : Receive) → Sits seats p r → draws_at seats us p.0 ≡ draws v.rx.unexpected r
  draws_agree p r t = ap (λ o. draws_by us (multi_in o)) t.seat ∙ draws_of r

  -- nothing is handed out where none is due
  pub undrawn : find (draws_at seats us) (map (λ p. p.0) ps) ≡ None → drawn v ≡ GoesOn
  undrawn e = rw ((staying (Sits seats) (draws_at seats us) (draws v.rx.unexpected) draws_agree ps v.rx.posted kept.receives e).0) refl

  pub due_where : (o : Option ℕ) → find (draws_at seats us) (map (λ p. p.0) ps) ≡ o → is_some o ≡ draw_due v.rx
  due_where None e = ap is_some (sym (staying (Sits seats) (draws_at seats us) (draws v.rx.unexpected) draws_agree ps v.rx.posted kept.receives e).0) ∙ some_found (draws v.rx.unexpected) v.rx.posted
  due_where (Some id) e = ap is_some (sym (leaving (Sits seats) (draws_at seats us) (draws v.rx.unexpected) draws_agree id ps v.rx.posted kept.receives e).found) ∙ some_found (draws v.rx.unexpected) v.rx.posted

  -- none is due where no message is unexpected
  pub still_empty : (cs : List (ℕ × ℕ)) (capacity : ℕ) → AreClaimed us parcels coming cs capacity v.rx.claimed → parcels.spare ≡ length parcels.cells → draw_due v.rx ≡ false
  still_empty cs capacity aside empty = by us refl kept.messages
    where
      nobody : (xs : List Receive) → list_any (draws []) xs ≡ false
      nobody [] = refl
      nobody (x ∷ xs) = rw (alone x.least) (nobody xs)
        where
          alone : (o : Option ℕ) → (is_some o && false) ≡ false
          alone None = refl
          alone (Some least) = refl

      empty_list : (xs : List Arrival) → length xs ≡ 0 → xs ≡ []
      empty_list [] e = refl
      empty_list (x ∷ xs) e = absurd (omega arith)

      by : (xs : List (ℕ × Sign)) → us ≡ xs → AllZip (Lies parcels coming) us v.rx.unexpected → draw_due v.rx ≡ false
      by [] none tied =
          let same : length v.rx.unexpected ≡ 0 = sym (tied_length (Lies parcels coming) us v.rx.unexpected tied) ∙ ap length none in
          rw (empty_list v.rx.unexpected same) (nobody v.rx.posted)
      by (x ∷ xs) some tied = absurd (let filed = aside.filed in let long = ap length some in omega arith)
