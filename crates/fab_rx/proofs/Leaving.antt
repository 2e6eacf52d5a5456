-- A receive leaves those posted: it is the first in their order that is meant and has no item under way.
use Rattle.std.proofs.Common.{◌≡◌, ℕ, ◌+◌, ◌==◌, Bool, true, false, List, [], ◌∷◌, length, map, Option, Some, None, get_or, set, refl, sym, ap, subst, ◌∙◌, arith}
use Rattle.std.specs.Prelude.{find, is_some}
use Rattle.std.specs.Option.{option_map}
use Rattle.std.specs.List.{AllZip, list_any}
use Rattle.std.proofs.lemmas.Bool.{eq-eqb, eqb-true}
use Rattle.fab_base.specs.declared.items.Want.{Want}
use Rattle.fab_base.specs.declared.items.Sign.{Sign}
use Rattle.fab_base.specs.declared.operations.Receive.{Receive}
use Rattle.fab_model.specs.Matching.{remove_first}
use Rattle.fab_model.specs.State.{Receiving, is_into, under_way}
use Rattle.fab_model.specs.Receiving.{cancellable, may_leave}
use Rattle.fab_match.specs.Matcher.{has_id, without}
use Rattle.fab_rx.specs.declared.stored.Waiting.{Waiting}
use Rattle.fab_rx.specs.declared.stored.Parcel.{Parcel}
use Rattle.fab_rx.specs.declared.stored.Begun.{Begun}
use Rattle.fab_rx.specs.Table.{Cells, at}
use Rattle.fab_rx.specs.Arriving.{Arriving, id_in}
use Rattle.fab_rx.specs.Leaving.{cancelling, is_meant, is_meant_at, may_leave_at}
use Rattle.fab_rx.specs.Homes.{AreMulti, GoesHome, IsHome, is_fed_by}
use Rattle.fab_rx.specs.Numbers.{GoesElsewhere, IsNumbered}
use Rattle.fab_rx.specs.Results.{cancelled}
use Rattle.fab_rx.specs.Stored.{IsKept, Sits, multi_of, waiting_of}
use Rattle.fab_rx.proofs.Tying.{retied, retied_but}
use Rattle.fab_rx.proofs.Keeping.{at_other, sits_at}
use Rattle.fab_rx.proofs.Numbering.{elsewhere_by}
use Rattle.fab_rx.proofs.Sharing.{any_alike, any_at, fed_same, multi_gone, not_fed}

pub passes : (want : ℕ → Bool) (ks : List ℕ) (id : ℕ) → find want ks ≡ Some id → want id ≡ true
passes want [] id e = absurd (cc)
passes want (k ∷ ks) id e = step (want k) refl (λ later. passes want ks id later)
  where
    step : (b : Bool) → want k ≡ b → (find want ks ≡ Some id → want id ≡ true) → want id ≡ true
    step true is later = let same : Some k ≡ Some id = rw is at e in let equal : k ≡ id = cc in ap want (sym equal) ∙ is
    step false is later = later (rw is at e)

module _ {X B : Type 0} (R : ℕ × X → B → Type 0) (want : ℕ → Bool) (test : B → Bool) (agree : (p : ℕ × X) (y : B) → R p y → want p.0 ≡ test y) where
  pub record IsLeaving (id : ℕ) (xs : List (ℕ × X)) (ys : List B) : Type 0 where
    pub member : B
    pub pair : ℕ × X
    pub is : pair.0 ≡ id
    pub found : find test ys ≡ Some member
    pub tie : R pair member
    pub rest : AllZip R (without id xs) (remove_first test ys)
    pub shorter : length (without id xs) + 1 ≡ length xs

  pub leaving : (id : ℕ) (xs : List (ℕ × X)) (ys : List B) → AllZip R xs ys → find want (map (λ p. p.0) xs) ≡ Some id → IsLeaving id xs ys
  leaving id [] [] t e = absurd (cc)
  leaving id [] (y ∷ ys) t e = absurd t
  leaving id (x ∷ xs) [] t e = absurd t
  leaving id (x ∷ xs) (y ∷ ys) t e = step (want x.0) refl (test y) refl (λ later. leaving id xs ys t.1 later) (x.0 == id) refl
    where
      step : (b : Bool) → want x.0 ≡ b → (d : Bool) → test y ≡ d → (find want (map (λ p. p.0) xs) ≡ Some id → IsLeaving id xs ys) → (s : Bool) → (x.0 == id) ≡ s → IsLeaving id (x ∷ xs) (y ∷ ys)
      step true w true d later s same =
          let both : Some x.0 ≡ Some id = rw w at e in
          let equal : x.0 ≡ id = cc in
          let yes : (x.0 == id) ≡ true = eq-eqb x.0 id equal in
          record { member = y; pair = x; is = equal; found = rw d refl; tie = t.0; rest = rw (yes, d, remove_first) t.1; shorter = rw (yes, remove_first) (omega arith) }
      step false w false d later false other =
          let more = later (rw w at e) in
          let shorter = more.shorter in
          record { member = more.member; pair = more.pair; is = more.is; found = rw d more.found; tie = more.tie; rest = rw (other, d, remove_first) (t.0, more.rest); shorter = rw (other, remove_first) (omega arith) }
      step false w false d later true same =
          let passed = passes want (map (λ p. p.0) xs) id (rw w at e) in
          let equal = eqb-true x.0 id same in
          absurd (let no : true ≡ false = sym passed ∙ ap want (sym equal) ∙ w in cc)
      step true w false d later s same = absurd (let no : true ≡ false = sym w ∙ agree x y t.0 ∙ d in cc)
      step false w true d later s same = absurd (let no : true ≡ false = sym d ∙ sym (agree x y t.0) ∙ w in cc)

  pub staying : (xs : List (ℕ × X)) (ys : List B) → AllZip R xs ys → find want (map (λ p. p.0) xs) ≡ None → (find test ys ≡ None) × (remove_first test ys ≡ ys)
  staying [] [] t e = (refl, refl)
  staying [] (y ∷ ys) t e = absurd t
  staying (x ∷ xs) [] t e = absurd t
  staying (x ∷ xs) (y ∷ ys) t e = step (want x.0) refl (test y) refl (λ later. staying xs ys t.1 later)
    where
      step : (b : Bool) → want x.0 ≡ b → (d : Bool) → test y ≡ d → (find want (map (λ p. p.0) xs) ≡ None → (find test ys ≡ None) × (remove_first test ys ≡ ys)) → (find test (y ∷ ys) ≡ None) × (remove_first test (y ∷ ys) ≡ y ∷ ys)
      step true w d is later = absurd (let no : Some x.0 ≡ None = rw w at e in cc)
      step false w false d later = let more = later (rw w at e) in (rw d more.0, rw (d, remove_first) (ap (λ zs. y ∷ zs) more.1))
      step false w true d later = absurd (let no : true ≡ false = sym d ∙ sym (agree x y t.0) ∙ w in cc)

-- a posted receive with what is known of it
pub record IsIdle (homes : ℕ → Option ℕ) (calls : ℕ → ℕ) (seats : Cells Waiting) (coming : List (Option Begun)) (rx : Receiving) (p : ℕ × Want) (r : Receive) : Type 0 where
  pub sits : Sits seats p r
  pub home : IsHome homes calls p r
  -- an item is under way to it exactly where one is to its id
  pub fed : under_way rx r.call ≡ list_any (is_fed_by p.0) coming

pub all_idle : (homes : ℕ → Option ℕ) (calls : ℕ → ℕ) (seats : Cells Waiting) (coming : List (Option Begun)) (rx : Receiving) (n : ℕ) (ps : List (ℕ × Want)) (rs : List Receive) → length coming ≡ length rx.coming
    → ((t : ℕ) → GoesHome homes calls seats (get_or coming t None) (get_or rx.coming t None)) → AllZip (Sits seats) ps rs → AllZip (IsHome homes calls) ps rs → ((t : ℕ) → GoesElsewhere n rs (get_or rx.coming t None)) → AllZip (IsIdle homes calls seats coming rx) ps rs
all_idle homes calls seats coming rx n [] [] long ways t h g = tt
all_idle homes calls seats coming rx n [] (r ∷ rs) long ways t h g = absurd t
all_idle homes calls seats coming rx n (p ∷ ps) [] long ways t h g = absurd t
all_idle homes calls seats coming rx n (p ∷ ps) (r ∷ rs) long ways t h g = (
  record {
    sits = t.0;
    home = h.0;
    fed = any_alike (is_into r.call) (is_fed_by p.0) rx.coming coming (sym long) (λ s. fed_same homes calls seats n rs p r t.0 h.0 (get_or coming s None) (get_or rx.coming s None) (g s) (ways s));
  },
  all_idle homes calls seats coming rx n ps rs long ways t.1 h.1 (λ s. elsewhere_by n n (r ∷ rs) rs (get_or rx.coming s None) (omega arith) (λ call lt h. h.1) (g s)),
)

meant_alike : (ctx : Option ℕ) (r : Receive) (o : Option Waiting) → o ≡ Some (waiting_of r) → is_meant_at ctx o ≡ is_meant ctx r
meant_alike None r o e = rw e refl
meant_alike (Some ctx) r o e = rw e refl

pub idle_agrees : (homes : ℕ → Option ℕ) (calls : ℕ → ℕ) (seats : Cells Waiting) (coming : List (Option Begun)) (rx : Receiving) (ctx : Option ℕ) (p : ℕ × Want) (r : Receive) → IsIdle homes calls seats coming rx p r → may_leave_at ctx seats coming p.0 ≡ may_leave rx (is_meant ctx) r
idle_agrees homes calls seats coming rx ctx p r i = rw (meant_alike ctx r (at seats p.0) i.sits.seat, i.fed) refl

module _ (ps : List (ℕ × Want)) (us : List (ℕ × Sign)) (room : ℕ) (seats : Cells Waiting) (parcels : Cells Parcel) (coming : List (Option Begun)) (v : Arriving) (kept : IsKept ps us room seats parcels coming v)
    (numbers : IsNumbered v.rx.posted v.rx.coming v.next) (cs : List (ℕ × ℕ)) (m : AreMulti ps cs seats coming v.rx.posted v.rx.closing v.rx.coming v.next v.multis v.most) (ctx : Option ℕ) where
  abbrev Idle : ℕ × Want → Receive → Type 0
  Idle = IsIdle m.homes m.calls seats coming v.rx

  abbrev agrees : (p : ℕ × Want) (r : Receive) → Idle p r → may_leave_at ctx seats coming p.0 ≡ may_leave v.rx (is_meant ctx) r
  agrees = idle_agrees m.homes m.calls seats coming v.rx ctx

  idle : AllZip Idle ps v.rx.posted
  idle = all_idle m.homes m.calls seats coming v.rx v.next ps v.rx.posted (kept.peers ∙ sym kept.comings) m.ways kept.receives m.posted_home numbers.into

  -- where none is meant, none leaves
  module _ (e : find (may_leave_at ctx seats coming) (map (λ p. p.0) ps) ≡ None) where
    stays : (find (may_leave v.rx (is_meant ctx)) v.rx.posted ≡ None) × (remove_first (may_leave v.rx (is_meant ctx)) v.rx.posted ≡ v.rx.posted)
    stays = staying Idle (may_leave_at ctx seats coming) (may_leave v.rx (is_meant ctx)) agrees ps v.rx.posted idle e

    pub none_leaves : cancellable (is_meant ctx) v.rx ≡ None
    none_leaves = stays.0

    pub nothing_changes : cancelling ctx v ≡ v
    nothing_changes = rw stays.1 refl

  module _ (id : ℕ) (e : find (may_leave_at ctx seats coming) (map (λ p. p.0) ps) ≡ Some id) where
    pub leaves : IsLeaving Idle (may_leave_at ctx seats coming) (may_leave v.rx (is_meant ctx)) agrees id ps v.rx.posted
    leaves = leaving Idle (may_leave_at ctx seats coming) (may_leave v.rx (is_meant ctx)) agrees id ps v.rx.posted idle e

    pub seat_found : at seats id ≡ None → ⊥
    seat_found none = let no : Some (waiting_of leaves.member) ≡ None = sym leaves.tie.sits.seat ∙ ap (at seats) leaves.is ∙ none in cc

    module _ (w : Waiting) (there : Some w ≡ at seats id) where
      pub cancelled_is : Some (record { id = option_map (λ x. id) w.multi; ctx = w.seat.ctx; buf = w.seat.buf }) ≡ option_map (cancelled v) (cancellable (is_meant ctx) v.rx)
      cancelled_is =
          let both : Some w ≡ Some (waiting_of leaves.member) = there ∙ ap (at seats) (sym leaves.is) ∙ leaves.tie.sits.seat in
          let same : w ≡ waiting_of leaves.member = cc in
          rw (leaves.found, same, id_told) refl
        where
          r : Receive
          r = leaves.member

          by : (o : Option ℕ) → r.least ≡ o → id_in v.multis r.call ≡ option_map (λ x. id) (multi_of r)
          by None e = sym (m.ids r.call) ∙ leaves.tie.home.home ∙ rw e refl
          by (Some least) e = sym (m.ids r.call) ∙ leaves.tie.home.home ∙ rw e (ap (λ k. Some k) leaves.is)

          id_told : id_in v.multis r.call ≡ option_map (λ x. id) (multi_of r)
          id_told = by r.least refl

    module _ (rest : List (ℕ × Want)) (others : Cells Waiting) (are : rest ≡ without id ps) (gone : has_id id rest ≡ false) (is : others.cells ≡ set seats.cells id None) (more : others.spare ≡ seats.spare + 1) where
      tied : AllZip Idle rest (remove_first (may_leave v.rx (is_meant ctx)) v.rx.posted)
      tied = subst (λ (xs : List (ℕ × Want)). AllZip Idle xs (remove_first (may_leave v.rx (is_meant ctx)) v.rx.posted)) (sym are) leaves.rest

      shorter : length rest + 1 ≡ length ps
      shorter = ap (λ (xs : List (ℕ × Want)). length xs + 1) are ∙ leaves.shorter

      pub left : IsKept rest us room others parcels coming (cancelling ctx v)
      left = record {
        receives =
            retied_but (Sits seats) (Sits others) id rest (remove_first (may_leave v.rx (is_meant ctx)) v.rx.posted) (λ p q other s. sits_at seats others p q (at_other seats others id None is p.0 other) s) gone
            (retied Idle (Sits seats) rest (remove_first (may_leave v.rx (is_meant ctx)) v.rx.posted) (λ p r i. i.sits) tied);
        messages = kept.messages;
        ways = kept.ways;
        few = let shorter = shorter in let few = kept.few in omega arith;
        most = kept.most;
        peers = kept.peers;
        comings = kept.comings;
        heads = kept.heads;
        tails = kept.tails;
        under_way = kept.under_way;
      }

      -- the receive has no item under way
      unfed : list_any (is_fed_by id) coming ≡ false
      unfed = not_fed ctx seats coming id (passes (may_leave_at ctx seats coming) (map (λ p. p.0) ps) id e)

      pub multi_left : AreMulti rest cs others coming (remove_first (may_leave v.rx (is_meant ctx)) v.rx.posted) v.rx.closing v.rx.coming v.next v.multis v.most
      multi_left =
          multi_gone ps cs seats coming v.rx.posted v.rx.closing v.rx.coming v.next v.multis v.most m id others is more rest are shorter _ (retied Idle (IsHome m.homes m.calls) rest (remove_first (may_leave v.rx (is_meant ctx)) v.rx.posted) (λ p r i. i.home) tied)
          (λ s fed. absurd (let no : true ≡ false = sym (any_at (is_fed_by id) coming s refl fed) ∙ unfed in cc))

  -- one is meant exactly where one may leave
  pub meant_where : (o : Option ℕ) → find (may_leave_at ctx seats coming) (map (λ p. p.0) ps) ≡ o → is_some o ≡ is_some (cancellable (is_meant ctx) v.rx)
  meant_where None e = rw (none_leaves e) refl
  meant_where (Some id) e = rw ((leaves id e).found) refl
