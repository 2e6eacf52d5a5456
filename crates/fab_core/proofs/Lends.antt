-- The bytes of a multi-receive are where its place says.
use Rattle.std.proofs.Common.{◌≡◌, inr, ℕ, ◌+◌, ◌<◌, ◌==◌, Bool, true, false, List, [], ◌∷◌, ◌++◌, length, Option, Some, None, refl, sym, ap, subst, ◌∙◌}
use Rattle.std.specs.Prelude.{find, is_some, unwrap_or, IfNone, IfSome, IsSomeAnd}
use Rattle.std.specs.Option.{option_map}
use Rattle.std.proofs.lemmas.Bool.{eqb-true, eq-eqb, ne_eqb}
use Rattle.fab_base.specs.declared.operations.Receive.{Receive}
use Rattle.fab_model.specs.Complete.{is_made_by}
use Rattle.fab_model.specs.Peers.{multi_buf}
use Rattle.fab_cq.specs.Queues.{buffer_by, given_back}
use Rattle.fab_face.specs.Held.{Held}
use Rattle.fab_face.specs.Answers.{LendsNone, multi_of}
use Rattle.fab_rx.specs.Arriving.{made_by, open_under}
use Rattle.fab_rx.specs.Opened.{is_multi, sized}
use Rattle.fab_settling.specs.declared.places.Place.{Place}
use Rattle.fab_settling.specs.declared.places.Place.TheVariants.{Open, Ended}
use Rattle.fab_settling.specs.declared.places.Member.{Member}
use Rattle.fab_core.specs.Parts.{Parts, held_of, state_of}
use Rattle.fab_core.specs.Multis.{HasBuffer}
use Rattle.fab_core.specs.Lent.{IsAt, IsLentBy, IsPlaced, back_of}
use Rattle.fab_core.proofs.Placing.{zip_found, zip_missed}

find_made : (c : ℕ) (xs : List Receive) → find (is_made_by c) xs ≡ find (λ (r : Receive). c == r.call) xs
find_made c [] = refl
find_made c (x ∷ xs) = by (x.call == c) refl (find_made c xs)
  where
    by : (b : Bool) → (x.call == c) ≡ b → find (is_made_by c) xs ≡ find (λ (r : Receive). c == r.call) xs → find (is_made_by c) (x ∷ xs) ≡ find (λ (r : Receive). c == r.call) (x ∷ xs)
    by true is more = rw (is, eq-eqb c x.call (sym (eqb-true x.call c is))) refl
    by false is more = rw (is, ne_eqb c x.call (λ same. (let yes = eq-eqb x.call c (sym same) in let no : true ≡ false = sym yes ∙ is in absurd (cc)))) more

module _ (p : Parts) (ok : IsLentBy p) (ctx : ℕ) where
  abbrev pub of_ctx : Member → Bool
  of_ctx m = m.ctx == ctx

  abbrev has_ctx : ℕ × ℕ → Bool
  has_ctx m = m.0 == ctx

  same_test : (s : Member) (m : ℕ × ℕ) → IsPlaced p.rx.rx p.rx.multis p.cq s m → of_ctx s ≡ has_ctx m
  same_test s m is = ap (λ (c : ℕ). c == ctx) is.ctx

  pub lends_no_one : find of_ctx p.multis.places ≡ None → multi_of (held_of p) ctx ≡ None
  lends_no_one none = ap (λ (o : Option (ℕ × ℕ)). option_map (λ (m : ℕ × ℕ). m.1) o) (zip_missed (IsPlaced p.rx.rx p.rx.multis p.cq) of_ctx has_ctx same_test p.multis.places p.multis.list ok.placed none)

  -- the oldest one of the context: its call, and where its buffer is
  oldest : (place : Place) → option_map (λ (m : Member). m.place) (find of_ctx p.multis.places) ≡ Some place → (call : ℕ) × (multi_of (held_of p) ctx ≡ Some call) × (is_multi p.rx.multis call ≡ true) × IsAt p.rx.rx p.rx.multis p.cq call place
  oldest place e = by (find of_ctx p.multis.places) refl
    where
      by : (o : Option Member) → find of_ctx p.multis.places ≡ o → (call : ℕ) × (multi_of (held_of p) ctx ≡ Some call) × (is_multi p.rx.multis call ≡ true) × IsAt p.rx.rx p.rx.multis p.cq call place
      by None none = let no : None ≡ Some place = sym (ap (λ (o : Option Member). option_map (λ (m : Member). m.place) o) none) ∙ e in absurd (cc)
      by (Some s) found =
          let m = zip_found (IsPlaced p.rx.rx p.rx.multis p.cq) of_ctx has_ctx same_test p.multis.places p.multis.list ok.placed s found in
          let both : Some s.place ≡ Some place = sym (ap (λ (o : Option Member). option_map (λ (m : Member). m.place) o) found) ∙ e in
          let same : s.place ≡ place = cc in
          (m.0.1, ap (λ (o : Option (ℕ × ℕ)). option_map (λ (m : ℕ × ℕ). m.1) o) m.1, m.2.multi, subst (λ (q : Place). IsAt p.rx.rx p.rx.multis p.cq m.0.1 q) same m.2.place)

  open_buf : (c : ℕ) (r : Receive) → find (λ (r : Receive). c == r.call) (p.rx.rx.posted ++ p.rx.rx.closing) ≡ Some r → multi_buf (state_of p) (Some c) ≡ r.buf
  open_buf c r e = rw (e, multi_buf) refl

  none_buf : (c : ℕ) → find (λ (r : Receive). c == r.call) (p.rx.rx.posted ++ p.rx.rx.closing) ≡ None → multi_buf (state_of p) (Some c) ≡ unwrap_or (back_of p.cq c) []
  none_buf c e = rw (e, multi_buf) refl

  pub lends_open : (id : ℕ) → option_map (λ (m : Member). m.place) (find of_ctx p.multis.places) ≡ Some (Open id) → (r : Receive) × (open_under id p.rx ≡ Some r) × HasBuffer (held_of p) ctx r.buf
  lends_open id e = let o = oldest (Open id) e in by o.0 o.1 o.3 (find (λ (r : Receive). o.0 == r.call) (p.rx.rx.posted ++ p.rx.rx.closing)) refl
    where
      by : (c : ℕ) → multi_of (held_of p) ctx ≡ Some c → IsAt p.rx.rx p.rx.multis p.cq c (Open id) → (o : Option Receive) → find (λ (r : Receive). c == r.call) (p.rx.rx.posted ++ p.rx.rx.closing) ≡ o → (r : Receive) × (open_under id p.rx ≡ Some r) × HasBuffer (held_of p) ctx r.buf
      by c is h None none = let no : false ≡ true = sym (ap (λ (o : Option Receive). is_some (option_map sized o)) none) ∙ h.2 in absurd (cc)
      by c is h (Some r) found = (r, ap (λ (o : Option ℕ). made_by o (p.rx.rx.posted ++ p.rx.rx.closing)) h.1 ∙ find_made c (p.rx.rx.posted ++ p.rx.rx.closing) ∙ found, (c, is, open_buf c r found))

  pub lends_ended : (n : ℕ) → option_map (λ (m : Member). m.place) (find of_ctx p.multis.places) ≡ Some (Ended n) → (buf : List ℕ) × (given_back n p.cq ≡ Some buf) × HasBuffer (held_of p) ctx buf
  lends_ended n e = let o = oldest (Ended n) e in by o.0 o.1 o.2 o.3 (find (λ (r : Receive). o.0 == r.call) (p.rx.rx.posted ++ p.rx.rx.closing)) refl
    where
      by : (c : ℕ) → multi_of (held_of p) ctx ≡ Some c → is_multi p.rx.multis c ≡ true → IsAt p.rx.rx p.rx.multis p.cq c (Ended n) → (o : Option Receive) → find (λ (r : Receive). c == r.call) (p.rx.rx.posted ++ p.rx.rx.closing) ≡ o → (buf : List ℕ) × (given_back n p.cq ≡ Some buf) × HasBuffer (held_of p) ctx buf
      by c is k h None none = (h.1, ap buffer_by h.2 ∙ h.5, (c, is, none_buf c none ∙ ap (λ (o : Option (List ℕ)). unwrap_or o []) h.6))
      by c is k h (Some r) found =
          let none = (ok.stands c (sized r) k (ap (λ (o : Option Receive). option_map sized o) found)).1 in
          let no : Some h.1 ≡ None = sym h.6 ∙ none in absurd (cc)

-- ---- a part of it

module _ (h : Held) (ctx at len : ℕ) (bytes : List ℕ) (has : HasBuffer h ctx bytes) where
  pub lends_past : length bytes < at + len → LendsNone h ctx at len
  lends_past past = inr (has.0, has.1, subst (λ (xs : List ℕ). length xs < at + len) (sym has.2) past)

-- ---- what the receive half and the queue answer

module _ (p : Parts) (ok : IsLentBy p) (ctx : ℕ) {X : Type 0} (now : X → List ℕ) (r : Option X) where
  pub if_open : (id : ℕ) → option_map (λ (m : Member). m.place) (find (of_ctx p ok ctx) p.multis.places) ≡ Some (Open id) → IfSome r (λ x. IsSomeAnd (open_under id p.rx) (λ q. q.buf ≡ now x)) → IfSome r (λ x. HasBuffer (held_of p) ctx (now x))
  if_open id e is = by r is
    where
      by : (r : Option X) → IfSome r (λ x. IsSomeAnd (open_under id p.rx) (λ q. q.buf ≡ now x)) → IfSome r (λ x. HasBuffer (held_of p) ctx (now x))
      by None is = tt
      by (Some x) is = let o = lends_open p ok ctx id e in
          subst (λ (bytes : List ℕ). HasBuffer (held_of p) ctx bytes) (subst (λ (q : Option Receive). IsSomeAnd q (λ q. q.buf ≡ now x)) o.1 is) o.2

  pub if_open_not : (id : ℕ) → option_map (λ (m : Member). m.place) (find (of_ctx p ok ctx) p.multis.places) ≡ Some (Open id) → IfNone r (open_under id p.rx ≡ None) → IfNone r (multi_of (held_of p) ctx ≡ None)
  if_open_not id e is = by r is
    where
      by : (r : Option X) → IfNone r (open_under id p.rx ≡ None) → IfNone r (multi_of (held_of p) ctx ≡ None)
      by None is = let o = lends_open p ok ctx id e in let no : Some o.0 ≡ None = sym o.1 ∙ is in absurd (cc)
      by (Some x) is = tt

  pub if_ended : (n : ℕ) → option_map (λ (m : Member). m.place) (find (of_ctx p ok ctx) p.multis.places) ≡ Some (Ended n) → IfSome r (λ x. given_back n p.cq ≡ Some (now x)) → IfSome r (λ x. HasBuffer (held_of p) ctx (now x))
  if_ended n e is = by r is
    where
      by : (r : Option X) → IfSome r (λ x. given_back n p.cq ≡ Some (now x)) → IfSome r (λ x. HasBuffer (held_of p) ctx (now x))
      by None is = tt
      by (Some x) is = let o = lends_ended p ok ctx n e in let both : Some o.0 ≡ Some (now x) = sym o.1 ∙ is in let same : o.0 ≡ now x = cc in
          subst (λ (bytes : List ℕ). HasBuffer (held_of p) ctx bytes) same o.2

  pub if_ended_not : (n : ℕ) → option_map (λ (m : Member). m.place) (find (of_ctx p ok ctx) p.multis.places) ≡ Some (Ended n) → IfNone r (given_back n p.cq ≡ None) → IfNone r (multi_of (held_of p) ctx ≡ None)
  if_ended_not n e is = by r is
    where
      by : (r : Option X) → IfNone r (given_back n p.cq ≡ None) → IfNone r (multi_of (held_of p) ctx ≡ None)
      by None is = let o = lends_ended p ok ctx n e in let no : Some o.0 ≡ None = sym o.1 ∙ is in absurd (cc)
      by (Some x) is = tt

pub none_of_place : (o : Option Member) → option_map (λ (m : Member). m.place) o ≡ None → o ≡ None
none_of_place None e = refl
none_of_place (Some m) e = absurd (cc)

pub no_place : {X : Type 0} (o : Option X) → ((x : X) → o ≡ Some x → ⊥) → o ≡ None
no_place None never = refl
no_place (Some x) never = absurd (never x refl)
