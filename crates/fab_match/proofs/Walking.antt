-- A walk along a chain, and what it finds.
use Rattle.std.proofs.Common.{◌≡◌, ◌<◌, ◌≤◌, ◌+◌, ◌-◌, ℕ, Bool, true, false, List, [], ◌∷◌, Some, None, length, refl, sym, ap, ◌∙◌, subst, arith}
use Rattle.std.specs.Prelude.{find}
use Rattle.fab_match.specs.Chains.{Leads}
use Rattle.fab_match.specs.Bucket.{read}

module _ (heads len : ℕ) (next prev : ℕ → ℕ) where
  -- what is read off a chain is what it has
  pub read-leads : (a : ℕ) (xs : List ℕ) (b : ℕ) → Leads heads len next prev a xs b → read heads next (length xs) (next a) ≡ xs
  read-leads a [] b l = refl
  read-leads a (x ∷ xs) b l =
      let place : heads + x - heads ≡ x = omega arith in
      rw l.0 (rw (place, read-leads (heads + x) xs b l.3) refl)

  leads_same_step : (x y : ℕ) (xs ys : List ℕ) → x ≡ y → xs ≡ ys → x ∷ xs ≡ y ∷ ys
  leads_same_step x y xs ys p q = cc

  -- two nodes have one way between them
  pub Leads-same : (a b : ℕ) (xs ys : List ℕ) → b < heads → Leads heads len next prev a xs b → Leads heads len next prev a ys b → xs ≡ ys
  Leads-same a b [] [] low l m = refl
  Leads-same a b [] (y ∷ ys) low l m = absurd (let e : b ≡ heads + y = sym l.0 ∙ m.0 in omega (arith, e))
  Leads-same a b (x ∷ xs) [] low l m = absurd (let e : b ≡ heads + x = sym m.0 ∙ l.0 in omega (arith, e))
  Leads-same a b (x ∷ xs) (y ∷ ys) low l m =
      let e : heads + x ≡ heads + y = sym l.0 ∙ m.0 in
      let same : x ≡ y = omega (arith, e) in
      leads_same_step x y xs ys same (Leads-same (heads + x) b xs ys low l.3 (subst (λ k. Leads heads len next prev (heads + k) ys b) (sym same) m.3))

module _ (heads len : ℕ) (next : ℕ → ℕ) where
  -- this node is the first of the places that are left, or the end
  abbrev pub Onward : ℕ → List ℕ → ℕ → Type 0
  Onward node [] b = node ≡ b
  Onward node (x ∷ xs) b = (node ≡ heads + x) × (heads + x < len) × Onward (next (heads + x)) xs b

  pub Onward-leads : (prev : ℕ → ℕ) (a : ℕ) (xs : List ℕ) (b : ℕ) → Leads heads len next prev a xs b → Onward (next a) xs b
  Onward-leads prev a [] b l = l.0
  Onward-leads prev a (x ∷ xs) b l = (l.0, l.2, Onward-leads prev (heads + x) xs b l.3)

  -- a walk that has come to this node, with so many steps left, looks for the first of all
  pub record Walks (test : ℕ → Bool) (all : List ℕ → Type 0) (node left b : ℕ) : Type 0 where
    pub rest : List ℕ
    pub onward : Onward node rest b
    pub short : length rest ≤ left
    pub found : (xs : List ℕ) → all xs → find test xs ≡ find test rest

  module _ (test : ℕ → Bool) (all : List ℕ → Type 0) (b : ℕ) (low : b < heads) where
    ends_at : (node : ℕ) (rest : List ℕ) → Onward node rest b → node < heads → find test rest ≡ None
    ends_at node [] o below = refl
    ends_at node (x ∷ rest) o below = absurd (let e : node ≡ heads + x = o.0 in omega (arith, e))

    -- at the end nothing passes
    pub walks_end : (node left : ℕ) → Walks test all node left b → node < heads → (xs : List ℕ) → all xs → find test xs ≡ None
    walks_end node left w below xs is = w.found xs is ∙ ends_at node w.rest w.onward below

    none_left : (rest : List ℕ) (left : ℕ) → length rest ≤ left → left ≡ 0 → find test rest ≡ None
    none_left [] left short z = refl
    none_left (x ∷ rest) left short z = absurd (omega arith)

    pub walks_out : (node left : ℕ) → Walks test all node left b → left ≡ 0 → (xs : List ℕ) → all xs → find test xs ≡ None
    walks_out node left w z xs is = w.found xs is ∙ none_left w.rest left w.short z

    within_at : (node : ℕ) (rest : List ℕ) → Onward node rest b → heads ≤ node → node < len
    within_at node [] o up = absurd (let e : node ≡ b = o in omega (arith, e))
    within_at node (x ∷ rest) o up = omega (arith, o.0, o.1)

    pub walks_within : (node left : ℕ) → Walks test all node left b → heads ≤ node → node < len
    walks_within node left w up = within_at node w.rest w.onward up

    first_at : (node : ℕ) (rest : List ℕ) → Onward node rest b → heads ≤ node → test (node - heads) ≡ true → find test rest ≡ Some (node - heads)
    first_at node [] o up t = absurd (let e : node ≡ b = o in omega (arith, e))
    first_at node (x ∷ rest) o up t =
        let same : node - heads ≡ x = omega (arith, o.0) in
        rw same (let tx : test x ≡ true = ap test (sym same) ∙ t in rw tx refl)

    -- the place at the node passes, and is the first
    pub walks_first : (node left : ℕ) → Walks test all node left b → heads ≤ node → test (node - heads) ≡ true → (xs : List ℕ) → all xs → find test xs ≡ Some (node - heads)
    walks_first node left w up t xs is = w.found xs is ∙ first_at node w.rest w.onward up t

    on_at : (node left : ℕ) (rest : List ℕ) → Onward node rest b → length rest ≤ left + 1 → ((xs : List ℕ) → all xs → find test xs ≡ find test rest)
        → heads ≤ node → test (node - heads) ≡ false → Walks test all (next node) left b
    on_at node left [] o short found up t = absurd (let e : node ≡ b = o in omega (arith, e))
    on_at node left (x ∷ rest) o short found up t =
        let same : node - heads ≡ x = omega (arith, o.0) in
        let tx : test x ≡ false = ap test (sym same) ∙ t in
        record {
          rest = rest;
          onward = subst (λ k. Onward (next k) rest b) (sym o.0) o.2;
          short = omega arith;
          found = λ xs is. found xs is ∙ (rw tx refl);
        }

    -- the place at the node does not pass
    pub walks_on : (node left : ℕ) → Walks test all node (left + 1) b → heads ≤ node → test (node - heads) ≡ false → Walks test all (next node) left b
    walks_on node left w up t = on_at node left w.rest w.onward w.short w.found up t
