-- Where what peers show one another only grows, and no step that stands minds that it grows, every order of the turns ends as the replay does.
use Rattle.std.proofs.Common.{◌≡◌, ◌≢◌, ◌≤◌, ℕ, true, false, List, [], ◌∷◌, ◌++◌, slice_get, set, Option, Some, None, inl, inr, refl, sym, ap, ◌∙◌, subst, subst₂, length, length-set, append-nil, append_assoc, arith}
use Rattle.std.specs.Option.{option_and_then}
use Rattle.std.proofs.lemmas.Bool.{cases_eq}
use Rattle.std.proofs.lemmas.Option.{slice_get_within, get_or_from_slice_get}
use Rattle.fab_model.specs.Views.{View, Machine, seen, rule, IsPrefixOf, More, Walk}
use Rattle.fab_model.specs.Orders.{Leads, by}
use Rattle.std.proofs.lemmas.List.{set-get_or, set-set}
use Rattle.fab_model.proofs.Turns.{Commutes, slice_get-set, slice_get-set_other, slice_get-set_same}

pub prefix_self : {X : Type 0} (xs ys : List X) → xs ≡ ys → IsPrefixOf xs ys
prefix_self xs ys same = ([], append-nil xs ∙ same)

pub prefix_prefix : {X : Type 0} (xs ys zs : List X) → IsPrefixOf xs ys → IsPrefixOf ys zs → IsPrefixOf xs zs
prefix_prefix xs ys zs a b = (a.0 ++ b.0, sym (append_assoc xs a.0 b.0) ∙ ap (λ ws. ws ++ b.0) a.1 ∙ b.1)

pub more_self : {Item : Type 0} (v : View Item) → More v v
more_self v = record { ready = λ k. prefix_self _ _ refl; sent = λ k. omega arith; calm = λ c. c }

pub more_more : {Item : Type 0} (u v w : View Item) → More u v → More v w → More u w
more_more u v w a b = record {
  ready = λ k. prefix_prefix (u.ready k) (v.ready k) (w.ready k) (a.ready k) (b.ready k);
  sent = λ k. omega (arith, a.sent k, b.sent k);
  calm = λ c. b.calm (a.calm c);
}

-- w shows all that v shows of the peers, whatever it says of whether all are calm
pub record ShowsMore {Item : Type 0} (v w : View Item) : Type 0 where
  pub ready : (sender : ℕ) → IsPrefixOf (v.ready sender) (w.ready sender)
  pub sent : (sender : ℕ) → v.sent sender ≤ w.sent sender

set_same : {X : Type 0} (xs : List X) (i : ℕ) (x : X) → slice_get xs i ≡ Some x → xs ≡ set xs i x
set_same xs i x has = sym (set-get_or xs i x) ∙ ap (set xs i) (get_or_from_slice_get xs i x x has)

-- there are this number of peers, and of each what is known of a peer from its own state and what it sees
pub record Sound {S Step Item : Type 0} (machine : Machine S Step Item) (peers : ℕ) (Own : View Item → S → Type 0) (states : List S) : Type 0 where
  pub count : length states ≡ peers
  pub own : (p : ℕ) (s : S) → slice_get states p ≡ Some s → Own (seen machine states p) s

-- what a peer shows only grows by its steps
abbrev pub GrowsBySteps : {S Step Item : Type 0} → Machine S Step Item → Type 0
GrowsBySteps {S} {Step} {Item} machine =
    (v : View Item) (s s' : S) (a : Step) → machine.step v s a ≡ Some s'
    → (q : ℕ) → IsPrefixOf (machine.ready s q) (machine.ready s' q) × (machine.sent s q ≤ machine.sent s' q)

-- a step that stands also stands where more is seen, and does the same
abbrev pub WaitsForMore : {S Step Item : Type 0} → Machine S Step Item → Type 0
WaitsForMore {S} {Step} {Item} machine = (v w : View Item) (s s' : S) (a : Step) → More v w → machine.step v s a ≡ Some s' → machine.step w s a ≡ Some s'

-- what is asked of the machine
pub record Patient {S Step Item : Type 0} (machine : Machine S Step Item) (peers : ℕ) (Own : View Item → S → Type 0) : Type 0 where
  -- what is known of a peer stays so by its own steps, and where it sees more
  pub owns : (v : View Item) (s s' : S) (a : Step) → Own v s → machine.step v s a ≡ Some s' → Own v s'
  pub owns_more : (v w : View Item) (s : S) → More v w → Own v s → Own w s
  pub grows : GrowsBySteps machine
  pub waits : WaitsForMore machine
  -- where all are calm, each step that stands leaves them so
  pub calm_stays :
      (states : List S) (p : ℕ) (s s' : S) (a : Step) → Sound machine peers Own states → slice_get states p ≡ Some s → machine.calm states ≡ true
      → machine.step (seen machine states p) s a ≡ Some s' → machine.calm (set states p s') ≡ true

module _ {S Step Item : Type 0} (machine : Machine S Step Item) where
  pub rule_is : (states : List S) (p : ℕ) (a : Step) (s' : S) → rule machine states p a ≡ Some s' → (s : S) × (slice_get states p ≡ Some s) × (machine.step (seen machine states p) s a ≡ Some s')
  rule_is states p a s' r = go (slice_get states p) refl r
    where
      go :
          (o : Option S) → slice_get states p ≡ o → option_and_then (λ s. machine.step (seen machine states p) s a) o ≡ Some s'
          → (s : S) × (slice_get states p ≡ Some s) × (machine.step (seen machine states p) s a ≡ Some s')
      go None here r = absurd (cc)
      go (Some s) here r = (s, here, r)

  pub rule_gives : (states : List S) (p : ℕ) (a : Step) (s s' : S) → slice_get states p ≡ Some s → machine.step (seen machine states p) s a ≡ Some s' → rule machine states p a ≡ Some s'
  rule_gives states p a s s' here step = rw here step

  -- after a step of one peer each peer, itself too, sees all that it saw of the others
  pub shows_more :
      GrowsBySteps machine → (states : List S) (p q : ℕ) (s s' : S) (a : Step) → slice_get states p ≡ Some s → machine.step (seen machine states p) s a ≡ Some s'
      → ShowsMore (seen machine states q) (seen machine (set states p s') q)
  shows_more grows states p q s s' a has step =
      let own : slice_get (set states p s') p ≡ Some s' = slice_get-set_same states p s' (slice_get_within states p s has) in
      let grown = grows (seen machine states p) s s' a step q in
      let other : (r : ℕ) → p ≢ r → slice_get (set states p s') r ≡ slice_get states r = (λ r e. slice_get-set_other states p r s' e) in
      record {
        ready = λ r. elim (cases_eq p r) [
          | inl same ↦ subst (λ k. IsPrefixOf ((seen machine states q).ready k) ((seen machine (set states p s') q).ready k)) same (rw (has, own) grown.0)
          | inr e ↦ prefix_self _ _ (rw (other r e) refl)
        ];
        sent = λ r. elim (cases_eq p r) [
          | inl same ↦ subst (λ k. (seen machine states q).sent k ≤ (seen machine (set states p s') q).sent k) same (rw (has, own) grown.1)
          | inr e ↦ rw (other r e) (omega arith)
        ];
      }

  -- what a peer did in a view that shows no more than the states do, and not that all are calm, it can do in these states
  pub walk_leads :
      GrowsBySteps machine → WaitsForMore machine → (steps : List Step) (states : List S) (p : ℕ) (v : View Item) (s last : S) → slice_get states p ≡ Some s → v.calm ≡ false
      → More v (seen machine states p) → Walk machine v s steps last → Leads (rule machine) states (by p steps) (set states p last)
  walk_leads grows waits [] states p v s last has busy more walk = set_same states p s has ∙ ap (set states p) walk
  walk_leads grows waits (a ∷ steps) states p v s last has busy more walk =
      let next = walk.0 in
      let step = waits v (seen machine states p) s next a more walk.1 in
      let has' = slice_get-set_same states p next (slice_get_within states p s has) in
      let grown = shows_more grows states p p s next a has step in
      let more' : More v (seen machine (set states p next) p) = record {
        ready = λ k. prefix_prefix _ _ _ (more.ready k) (grown.ready k);
        sent = λ k. omega (arith, more.sent k, grown.sent k);
        calm = λ calm. absurd (cc (busy, calm));
      } in
      let ih = walk_leads grows waits steps (set states p next) p v next last has' busy more' walk.2 in
      (next, rule_gives states p a s next has step, subst (λ ss. Leads (rule machine) (set states p next) (by p steps) ss) (set-set states p next last) ih)

module _ {S Step Item : Type 0} (machine : Machine S Step Item) (peers : ℕ) (Own : View Item → S → Type 0) (law : Patient machine peers Own) where
  pub sees_more :
      (states : List S) (p q : ℕ) (s s' : S) (a : Step) → Sound machine peers Own states → slice_get states p ≡ Some s → machine.step (seen machine states p) s a ≡ Some s'
      → More (seen machine states q) (seen machine (set states p s') q)
  sees_more states p q s s' a sound has step =
      let grown = shows_more machine law.grows states p q s s' a has step in
      record { ready = grown.ready; sent = grown.sent; calm = λ calm. law.calm_stays states p s s' a sound has calm step }

  pub sound_stays :
      (states : List S) (p : ℕ) (s s' : S) (a : Step) → Sound machine peers Own states → slice_get states p ≡ Some s → machine.step (seen machine states p) s a ≡ Some s'
      → Sound machine peers Own (set states p s')
  sound_stays states p s s' a sound has step = record {
    count = length-set states p s' ∙ sound.count;
    own = λ q t here. elim (slice_get-set states p q s' t here) [
      | inl before ↦ law.owns_more _ _ t (sees_more states p q s s' a sound has step) (sound.own q t before)
      | inr now ↦ subst₂ (λ k u. Own (seen machine (set states p s') k) u) now.0 (sym (now.1))
          (law.owns_more _ _ s' (sees_more states p p s s' a sound has step) (law.owns _ s s' a (sound.own p s has) step))
    ];
  }

  pub commutes : Commutes (rule machine) (Sound machine peers Own)
  commutes = record {
    keeps = λ states p a s' sound r. let i = rule_is machine states p a s' r in sound_stays states p i.0 s' a sound i.1 i.2;
    still = λ states p q a b s' t' sound differ r u.
        let i = rule_is machine states p a s' r in
        let j = rule_is machine states q b t' u in
        rule_gives machine (set states p s') q b j.0 t' (slice_get-set_other states p q s' differ ∙ j.1) (law.waits _ _ j.0 t' b (sees_more states p q i.0 s' a sound i.1 i.2) j.2);
  }

  -- what a peer did in a view that shows no more than the states do, it can do in these states
  pub sound_walk_leads :
      (steps : List Step) (states : List S) (p : ℕ) (v : View Item) (s last : S) → Sound machine peers Own states → slice_get states p ≡ Some s → More v (seen machine states p) → Walk machine v s steps last
      → Leads (rule machine) states (by p steps) (set states p last)
  sound_walk_leads [] states p v s last sound has more walk = set_same states p s has ∙ ap (set states p) walk
  sound_walk_leads (a ∷ steps) states p v s last sound has more walk =
      let next = walk.0 in
      let step = law.waits v (seen machine states p) s next a more walk.1 in
      let has' = slice_get-set_same states p next (slice_get_within states p s has) in
      let ih = sound_walk_leads steps (set states p next) p v next last (sound_stays states p s next a sound has step) has' (more_more _ _ _ more (sees_more states p p s next a sound has step)) walk.2 in
      (next, rule_gives machine states p a s next has step, subst (λ ss. Leads (rule machine) (set states p next) (by p steps) ss) (set-set states p next last) ih)
