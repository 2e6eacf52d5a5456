-- The runs of peers that record their states are those of the program, and a peer's history is that of its own record.
use Rattle.std.proofs.Common.{◌≤◌, ◌≡◌, ◌≢◌, ℕ, Bool, true, false, List, [], ◌∷◌, ◌++◌, map, set, slice_get, Option, Some, None, ◌⊎◌, inl, inr, refl, sym, ◌∙◌, ap, subst, append_assoc, append-nil}
use Rattle.std.specs.Prelude.{slice_index, ◌==◌}
use Rattle.std.specs.Option.{option_map, option_map_or}
use Rattle.std.proofs.lemmas.Bool.{cases_eq, eq-eqb, ne_eqb}
use Rattle.std.proofs.lemmas.List.{map-set}
use Rattle.std.proofs.lemmas.Option.{slice_get-map, slice_get_within}
use Rattle.fab_base.specs.declared.items.Item.{Item}
use Rattle.fab_model.specs.State.{State, accepted_for}
use Rattle.fab_model.specs.Orders.{AreSteps, Leads, Reached, Turn, steps_of}
use Rattle.fab_model.specs.Views.{View, IsPrefixOf, rule, seen}
use Rattle.fab_model.proofs.Orders.{steps_of_other, steps_of_own}
use Rattle.fab_model.proofs.Parts.{some_same}
use Rattle.fab_model.proofs.Turns.{slice_get-set_other, slice_get-set_same}
use Rattle.fab_model.proofs.Views as views
use Rattle.fab_laws.specs.Programs.{Deed, Opening, Peer, program}
use Rattle.fab_laws.specs.Completed.{Accepted, Operations, accepts, keeping_books, operations_of}
use Rattle.fab_laws.specs.MessageLaws.{asked_by, asked_of}
use Rattle.fab_laws.specs.Moments.{AtEveryMoment, Note, noted, remembered}
use Rattle.fab_model.proofs.Grows.{Shown}
use Rattle.fab_laws.proofs.Programs.{grows, waits}
use Rattle.fab_laws.specs.Recorded.{Recorded, onto, plain, recall, recorded}

plains : List Recorded → List Peer
plains states = map plain states

same_view : (states : List Recorded) (p : ℕ) → seen recorded states p ≡ seen program (map plain states) p
unfolding recorded program
same_view states p = λ i. record {
  ready = λ source. ready source i;
  sent = λ source. sent source i;
  calm = false;
}
  where
    ready : (source : ℕ) → option_map_or (λ (x : Recorded). accepted_for x.state.tx p) (slice_get states source) [] ≡ option_map_or (λ (x : Peer). accepted_for x.state.tx p) (slice_get (map plain states) source) []
    ready source = sym (rw (slice_get-map plain states source) (go (slice_get states source)))
      where
        go : (o : Option Recorded) → option_map_or (λ (x : Peer). accepted_for x.state.tx p) (option_map plain o) [] ≡ option_map_or (λ (x : Recorded). accepted_for x.state.tx p) o []
        go None = refl
        go (Some a) = refl

    sent : (source : ℕ) → option_map_or (λ (x : Recorded). slice_index x.state.tx.sent p) (slice_get states source) 0 ≡ option_map_or (λ (x : Peer). slice_index x.state.tx.sent p) (slice_get (map plain states) source) 0
    sent source = sym (rw (slice_get-map plain states source) (go (slice_get states source)))
      where
        go : (o : Option Recorded) → option_map_or (λ (x : Peer). slice_index x.state.tx.sent p) (option_map plain o) 0 ≡ option_map_or (λ (x : Recorded). slice_index x.state.tx.sent p) o 0
        go None = refl
        go (Some a) = refl

mapped : (f : Peer → Recorded) (o : Option Peer) (y : Recorded) → option_map f o ≡ Some y → (x : Peer) × (o ≡ Some x) × (f x ≡ y)
mapped f None y e = absurd (cc (e))
mapped f (Some x) y e = (x, refl, some_same (f x) y e)

-- ---- one deed

pub lift : (v : View Item) (a b : Recorded) (x : Deed) → program.step v (plain a) x ≡ Some (plain b) → b.past ≡ a.past ++ b.state ∷ [] → recorded.step v a x ≡ Some b
unfolding recorded
lift v a b x e past = ap (option_map (onto a)) e ∙ ap (λ (us : List State). let y : Recorded = record { state = b.state; past = us } in Some y) (sym past)

pub recorded_grows : (v : View Item) (a b : Recorded) (x : Deed) → recorded.step v a x ≡ Some b → (q : ℕ) → IsPrefixOf (recorded.ready a q) (recorded.ready b q) × (recorded.sent a q ≤ recorded.sent b q)
unfolding recorded program
recorded_grows v a b x e q =
    let i = mapped (onto a) (program.step v (plain a) x) b e in
    subst (λ (y : Recorded). Shown a.state y.state q) i.2 (grows v (plain a) i.0 x i.1 q)

pub recorded_waits : views.WaitsForMore recorded
unfolding recorded
recorded_waits v w a b x more e =
    let i = mapped (onto a) (program.step v (plain a) x) b e in
    ap (option_map (onto a)) (waits v w (plain a) i.0 x more i.1) ∙ ap Some i.2

-- ---- turns

-- what a recorded turn is
pub record IsTurn (states : List Recorded) (t : Turn Deed) (b : Recorded) : Type 0 where
  pub before : Recorded
  pub here : slice_get states t.peer ≡ Some before
  pub past : b.past ≡ before.past ++ b.state ∷ []
  pub ruled : rule program (map plain states) t.peer t.step ≡ Some (plain b)

is_turn : (states : List Recorded) (t : Turn Deed) (b : Recorded) → rule recorded states t.peer t.step ≡ Some b → IsTurn states t b
unfolding recorded
is_turn states t b stood =
    let is = views.rule_is recorded states t.peer t.step b stood in
    let v = seen recorded states t.peer in
    let i = mapped (onto is.0) (program.step v (plain is.0) t.step) b is.2 in
    let at : slice_get (map plain states) t.peer ≡ Some (plain is.0) = slice_get-map plain states t.peer ∙ ap (option_map plain) is.1 in
    record {
      before = is.0;
      here = is.1;
      past = ap (λ (x : Recorded). x.past) (sym i.2) ∙ ap (λ (u : State). is.0.past ++ u ∷ []) (ap (λ (x : Recorded). x.state) i.2);
      ruled = views.rule_gives program (map plain states) t.peer t.step (plain is.0) (plain b) at
          (subst (λ (w : View Item). program.step w (plain is.0) t.step ≡ Some (plain b)) (same_view states t.peer) (i.1 ∙ ap (λ (x : Recorded). Some (plain x)) i.2));
    }

pub recorded_leads : (turns : List (Turn Deed)) (states last : List Recorded) → Leads (rule recorded) states turns last → Leads (rule program) (map plain states) turns (map plain last)
recorded_leads [] states last leads = ap (map plain) leads
recorded_leads (t ∷ turns) states last (b, stood, rest) =
    let is = is_turn states t b stood in
    (plain b, is.ruled, subst (λ ss. Leads (rule program) ss turns (map plain last)) (map-set plain states t.peer b) (recorded_leads turns (set states t.peer b) last rest))

-- ---- a peer's own history

module _ {M : Type 0} (f : Peer → Deed → Peer → M → M) (p : ℕ) where
  abbrev pub note : Note M
  note v a x b m = f a x b m

  -- the peer's past grew by these states, and along these its history is recalled
  pub record Own (turns : List (Turn Deed)) (states : List Recorded) (a b : Recorded) (m : M) : Type 0 where
    pub grew : List State
    pub past : b.past ≡ a.past ++ grew
    pub history : remembered note p turns (map plain states) m ≡ recall f a.state (steps_of p turns) grew m

  memory : (turns : List (Turn Deed)) (states : List Recorded) (t : Turn Deed) (c : Recorded) (m m' : M) → rule program (map plain states) t.peer t.step ≡ Some (plain c) → noted note p (map plain states) t (plain c) m ≡ m'
      → remembered note p (t ∷ turns) (map plain states) m ≡ remembered note p turns (map plain (set states t.peer c)) m'
  memory turns states t c m m' ruled same =
      ap (λ (o : Option Peer). elim o [ None ↦ m | Some b ↦ remembered note p turns (set (map plain states) t.peer b) (noted note p (map plain states) t b m) ]) ruled
      ∙ ap (λ k. remembered note p turns (set (map plain states) t.peer (plain c)) k) same
      ∙ ap (λ ss. remembered note p turns ss m') (sym (map-set plain states t.peer c))

  pub own_history : (turns : List (Turn Deed)) (states last : List Recorded) (a b : Recorded) (m : M) → Leads (rule recorded) states turns last → slice_get states p ≡ Some a → slice_get last p ≡ Some b → Own turns states a b m
  own_history [] states last a b m leads here there =
      let same : a ≡ b = some_same a b (sym here ∙ ap (λ ss. slice_get ss p) leads ∙ there) in
      record { grew = []; past = ap (λ (x : Recorded). x.past) (sym same) ∙ sym (append-nil a.past); history = refl }
  own_history (t ∷ turns) states last a b m (c, stood, rest) here there = go (cases_eq t.peer p) (λ x m' e. own_history turns (set states t.peer c) last x b m' rest e there)
    where
      is : IsTurn states t c
      is = is_turn states t c stood

      go : (t.peer ≡ p) ⊎ (t.peer ≢ p) → ((x : Recorded) (m' : M) → slice_get (set states t.peer c) p ≡ Some x → Own turns (set states t.peer c) x b m') → Own (t ∷ turns) states a b m
      go (inl same) more =
          let before : is.before ≡ a = some_same is.before a (sym is.here ∙ ap (slice_get states) same ∙ here) in
          let now : slice_get (set states t.peer c) p ≡ Some c = subst (λ k. slice_get (set states t.peer c) k ≡ Some c) same (slice_get-set_same states t.peer c (slice_get_within states t.peer is.before is.here)) in
          let m' : M = f (plain a) t.step (plain c) m in
          let ih = more c m' now in
          let past : c.past ≡ a.past ++ c.state ∷ [] = is.past ∙ ap (λ (x : Recorded). x.past ++ c.state ∷ []) before in
          let mine : (t.peer == p) ≡ true = eq-eqb t.peer p same in
          let noticed : noted note p (map plain states) t (plain c) m ≡ m' =
          ap (λ (d : Bool). let k : M = elim d [ true ↦ elim (slice_get (map plain states) p) [ None ↦ m | Some x ↦ f x t.step (plain c) m ] | false ↦ m ] in k) mine
          ∙ ap (λ (o : Option Peer). let k : M = elim o [ None ↦ m | Some x ↦ f x t.step (plain c) m ] in k) (slice_get-map plain states p ∙ ap (option_map plain) here) in
          record {
            grew = c.state ∷ ih.grew;
            past = ih.past ∙ ap (λ us. us ++ ih.grew) past ∙ append_assoc a.past (c.state ∷ []) ih.grew;
            history = memory turns states t c m m' is.ruled noticed ∙ ih.history ∙ ap (λ xs. recall f a.state xs (c.state ∷ ih.grew) m) (sym (steps_of_own p t turns same));
          }
      go (inr differ) more =
          let ih = more a m (slice_get-set_other states t.peer p c differ ∙ here) in
          let mine : (t.peer == p) ≡ false = ne_eqb t.peer p differ in
          let noticed : noted note p (map plain states) t (plain c) m ≡ m =
          ap (λ (d : Bool). let k : M = elim d [ true ↦ elim (slice_get (map plain states) p) [ None ↦ m | Some x ↦ f x t.step (plain c) m ] | false ↦ m ] in k) mine in
          record {
            grew = ih.grew;
            past = ih.past;
            history = memory turns states t c m m is.ruled noticed ∙ ih.history ∙ ap (λ xs. recall f a.state xs ih.grew m) (sym (steps_of_other p t turns differ));
          }

-- ---- what the laws say of peers that record their states

-- what holds of all programs holds where recorded turns lead
pub of_recorded : (Law : List Peer → List (Turn Deed) → List Peer → ℕ → Peer → Type 0) → AtEveryMoment Law → (from : Opening) (opening : List Recorded) → map plain opening ≡ from.peers → (lists : List (List Deed)) (states : List Recorded)
    → Reached (rule recorded) opening lists states → (turns : List (Turn Deed)) × Leads (rule recorded) opening turns states × AreSteps lists turns × ((p : ℕ) (b : Recorded) → slice_get states p ≡ Some b → Law from.peers turns (map plain states) p (plain b))
of_recorded Law law from opening same lists states (turns, leads, are) =
    (turns, leads, are, λ p b there. law from turns (map plain states) (subst (λ ss. Leads (rule program) ss turns (map plain states)) same (recorded_leads turns opening states leads)) p (plain b) (slice_get-map plain states p ∙ ap (option_map plain) there))

-- the receives that a peer asked for, by its own record
pub asked_own : (turns : List (Turn Deed)) (opening states : List Recorded) (p : ℕ) (a b : Recorded) → Leads (rule recorded) opening turns states → slice_get opening p ≡ Some a → slice_get states p ≡ Some b
    → (grew : List State) × (b.past ≡ a.past ++ grew) × (asked_of (map plain opening) turns p ≡ recall (λ a x b m. asked_by a x b ++ m) a.state (steps_of p turns) grew [])
asked_own turns opening states p a b leads here there =
    let own = own_history (λ a x b m. asked_by a x b ++ m) p turns opening states a b [] leads here there in
    (own.grew, own.past, own.history)

-- the operations that it accepted, by its own record
accepting : Note (List Accepted)
accepting v a x b m = accepts a x b ++ m

accepted_part : (p : ℕ) (turns : List (Turn Deed)) (states : List Peer) (m : Operations) → (remembered keeping_books p turns states m).accepted ≡ remembered accepting p turns states m.accepted
unfolding accepting
accepted_part p [] states m = refl
accepted_part p (t ∷ turns) states m = go (rule program states t.peer t.step) (λ b k. accepted_part p turns (set states t.peer b) k)
  where
    one : (b : Peer) (mine : Bool) (o : Option Peer) → (let r : Operations = elim mine [ true ↦ elim o [ None ↦ m | Some a ↦ keeping_books (seen program states p) a t.step b m ] | false ↦ m ] in r).accepted
        ≡ (let r : List Accepted = elim mine [ true ↦ elim o [ None ↦ m.accepted | Some a ↦ accepts a t.step b ++ m.accepted ] | false ↦ m.accepted ] in r)
    one b true None = refl
    one b true (Some a) = refl
    one b false o = refl

    go : (o : Option Peer) → ((b : Peer) (k : Operations) → (remembered keeping_books p turns (set states t.peer b) k).accepted ≡ remembered accepting p turns (set states t.peer b) k.accepted)
        → (let r : Operations = elim o [ None ↦ m | Some b ↦ remembered keeping_books p turns (set states t.peer b) (noted keeping_books p states t b m) ] in r).accepted
        ≡ (let r : List Accepted = elim o [ None ↦ m.accepted | Some b ↦ remembered accepting p turns (set states t.peer b) (noted accepting p states t b m.accepted) ] in r)
    go None ih = refl
    go (Some b) ih = ih b (noted keeping_books p states t b m) ∙ ap (remembered accepting p turns (set states t.peer b)) (one b (t.peer == p) (slice_get states p))

pub accepted_own : (turns : List (Turn Deed)) (opening states : List Recorded) (p : ℕ) (a b : Recorded) → Leads (rule recorded) opening turns states → slice_get opening p ≡ Some a → slice_get states p ≡ Some b
    → (grew : List State) × (b.past ≡ a.past ++ grew) × ((operations_of (map plain opening) turns p).accepted ≡ recall (λ a x b m. accepts a x b ++ m) a.state (steps_of p turns) grew [])
unfolding accepting
accepted_own turns opening states p a b leads here there =
    let own = own_history (λ a x b m. accepts a x b ++ m) p turns opening states a b [] leads here there in
    (own.grew, own.past, accepted_part p turns (map plain opening) (record { accepted = []; ended = [] }) ∙ own.history)
