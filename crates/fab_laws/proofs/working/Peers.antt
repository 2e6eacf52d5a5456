-- Each step of any peer lowers the work of all.
use Rattle.std.proofs.Common.{◌≡◌, ◌≢◌, ◌≤◌, ◌<◌, ◌+◌, ◌*◌, ℕ, zero, suc, true, false, List, [], ◌∷◌, length, length-set, map, set, get_or, slice_get, replicate, drop, Option, Some, None, inl, inr, refl, sym, ◌∙◌, ap, subst, arith}
use std.Path.{fun_ext}
use Rattle.std.specs.Prelude.{◌&&◌, not, slice_index}
use Rattle.std.specs.Option.{option_map, option_map_or}
use Rattle.std.proofs.lemmas.Bool.{and_parts, cases_eq}
use Rattle.std.proofs.lemmas.List.{length-map, length-replicate}
use Rattle.std.proofs.lemmas.Option.{slice_get-map, slice_get_within}
use Rattle.fab_base.specs.declared.items.Item.{Item}
use Rattle.fab_base.specs.declared.operations.Held.{Held}
use Rattle.fab_base.specs.declared.peers.Step.{Step}
use Rattle.fab_base.specs.declared.peers.Step.TheVariants.{Do, Head, Tail, Draw, Final}
use Rattle.fab_base.specs.declared.script.Bound.{Bound}
use Rattle.fab_base.specs.declared.script.Conf.{Conf}
use Rattle.fab_base.specs.declared.script.Line.{Line}
use Rattle.fab_base.proofs.Bools.{not_true}
use Rattle.fab_base.proofs.Lists.{list_all_at}
use Rattle.fab_model.specs.State.{Transmitting, accepted_for}
use Rattle.fab_model.specs.Receiving.{draw_due}
use Rattle.fab_model.specs.Calls.{upto}
use Rattle.fab_model.specs.Orders.{Leads, Turn, by}
use Rattle.fab_model.specs.Peers.{Actor, fabric, facts, is_calm, step, final_step}
use Rattle.fab_model.specs.Replay.{lines_of, newly, opening}
use Rattle.fab_model.specs.Views.{rule, seen}
use Rattle.fab_model.proofs.Parts.{get_or-set, if_is, some_same}
use Rattle.fab_model.proofs.Turns.{slice_get-set, slice_get-set_other, slice_get-set_same}
use Rattle.fab_laws.specs.Work.{AreSized, EndsSoon, Sized, actor_work, arrived, halves, heft, coming_work, item_work, lines_count, lines_work, on_way, total, waiting, work, work_at}
use Rattle.fab_laws.proofs.working.Costs.{Arrives}
use Rattle.fab_laws.proofs.working.Stepping.{Enough, Lowers, Works, step_works}
use Rattle.fab_laws.proofs.working.Sums.{on_way_next, total_change, total_le}
use Rattle.fab_model.proofs.Views as views
use Rattle.fab_model.proofs.Elements.{length-upto, upto_at as in_upto}

abbrev row : ℕ → (ℕ → ℕ) → Option Actor → ℕ
row n at o = option_map_or (actor_work n at) o 0

-- one peer's own work is less by a step, and by what is brought
module _ (all : List Actor) (p : ℕ) (a b : Actor) (here : slice_get all p ≡ Some a) where
  n : ℕ
  n = length all

  next : List Actor
  next = set all p b

  below : p < length all
  below = slice_get_within all p a here

  long : length (set all p b) ≡ length all
  long = length-set all p b

  at_p : slice_get (set all p b) p ≡ Some b
  at_p = slice_get-set_same all p b below

  at_other : (q : ℕ) → q ≢ p → slice_get (set all p b) q ≡ slice_get all q
  at_other q other = slice_get-set_other all p q b (λ e. other (sym e))

  row_is : (q : ℕ) → work_at (set all p b) q ≡ row (length all) (arrived (set all p b) q) (slice_get (set all p b) q)
  row_is q = ap (λ k. row k (arrived (set all p b) q) (slice_get (set all p b) q)) long

  -- with as much arrived as after the step, the step and what it brings at the peer itself
  after_own : (w : ℕ) → ((at : ℕ → ℕ) → actor_work (length all) at b + 1 ≤ actor_work (length all) at a + w)
      → total (work_at (set all p b)) (length all) + 1 ≤ total (λ q. row (length all) (arrived (set all p b) q) (slice_get all q)) (length all) + w
  after_own w less =
      total_change (work_at (set all p b)) (λ q. row (length all) (arrived (set all p b) q) (slice_get all q)) p 1 w (length all)
      (λ q other. let e = row_is q ∙ ap (row (length all) (arrived (set all p b) q)) (at_other q other) in omega (arith, e))
      (let e = row_is p ∙ ap (row (length all) (arrived (set all p b) p)) at_p in
      let f : row (length all) (arrived (set all p b) p) (slice_get all p) ≡ actor_work (length all) (arrived (set all p b) p) a = ap (row (length all) (arrived (set all p b) p)) here in
      let k = less (arrived (set all p b) p) in
      omega (arith, e, f, k))
      below

  arrived_other : (s q : ℕ) → q ≢ p → arrived (set all p b) s q ≡ arrived all s q
  arrived_other s q other = ap (λ (o : Option Actor). option_map_or (λ (x : Actor). slice_index x.state.rx.heads s) o 0) (at_other q other)

  arrived_new : (s : ℕ) → arrived (set all p b) s p ≡ slice_index b.state.rx.heads s
  arrived_new s = ap (λ (o : Option Actor). option_map_or (λ (x : Actor). slice_index x.state.rx.heads s) o 0) at_p

  arrived_old : (s : ℕ) → arrived all s p ≡ slice_index a.state.rx.heads s
  arrived_old s = ap (λ (o : Option Actor). option_map_or (λ (x : Actor). slice_index x.state.rx.heads s) o 0) here

  -- where as much of the sender has arrived at the peer as before
  arrived_same : (s : ℕ) → slice_index b.state.rx.heads s ≡ slice_index a.state.rx.heads s → arrived (set all p b) s ≡ arrived all s
  arrived_same s same = fun_ext (λ q. elim (cases_eq q p) [
    | inl e ↦ subst (λ k. arrived (set all p b) s k ≡ arrived all s k) (sym e) (arrived_new s ∙ same ∙ sym (arrived_old s))
    | inr other ↦ arrived_other s q other
  ])

  -- ---- steps that let nothing arrive

  pub lowers_all : Lowers a b → work (set all p b) + 1 ≤ work all
  unfolding work
  lowers_all l =
      let own = after_own 0 (λ at. let k = l.less (length all) at in omega (arith, k)) in
      let same : (q : ℕ) → row (length all) (arrived (set all p b) q) (slice_get all q) ≡ work_at all q = λ q. ap (λ (f : ℕ → ℕ). row (length all) f (slice_get all q)) (arrived_same q (ap (λ xs. slice_index xs q) l.heads)) in
      let le = total_le (λ q. row (length all) (arrived (set all p b) q) (slice_get all q)) (work_at all) (length all) (λ q lt. let e = same q in omega (arith, e)) in
      let count : total (work_at (set all p b)) (length (set all p b)) ≡ total (work_at (set all p b)) (length all) = ap (total (work_at (set all p b))) long in
      omega (arith, own, le, count)

  -- ---- arrivals

  module _ (source : ℕ) (item : Item) (c : Actor) (sender : slice_get all source ≡ Some c) (has : slice_get (accepted_for c.state.tx p) (slice_index a.state.rx.heads source) ≡ Some item)
      (arrives : Arrives source (item_work item) a.state b.state) (lines : lines_work b ≡ lines_work a) (long_heads : source < length a.state.rx.heads) where
    put : (xs : List ℕ) (i k : ℕ) → i < length xs → get_or (set xs i k) i 0 ≡ k
    put [] i k lt = absurd (omega (arith, lt))
    put (x ∷ xs) zero k lt = refl
    put (x ∷ xs) (suc i) k lt = put xs i k (omega (arith, lt))

    one_more : arrived (set all p b) source p ≡ arrived all source p + 1
    one_more =
        let e : slice_index b.state.rx.heads source ≡ slice_index a.state.rx.heads source + 1 = ap (λ xs. slice_index xs source) arrives.heads ∙ put a.state.rx.heads source (slice_index a.state.rx.heads source + 1) long_heads in
        arrived_new source ∙ e ∙ ap (λ k. k + 1) (sym (arrived_old source))

    others : (s : ℕ) → s ≢ source → arrived (set all p b) s ≡ arrived all s
    others s other = arrived_same s (ap (λ xs. slice_index xs s) arrives.heads ∙ elim (get_or-set a.state.rx.heads source s (slice_index a.state.rx.heads source + 1) 0) [ inl e ↦ e | inr e ↦ absurd (other (sym e.0)) ])

    sender_less : on_way (length all) (arrived (set all p b) source) c.state.tx.accepted + item_work item ≤ on_way (length all) (arrived all source) c.state.tx.accepted
    sender_less = on_way_next (length all) (arrived all source) (arrived (set all p b) source) c.state.tx.accepted p item below (λ q other. arrived_other source q other) one_more
        (ap (λ k. slice_get (accepted_for c.state.tx p) k) (arrived_old source) ∙ has)

    before_own : total (λ q. row (length all) (arrived (set all p b) q) (slice_get all q)) (length all) + item_work item ≤ total (work_at all) (length all)
    before_own =
        let k = total_change (λ q. row (length all) (arrived (set all p b) q) (slice_get all q)) (work_at all) source (item_work item) 0 (length all)
        (λ q other. let e : row (length all) (arrived (set all p b) q) (slice_get all q) ≡ work_at all q = ap (λ (f : ℕ → ℕ). row (length all) f (slice_get all q)) (others q other) in omega (arith, e))
        (let e : row (length all) (arrived (set all p b) source) (slice_get all source) ≡ actor_work (length all) (arrived (set all p b) source) c = ap (row (length all) (arrived (set all p b) source)) sender in
        let f : work_at all source ≡ actor_work (length all) (arrived all source) c = ap (row (length all) (arrived all source)) sender in
        let less = sender_less in
        omega (arith, e, f, less))
        (slice_get_within all source c sender) in
        omega (arith, k)

    pub arrives_all : work (set all p b) + 1 ≤ work all
    unfolding work
    arrives_all =
        let own = after_own (item_work item) (λ at. let k = arrives.less in let same : on_way (length all) at b.state.tx.accepted ≡ on_way (length all) at a.state.tx.accepted = ap (λ (x : Transmitting). on_way (length all) at x.accepted) arrives.tx in let l = lines in omega (arith, k, same, l)) in
        let le = before_own in
        let count : total (work_at (set all p b)) (length (set all p b)) ≡ total (work_at (set all p b)) (length all) = ap (total (work_at (set all p b))) long in
        omega (arith, own, le, count)

-- ---- any step

ready_is : (all : List Actor) (p source k : ℕ) (item : Item) → slice_get ((seen fabric all p).ready source) k ≡ Some item → (c : Actor) × (slice_get all source ≡ Some c) × (slice_get (accepted_for c.state.tx p) k ≡ Some item)
unfolding fabric
ready_is all p source k item has = go (slice_get all source) refl has
  where
    go : (o : Option Actor) → slice_get all source ≡ o → slice_get (option_map_or (λ (a : Actor). accepted_for a.state.tx p) o []) k ≡ Some item → (c : Actor) × (slice_get all source ≡ Some c) × (slice_get (accepted_for c.state.tx p) k ≡ Some item)
    go None e has = absurd (cc)
    go (Some c) e has = (c, e, has)

sized_step : (n : ℕ) (a b : Actor) → Sized n a.state → Lowers a b → Sized n b.state
sized_step n a b sized l = record {
  accepted = l.count ∙ sized.accepted;
  sent = l.sent ∙ sized.sent;
  heads = ap length l.heads ∙ sized.heads;
  tails = l.tails ∙ sized.tails;
}

sized_arrived : (n source w : ℕ) (a b : Actor) → Sized n a.state → Arrives source w a.state b.state → Sized n b.state
sized_arrived n source w a b sized r = record {
  accepted = ap (λ (x : Transmitting). length x.accepted) r.tx ∙ sized.accepted;
  sent = ap (λ (x : Transmitting). length x.sent) r.tx ∙ sized.sent;
  heads = ap length r.heads ∙ length-set a.state.rx.heads source (slice_index a.state.rx.heads source + 1) ∙ sized.heads;
  tails = ap length r.tails ∙ sized.tails;
}

-- the work is less, and the lists by peer are as long
abbrev Less : List Actor → ℕ → Actor → Type 0
Less all p b = (work (set all p b) + 1 ≤ work all) × Sized (length all) b.state

by_step : (all : List Actor) (p : ℕ) (a b : Actor) (x : Step) → Sized (length all) a.state → slice_get all p ≡ Some a → Works (seen fabric all p) a x b → Less all p b
by_step all p a b Do sized here w = (lowers_all all p a b here w, sized_step (length all) a b sized w)
by_step all p a b (Head source) sized here (item, has, arrives, lines) =
    let r = ready_is all p source (slice_index a.state.rx.heads source) item has in
    let lt : source < length a.state.rx.heads = (let s = slice_get_within all source r.0 r.1 in let h = sized.heads in omega (arith, s, h)) in
    (arrives_all all p a b here source item r.0 r.1 r.2 (arrives lt) lines lt, sized_arrived (length all) source (item_work item) a b sized (arrives lt))
by_step all p a b (Tail source) sized here w = (lowers_all all p a b here w, sized_step (length all) a b sized w)
by_step all p a b (Step.Sent t) sized here w = (lowers_all all p a b here w, sized_step (length all) a b sized w)
by_step all p a b Draw sized here w = (lowers_all all p a b here w, sized_step (length all) a b sized w)
by_step all p a b Step.Read sized here w = (lowers_all all p a b here w, sized_step (length all) a b sized w)
by_step all p a b Final sized here w = (lowers_all all p a b here w, sized_step (length all) a b sized w)

-- ---- calm

calm_draws : (all : List Actor) (p : ℕ) (a : Actor) → is_calm (map facts all) ≡ true → slice_get all p ≡ Some a → draw_due a.state.rx ≡ false
unfolding is_calm
calm_draws all p a c e =
    let f : slice_get (map facts all) p ≡ Some (facts a) = slice_get-map facts all p ∙ ap (option_map facts) e in
    let b = and_parts _ _ (list_all_at (λ f. f.finished && not f.draw_due) (map facts all) p (facts a) (and_parts _ _ c).0 f) in
    not_true _ b.1

final_calm : (all : List Actor) (p : ℕ) (a b : Actor) → final_step (seen fabric all p) a ≡ Some b → is_calm (map facts all) ≡ true
unfolding final_step fabric
final_calm all p a b e = let i = if_is _ _ b e in (and_parts _ _ (and_parts _ _ i.0).0).0

enough : (all : List Actor) (p : ℕ) (a b : Actor) (x : Step) → Sized (length all) a.state → slice_get all p ≡ Some a → fabric.step (seen fabric all p) a x ≡ Some b → Enough (length all) x a
unfolding fabric step
enough all p a b Do sized here e = sized
enough all p a b (Head source) sized here e = sized
enough all p a b (Tail source) sized here e = sized
enough all p a b (Step.Sent t) sized here e = sized
enough all p a b Draw sized here e = sized
enough all p a b Step.Read sized here e = sized
enough all p a b Final sized here e = calm_draws all p a (final_calm all p a b e) here

-- ---- turns

-- the lists by peer of one peer are as long as there are peers
abbrev pub SizedAt : ℕ → List Actor → Type 0
SizedAt p all = (a : Actor) → slice_get all p ≡ Some a → Sized (length all) a.state

-- a turn of that peer lowers the work of all
turn_at : (all : List Actor) (p : ℕ) (x : Step) (b : Actor) → SizedAt p all → rule fabric all p x ≡ Some b → (work (set all p b) + 1 ≤ work all) × Sized (length all) b.state
turn_at all p x b sized stood =
    let is = views.rule_is fabric all p x b stood in
    let here = sized is.0 is.1 in
    by_step all p is.0 b x here is.1 (step_works (length all) (seen fabric all p) is.0 b x is.2 (enough all p is.0 b x here is.1 is.2))

pub turn_less : (all : List Actor) (p : ℕ) (x : Step) (b : Actor) → AreSized all → rule fabric all p x ≡ Some b → (work (set all p b) + 1 ≤ work all) × AreSized (set all p b)
turn_less all p x b sized stood =
    let r = turn_at all p x b (sized p) stood in
    let long = length-set all p b in (
      r.0,
      λ q c has. subst (λ n. Sized n c.state) (sym long) (elim (slice_get-set all p q b c has) [
        | inl before ↦ sized q c before
        | inr now ↦ subst (λ (y : Actor). Sized (length all) y.state) (sym now.1) r.1
      ]),
    )

-- each step that one peer takes lowers the work
pub leads_by : (p : ℕ) (steps : List Step) (all last : List Actor) → SizedAt p all → Leads (rule fabric) all (by p steps) last → work last + length steps ≤ work all
leads_by p [] all last sized leads = (let e = ap work leads in omega (arith, e))
leads_by p (x ∷ steps) all last sized (b, stood, rest) =
    let here = turn_at all p x b sized stood in
    let long = length-set all p b in
    let later = leads_by p steps (set all p b) last (λ c has. subst (λ n. Sized n c.state) (sym long) (elim (slice_get-set all p p b c has) [
      | inl before ↦ subst (λ (y : Actor). Sized (length all) y.state) (some_same b c (sym (slice_get-set_same all p b (slice_get_within all p c before)) ∙ has)) here.1
      | inr now ↦ subst (λ (y : Actor). Sized (length all) y.state) (sym now.1) here.1
    ])) rest in
    (let h = here.0 in omega (arith, h, later))

-- each turn lowers the work
pub leads_less : (turns : List (Turn Step)) (all last : List Actor) → AreSized all → Leads (rule fabric) all turns last → (work last + length turns ≤ work all) × AreSized last
leads_less [] all last sized leads = (let e = ap work leads in omega (arith, e), subst AreSized leads sized)
leads_less (t ∷ turns) all last sized (b, stood, rest) =
    let here = turn_less all t.peer t.step b sized stood in
    let later = leads_less turns (set all t.peer b) last here.1 rest in
    (let h = here.0 in let l = later.0 in omega (arith, h, l), later.1)

-- ---- the opening

no_items : (n : ℕ) (sent : List ℕ) → waiting (replicate n []) sent ≡ 0
no_items zero sent = refl
no_items (suc n) [] = omega (arith, no_items n [])
no_items (suc n) (k ∷ sent) = omega (arith, no_items n sent)

no_halves : (n : ℕ) (tails : List ℕ) → halves (replicate n 0) tails ≡ 0
no_halves zero tails = refl
no_halves (suc n) [] = omega (arith, no_halves n [])
no_halves (suc n) (k ∷ tails) = omega (arith, no_halves n tails)

none_coming : (n : ℕ) → heft coming_work (replicate n None) ≡ 0
none_coming zero = refl
none_coming (suc n) = omega (arith, none_coming n)

none_dropped : (k : ℕ) → heft item_work (drop k []) ≡ 0
none_dropped zero = refl
none_dropped (suc k) = refl

empty_at : (n q : ℕ) → get_or {A = List Item} (replicate n []) q [] ≡ []
empty_at zero q = refl
empty_at (suc n) zero = refl
empty_at (suc n) (suc q) = empty_at n q

none_way : (m n : ℕ) (at : ℕ → ℕ) → on_way m at (replicate n []) ≡ 0
unfolding on_way
none_way zero n at = refl
none_way (suc m) n at = let e = none_way m n at in let f = ap (λ xs. heft item_work (drop (at m) xs)) (empty_at n m) in let g = none_dropped (at m) in omega (arith, e, f, g)

none_waits : (n : ℕ) → heft {X = List Held} length (replicate n []) ≡ 0
none_waits zero = refl
none_waits (suc n) = omega (arith, none_waits n)

fresh_work : (conf : Conf) (lines : List Line) (n : ℕ) (at : ℕ → ℕ) → actor_work n at (newly conf lines) ≡ 21 * length lines
fresh_work conf lines n at = omega (arith, none_way n conf.peers at, no_items conf.peers (replicate conf.peers 0), no_halves conf.peers (replicate conf.peers 0), none_coming conf.peers, none_waits conf.peers)

pub fresh_sized : (conf : Conf) (lines : List Line) → Sized conf.peers (newly conf lines).state
fresh_sized conf lines = record {
  accepted = length-replicate {A = List Item} conf.peers [];
  sent = length-replicate {A = ℕ} conf.peers 0;
  heads = length-replicate {A = ℕ} conf.peers 0;
  tails = length-replicate {A = ℕ} conf.peers 0;
}

opening_long : (b : Bound) → length (opening b) ≡ b.script.conf.peers
unfolding opening
opening_long b = length-map (upto b.script.conf.peers) (λ p. newly b.script.conf (lines_of b p)) ∙ length-upto b.script.conf.peers

opening_at : (b : Bound) (p : ℕ) (a : Actor) → slice_get (opening b) p ≡ Some a → a ≡ newly b.script.conf (lines_of b p)
unfolding opening
opening_at b p a e = go (slice_get (upto b.script.conf.peers) p) refl (sym (slice_get-map (λ p. newly b.script.conf (lines_of b p)) (upto b.script.conf.peers) p) ∙ e)
  where
    go : (o : Option ℕ) → slice_get (upto b.script.conf.peers) p ≡ o → option_map (λ p. newly b.script.conf (lines_of b p)) o ≡ Some a → a ≡ newly b.script.conf (lines_of b p)
    go None e f = absurd (cc (f))
    go (Some k) e f = sym (some_same _ a f) ∙ ap (λ p. newly b.script.conf (lines_of b p)) (in_upto b.script.conf.peers p k e)

pub opening_sized : (b : Bound) → AreSized (opening b)
opening_sized b p a e = rw (opening_at b p a e, opening_long b) (fresh_sized b.script.conf (lines_of b p))

opening_work : (b : Bound) → work (opening b) ≤ 21 * lines_count b
unfolding work
opening_work b =
    let le = total_le (work_at (opening b)) (λ p. 21 * length (lines_of b p)) (length (opening b)) (λ p lt. go p (slice_get (opening b) p) refl) in
    let count = ap (total (λ p. 21 * length (lines_of b p))) (opening_long b) in
    let times = total_times (λ p. length (lines_of b p)) b.script.conf.peers in
    omega (arith, le, count, times)
  where
    total_times : (f : ℕ → ℕ) (n : ℕ) → total (λ p. 21 * f p) n ≡ 21 * total f n
    total_times f zero = refl
    total_times f (suc n) = let e = total_times f n in omega (arith, e)

    go : (p : ℕ) (o : Option Actor) → slice_get (opening b) p ≡ o → row (length (opening b)) (arrived (opening b) p) o ≤ 21 * length (lines_of b p)
    go p None e = omega arith
    go p (Some a) e =
        let is = opening_at b p a e in
        let w = ap (actor_work (length (opening b)) (arrived (opening b) p)) is ∙ fresh_work b.script.conf (lines_of b p) (length (opening b)) (arrived (opening b) p) in
        omega (arith, w)

pub ends_soon : EndsSoon
ends_soon bound turns states leads =
    let l = (leads_less turns (opening bound) states (opening_sized bound) leads).0 in
    let w = opening_work bound in
    omega (arith, l, w)
