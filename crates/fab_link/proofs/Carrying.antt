-- One frame is carried: what came and what is left stay the same, one after the other.
use Rattle.std.proofs.Common.{◌≡◌, ◌≢◌, ℕ, ◌<◌, ◌≤◌, ◌+◌, List, [], ◌∷◌, ◌++◌, length, take, refl, sym, ap, subst, ◌∙◌, inl, inr, get_or-set_other, get_or-set_same, append_assoc, get_or, length-set, arith, None}
use Rattle.std.specs.Prelude.{◌⊎◌, slice_set, slice_index_or}
use Rattle.std.proofs.lemmas.Bool.{cases_eq}
use Rattle.std.proofs.lemmas.List.{get_or_default}
use Rattle.std.proofs.lemmas.List.Sums.{sum_by-set, sum_by-le}
use Rattle.std.proofs.lemmas.List.Elements.{All-from_get_or}
use Rattle.std.specs.List.{sum_by, All}
use Rattle.fab_base.specs.declared.frames.Frame.{Frame}
use Rattle.fab_link.specs.Frames.{last_head, IsLane}
use Rattle.fab_link.proofs.Lanes.{last_head-push}
use Rattle.fab_link.specs.Plain.{Lane, Plain, lane_at, with_lane, left, fresh_lane, incoming}
use Rattle.fab_link.specs.Carry.{lane_of, pipe, left_count, AreAll, Continued}
use Rattle.fab_link.proofs.Looks.{same_lane, other_lane}

abbrev port_at : List Plain → ℕ → Plain
port_at ports k = slice_index_or ports k (record { number = 0; lanes = [] })

-- the ports with another lane of port k to peer d
abbrev pub lane_set : List Plain → ℕ → ℕ → Lane → List Plain
lane_set ports k d lane = slice_set ports k (with_lane (port_at ports k) d lane)

set_same : (ports : List Plain) (k d : ℕ) (lane : Lane) → k < length ports → d < length (port_at ports k).lanes
    → lane_of (lane_set ports k d lane) k d ≡ lane
set_same ports k d lane l m =
    ap (λ (p : Plain). lane_at p d) (get_or-set_same ports k (with_lane (port_at ports k) d lane) (record { number = 0; lanes = [] }) l)
    ∙ same_lane (port_at ports k) d lane m

set_other : (ports : List Plain) (k d j e : ℕ) (lane : Lane) → k < length ports → (j ≢ k) ⊎ (e ≢ d)
    → lane_of (lane_set ports k d lane) j e ≡ lane_of ports j e
set_other ports k d j e lane l (inl n) =
    ap (λ (p : Plain). lane_at p e) (get_or-set_other ports k j (with_lane (port_at ports k) d lane) (record { number = 0; lanes = [] }) n)
set_other ports k d j e lane l (inr n) = elim (cases_eq j k) [
  | inl h ↦ rw h (ap (λ (p : Plain). lane_at p e) (get_or-set_same ports k (with_lane (port_at ports k) d lane) (record { number = 0; lanes = [] }) l)
      ∙ other_lane (port_at ports k) d e lane n)
  | inr h ↦ ap (λ (p : Plain). lane_at p e) (get_or-set_other ports k j (with_lane (port_at ports k) d lane) (record { number = 0; lanes = [] }) h)
]

-- what the new lane has in common with the old one, every lane has
set_kept : {A : Type 0} (f : Lane → A) (ports : List Plain) (k d : ℕ) (lane : Lane) → k < length ports → d < length (port_at ports k).lanes
    → f lane ≡ f (lane_of ports k d) → (j e : ℕ) → f (lane_of (lane_set ports k d lane) j e) ≡ f (lane_of ports j e)
set_kept f ports k d lane l m h j e = elim (cases_eq j k) [
  | inl a ↦ elim (cases_eq e d) [
    | inl b ↦ rw (a, b) (ap f (set_same ports k d lane l m) ∙ h)
    | inr b ↦ ap f (set_other ports k d j e lane l (inr b))
  ]
  | inr a ↦ ap f (set_other ports k d j e lane l (inl a))
]

-- how many frames one port has left
abbrev left_of : Plain → ℕ
left_of p = sum_by (λ lane. length (left lane)) p.lanes

-- the count changes by what one lane has left
set_count : (ports : List Plain) (k d : ℕ) (lane : Lane) → k < length ports → d < length (port_at ports k).lanes
    → left_count (lane_set ports k d lane) + length (left (lane_of ports k d)) ≡ left_count ports + length (left lane)
set_count ports k d lane l m =
    omega (
      arith,
      sum_by-set left_of ports k (with_lane (port_at ports k) d lane) (record { number = 0; lanes = [] }) l,
      sum_by-set (λ (x : Lane). length (left x)) (port_at ports k).lanes d lane (fresh_lane None None) m,
    )

-- where no port has a frame left, the count is 0
pub left_count-none : (ports : List Plain) → AreAll ports
    → ((s r : ℕ) → s < length ports → r < length ports → left (lane_of ports s r) ≡ []) → left_count ports ≡ 0
left_count-none ports all none =
    let of_port : (k : ℕ) → k < length ports → left_of (port_at ports k) ≤ 0 = λ k l.
    let lanes : All (λ (x : Lane). length (left x) ≤ 0) (port_at ports k).lanes = All-from_get_or (λ (x : Lane). length (left x) ≤ 0) (port_at ports k).lanes (fresh_lane None None) (λ d m.
    let e : length (left (lane_of ports k d)) ≡ 0 = ap length (none k d l (omega (arith, all.lanes k l))) in omega (arith, e)
    ) in
    omega (arith, sum_by-le (λ (x : Lane). length (left x)) 0 (port_at ports k).lanes lanes)
    in
    let ports_none : All (λ (p : Plain). left_of p ≤ 0) ports = All-from_get_or (λ (p : Plain). left_of p ≤ 0) ports (record { number = 0; lanes = [] }) of_port in
    omega (arith, sum_by-le left_of 0 ports ports_none)

-- one frame went from `from` to `to`
pub record Went (ports mid new : List Plain) (from to : ℕ) (f g : Frame) (rest : List Frame) (brought taken : Lane) : Type 0 where
  pub mid_is : mid ≡ lane_set ports to from brought
  pub new_is : new ≡ lane_set mid from to taken
  pub from_in : from < length mid
  pub to_in : to < length ports
  pub from_lane : from < length (port_at ports to).lanes
  pub to_lane : to < length (port_at mid from).lanes
  pub brought_is : brought ≡ record (lane_of ports to from) { in_list = (lane_of ports to from).in_list ++ f ∷ [] }
  pub taken_is : taken ≡ record (lane_of mid from to) { moved = (lane_of mid from to).moved + 1 }
  pub first : left (lane_of ports from to) ≡ f ∷ rest
  pub out : left (lane_of mid from to) ≡ g ∷ left taken

pub first_of : (ports : List Plain) (from to : ℕ) (x : Plain) (f : Frame) (rest : List Frame) → from < length ports
    → left (lane_at (get_or ports from x) to) ≡ f ∷ rest → left (lane_of ports from to) ≡ f ∷ rest
first_of ports from to x f rest l h =
    ap (λ (p : Plain). left (lane_at p to)) (get_or_default ports from (record { number = 0; lanes = [] }) x l) ∙ h

lanes_mid : (ports : List Plain) (to from : ℕ) (a b : Plain) (brought : Lane) → to < length ports
    → ((k : ℕ) → k < length ports → length (port_at ports k).lanes ≡ length ports)
    → a ≡ port_at ports to → b ≡ with_lane a from brought
    → (k : ℕ) → k < length ports → length (port_at (slice_set ports to b) k).lanes ≡ length ports
lanes_mid ports to from a b brought m all at bi k l =
    let empty : Plain = record { number = 0; lanes = [] } in
    let size : length b.lanes ≡ length a.lanes = rw bi (length-set a.lanes from brought) in
    let was : length a.lanes ≡ length ports = rw at (all to m) in
    elim (cases_eq k to) [
      | inl h ↦ rw h (ap (λ (p : Plain). length p.lanes) (get_or-set_same ports to b empty m) ∙ (size ∙ was))
      | inr h ↦ ap (λ (p : Plain). length p.lanes) (get_or-set_other ports to k b empty h) ∙ all k l
    ]

-- the same from what the two calls say
pub went_of : (ports : List Plain) (from to : ℕ) (x a b y c d : Plain) (f g : Frame) (rest : List Frame)
    → from < length ports → to < length ports
    → ((k : ℕ) → k < length ports → length (port_at ports k).lanes ≡ length ports)
    → a ≡ get_or ports to x
    → b ≡ with_lane a from (record (lane_at a from) { in_list = (lane_at a from).in_list ++ f ∷ [] })
    → c ≡ get_or (slice_set ports to b) from y
    → (left (lane_at c to) ≡ g ∷ left (lane_at d to)) × (d ≡ with_lane c to (record (lane_at c to) { moved = (lane_at c to).moved + 1 }))
    → left (lane_of ports from to) ≡ f ∷ rest
    → Went ports (slice_set ports to b) (slice_set (slice_set ports to b) from d) from to f g rest
    (record (lane_at a from) { in_list = (lane_at a from).in_list ++ f ∷ [] })
    (record (lane_at c to) { moved = (lane_at c to).moved + 1 })
went_of ports from to x a b y c d f g rest l m all ai bi ci di first =
    let empty : Plain = record { number = 0; lanes = [] } in
    let mid = slice_set ports to b in
    let at : a ≡ port_at ports to = ai ∙ get_or_default ports to x empty m in
    let long : length mid ≡ length ports = length-set ports to b in
    let ct : c ≡ port_at mid from = ci ∙ get_or_default mid from y empty (omega (arith, long)) in
    let brought : Lane = record (lane_at a from) { in_list = (lane_at a from).in_list ++ f ∷ [] } in
    let taken : Lane = record (lane_at c to) { moved = (lane_at c to).moved + 1 } in
    let wide : to < length c.lanes = rw ct (rw (lanes_mid ports to from a b brought m all at bi from l) m) in
    let d_lane : lane_at d to ≡ taken = rw di.1 (same_lane c to taken wide) in
    record {
      mid_is = ap (λ (x : Plain). slice_set ports to x) bi ∙ ap (λ (x : Plain). slice_set ports to (with_lane x from brought)) at;
      new_is = ap (λ (x : Plain). slice_set mid from x) di.1 ∙ ap (λ (x : Plain). slice_set mid from (with_lane x to taken)) ct;
      from_in = omega (arith, long);
      to_in = m;
      from_lane = omega (arith, all to m);
      to_lane = omega (arith, lanes_mid ports to from a b brought m all at bi from l);
      brought_is = ap (λ (x : Plain). let y : Lane = record (lane_at x from) { in_list = (lane_at x from).in_list ++ f ∷ [] } in y) at;
      taken_is = ap (λ (x : Plain). let y : Lane = record (lane_at x to) { moved = (lane_at x to).moved + 1 } in y) ct;
      first = first;
      out = ap (λ (x : Plain). left (lane_at x to)) (sym ct) ∙ (di.0 ∙ ap (λ (x : Lane). g ∷ left x) d_lane);
    }

-- what was taken of the lane stays when a frame is brought to it
pub taken_of : (ports : List Plain) (from to : ℕ) (x a b : Plain) (f : Frame)
    → from < length ports → to < length ports
    → ((k : ℕ) → k < length ports → length (port_at ports k).lanes ≡ length ports)
    → a ≡ get_or ports to x
    → b ≡ with_lane a from (record (lane_at a from) { in_list = (lane_at a from).in_list ++ f ∷ [] })
    → (incoming (lane_at b from)).taken ≡ (incoming (lane_at a from)).taken
    → take (lane_at a from).taken ((lane_at a from).in_list ++ f ∷ []) ≡ (incoming (lane_of ports to from)).taken
taken_of ports from to x a b f l m all ai bi h =
    let at : a ≡ port_at ports to = ai ∙ get_or_default ports to x (record { number = 0; lanes = [] }) m in
    let brought : Lane = record (lane_at a from) { in_list = (lane_at a from).in_list ++ f ∷ [] } in
    let wide : from < length a.lanes = rw at (rw (all to m) l) in
    let lane : lane_at b from ≡ brought = ap (λ (p : Plain). lane_at p from) bi ∙ same_lane a from brought wide in
    ap (λ (y : Lane). (incoming y).taken) (sym lane) ∙ h ∙ ap (λ (p : Plain). (incoming (lane_at p from)).taken) at

module _ (ports mid new : List Plain) (from to : ℕ) (f g : Frame) (rest : List Frame) (brought taken : Lane)
    (w : Went ports mid new from to f g rest brought taken) where
  left_mid : (j e : ℕ) → left (lane_of mid j e) ≡ left (lane_of ports j e)
  left_mid j e = rw w.mid_is (set_kept (λ (x : Lane). left x) ports to from brought w.to_in w.from_lane (rw w.brought_is refl) j e)

  in_new : (j e : ℕ) → (lane_of new j e).in_list ≡ (lane_of mid j e).in_list
  in_new j e = rw w.new_is (set_kept (λ (x : Lane). x.in_list) mid from to taken w.from_in w.to_lane (rw w.taken_is refl) j e)

  rest_is : left (lane_of new from to) ≡ rest
  rest_is =
      let a : g ∷ left taken ≡ f ∷ rest = sym w.out ∙ (left_mid from to ∙ w.first) in
      let b : lane_of new from to ≡ taken = rw w.new_is (set_same mid from to taken w.from_in w.to_lane) in
      let c : left taken ≡ rest = cc in
      rw b c

  came_is : (lane_of new to from).in_list ≡ (lane_of ports to from).in_list ++ f ∷ []
  came_is =
      in_new to from
      ∙ (rw w.mid_is (ap (λ (x : Lane). x.in_list) (set_same ports to from brought w.to_in w.from_lane))
      ∙ ap (λ (x : Lane). x.in_list) w.brought_is)

  both : pipe new from to ≡ pipe ports from to
  both =
      let was = (lane_of ports to from).in_list in
      let a : (was ++ f ∷ []) ++ rest ≡ was ++ (f ∷ rest) = append_assoc was (f ∷ []) rest in
      cc (came_is, rest_is, w.first, a)

  apart : (s r : ℕ) → (s ≢ from) ⊎ (r ≢ to) → pipe new s r ≡ pipe ports s r
  apart s r n =
      let m : (r ≢ to) ⊎ (s ≢ from) = elim n [ inl x ↦ inr x | inr x ↦ inl x ] in
      let a : (lane_of mid r s).in_list ≡ (lane_of ports r s).in_list =
      rw w.mid_is (ap (λ (x : Lane). x.in_list) (set_other ports to from r s brought w.to_in m)) in
      let b : left (lane_of new s r) ≡ left (lane_of mid s r) =
      rw w.new_is (ap (λ (x : Lane). left x) (set_other mid from to s r taken w.from_in n)) in
      cc (in_new r s, a, b, left_mid s r)

  pub went_others : (s r : ℕ) → (s ≢ from) ⊎ (r ≢ to) → (left (lane_of new s r) ≡ left (lane_of ports s r)) × ((lane_of new r s).in_list ≡ (lane_of ports r s).in_list)
  went_others s r n =
      let m : (r ≢ to) ⊎ (s ≢ from) = elim n [ inl x ↦ inr x | inr x ↦ inl x ] in
      let a : (lane_of mid r s).in_list ≡ (lane_of ports r s).in_list =
      rw w.mid_is (ap (λ (x : Lane). x.in_list) (set_other ports to from r s brought w.to_in m)) in
      let b : left (lane_of new s r) ≡ left (lane_of mid s r) =
      rw w.new_is (ap (λ (x : Lane). left x) (set_other mid from to s r taken w.from_in n)) in
      (b ∙ left_mid s r, in_new r s ∙ a)

  pub went_taken : (incoming brought).taken ≡ (incoming (lane_of ports to from)).taken → (k d : ℕ) → (incoming (lane_of new k d)).taken ≡ (incoming (lane_of ports k d)).taken
  went_taken h k d =
      let a : (incoming (lane_of new k d)).taken ≡ (incoming (lane_of mid k d)).taken =
      rw w.new_is (set_kept (λ (x : Lane). (incoming x).taken) mid from to taken w.from_in w.to_lane (rw w.taken_is refl) k d) in
      a ∙ rw w.mid_is (set_kept (λ (x : Lane). (incoming x).taken) ports to from brought w.to_in w.from_lane h k d)

  pub went_kept : (s r : ℕ) → pipe new s r ≡ pipe ports s r
  went_kept s r = elim (cases_eq s from) [
    | inl a ↦ elim (cases_eq r to) [ inl b ↦ rw (a, b) both | inr b ↦ apart s r (inr b) ]
    | inr a ↦ apart s r (inl a)
  ]

  pub went_continued : Continued ports from to → Continued new from to
  went_continued c =
      let after = (lane_of new to from).in_after in
      let was = (lane_of ports to from).in_list in
      let next = rw w.first at c in
      let h : IsLane (last_head after (was ++ f ∷ [])) rest = rw (last_head-push after was f) next.1 in
      subst (λ (x : List Frame). IsLane (last_head after x) (left (lane_of new from to))) (sym came_is)
      (subst (λ (y : List Frame). IsLane (last_head after (was ++ f ∷ [])) y) (sym rest_is) h)

  pub went_counted : left_count new + 1 ≡ left_count ports
  went_counted =
      let a : left_count mid ≡ left_count ports =
      rw w.mid_is (
      let h = set_count ports to from brought w.to_in w.from_lane in
      let same : length (left brought) ≡ length (left (lane_of ports to from)) = ap (λ (x : Lane). length (left x)) w.brought_is in
      omega (arith, h, same)
      ) in
      let b : left_count new + length (left (lane_of mid from to)) ≡ left_count mid + length (left taken) =
      rw w.new_is (set_count mid from to taken w.from_in w.to_lane) in
      let c : length (left (lane_of mid from to)) ≡ length (left taken) + 1 = rw w.out (omega arith) in
      omega (arith, a, b, c)
