-- One frame is carried: it is moved out of one port, and brought to another.
use Rattle.std.proofs.Common.{◌≡◌, ◌≢◌, ◌<◌, ◌≤◌, ◌+◌, ◌⊎◌, ℕ, zero, suc, List, [], ◌∷◌, ◌++◌, length, length-drop, take, drop, append_assoc, Option, Some, None, inl, inr, refl, sym, ap, subst, ◌∙◌, arith, length-set, get_or}
use std.Path.{fun_ext}
use Rattle.std.specs.Prelude.{slice_get, slice_set}
use Rattle.std.proofs.lemmas.Bool.{cases_eq}
use Rattle.std.proofs.lemmas.List.{map-set}
use Rattle.std.proofs.lemmas.Option.{slice_get_within}
use Rattle.fab_base.specs.declared.frames.Frame.{Frame}
use Rattle.fab_base.specs.declared.frames.FrameHead.{FrameHead}
use Rattle.fab_link.specs.Frames.{MayCome, last_head}
use Rattle.fab_link.proofs.Lanes.{IsLane-at, last_head-append as last_behind, lane_rest as lane_behind}
use Rattle.fab_link.specs.Plain.{Lane, Plain, Posted, lane_at, with_lane, left, in_of, out_of}
use Rattle.fab_link.proofs.Looks.{same_lane, other_lane}
use Rattle.fab_model.specs.Peers.{Actor}
use Rattle.fab_model.proofs.Turns.{slice_get-set_other, slice_get-set_same}
use Rattle.fab_face.specs.Held.{Held}
use Rattle.fab_ep.specs.Value.{Whole}
use Rattle.fab_peer.specs.Agreed.{Agrees}
use Rattle.fab_peer.specs.Turns.{Living, IsCounted}
use Rattle.fab_finish.specs.Joined.{Member, member_actor, member_steps, actors, schedules, lane, IsOwn, IsJoined}
use Rattle.fab_finish.proofs.Joining.{set_itself, lane_is, lane_own, lane_other}

-- ---- lists

-- one member more of those behind the first m
take_next : {X : Type 0} (m : ℕ) (xs : List X) (x : X) (rest : List X) → drop m xs ≡ x ∷ rest → take (m + 1) xs ≡ take m xs ++ x ∷ []
take_next {X} m xs x rest e = (let one : m + 1 ≡ suc m = omega arith in ap (λ n. take n xs) one) ∙ go m xs e
  where
    go : (n : ℕ) (ys : List X) → drop n ys ≡ x ∷ rest → take (suc n) ys ≡ take n ys ++ x ∷ []
    go zero [] e = absurd (cc)
    go zero (y ∷ ys) e = let is : y ≡ x = cc in ap (λ (z : X). z ∷ []) is
    go (suc n) [] e = absurd (cc)
    go (suc n) (y ∷ ys) e = ap (λ zs. y ∷ zs) (go n ys e)

first_at : {X : Type 0} (m : ℕ) (xs : List X) (x d : X) (rest : List X) → drop m xs ≡ x ∷ rest → (m < length xs) × (get_or xs m d ≡ x)
first_at zero [] x d rest e = absurd (cc)
first_at zero (y ∷ xs) x d rest e = (omega arith, cc)
first_at (suc m) [] x d rest e = absurd (cc)
first_at (suc m) (y ∷ xs) x d rest e = let r = first_at m xs x d rest e in (let l = r.0 in omega (arith, l), r.1)

-- ---- an endpoint whose port differs in what came and in what was moved out

pub record Keeps (p q : Plain) : Type 0 where
  pub lanes : length q.lanes ≡ length p.lanes
  pub out : (d : ℕ) → (lane_at q d).out ≡ (lane_at p d).out
  pub in_after : (s : ℕ) → (lane_at q s).in_after ≡ (lane_at p s).in_after
  pub taken : (s : ℕ) → (in_of q s).taken ≡ (in_of p s).taken

-- a field of every lane, where the new lane has it too
port_field : {A : Type 0} (f : Lane → A) (p : Plain) (d : ℕ) (new : Lane) → d < length p.lanes → f new ≡ f (lane_at p d) → (j : ℕ) → f (lane_at (with_lane p d new) j) ≡ f (lane_at p j)
port_field f p d new below same j = elim (cases_eq j d) [
  | inl here ↦ subst (λ i. f (lane_at (with_lane p d new) i) ≡ f (lane_at p i)) (sym here) (ap f (same_lane p d new below) ∙ same)
  | inr there ↦ ap f (other_lane p d j new there)
]

pub keeps_of : (p q : Plain) (d : ℕ) (new : Lane) → q ≡ with_lane p d new → d < length p.lanes → new.out ≡ (lane_at p d).out → new.in_after ≡ (lane_at p d).in_after → take new.taken new.in_list ≡ take (lane_at p d).taken (lane_at p d).in_list → Keeps p q
keeps_of p q d new is below out after taken = subst (λ (x : Plain). Keeps p x) (sym is) (record {
  lanes = length-set p.lanes d new;
  out = port_field (λ (l : Lane). l.out) p d new below out;
  in_after = port_field (λ (l : Lane). l.in_after) p d new below after;
  taken = port_field (λ (l : Lane). take l.taken l.in_list) p d new below taken;
})

module _ (ps : List Member) (k : ℕ) (a : Member) (e : Whole Plain) (is_a : slice_get ps k ≡ Some a) (rest : e ≡ record a.endpoint { port = e.port }) (keeps : Keeps a.endpoint.port e.port) where
  b : Member
  b = record a { endpoint = e }

  pub below : k < length ps
  below = slice_get_within ps k a is_a

  held_is : e.held ≡ a.endpoint.held
  held_is = ap (λ (x : Whole Plain). x.held) rest

  actor_is : member_actor (record a { endpoint = e }) ≡ member_actor a
  actor_is = ap (λ (h : Held). let x : Actor = record { state = h.state; lines = a.lines; results = a.results.items; kept = a.kept } in x) held_is

  pub kept_actors : actors (slice_set ps k (record a { endpoint = e })) ≡ actors ps
  kept_actors =
      map-set member_actor ps k (record a { endpoint = e }) ∙ ap (slice_set (actors ps) k) actor_is ∙ sym (map-set member_actor ps k a) ∙ ap actors (set_itself ps k a is_a)

  pub kept_schedules : schedules (slice_set ps k (record a { endpoint = e })) ≡ schedules ps
  kept_schedules = map-set member_steps ps k (record a { endpoint = e }) ∙ sym (map-set member_steps ps k a) ∙ ap schedules (set_itself ps k a is_a)

  own_here : (ins outs : ℕ → List Frame) → IsOwn (length ps) ins outs a → ((d : ℕ) → (lane_at e.port d).moved ≤ length (lane_at e.port d).out.frames) → IsOwn (length ps) ins outs (record a { endpoint = e })
  own_here ins outs own moved =
      let taken : (λ s. ins s ++ (in_of a.endpoint.port s).taken) ≡ (λ s. ins s ++ (in_of e.port s).taken) = fun_ext (λ s. ap (λ fs. ins s ++ fs) (sym (keeps.taken s))) in
      let posted : (λ d. outs d ++ (out_of a.endpoint.port d).frames) ≡ (λ d. outs d ++ (out_of e.port d).frames) = fun_ext (λ d. ap (λ (o : Posted). outs d ++ o.frames) (sym (keeps.out d))) in
      record {
        log = ap (λ (x : Whole Plain). x.log) rest ∙ own.log;
        counted = subst (λ (h : Held). let x : Living = record { held = h; lines = a.lines; results = a.results.items; kept = a.kept } in IsCounted x) (sym held_is) own.counted;
        lanes = keeps.lanes ∙ own.lanes;
        agrees = subst (λ (h : Held). Agrees (length ps) h (λ s. ins s ++ (in_of e.port s).taken) (λ d. outs d ++ (out_of e.port d).frames)) (sym held_is)
            (subst (λ (t : ℕ → List Frame). Agrees (length ps) a.endpoint.held t (λ d. outs d ++ (out_of e.port d).frames)) taken
            (subst (λ (o : ℕ → List Frame). Agrees (length ps) a.endpoint.held (λ s. ins s ++ (in_of a.endpoint.port s).taken) o) posted own.agrees));
        moved = moved;
        out_after = λ d. ap (λ (o : Posted). o.after) (keeps.out d) ∙ own.out_after d;
        in_after = λ s. keeps.in_after s ∙ own.in_after s;
      }

  pub kept_own : (ins outs : ℕ → ℕ → List Frame) → ((j : ℕ) (p : Member) → slice_get ps j ≡ Some p → IsOwn (length ps) (ins j) (outs j) p) → ((d : ℕ) → (lane_at e.port d).moved ≤ length (lane_at e.port d).out.frames)
      → (j : ℕ) (p : Member) → slice_get (slice_set ps k (record a { endpoint = e })) j ≡ Some p → IsOwn (length (slice_set ps k (record a { endpoint = e }))) (ins j) (outs j) p
  kept_own ins outs own moved j p has = subst (λ n. IsOwn n (ins j) (outs j) p) (sym (length-set ps k (record a { endpoint = e }))) (elim (cases_eq j k) [
    | inl here ↦ (
        let is : Some p ≡ Some (record a { endpoint = e }) = sym has ∙ ap (slice_get (slice_set ps k (record a { endpoint = e }))) here ∙ slice_get-set_same ps k (record a { endpoint = e }) below in
        let same : p ≡ record a { endpoint = e } = cc in
        subst (λ i. IsOwn (length ps) (ins i) (outs i) p) (sym here) (subst (λ (x : Member). IsOwn (length ps) (ins k) (outs k) x) (sym same) (own_here (ins k) (outs k) (own k a is_a) moved)))
    | inr there ↦ own j p (sym (slice_get-set_other ps k j (record a { endpoint = e }) (λ i. there (sym i))) ∙ has)
  ])

  -- the lane that differs, and the others
  module _ (d : ℕ) (new : Lane) (within : d < length a.endpoint.port.lanes) (port : e.port ≡ with_lane a.endpoint.port d new) where
    pub lane_here : lane (slice_set ps k (record a { endpoint = e })) k d ≡ new
    lane_here = lane_own ps k d (record a { endpoint = e }) below ∙ ap (λ (q : Plain). lane_at q d) port ∙ same_lane a.endpoint.port d new within

    pub lane_there : (j i : ℕ) → (j ≢ k) ⊎ (i ≢ d) → lane (slice_set ps k (record a { endpoint = e })) j i ≡ lane ps j i
    lane_there j i (inl other) = lane_other ps k j i (record a { endpoint = e }) other
    lane_there j i (inr other) = elim (cases_eq j k) [
      | inl here ↦ subst (λ m. lane (slice_set ps k (record a { endpoint = e })) m i ≡ lane ps m i) (sym here)
          (lane_own ps k i (record a { endpoint = e }) below ∙ ap (λ (q : Plain). lane_at q i) port ∙ other_lane a.endpoint.port d i new other ∙ sym (lane_is ps k i a is_a))
      | inr there ↦ lane_other ps k j i (record a { endpoint = e }) there
    ]

    -- a field that the new lane has too
    pub lane_field : {A : Type 0} (f : Lane → A) → f new ≡ f (lane_at a.endpoint.port d) → (j i : ℕ) → f (lane (slice_set ps k (record a { endpoint = e })) j i) ≡ f (lane ps j i)
    lane_field f same j i = elim (cases_eq j k) [
      | inr other ↦ ap f (lane_there j i (inl other))
      | inl here ↦ elim (cases_eq i d) [
        | inr other ↦ ap f (lane_there j i (inr other))
        | inl at ↦ subst (λ m. f (lane (slice_set ps k (record a { endpoint = e })) m i) ≡ f (lane ps m i)) (sym here)
            (subst (λ m. f (lane (slice_set ps k (record a { endpoint = e })) k m) ≡ f (lane ps k m)) (sym at) (ap f lane_here ∙ same ∙ ap f (sym (lane_is ps k d a is_a))))
      ]
    ]

-- nothing was left
pub none_left : (ps : List Member) (from to : ℕ) (a : Member) (e : Whole Plain) → from < length ps → left (lane_at a.endpoint.port to) ≡ [] → e ≡ a.endpoint → left (lane (slice_set ps from (record a { endpoint = e })) from to) ≡ []
none_left ps from to a e below none same = ap left (lane_own ps from to (record a { endpoint = e }) below) ∙ ap (λ (x : Whole Plain). left (lane_at x.port to)) same ∙ none

pub none_joined : (ps : List Member) (from : ℕ) (a : Member) (e : Whole Plain) → slice_get ps from ≡ Some a → e ≡ a.endpoint → IsJoined ps → IsJoined (slice_set ps from (record a { endpoint = e }))
none_joined ps from a e is_a same joined_ps = subst (λ (x : Whole Plain). IsJoined (slice_set ps from (record a { endpoint = x }))) (sym same) (subst IsJoined (sym (set_itself ps from a is_a)) joined_ps)

-- ---- both

module _ (ps : List Member) (from to : ℕ) (a q : Member) (e u : Whole Plain) (f : Frame) (joined_ps : IsJoined ps) (is_a : slice_get ps from ≡ Some a) (in_to : to < length ps)
    (rest_out : e ≡ record a.endpoint { port = e.port }) (first : left (lane_at a.endpoint.port to) ≡ f ∷ left (lane_at e.port to))
    (out : e.port ≡ with_lane a.endpoint.port to (record (lane_at a.endpoint.port to) { moved = (lane_at a.endpoint.port to).moved + 1 })) where
  abbrev pub mid : List Member
  mid = slice_set ps from (record a { endpoint = e })

  moved_lane : Lane
  moved_lane = record (lane_at a.endpoint.port to) { moved = (lane_at a.endpoint.port to).moved + 1 }

  wide : to < length a.endpoint.port.lanes
  wide = let own = joined_ps.own from a is_a in omega (arith, in_to, own.lanes)

  keeps_out : Keeps a.endpoint.port e.port
  unfolding moved_lane
  keeps_out = keeps_of a.endpoint.port e.port to moved_lane out wide refl refl refl

  -- as much is moved out as was posted at most
  moved_within : (d : ℕ) → (lane_at e.port d).moved ≤ length (lane_at e.port d).out.frames
  unfolding moved_lane
  moved_within d =
      let own = joined_ps.own from a is_a in
      let at = first_at (lane_at a.endpoint.port to).moved (lane_at a.endpoint.port to).out.frames f f (left (lane_at e.port to)) first in
      elim (cases_eq d to) [
        | inl here ↦ (
            let lane_is_it : lane_at e.port to ≡ moved_lane = ap (λ (p : Plain). lane_at p to) out ∙ same_lane a.endpoint.port to moved_lane wide in
            subst (λ i. (lane_at e.port i).moved ≤ length (lane_at e.port i).out.frames) (sym here)
            (subst (λ (l : Lane). l.moved ≤ length l.out.frames) (sym lane_is_it) (let less = at.0 in omega (arith, less))))
        | inr there ↦ (
            let same : lane_at e.port d ≡ lane_at a.endpoint.port d = ap (λ (p : Plain). lane_at p d) out ∙ other_lane a.endpoint.port to d moved_lane there in
            subst (λ (l : Lane). l.moved ≤ length l.out.frames) (sym same) (own.moved d))
      ]

  -- the receiver's port has a lane for the sender
  pub wide_q : slice_get (slice_set ps from (record a { endpoint = e })) to ≡ Some q → from < length ps → from < length q.endpoint.port.lanes
  wide_q is_q in_from =
      let own = kept_own ps from a e is_a rest_out keeps_out joined_ps.ins joined_ps.outs joined_ps.own moved_within to q is_q in
      let many : length (slice_set ps from (record a { endpoint = e })) ≡ length ps = length-set ps from (record a { endpoint = e }) in
      omega (arith, in_from, own.lanes, many)

  -- the frame may come behind what came
  pub may_come : slice_get (slice_set ps from (record a { endpoint = e })) to ≡ Some q → MayCome (last_head (lane_at q.endpoint.port from).in_after (lane_at q.endpoint.port from).in_list) f
  unfolding moved_lane
  may_come is_q =
      let own = joined_ps.own from a is_a in
      let m = (lane_at a.endpoint.port to).moved in
      let frames = (lane_at a.endpoint.port to).out.frames in
      let at = first_at m frames f f (left (lane_at e.port to)) first in
      let before = joined_ps.outs from to in
      let comes : MayCome (last_head (last_head None before) (take m frames)) (get_or frames m f) = IsLane-at (last_head None before) frames m f (lane_behind None before frames (own.agrees.cut to in_to)) at.0 in
      let all_own = kept_own ps from a e is_a rest_out keeps_out joined_ps.ins joined_ps.outs joined_ps.own moved_within in
      let came : joined_ps.ins to from ++ (lane_at q.endpoint.port from).in_list ≡ before ++ take m frames =
      ap (λ (l : Lane). joined_ps.ins to from ++ l.in_list) (sym (lane_is mid to from q is_q))
      ∙ ap (λ fs. joined_ps.ins to from ++ fs) (lane_field ps from a e is_a rest_out keeps_out to moved_lane wide out (λ (l : Lane). l.in_list) refl to from) ∙ joined_ps.came from to in_to
      ∙ ap (λ (l : Lane). before ++ take l.moved l.out.frames) (lane_is ps from to a is_a) in
      let after : (lane_at q.endpoint.port from).in_after ≡ last_head None (joined_ps.ins to from) = (all_own to q is_q).in_after from in
      let end : last_head (lane_at q.endpoint.port from).in_after (lane_at q.endpoint.port from).in_list ≡ last_head (last_head None before) (take m frames) =
      ap (λ (x : Option FrameHead). last_head x (lane_at q.endpoint.port from).in_list) after ∙ sym (last_behind None (joined_ps.ins to from) (lane_at q.endpoint.port from).in_list) ∙ ap (last_head None) came
      ∙ last_behind None before (take m frames) in
      subst (λ (x : Option FrameHead). MayCome x f) (sym end) (subst (λ (x : Frame). MayCome (last_head (last_head None before) (take m frames)) x) at.1 comes)

  module _ (is_q : slice_get (slice_set ps from (record a { endpoint = e })) to ≡ Some q) (rest_in : u ≡ record q.endpoint { port = u.port })
      (brought : u.port ≡ with_lane q.endpoint.port from (record (lane_at q.endpoint.port from) { in_list = (lane_at q.endpoint.port from).in_list ++ f ∷ [] }))
      (taken : (s : ℕ) → (in_of u.port s).taken ≡ (in_of q.endpoint.port s).taken) (in_from : from < length ps) where
    abbrev pub new : List Member
    new = slice_set (slice_set ps from (record a { endpoint = e })) to (record q { endpoint = u })

    came_lane : Lane
    came_lane = record (lane_at q.endpoint.port from) { in_list = (lane_at q.endpoint.port from).in_list ++ f ∷ [] }

    own_mid : (j : ℕ) (p : Member) → slice_get mid j ≡ Some p → IsOwn (length mid) (joined_ps.ins j) (joined_ps.outs j) p
    own_mid = kept_own ps from a e is_a rest_out keeps_out joined_ps.ins joined_ps.outs joined_ps.own moved_within

    wide_in : from < length q.endpoint.port.lanes
    wide_in = let own = own_mid to q is_q in let long : length mid ≡ length ps = length-set ps from (record a { endpoint = e }) in omega (arith, in_from, own.lanes, long)

    keeps_in : Keeps q.endpoint.port u.port
    unfolding came_lane
    keeps_in =
        let there : lane_at u.port from ≡ came_lane = ap (λ (p : Plain). lane_at p from) brought ∙ same_lane q.endpoint.port from came_lane wide_in in
        keeps_of q.endpoint.port u.port from came_lane brought wide_in refl refl (ap (λ (l : Lane). take l.taken l.in_list) (sym there) ∙ taken from)

    moved_in : (d : ℕ) → (lane_at u.port d).moved ≤ length (lane_at u.port d).out.frames
    unfolding came_lane
    moved_in d =
        let own = own_mid to q is_q in
        let moved : (lane_at u.port d).moved ≡ (lane_at q.endpoint.port d).moved = ap (λ (p : Plain). (lane_at p d).moved) brought ∙ port_field (λ (l : Lane). l.moved) q.endpoint.port from came_lane wide_in refl d in
        let frames : (lane_at u.port d).out ≡ (lane_at q.endpoint.port d).out = keeps_in.out d in
        let count = ap (λ (o : Posted). length o.frames) frames in
        let before = own.moved d in
        omega (arith, moved, count, before)

    pub carried_actors : actors new ≡ actors ps
    carried_actors = kept_actors (slice_set ps from (record a { endpoint = e })) to q u is_q rest_in keeps_in ∙ kept_actors ps from a e is_a rest_out keeps_out

    pub carried_schedules : schedules new ≡ schedules ps
    carried_schedules = kept_schedules (slice_set ps from (record a { endpoint = e })) to q u is_q rest_in keeps_in ∙ kept_schedules ps from a e is_a rest_out keeps_out

    long_new : length new ≡ length ps
    long_new = length-set (slice_set ps from (record a { endpoint = e })) to (record q { endpoint = u }) ∙ length-set ps from (record a { endpoint = e })

    -- fields that no lane changes, and the two that one lane does
    out_all : (j i : ℕ) → (lane new j i).out ≡ (lane ps j i).out
    unfolding came_lane moved_lane
    out_all j i =
        lane_field (slice_set ps from (record a { endpoint = e })) to q u is_q rest_in keeps_in from came_lane wide_in brought (λ (l : Lane). l.out) refl j i
        ∙ lane_field ps from a e is_a rest_out keeps_out to moved_lane wide out (λ (l : Lane). l.out) refl j i

    moved_mid : (j i : ℕ) → (lane new j i).moved ≡ (lane mid j i).moved
    unfolding came_lane
    moved_mid j i = lane_field (slice_set ps from (record a { endpoint = e })) to q u is_q rest_in keeps_in from came_lane wide_in brought (λ (l : Lane). l.moved) refl j i

    in_mid : (j i : ℕ) → (lane mid j i).in_list ≡ (lane ps j i).in_list
    unfolding moved_lane
    in_mid j i = lane_field ps from a e is_a rest_out keeps_out to moved_lane wide out (λ (l : Lane). l.in_list) refl j i

    moved_there : (s r : ℕ) → (s ≢ from) ⊎ (r ≢ to) → (lane new s r).moved ≡ (lane ps s r).moved
    unfolding moved_lane
    moved_there s r other = moved_mid s r ∙ ap (λ (l : Lane). l.moved) (lane_there ps from a e is_a rest_out keeps_out to moved_lane wide out s r other)

    moved_here : (lane new from to).moved ≡ (lane ps from to).moved + 1
    unfolding moved_lane
    moved_here =
        moved_mid from to ∙ ap (λ (l : Lane). l.moved) (lane_here ps from a e is_a rest_out keeps_out to moved_lane wide out) ∙ ap (λ (l : Lane). l.moved + 1) (sym (lane_is ps from to a is_a))

    in_there : (r s : ℕ) → (r ≢ to) ⊎ (s ≢ from) → (lane new r s).in_list ≡ (lane ps r s).in_list
    unfolding came_lane
    in_there r s other = ap (λ (l : Lane). l.in_list) (lane_there (slice_set ps from (record a { endpoint = e })) to q u is_q rest_in keeps_in from came_lane wide_in brought r s other) ∙ in_mid r s

    in_here : (lane new to from).in_list ≡ (lane ps to from).in_list ++ f ∷ []
    unfolding came_lane
    in_here =
        ap (λ (l : Lane). l.in_list) (lane_here (slice_set ps from (record a { endpoint = e })) to q u is_q rest_in keeps_in from came_lane wide_in brought)
        ∙ ap (λ (l : Lane). l.in_list ++ f ∷ []) (sym (lane_is (slice_set ps from (record a { endpoint = e })) to from q is_q)) ∙ ap (λ fs. fs ++ f ∷ []) (in_mid to from)

    -- what was first of those left
    first_left : drop (lane ps from to).moved (lane ps from to).out.frames ≡ f ∷ left (lane_at e.port to)
    first_left = ap (λ (l : Lane). left l) (lane_is ps from to a is_a) ∙ first

    came_at : (s r : ℕ) → r < length ps → joined_ps.ins r s ++ (lane new r s).in_list ≡ joined_ps.outs s r ++ take (lane new s r).moved (lane new s r).out.frames
    came_at s r within = elim (cases_eq s from) [
      | inr other ↦ through s r (inl other) within
      | inl is_from ↦ elim (cases_eq r to) [
        | inr other ↦ through s r (inr other) within
        | inl is_to ↦ subst (λ i. joined_ps.ins r i ++ (lane new r i).in_list ≡ joined_ps.outs i r ++ take (lane new i r).moved (lane new i r).out.frames) (sym is_from)
            (subst (λ i. joined_ps.ins i from ++ (lane new i from).in_list ≡ joined_ps.outs from i ++ take (lane new from i).moved (lane new from i).out.frames) (sym is_to)
            (ap (λ fs. joined_ps.ins to from ++ fs) in_here ∙ sym (append_assoc (joined_ps.ins to from) (lane ps to from).in_list (f ∷ [])) ∙ ap (λ fs. fs ++ f ∷ []) (joined_ps.came from to in_to)
            ∙ append_assoc (joined_ps.outs from to) (take (lane ps from to).moved (lane ps from to).out.frames) (f ∷ [])
            ∙ ap (λ fs. joined_ps.outs from to ++ fs)
            (sym (take_next (lane ps from to).moved (lane ps from to).out.frames f (left (lane_at e.port to)) first_left)
            ∙ ap (λ n. take n (lane ps from to).out.frames) (sym moved_here) ∙ ap (λ (o : Posted). take (lane new from to).moved o.frames) (sym (out_all from to)))))
      ]
    ]
      where
        swap : {P Q : Type 0} → P ⊎ Q → Q ⊎ P
        swap (inl p) = inr p
        swap (inr q) = inl q

        through : (s r : ℕ) → (s ≢ from) ⊎ (r ≢ to) → r < length ps → joined_ps.ins r s ++ (lane new r s).in_list ≡ joined_ps.outs s r ++ take (lane new s r).moved (lane new s r).out.frames
        through s r other below =
            ap (λ fs. joined_ps.ins r s ++ fs) (in_there r s (swap other)) ∙ joined_ps.came s r below
            ∙ ap (λ fs. joined_ps.outs s r ++ fs) (ap (λ n. take n (lane ps s r).out.frames) (sym (moved_there s r other)) ∙ ap (λ (o : Posted). take (lane new s r).moved o.frames) (sym (out_all s r)))

    pub carried_joined : IsJoined new
    carried_joined = record {
      ins = joined_ps.ins;
      outs = joined_ps.outs;
      nobody = λ s r past. joined_ps.nobody s r (omega (arith, past, long_new));
      few = omega (arith, long_new, joined_ps.few);
      own = kept_own (slice_set ps from (record a { endpoint = e })) to q u is_q rest_in keeps_in joined_ps.ins joined_ps.outs own_mid moved_in;
      came = λ s r below. came_at s r (omega (arith, below, long_new));
    }

    pub carried_others : (s r : ℕ) → (s ≢ from) ⊎ (r ≢ to) → left (lane new s r) ≡ left (lane ps s r)
    carried_others s r other = ap (λ n. drop n (lane new s r).out.frames) (moved_there s r other) ∙ ap (λ (o : Posted). drop (lane ps s r).moved o.frames) (out_all s r)

    pub carried_one : length (left (lane new from to)) + 1 ≡ length (left (lane ps from to))
    carried_one =
        let now : length (left (lane new from to)) ≡ length (drop ((lane ps from to).moved + 1) (lane ps from to).out.frames) =
        ap (λ n. length (drop n (lane new from to).out.frames)) moved_here ∙ ap (λ (o : Posted). length (drop ((lane ps from to).moved + 1) o.frames)) (out_all from to) in
        let some = first_at (lane ps from to).moved (lane ps from to).out.frames f f (left (lane_at e.port to)) first_left in
        let less = some.0 in
        omega (arith, now, less, length-drop ((lane ps from to).moved + 1) (lane ps from to).out.frames, length-drop (lane ps from to).moved (lane ps from to).out.frames)
