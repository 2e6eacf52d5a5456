-- A turn in which no step is taken lowers the freight with each frame that it moves; a step lowers the work.
use Rattle.std.proofs.Common.{◌≡◌, ◌≢◌, ◌≤◌, ◌<◌, ◌+◌, ◌*◌, ℕ, zero, suc, Bool, true, false, ◌||◌, List, [], ◌∷◌, ◌++◌, length, length-append, length-drop, length-set, take, set, get_or, Option, Some, None, inl, inr, refl, sym, ◌∙◌, ap, subst, arith}
use Rattle.std.specs.Prelude.{◌-◌, ◌==◌, min, nat_lt, slice_get, slice_set, slice_index, Result, Ok, Err, IfOk}
use Rattle.std.specs.Option.{option_map, option_map_or}
use Rattle.std.proofs.lemmas.Bool.{cases_eq, eq-eqb}
use Rattle.std.proofs.lemmas.Bool.Decides.{nat_tests}
use Rattle.std.proofs.lemmas.List.{length-map, length-take, map-set, nil_from_length as none_of}
use Rattle.std.proofs.lemmas.Option.{slice_get_within}
use Rattle.fab_base.specs.declared.frames.Frame.{Frame}
use Rattle.fab_base.specs.declared.items.Item.{Item}
use Rattle.fab_base.specs.declared.items.ItemHead.{ItemHead}
use Rattle.fab_base.specs.declared.peers.Step.{Step}
use Rattle.fab_base.proofs.Bools.{or_false}
use Rattle.fab_base.proofs.Lists.{both_empty as front_none}
use Rattle.fab_base.proofs.Numbers.{other_number as not_same, numbers_differ as not_equal}
use Rattle.fab_link.specs.Joined.{is_last, grown}
use Rattle.fab_link.specs.Plain.{Lane, Plain, PlainHome, lane_at, left, in_of, out_of, with_lane}
use Rattle.fab_link.proofs.Looks.{same_lane, other_lane}
use Rattle.fab_ep.specs.Value.{Whole}
use Rattle.fab_model.specs.State.{State}
use Rattle.fab_model.specs.Peers.{Actor}
use Rattle.fab_model.proofs.Parts.{get_or-set}
use Rattle.fab_model.proofs.Turns.{slice_get-set_other, slice_get-set_same}
use Rattle.fab_face.specs.Held.{Held, IsOpen, IsOut, IsOutAt, begun_of, next_frame, next_item, piece}
use Rattle.fab_face.specs.Acts.{Act, Did, Took, Posted, Drew, Had, Departs, Ends, headed, is_first, only, posted_to, steps_by, steps_of, taken_of}
use Rattle.fab_peer.specs.Turns.{IsStill as IsStillAfter, Living, LivesBy, Turned, is_some_act, living_of}
use Rattle.fab_laws.specs.Work.{Sized, total, work}
use Rattle.fab_laws.proofs.working.Peers.{leads_by}
use Rattle.fab_laws.proofs.working.Sums.{total_change, total_more}
use Rattle.fab_finish.specs.Joined.{Member, IsJoined, IsStill, IsStillAt, actors, member_actor, seen_plain, told_of}
use Rattle.fab_finish.specs.Freight.{Lowers, freight, in_left, member_freight, one_if, out_left, to_go, to_post}
use Rattle.fab_finish.proofs.Joining.{actor_at, same_member, turn_leads}
use Rattle.fab_finish.proofs.Resting.{still_plain}

-- ---- sums

total_none : (n : ℕ) → total (λ d. 0) n ≡ 0
total_none zero = refl
total_none (suc n) = omega (arith, total_none n)

total_most : (f g h : ℕ → ℕ) (n : ℕ) → ((q : ℕ) → f q ≤ g q + h q) → total f n ≤ total g n + total h n
total_most f g h zero le = omega arith
total_most f g h (suc n) le = omega (arith, total_most f g h n le, le n)

total_least : (f g h : ℕ → ℕ) (n : ℕ) → ((q : ℕ) → f q + h q ≤ g q) → total f n + total h n ≤ total g n
total_least f g h zero le = omega arith
total_least f g h (suc n) le = omega (arith, total_least f g h n le, le n)

-- ---- one frame in the middle of an item

-- a frame that is not the last one leaves less to post, and more than nothing
post_less : (whole place : ℕ) → place ≤ whole → place + min 4096 (whole - place) ≢ whole → (whole - (place + min 4096 (whole - place)) + 1 ≤ whole - place) × (place + min 4096 (whole - place) < whole)
post_less whole place le other = (omega (arith, le, other), omega (arith, le, other))

-- what holds of an endpoint's lists while frames move
record Roomy (n : ℕ) (h : Held) : Type 0 where
  places : length h.places ≡ n
  begun : length h.begun ≡ n
  out : IsOut h

is_within : (h : Held) (d : ℕ) (item : Item) → next_item h.state d ≡ Some item → IsOutAt h d → slice_index h.places d ≤ item.head.total
is_within h d item is (inl e) = omega (arith, e)
is_within h d item is (inr (other, e, lt)) = let same : other ≡ item = (let both : Some other ≡ Some item = sym e ∙ is in cc) in let l = ap (λ (x : Item). x.head.total) same in omega (arith, lt, l)

put : (xs : List ℕ) (i k : ℕ) → i < length xs → get_or (set xs i k) i 0 ≡ k
put [] i k lt = absurd (omega (arith, lt))
put (x ∷ xs) zero k lt = refl
put (x ∷ xs) (suc i) k lt = put xs i k (omega (arith, lt))

module _ (n : ℕ) (h t : Held) (dest : ℕ) (f : Frame) (room : Roomy n h) (below : dest < length h.places) (next : next_frame h dest ≡ Some f) (middle : is_last f.head ≡ false)
    (is : t ≡ record h { places = set h.places dest (f.head.from + f.head.len) }) where
  found : (item : Item) × (next_item h.state dest ≡ Some item) × (f ≡ piece item (slice_index h.places dest))
  found = go (next_item h.state dest) refl next
    where
      go : (o : Option Item) → next_item h.state dest ≡ o → option_map (λ item. piece item (slice_index h.places dest)) o ≡ Some f → (item : Item) × (next_item h.state dest ≡ Some item) × (f ≡ piece item (slice_index h.places dest))
      go None e g = absurd (cc (g))
      go (Some item) e g = (item, e, cc)

  place : ℕ
  place = slice_index h.places dest

  whole : ℕ
  whole = found.0.head.total

  end : f.head.from + f.head.len ≡ slice_index h.places dest + min 4096 (found.0.head.total - slice_index h.places dest)
  end = ap (λ (g : Frame). g.head.from + g.head.len) found.2

  less : (found.0.head.total - (f.head.from + f.head.len) + 1 ≤ found.0.head.total - slice_index h.places dest) × (f.head.from + f.head.len < found.0.head.total)
  less =
      let p = slice_index h.places dest in
      let w = found.0.head.total in
      let le = is_within h dest found.0 found.1 (room.out dest) in
      let total_is : f.head.item.total ≡ w = ap (λ (g : Frame). g.head.item.total) found.2 in
      let other : p + min 4096 (w - p) ≢ w = λ e. not_equal (f.head.from + f.head.len) f.head.item.total middle (end ∙ e ∙ sym total_is) in
      let l = post_less w p le other in
      (let a = l.0 in let e = end in omega (arith, a, e), let b = l.1 in let e = end in omega (arith, b, e))

  places_here : slice_index t.places dest ≡ f.head.from + f.head.len
  places_here = ap (λ (k : Held). slice_index k.places dest) is ∙ put h.places dest (f.head.from + f.head.len) below

  places_other : (d : ℕ) → d ≢ dest → slice_index t.places d ≡ slice_index h.places d
  places_other d other = ap (λ (k : Held). slice_index k.places d) is ∙ elim (get_or-set h.places dest d (f.head.from + f.head.len) 0) [ inl e ↦ e | inr e ↦ absurd (other (sym e.0)) ]

  state_is : t.state ≡ h.state
  state_is = ap (λ (k : Held). k.state) is

  next_is : (d : ℕ) → next_item t.state d ≡ next_item h.state d
  next_is d = ap (λ (s : State). next_item s d) state_is

  post_roomy : Roomy n t
  post_roomy = record {
    places = ap (λ (k : Held). length k.places) is ∙ length-set h.places dest (f.head.from + f.head.len) ∙ room.places;
    begun = ap (λ (k : Held). length k.begun) is ∙ room.begun;
    out = λ d. elim (cases_eq d dest) [
      | inl here ↦ subst (λ i. IsOutAt t i) (sym here) (inr (found.0, next_is dest ∙ found.1, let l = less.1 in let p = places_here in omega (arith, l, p)))
      | inr other ↦ elim (room.out d) [ inl e ↦ inl (places_other d other ∙ e) | inr e ↦ inr (e.0, next_is d ∙ e.1, let l = e.2 in let p = places_other d other in omega (arith, l, p)) ]
    ];
  }

  post_falls : to_post n t + 1 ≤ to_post n h
  unfolding to_post
  post_falls =
      let falls = total_change (λ d. to_go (next_item t.state d) (slice_index t.places d)) (λ d. to_go (next_item h.state d) (slice_index h.places d)) dest 1 0 n
      (λ d other. let e = ap (λ (o : Option Item). to_go o (slice_index t.places d)) (next_is d) ∙ ap (to_go (next_item h.state d)) (places_other d other) in omega (arith, e))
      (let a = ap (λ (o : Option Item). to_go o (slice_index t.places dest)) (next_is dest ∙ found.1) in
      let b = ap (λ (o : Option Item). to_go o (slice_index h.places dest)) found.1 in
      let l = less.0 in
      let p = places_here in
      omega (arith, a, b, l, p))
      (let m = room.places in omega (arith, below, m)) in
      omega (arith, falls)

-- ---- acts that take no step

only_none : {X : Type 0} (b : Bool) (x : X) → only b x ≡ [] → b ≡ false
only_none true x e = absurd (cc (e))
only_none false x e = refl

-- neither the first nor the last frame
took_same : (first last : Bool) (h t : Held) (source : ℕ) (head : ItemHead) (item : Item) → first ≡ false → last ≡ false → Ends last h (headed first h.state source head) source item t → t ≡ record h { begun = set h.begun source (Some item) }
took_same false false h t source head item e f ends = ends
took_same true last h t source head item e f ends = absurd (cc (e))
took_same false true h t source head item e f ends = absurd (cc (f))

departs_same : (last : Bool) (h t : Held) (dest place : ℕ) → last ≡ false → Departs last h dest place t → t ≡ record h { places = set h.places dest place }
departs_same false h t dest place e departs = departs
departs_same true h t dest place e departs = absurd (cc (e))

abbrev posts : ℕ → List Act → ℕ
posts n acts = total (λ d. length (posted_to d acts)) n

abbrev takes : ℕ → List Act → ℕ
takes n acts = total (λ s. length (taken_of s acts)) n

one_at_most : {X : Type 0} (b : Bool) (x : X) (xs : List X) → (length xs ≤ length (only b x ++ xs)) × (length (only b x ++ xs) ≤ length xs + 1)
one_at_most true x xs = (omega arith, omega arith)
one_at_most false x xs = (omega arith, omega arith)

one_here : {X : Type 0} (b : Bool) (x : X) (xs : List X) → b ≡ true → length xs + 1 ≤ length (only b x ++ xs)
one_here true x xs e = omega arith
one_here false x xs e = absurd (cc (e))

none_here : {X : Type 0} (b : Bool) (x : X) (xs : List X) → b ≡ false → length (only b x ++ xs) ≤ length xs
none_here true x xs e = absurd (cc (e))
none_here false x xs e = omega arith

posts_more : (n dest : ℕ) (f : Frame) (acts : List Act) → posts n (Posted dest f ∷ acts) ≤ posts n acts + 1
posts_more n dest f acts = total_more (λ d. length (posted_to d (Posted dest f ∷ acts))) (λ d. length (posted_to d acts)) dest 1 n
    (λ d other. none_here (dest == d) f (posted_to d acts) (not_same dest d (λ e. other (sym e))))
    ((one_at_most (dest == dest) f (posted_to dest acts)).1)

takes_more : (n source : ℕ) (f : Frame) (acts : List Act) → source < n → takes n acts + 1 ≤ takes n (Took source f ∷ acts)
takes_more n source f acts below =
    let m = total_change (λ s. length (taken_of s acts)) (λ s. length (taken_of s (Took source f ∷ acts))) source 1 0 n
    (λ s other. (one_at_most (source == s) f (taken_of s acts)).0)
    (let k = one_here (source == source) f (taken_of source acts) (eq-eqb source source refl) in omega (arith, k))
    below in
    omega (arith, m)

same_post : (n : ℕ) (h t : Held) → t.state ≡ h.state → t.places ≡ h.places → to_post n t ≡ to_post n h
unfolding to_post
same_post n h t s p = rw (s, p) refl

mid_acts : (n : ℕ) (acts : List Act) (p q : Living) → LivesBy p acts q → steps_of acts ≡ [] → Roomy n p.held → 3 * to_post n q.held + 2 * posts n acts + length acts ≤ 3 * to_post n p.held + takes n acts
mid_acts n [] p q same none room = let e = ap (λ (x : Living). to_post n x.held) same in omega (arith, e, total_none n)
mid_acts n (Did ∷ acts) p q (m, one, rest) none room = absurd (cc (none))
mid_acts n (Drew ∷ acts) p q (m, one, rest) none room = absurd (cc (none))
mid_acts n (Had ∷ acts) p q (m, one, rest) none room = absurd (cc (none))
mid_acts n (Took source f ∷ acts) p q (m, one, rest) none room =
    let split = front_none (steps_by (Took source f)) (steps_of acts) none in
    let ends = front_none (only (is_first f) (Step.Head source)) (only (is_last f.head) (Step.Tail source)) split.0 in
    let is = took_same (is_first f) (is_last f.head) p.held m.held source f.head.item (grown (begun_of p.held source) f) (only_none (is_first f) (Step.Head source) ends.0) (only_none (is_last f.head) (Step.Tail source) ends.1) one.0.3 in
    let room_m : Roomy n m.held = record {
      places = ap (λ (k : Held). length k.places) is ∙ room.places;
      begun = ap (λ (k : Held). length k.begun) is ∙ length-set p.held.begun source (Some (grown (begun_of p.held source) f)) ∙ room.begun;
      out = subst (λ (k : Held). IsOut k) (sym is) room.out;
    } in
    let later = mid_acts n acts m q rest split.1 room_m in
    let same = same_post n p.held m.held (ap (λ (k : Held). k.state) is) (ap (λ (k : Held). k.places) is) in
    let more = takes_more n source f acts (let b = one.0.0 in let l = room.begun in omega (arith, b, l)) in
    omega (arith, later, same, more)
mid_acts n (Posted dest f ∷ acts) p q (m, one, rest) none room =
    let split = front_none (steps_by (Posted dest f)) (steps_of acts) none in
    let middle = only_none (is_last f.head) (Step.Sent dest) split.0 in
    let is = departs_same (is_last f.head) p.held m.held dest (f.head.from + f.head.len) middle one.0.3 in
    let room_m = post_roomy n p.held m.held dest f room one.0.0 one.0.2 middle is in
    let falls = post_falls n p.held m.held dest f room one.0.0 one.0.2 middle is in
    let later = mid_acts n acts m q rest split.1 room_m in
    omega (arith, later, falls, posts_more n dest f acts)

-- ---- one peer's lists

module _ (n : ℕ) (a b : Member) (acts : List Act) (turned : Turned (told_of a) (told_of b) acts) where
  outs_grow : out_left n b.endpoint.port ≤ out_left n a.endpoint.port + posts n acts
  unfolding out_left
  outs_grow = total_most (λ d. length (left (lane_at b.endpoint.port d))) (λ d. length (left (lane_at a.endpoint.port d))) (λ d. length (posted_to d acts)) n (λ d.
      let moved : (lane_at b.endpoint.port d).moved ≡ (lane_at a.endpoint.port d).moved = ap (λ (h : PlainHome). h.moved d) turned.ported.home in
      let more = ap length (turned.ported.posted d) in
      omega (
        arith,
        moved,
        more,
        length-append (out_of a.endpoint.port d).frames (posted_to d acts),
        length-drop (lane_at b.endpoint.port d).moved (lane_at b.endpoint.port d).out.frames,
        length-drop (lane_at a.endpoint.port d).moved (lane_at a.endpoint.port d).out.frames,
      ))

  ins_fall : in_left n b.endpoint.port + takes n acts ≤ in_left n a.endpoint.port
  unfolding in_left
  ins_fall = total_least (λ s. length (lane_at b.endpoint.port s).in_list - length (in_of b.endpoint.port s).taken) (λ s. length (lane_at a.endpoint.port s).in_list - length (in_of a.endpoint.port s).taken) (λ s. length (taken_of s acts)) n (λ s.
      let same = ap length (ap (λ (h : PlainHome). h.in_lists s) turned.ported.home) in
      let more = ap length (turned.ported.taken s) in
      omega (
        arith,
        same,
        more,
        length-append (in_of a.endpoint.port s).taken (taken_of s acts),
        length-take (lane_at b.endpoint.port s).taken (lane_at b.endpoint.port s).in_list,
      ))

  mid_freight : steps_of acts ≡ [] → Roomy n a.endpoint.held → member_freight n b + length acts ≤ member_freight n a
  mid_freight none room =
      let held = mid_acts n acts (living_of (told_of a)) (living_of (told_of b)) turned.lives none room in
      let outs = outs_grow in
      let ins = ins_fall in
      omega (arith, held, outs, ins)

-- ---- all peers

-- one member changes
freight_set : (ps : List Member) (k v w : ℕ) (a b : Member) → slice_get ps k ≡ Some a → member_freight (length ps) b + v ≤ member_freight (length ps) a + w → freight (slice_set ps k b) + v ≤ freight ps + w
unfolding freight
freight_set ps k v w a b is_a le =
    let below = slice_get_within ps k a is_a in
    let long = length-set ps k b in
    let of : List Member → ℕ → ℕ = λ xs j. option_map_or (member_freight (length ps)) (slice_get xs j) 0 in
    let now : total (λ j. option_map_or (member_freight (length (slice_set ps k b))) (slice_get (slice_set ps k b) j) 0) (length (slice_set ps k b)) ≡ total (of (slice_set ps k b)) (length ps) =
    ap (λ m. total (λ j. option_map_or (member_freight m) (slice_get (slice_set ps k b) j) 0) m) long in
    let here : of (slice_set ps k b) k ≡ member_freight (length ps) b = ap (λ (o : Option Member). option_map_or (member_freight (length ps)) o 0) (slice_get-set_same ps k b below) in
    let was : of ps k ≡ member_freight (length ps) a = ap (λ (o : Option Member). option_map_or (member_freight (length ps)) o 0) is_a in
    let all = total_change (of (slice_set ps k b)) (of ps) k v w (length ps)
    (λ j other. let e = ap (λ (o : Option Member). option_map_or (member_freight (length ps)) o 0) (slice_get-set_other ps k j b (λ e. other (sym e))) in omega (arith, e))
    (omega (arith, here, was, le)) below in
    omega (arith, now, all)

some_length : (acts : List Act) → one_if (is_some_act acts) ≤ length acts
some_length [] = omega arith
some_length (act ∷ acts) = omega arith

module _ (ps : List Member) (k : ℕ) (a b : Member) (acts : List Act) (joined_ps : IsJoined ps) (is_a : slice_get ps k ≡ Some a) (turned : Turned (told_of a) (told_of b) acts) (known : IsOpen (seen_plain a.endpoint)) where
  lanes : length a.endpoint.port.lanes ≡ length ps
  lanes = (joined_ps.own k a is_a).lanes

  sized_a : Sized (length (actors ps)) (member_actor a).state
  sized_a =
      let long = lanes ∙ sym (length-map ps member_actor) in
      record { accepted = known.accepted ∙ long; sent = known.sent ∙ long; heads = known.heads ∙ long; tails = known.tails ∙ long }

  steps_less : work (actors (slice_set ps k b)) + length (steps_of acts) ≤ work (actors ps)
  steps_less =
      let same : actors (slice_set ps k b) ≡ slice_set (actors ps) k (member_actor b) = map-set member_actor ps k b in
      let less = leads_by k (steps_of acts) (actors ps) (slice_set (actors ps) k (member_actor b))
      (λ c has. let is : Some (member_actor a) ≡ Some c = sym (actor_at ps k a is_a) ∙ has in let e : member_actor a ≡ c = cc in subst (λ (x : Actor). Sized (length (actors ps)) x.state) e sized_a)
      (turn_leads ps k a b acts joined_ps is_a turned) in
      let w = ap work same in
      omega (arith, less, w)

  room : Roomy (length ps) a.endpoint.held
  room = record { places = known.places ∙ lanes; begun = known.begun ∙ lanes; out = known.out }

  frames_less : steps_of acts ≡ [] → freight (slice_set ps k b) + length acts ≤ freight ps
  frames_less none =
      let m = mid_freight (length ps) a b acts turned none room in
      let f = freight_set ps k (length acts) 0 a b is_a (omega (arith, m)) in
      omega (arith, f)

  pub turn_lowers : (stepped moved : Bool) → stepped ≡ nat_lt (length a.schedule.items) (length b.schedule.items) → moved ≡ is_some_act acts → Lowers stepped moved ps (slice_set ps k b)
  turn_lowers true moved more is =
      let long = ap length turned.schedule in
      let lt : length a.schedule.items < length b.schedule.items = grind (arith, nat_tests, more) in
      let s = steps_less in
      omega (arith, s, long, lt, length-append a.schedule.items (steps_of acts))
  turn_lowers false moved more is =
      let long = ap length turned.schedule in
      let le : length b.schedule.items ≤ length a.schedule.items = grind (arith, nat_tests, more) in
      let none : length (steps_of acts) ≡ 0 = omega (arith, long, le, length-append a.schedule.items (steps_of acts)) in
      let s = steps_less in
      let f = frames_less (none_of (steps_of acts) none) in
      let m = ap one_if is in
      (omega (arith, s), omega (arith, f, m, some_length acts))

-- where the turn succeeded
pub turned_lowers : {X E : Type 0} (moved stepped : X → Bool) (r : Result X E) (ps : List Member) (k : ℕ) (a b : Member) → IsJoined ps → slice_get ps k ≡ Some a → IsOpen (seen_plain a.endpoint)
    → IfOk r (λ x. (acts : List Act) × Turned (told_of a) (told_of b) acts × (moved x ≡ is_some_act acts)) → IfOk r (λ x. stepped x ≡ nat_lt (length a.schedule.items) (length b.schedule.items)) → IfOk r (λ x. Lowers (stepped x) (moved x) ps (slice_set ps k b))
turned_lowers moved stepped (Ok x) ps k a b joined_ps is_a known (acts, turned, is) more = turn_lowers ps k a b acts joined_ps is_a turned known (stepped x) (moved x) more is
turned_lowers moved stepped (Err e) ps k a b joined_ps is_a known turned more = _

-- where it moved nothing
pub still_at : {X E : Type 0} (moved : X → Bool) (r : Result X E) (ps : List Member) (k : ℕ) (a b : Member) → k < length ps → IfOk r (λ x. moved x ≡ false → IsStillAfter (told_of a) (told_of b)) → IfOk r (λ x. moved x ≡ false → IsStillAt (slice_set ps k b) k)
still_at moved (Ok x) ps k a b below still = λ none p has. same_member ps k b p IsStill below has (still_plain a b (still none))
still_at moved (Err e) ps k a b below still = _

-- ---- one after another

pub lowers_then : (s t m l : Bool) (ps qs rs : List Member) → Lowers s m ps qs → Lowers t l qs rs → Lowers (s || t) (m || l) ps rs
lowers_then true true m l ps qs rs a b = omega (arith, a, b)
lowers_then true false m l ps qs rs a b = (let b0 = b.0 in omega (arith, a, b0))
lowers_then false true m l ps qs rs a b = (let a0 = a.0 in omega (arith, a0, b))
lowers_then false false m l ps qs rs a b = (let a0 = a.0 in let b0 = b.0 in omega (arith, a0, b0), let a1 = a.1 in let b1 = b.1 in let o = either m l in omega (arith, a1, b1, o))
  where
    either : (m l : Bool) → one_if (m || l) ≤ one_if m + one_if l
    either true true = omega arith
    either true false = omega arith
    either false l = omega arith

-- no step was taken
pub not_raised : (s m : Bool) (ps qs : List Member) → s ≡ false → Lowers s m ps qs → work (actors qs) ≤ work (actors ps)
not_raised true m ps qs e l = absurd (cc (e))
not_raised false m ps qs e l = l.0

pub lowers_none : (ps : List Member) → Lowers false false ps ps
lowers_none ps = (omega arith, omega arith)

-- carrying takes no step
pub lowers_carried : (b : Bool) (ps qs : List Member) → actors qs ≡ actors ps → freight qs + one_if b ≤ freight ps → Lowers false b ps qs
lowers_carried b ps qs same less = (let e = ap work same in omega (arith, e), less)

pub lowers_both : (r q s t m l : Bool) (ps qs rs : List Member) → r ≡ (s || t) → q ≡ (m || l) → Lowers s m ps qs → Lowers t l qs rs → Lowers r q ps rs
lowers_both r q s t m l ps qs rs e f a b = subst (λ x. Lowers x q ps rs) (sym e) (subst (λ y. Lowers (s || t) y ps rs) (sym f) (lowers_then s t m l ps qs rs a b))

-- two frames or none, one frame or none
pub freight_both : (r m l : Bool) (a b c : ℕ) → r ≡ (m || l) → b + one_if m ≤ a → c + one_if l ≤ b → c + one_if r ≤ a
freight_both r true true a b c e f g = (let k = ap one_if e in omega (arith, k, f, g))
freight_both r true false a b c e f g = (let k = ap one_if e in omega (arith, k, f, g))
freight_both r false true a b c e f g = (let k = ap one_if e in omega (arith, k, f, g))
freight_both r false false a b c e f g = (let k = ap one_if e in omega (arith, k, f, g))

-- what is carried after the turns
pub lowers_after : (q s m l : Bool) (ps qs rs : List Member) → q ≡ (m || l) → Lowers s m ps qs → actors rs ≡ actors qs → freight rs + one_if l ≤ freight qs → Lowers s q ps rs
lowers_after q s m l ps qs rs e a same less = lowers_both s q s false m l ps qs rs (sym (or_false s)) e a (lowers_carried l qs rs same less)

-- ---- one frame is carried

module _ (n : ℕ) (a : Member) (e : Whole Plain) (to : ℕ) (f : Frame) (new : Lane) (wide : to < length a.endpoint.port.lanes) (below : to < n) (held : e.held ≡ a.endpoint.held) (port : e.port ≡ with_lane a.endpoint.port to new) where
  at_to : lane_at e.port to ≡ new
  at_to = ap (λ (p : Plain). lane_at p to) port ∙ same_lane a.endpoint.port to new wide

  at_other : (d : ℕ) → d ≢ to → lane_at e.port d ≡ lane_at a.endpoint.port d
  at_other d other = ap (λ (p : Plain). lane_at p d) port ∙ other_lane a.endpoint.port to d new other

  outs_change : (v : ℕ) → length (left new) + v ≤ length (left (lane_at a.endpoint.port to)) → out_left n e.port + v ≤ out_left n a.endpoint.port
  unfolding out_left
  outs_change v le =
      let c = total_change (λ d. length (left (lane_at e.port d))) (λ d. length (left (lane_at a.endpoint.port d))) to v 0 n
      (λ d other. let e = ap (λ (l : Lane). length (left l)) (at_other d other) in omega (arith, e))
      (let e = ap (λ (l : Lane). length (left l)) at_to in omega (arith, e, le)) below in
      omega (arith, c)

  ins_change : (w : ℕ) → length new.in_list - length (take new.taken new.in_list) ≤ length (lane_at a.endpoint.port to).in_list - length (in_of a.endpoint.port to).taken + w → in_left n e.port ≤ in_left n a.endpoint.port + w
  unfolding in_left
  ins_change w le =
      total_more (λ s. length (lane_at e.port s).in_list - length (in_of e.port s).taken) (λ s. length (lane_at a.endpoint.port s).in_list - length (in_of a.endpoint.port s).taken) to w n
      (λ s other. let e = ap (λ (l : Lane). length l.in_list - length (take l.taken l.in_list)) (at_other s other) in omega (arith, e))
      (let e = ap (λ (l : Lane). length l.in_list - length (take l.taken l.in_list)) at_to in omega (arith, e, le))

  carried_member : (v w : ℕ) → length (left new) + v ≤ length (left (lane_at a.endpoint.port to)) → length new.in_list - length (take new.taken new.in_list) ≤ length (lane_at a.endpoint.port to).in_list - length (in_of a.endpoint.port to).taken + w
      → member_freight n (record a { endpoint = e }) + 2 * v ≤ member_freight n a + w
  carried_member v w out into =
      let h = ap (to_post n) held in
      let o = outs_change v out in
      let i = ins_change w into in
      omega (arith, h, o, i)

pub carried_less : (ps : List Member) (from to : ℕ) (a q : Member) (e u : Whole Plain) (f : Frame) → IsJoined ps → slice_get ps from ≡ Some a → to < length ps
    → e ≡ record a.endpoint { port = e.port } → left (lane_at a.endpoint.port to) ≡ f ∷ left (lane_at e.port to)
    → e.port ≡ with_lane a.endpoint.port to (record (lane_at a.endpoint.port to) { moved = (lane_at a.endpoint.port to).moved + 1 })
    → slice_get (slice_set ps from (record a { endpoint = e })) to ≡ Some q → u ≡ record q.endpoint { port = u.port }
    → u.port ≡ with_lane q.endpoint.port from (record (lane_at q.endpoint.port from) { in_list = (lane_at q.endpoint.port from).in_list ++ f ∷ [] })
    → from < length ps → from < length q.endpoint.port.lanes
    → freight (slice_set (slice_set ps from (record a { endpoint = e })) to (record q { endpoint = u })) + 1 ≤ freight ps
carried_less ps from to a q e u f joined_ps is_a in_to rest_out first out is_q rest_in brought in_from wide_q =
    let n = length ps in
    let mid = slice_set ps from (record a { endpoint = e }) in
    let long : length mid ≡ n = length-set ps from (record a { endpoint = e }) in
    let wide : to < length a.endpoint.port.lanes = (let own = joined_ps.own from a is_a in let l = own.lanes in omega (arith, in_to, l)) in
    let moved : Lane = record (lane_at a.endpoint.port to) { moved = (lane_at a.endpoint.port to).moved + 1 } in
    let came : Lane = record (lane_at q.endpoint.port from) { in_list = (lane_at q.endpoint.port from).in_list ++ f ∷ [] } in
    let there : lane_at e.port to ≡ moved = ap (λ (p : Plain). lane_at p to) out ∙ same_lane a.endpoint.port to moved wide in
    let fewer : length (left (lane_at a.endpoint.port to)) ≡ length (left (lane_at e.port to)) + 1 = ap length first ∙ omega arith in
    let left_is = ap (λ (l : Lane). length (left l)) there in
    let one = carried_member n a e to f moved wide in_to (ap (λ (x : Whole Plain). x.held) rest_out) out 1 0 (omega (arith, fewer, left_is)) (omega arith) in
    let one_all = freight_set ps from 2 0 a (record a { endpoint = e }) is_a (omega (arith, one)) in
    let two = carried_member (length mid) q u from f came wide_q (omega (arith, in_from, long)) (ap (λ (x : Whole Plain). x.held) rest_in) brought 0 1 (omega arith)
    (omega (arith, length-append (lane_at q.endpoint.port from).in_list (f ∷ []), length-take (lane_at q.endpoint.port from).taken ((lane_at q.endpoint.port from).in_list ++ f ∷ []), length-take (lane_at q.endpoint.port from).taken (lane_at q.endpoint.port from).in_list)) in
    let two_all = freight_set mid to 0 1 q (record q { endpoint = u }) is_q (omega (arith, two)) in
    omega (arith, one_all, two_all)
