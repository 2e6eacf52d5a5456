-- What peers in threads did, each alone, was done in some order of turns: that in which their moves merge. Of peers of any kind,
-- whatever their own acts are and the machine whose steps they take.
use Rattle.std.proofs.Common.{◌≡◌, ◌≢◌, ◌≤◌, ◌<◌, ◌+◌, ℕ, zero, suc, eqb, true, false, List, [], ◌∷◌, ◌++◌, length, map, slice_get, set, get_or, Some, None, ◌⊎◌, inl, inr, refl, sym, ap, ◌∙◌, subst, arith, sum_by, replicate, append_assoc, append-nil, length-append, length-set, get_or-set_same, get_or-set_other, eq-eqb, ne_eqb}
use Rattle.std.specs.Prelude.{slice_index, unwrap_or}
use Rattle.std.specs.List.{flat_map}
use Rattle.std.specs.Option.{option_map}
use Rattle.std.proofs.lemmas.Bool.{cases_eq, cases_lt}
use Rattle.std.proofs.lemmas.Grind.{flat_map-append}
use Rattle.std.proofs.lemmas.List.{map-set, length-map, length-replicate, nil_from_length, get_or_past}
use Rattle.std.proofs.lemmas.List.Sums.{sum_by-set, get_or-le-sum_by}
use Rattle.std.proofs.lemmas.Option.{slice_get-map, slice_get_within, slice_get_past, get_or_from_slice_get}
use std.Path.{fun_ext}
use mathlib.Core.List.{IsPrefix}
use Rattle.fab_base.specs.declared.frames.Frame.{Frame}
use Rattle.fab_base.specs.declared.items.Item.{Item}
use Rattle.fab_base.proofs.Lists.{all_the_same, get_some as member}
use Rattle.fab_link.specs.declared.moves.Move.{Move}
use Rattle.fab_link.specs.declared.moves.Move.TheVariants.{Post, Take}
use Rattle.fab_link.specs.Merged.{Merging, with_inside}
use Rattle.fab_model.specs.State.{accepted_for}
use Rattle.fab_model.specs.Orders.{Leads, Reached, by}
use Rattle.fab_model.specs.Views.{Machine, View, More, Walk, rule, seen}
use Rattle.fab_model.proofs.Orders.{reached_more, reached_opening}
use Rattle.fab_model.proofs.Turns.{slice_get-set_other, slice_get-set_same}
use Rattle.fab_model.proofs.Views.{GrowsBySteps, WaitsForMore, prefix_self, walk_leads}
use Rattle.fab_link.proofs.Merging.{inside_same, inside_from, inside_to}
use Rattle.fab_face.specs.Held.{Held}
use Rattle.fab_face.specs.Acts.{Act, Did, Took, Posted, Drew, Had, MovedBy, Way, way, ways_by, ways_of, taken_of, posted_to}
use Rattle.fab_peer.specs.Turns.{Shows}
use Rattle.fab_peer.specs.Agreed.{Agrees}
use Rattle.fab_merging.specs.Pasts.{PastOf, Trail}
use Rattle.fab_merging.specs.Law.{told_moves, outs_at, ins_at, AreToldOf}
use Rattle.fab_merging.proofs.Lists.{taken_then, posted_then, trail_then, plain_takes, plain_posts, same_list, map_at, front_of, outs_is, ins_is}
use Rattle.fab_merging.proofs.Holding.{Holds, HoldsBy, items_before}
use Rattle.fab_merging.proofs.Joining.{agrees_by, ShowsOf, shows_sender, shows_nobody}
use Rattle.fab_merging.proofs.Merged.{Merges, merges_order, LanesAfter, turn_is}

-- ---- how many frames an act moves

posted_one : (e d : ℕ) (f : Frame) → e ≡ d → length (posted_to d (Posted e f ∷ [])) ≡ 1
posted_one e d f same = let t : eqb e d ≡ true = eq-eqb e d same in rw t refl

posted_none : (e d : ℕ) (f : Frame) → e ≢ d → length (posted_to d (Posted e f ∷ [])) ≡ 0
posted_none e d f other = let t : eqb e d ≡ false = ne_eqb e d other in rw t refl

taken_one : (e s : ℕ) (f : Frame) → e ≡ s → length (taken_of s (Took e f ∷ [])) ≡ 1
taken_one e s f same = let t : eqb e s ≡ true = eq-eqb e s same in rw t refl

taken_none : (e s : ℕ) (f : Frame) → e ≢ s → length (taken_of s (Took e f ∷ [])) ≡ 0
taken_none e s f other = let t : eqb e s ≡ false = ne_eqb e s other in rw t refl

-- ---- a kind of peers
--     L         what a peer is, without its port; `held` is what contracts see of it
--     D         what it does, one by one; `act_of` is the act, and `Does` says when it stands and what it makes
--     K         what a thread keeps of that
--     machine   whose states are `see`, and whose steps are `steps_by` of what is done

module _ {L D K M S : Type 0} (held : L → Held) (act_of : D → Act) (Does : L → D → L → Type 0) (machine : Machine M S Item) (see : L → M) (steps_by : D → List S)
    -- a peer's own act leaves what is unfinished, and any other is the endpoint's
    (holds : (p q : L) (x : D) → Does p x q → Holds (held p) (act_of x) (held q))
    -- wherever the frame that it takes is shown, what is done is steps of the machine
    (walks : (v : View Item) (p q : L) (x : D) → Does p x q → Shows v (held p) (λ s. taken_of s (act_of x ∷ [])) → Walk machine v (see p) (flat_map steps_by (x ∷ [])) (see q))
    (ready : (p : L) (d : ℕ) → machine.ready (see p) d ≡ accepted_for (held p).state.tx d)
    (sent : (p : L) (d : ℕ) → machine.sent (see p) d ≡ slice_index (held p).state.tx.sent d)
    (grows : GrowsBySteps machine) (waits : WaitsForMore machine)
    (told_steps : PastOf L K → List S) where
  abbrev acts_of : List D → List Act
  acts_of xs = map act_of xs

  abbrev taken_in : ℕ → List D → List Frame
  taken_in s xs = taken_of s (acts_of xs)

  abbrev posted_in : ℕ → List D → List Frame
  posted_in d xs = posted_to d (acts_of xs)

  abbrev ways_at : D → List Way
  ways_at x = ways_by (act_of x)

  abbrev ways_in : List D → List Way
  ways_in xs = ways_of (acts_of xs)

  abbrev steps_in : List D → List S
  steps_in xs = flat_map steps_by xs

  held_by : (xs : List D) (p q : L) → Trail Does p xs q → HoldsBy (held p) (acts_of xs) (held q)
  held_by [] p q is = ap held is
  held_by (x ∷ xs) p q (mid, one, rest) = (held mid, holds p mid x one, held_by xs mid q rest)

  -- what a thread tells of a peer since the opening
  pub record Since (o : L) (x : PastOf L K) (xs : List D) : Type 0 where
    pub lives : Trail Does o xs x.living
    pub steps : told_steps x ≡ steps_in xs
    pub moves : MovedBy (Some []) x.moves (ways_in xs)
    pub outs : (d : ℕ) → x.outs d ≡ posted_in d xs
    pub ins : (s : ℕ) → x.ins s ≡ taken_in s xs

  -- some peer goes on with an act that is no move, or none does
  abbrev HasPlain : List (List D) → Type 0
  HasPlain left = (p : ℕ) × (x : D) × (xs : List D) × (slice_get left p ≡ Some (x ∷ xs)) × (ways_at x ≡ [])

  -- none of these begins with one
  abbrev HasNone : List D → Type 0
  HasNone l = (x : D) (xs : List D) → l ≡ x ∷ xs → ways_at x ≡ [] → ⊥

  behind : (l : List D) (left : List (List D)) → HasPlain left ⊎ ((p : ℕ) → HasNone (get_or left p [])) → HasNone l → HasPlain (l ∷ left) ⊎ ((p : ℕ) → HasNone (get_or (l ∷ left) p []))
  behind l left further own = elim further [
    | inl h ↦ inl (suc h.0, h.1, h.2, h.3, h.4)
    | inr none ↦ inr (elim [ zero ↦ own | suc p ↦ none p ])
  ]

  a_move : (y : D) (ys : List D) (w : Way) (ws : List Way) → ways_at y ≡ w ∷ ws → HasNone (y ∷ ys)
  a_move y ys w ws is x xs e none = let same : y ≡ x = cc (e) in let no_way : w ∷ ws ≡ [] = sym is ∙ ap ways_at same ∙ none in cc (no_way)

  plain_or_not : (left : List (List D)) → HasPlain left ⊎ ((p : ℕ) → HasNone (get_or left p []))
  plain_or_not [] = inr (λ p x xs e w. cc (e))
  plain_or_not ([] ∷ left) = behind [] left (plain_or_not left) (λ x xs e w. cc (e))
  plain_or_not ((y ∷ ys) ∷ left) = by_ways (plain_or_not left) (ways_at y) refl
    where
      by_ways : HasPlain left ⊎ ((p : ℕ) → HasNone (get_or left p [])) → (ws : List Way) → ways_at y ≡ ws → HasPlain ((y ∷ ys) ∷ left) ⊎ ((p : ℕ) → HasNone (get_or ((y ∷ ys) ∷ left) p []))
      by_ways further [] is = inl (0, y, ys, refl, is)
      by_ways further (w ∷ ws) is = behind (y ∷ ys) left further (a_move y ys w ws is)

  -- ---- the peers, each at a place among its acts

  module _ (opening : List L) (pasts : List (PastOf L K)) (totals : List (List D)) (sized : length totals ≡ length opening) (acted : (p : ℕ) (o : L) (x : PastOf L K) → slice_get opening p ≡ Some o → slice_get pasts p ≡ Some x → Since o x (get_or totals p []))
      {LedOn : PastOf L K → PastOf L K → Type 0} (told : AreToldOf held LedOn opening pasts) where
    -- a peer that did some of its acts, and has the others left
    record At (p : ℕ) (o : L) (x : PastOf L K) (l : L) (done left : List D) : Type 0 where
      whole : done ++ left ≡ get_or totals p []
      came : Trail Does o done l
      lives : Trail Does l left x.living

    agrees_at : (p : ℕ) (o : L) (x : PastOf L K) (l : L) (done left : List D) → slice_get opening p ≡ Some o → slice_get pasts p ≡ Some x → At p o x l done left
        → Agrees (length opening) (held l) (λ s. taken_in s done) (λ d. posted_in d done)
    agrees_at p o x l done left is_o is_x at = agrees_by (length opening) (acts_of done) (held o) (held l) (told.fresh p o is_o) (held_by done o l at.came) (items_before (acts_of left) (held l) (held x.living) (held_by left l x.living at.lives) (told.items p x is_x))

    taken_count : List (List D) → ℕ → ℕ → ℕ
    taken_count done s d = length (taken_in s (get_or done d []))

    posted_count : List (List D) → ℕ → ℕ → ℕ
    posted_count done s d = length (posted_in d (get_or done s []))

    -- in each turn
    record Going (now : Merging) (lives : List L) (done left : List (List D)) : Type 0 where
      count : length lives ≡ length opening
      dones : length done ≡ length opening
      lefts : length left ≡ length opening
      moves : (p : ℕ) → map way (get_or now.left p []) ≡ ways_in (get_or left p [])
      at : (p : ℕ) (o l : L) (x : PastOf L K) → slice_get opening p ≡ Some o → slice_get lives p ≡ Some l → slice_get pasts p ≡ Some x → At p o x l (get_or done p []) (get_or left p [])
      inside : (s d : ℕ) → taken_count done s d + now.inside s d ≡ posted_count done s d
      reached : Reached (rule machine) (map see opening) (map steps_in done) (map see lives)

    -- the view of the states as they are, as a peer without a final cancel has it
    abbrev now_seen : List L → ℕ → View Item
    now_seen lives p = record (seen machine (map see lives) p) { calm = false }

    now_more : (lives : List L) (p : ℕ) → More (now_seen lives p) (seen machine (map see lives) p)
    now_more lives p = record { ready = λ s. prefix_self _ _ refl; sent = λ s. omega arith; calm = λ e. absurd (cc) }

    -- one act of one peer
    module _ (now : Merging) (lives : List L) (done left : List (List D)) (going : Going now lives done left) (p : ℕ) (act : D) (acts : List D) (here : slice_get left p ≡ Some (act ∷ acts)) where
      abbrev was : List D
      was = get_or done p []

      below : p < length opening
      below = omega (arith, slice_get_within left p (act ∷ acts) here, going.lefts)

      o : (o : L) × (slice_get opening p ≡ Some o)
      o = member opening p below

      x : (x : PastOf L K) × (slice_get pasts p ≡ Some x)
      x = member pasts p (omega (arith, below, told.count))

      l : (l : L) × (slice_get lives p ≡ Some l)
      l = member lives p (omega (arith, below, going.count))

      left_is : get_or left p [] ≡ act ∷ acts
      left_is = get_or_from_slice_get left p (act ∷ acts) [] here

      at_p : At p o.0 x.0 l.0 was (act ∷ acts)
      at_p = subst (λ zs. At p o.0 x.0 l.0 was zs) left_is (going.at p o.0 l.0 x.0 o.1 l.1 x.1)

      done_now : get_or (set done p (was ++ act ∷ [])) p [] ≡ was ++ act ∷ []
      done_now = get_or-set_same done p (was ++ act ∷ []) [] (omega (arith, below, going.dones))

      done_kept : (q : ℕ) → q ≢ p → get_or (set done p (was ++ act ∷ [])) q [] ≡ get_or done q []
      done_kept q ne = get_or-set_other done p q (was ++ act ∷ []) [] ne

      left_now : get_or (set left p acts) p [] ≡ acts
      left_now = get_or-set_same left p acts [] (omega (arith, below, going.lefts))

      left_kept : (q : ℕ) → q ≢ p → get_or (set left p acts) q [] ≡ get_or left q []
      left_kept q ne = get_or-set_other left p q acts [] ne

      taken_own : (s : ℕ) → taken_count (set done p (was ++ act ∷ [])) s p ≡ taken_count done s p + length (taken_in s (act ∷ []))
      unfolding taken_count
      taken_own s = ap (λ zs. length (taken_in s zs)) done_now ∙ ap length (taken_then act_of s was (act ∷ [])) ∙ length-append (taken_in s was) (taken_in s (act ∷ []))

      taken_kept : (s d : ℕ) → d ≢ p → taken_count (set done p (was ++ act ∷ [])) s d ≡ taken_count done s d
      unfolding taken_count
      taken_kept s d ne = ap (λ zs. length (taken_in s zs)) (done_kept d ne)

      posted_own : (d : ℕ) → posted_count (set done p (was ++ act ∷ [])) p d ≡ posted_count done p d + length (posted_in d (act ∷ []))
      unfolding posted_count
      posted_own d = ap (λ zs. length (posted_in d zs)) done_now ∙ ap length (posted_then act_of d was (act ∷ [])) ∙ length-append (posted_in d was) (posted_in d (act ∷ []))

      posted_kept : (s d : ℕ) → s ≢ p → posted_count (set done p (was ++ act ∷ [])) s d ≡ posted_count done s d
      unfolding posted_count
      posted_kept s d ne = ap (λ zs. length (posted_in d zs)) (done_kept s ne)

      -- nothing taken, or nothing posted
      taken_same : ((s : ℕ) → length (taken_in s (act ∷ [])) ≡ 0) → (s d : ℕ) → taken_count (set done p (was ++ act ∷ [])) s d ≡ taken_count done s d
      taken_same none s d = elim (cases_eq d p) [
        | inl same ↦ rw same (omega (arith, taken_own s, none s))
        | inr differ ↦ taken_kept s d differ
      ]

      posted_same : ((d : ℕ) → length (posted_in d (act ∷ [])) ≡ 0) → (s d : ℕ) → posted_count (set done p (was ++ act ∷ [])) s d ≡ posted_count done s d
      posted_same none s d = elim (cases_eq s p) [
        | inl same ↦ rw same (omega (arith, posted_own d, none d))
        | inr differ ↦ posted_kept s d differ
      ]

      -- what the peer took of s, with what it takes now
      abbrev got : ℕ → List Frame
      got s = taken_in s was ++ taken_in s (act ∷ [])

      got_count : (s : ℕ) → length (got s) ≡ taken_count done s p + length (taken_in s (act ∷ []))
      unfolding taken_count
      got_count s = length-append (taken_in s was) (taken_in s (act ∷ []))

      mine : (s : ℕ) → ins_at pasts p s ≡ got s ++ taken_in s acts
      mine s =
          ins_is pasts p s x.0 x.1 ∙ (acted p o.0 x.0 o.1 x.1).ins s ∙ ap (taken_in s) (sym at_p.whole) ∙ taken_then act_of s was (act ∷ acts)
          ∙ ap (λ zs. taken_in s was ++ zs) (taken_then act_of s (act ∷ []) acts) ∙ sym (append_assoc (taken_in s was) (taken_in s (act ∷ [])) (taken_in s acts))

      -- it is of what s posted so far
      front : (s : ℕ) → s < length opening → taken_count done s p + length (taken_in s (act ∷ [])) ≤ posted_count done s p → IsPrefix (got s) (posted_in p (get_or done s []))
      unfolding taken_count posted_count
      front s within enough =
          let put : List Frame = posted_in p (get_or done s []) in
          let os = member opening s within in
          let y = member pasts s (omega (arith, within, told.count)) in
          let b = member lives s (omega (arith, within, going.count)) in
          let at_s = going.at s os.0 b.0 y.0 os.1 b.1 y.1 in
          let theirs : outs_at pasts s p ≡ put ++ posted_in p (get_or left s []) =
          outs_is pasts s p y.0 y.1 ∙ (acted s os.0 y.0 os.1 y.1).outs p ∙ ap (posted_in p) (sym at_s.whole) ∙ posted_then act_of p (get_or done s []) (get_or left s []) in
          let lane = told.lanes s p in
          let both : got s ++ (taken_in s acts ++ lane.0) ≡ put ++ posted_in p (get_or left s []) =
          sym (append_assoc (got s) (taken_in s acts) lane.0) ∙ ap (λ fs. fs ++ lane.0) (sym (mine s)) ∙ lane.1 ∙ theirs in
          front_of (got s) put (taken_in s acts ++ lane.0) (posted_in p (get_or left s [])) both (omega (arith, got_count s, enough))

      agrees_p : Agrees (length opening) (held l.0) (λ s. taken_in s was) (λ d. posted_in d was)
      agrees_p = agrees_at p o.0 x.0 l.0 was (act ∷ acts) o.1 x.1 at_p

      shown : (s : ℕ) → taken_count done s p + length (taken_in s (act ∷ [])) ≤ posted_count done s p → ShowsOf (now_seen lives p) (held l.0) s (taken_in s (act ∷ []))
      unfolding posted_count
      shown s enough = elim (cases_lt s (length opening)) [
        | inl within ↦ (
            let os = member opening s within in
            let y = member pasts s (omega (arith, within, told.count)) in
            let b = member lives s (omega (arith, within, going.count)) in
            let agrees_s = agrees_at s os.0 y.0 b.0 (get_or done s []) (get_or left s []) os.1 y.1 (going.at s os.0 b.0 y.0 os.1 b.1 y.1) in
            let there : slice_get (map see lives) s ≡ Some (see b.0) = slice_get-map see lives s ∙ ap (option_map see) b.1 in
            let ready_s : (now_seen lives p).ready s ≡ accepted_for (held b.0).state.tx p = rw there (ready b.0 p) in
            let sent_s : (now_seen lives p).sent s ≡ slice_index (held b.0).state.tx.sent p = rw there (sent b.0 p) in
            shows_sender (length opening) p s (now_seen lives p) (held l.0) (λ q. taken_in q was) (λ q. posted_in q was) agrees_p (taken_in s (act ∷ []))
            (held b.0) (λ q. taken_in q (get_or done s [])) (λ q. posted_in q (get_or done s [])) agrees_s below ready_s sent_s (front s within enough))
        | inr past ↦ (
            let none : get_or done s [] ≡ [] = get_or_past done s [] (omega (arith, past, going.dones)) in
            let nothing : got s ≡ [] = nil_from_length (got s) (omega (arith, got_count s, enough, ap (λ zs. length (posted_in p zs)) none)) in
            let nobody : slice_get (map see lives) s ≡ None = slice_get_past (map see lives) s (omega (arith, past, going.count, length-map lives see)) in
            let none_s : (now_seen lives p).ready s ≡ [] = rw nobody refl in
            shows_nobody (length opening) p s (now_seen lives p) (held l.0) (λ q. taken_in q was) (λ q. posted_in q was) agrees_p (taken_in s (act ∷ [])) none_s ([], append-nil (got s) ∙ nothing))
      ]

      advance : (next : Merging) → ((q : ℕ) → map way (get_or next.left q []) ≡ ways_in (get_or (set left p acts) q []))
          → ((s d : ℕ) → taken_count (set done p (was ++ act ∷ [])) s d + next.inside s d ≡ posted_count (set done p (was ++ act ∷ [])) s d)
          → ((s : ℕ) → taken_count done s p + length (taken_in s (act ∷ [])) ≤ posted_count done s p) → (m : L) × Going next (set lives p m) (set done p (was ++ act ∷ [])) (set left p acts)
      advance next moves inside enough =
          let t = at_p.lives in
          let m = t.0 in
          let only : Trail Does l.0 (act ∷ []) m = (m, t.1, refl) in
          let shows : Shows (now_seen lives p) (held l.0) (λ s. taken_in s (act ∷ [])) = record { items = λ s. (shown s (enough s)).0; sent = λ s. (shown s (enough s)).1 } in
          let walk : Walk machine (now_seen lives p) (see l.0) (steps_in (act ∷ [])) (see m) = walks (now_seen lives p) l.0 m act t.1 shows in
          let states : List M = map see lives in
          let has : slice_get states p ≡ Some (see l.0) = slice_get-map see lives p ∙ ap (option_map see) l.1 in
          let leads : Leads (rule machine) states (by p (steps_in (act ∷ []))) (set states p (see m)) =
          walk_leads machine grows waits (steps_in (act ∷ [])) states p (now_seen lives p) (see l.0) (see m) has refl (now_more lives p) walk in
          let within : p < length (map steps_in done) = omega (arith, below, going.dones, length-map done steps_in) in
          let more = reached_more (rule machine) (map see opening) states (set states p (see m)) (map steps_in done) p (steps_in (act ∷ [])) within going.reached leads in
          let own : get_or (map steps_in done) p [] ≡ steps_in was = map_at steps_in done p refl in
          let lists : set (map steps_in done) p (get_or (map steps_in done) p [] ++ steps_in (act ∷ [])) ≡ map steps_in (set done p (was ++ act ∷ [])) =
          ap (λ zs. set (map steps_in done) p (zs ++ steps_in (act ∷ []))) own ∙ ap (set (map steps_in done) p) (sym (flat_map-append steps_by was (act ∷ []))) ∙ sym (map-set steps_in done p (was ++ act ∷ [])) in
          let ends : set states p (see m) ≡ map see (set lives p m) = sym (map-set see lives p m) in (
            m,
            record {
              count = length-set lives p m ∙ going.count;
              dones = length-set done p (was ++ act ∷ []) ∙ going.dones;
              lefts = length-set left p acts ∙ going.lefts;
              moves = moves;
              at = λ q oq c y is_o has_c past. elim (cases_eq q p) [
                | inl same ↦ (
                    let has' : slice_get (set lives p m) p ≡ Some c = subst (λ k. slice_get (set lives p m) k ≡ Some c) same has_c in
                    let past' : slice_get pasts p ≡ Some y = subst (λ k. slice_get pasts k ≡ Some y) same past in
                    let open' : slice_get opening p ≡ Some oq = subst (λ k. slice_get opening k ≡ Some oq) same is_o in
                    let is_m : m ≡ c = (let own_m = slice_get-set_same lives p m (omega (arith, below, going.count)) in cc (own_m, has')) in
                    let is_x : x.0 ≡ y = (let own_x = x.1 in cc (own_x, past')) in
                    let is_q : o.0 ≡ oq = (let own_o = o.1 in cc (own_o, open')) in
                    let made : At p o.0 x.0 m (was ++ act ∷ []) acts =
                    record { whole = append_assoc was (act ∷ []) acts ∙ at_p.whole; came = trail_then Does o.0 l.0 m was (act ∷ []) at_p.came only; lives = t.2 } in
                    let made' : At p oq y c (was ++ act ∷ []) acts =
                    subst (λ z. At p z y c (was ++ act ∷ []) acts) is_q (subst (λ z. At p o.0 z c (was ++ act ∷ []) acts) is_x (subst (λ z. At p o.0 x.0 z (was ++ act ∷ []) acts) is_m made)) in
                    rw (same, done_now, left_now) made')
                | inr differ ↦ rw (done_kept q differ, left_kept q differ) (going.at q oq c y is_o (sym (slice_get-set_other lives p q m (λ e. differ (sym e))) ∙ has_c) past)
              ];
              inside = inside;
              reached = subst (λ zs. Reached (rule machine) (map see opening) zs (map see (set lives p m))) lists
                  (subst (λ zs. Reached (rule machine) (map see opening) (set (map steps_in done) p (get_or (map steps_in done) p [] ++ steps_in (act ∷ []))) zs) ends more);
            },
          )

      -- the moves left, where the peer's own are these
      moves_set : (all : List (List Move)) → map way (get_or all p []) ≡ ways_in acts → ((q : ℕ) → q ≢ p → get_or all q [] ≡ get_or now.left q []) → (q : ℕ) → map way (get_or all q []) ≡ ways_in (get_or (set left p acts) q [])
      moves_set all own kept q = elim (cases_eq q p) [
        | inl same ↦ rw (same, left_now) own
        | inr differ ↦ rw (left_kept q differ) (ap (map way) (kept q differ) ∙ going.moves q)
      ]

      -- no more than was posted, where nothing is taken
      enough_none : ((s : ℕ) → length (taken_in s (act ∷ [])) ≡ 0) → (s : ℕ) → taken_count done s p + length (taken_in s (act ∷ [])) ≤ posted_count done s p
      enough_none none s = omega (arith, going.inside s p, none s)

      -- an act that is no move
      plain_step : ways_at act ≡ [] → (m : L) × Going now (set lives p m) (set done p (was ++ act ∷ [])) (set left p acts)
      plain_step plain =
          let none_t : (s : ℕ) → length (taken_in s (act ∷ [])) ≡ 0 = λ s. ap (λ (zs : List Frame). length (zs ++ [])) (plain_takes (act_of act) s plain) in
          let none_p : (d : ℕ) → length (posted_in d (act ∷ [])) ≡ 0 = λ d. ap (λ (zs : List Frame). length (zs ++ [])) (plain_posts (act_of act) d plain) in
          advance now (moves_set now.left (going.moves p ∙ ap ways_in left_is ∙ ap (λ (w : List Way). w ++ ways_in acts) plain) (λ q differ. refl))
          (λ s d. omega (arith, going.inside s d, taken_same none_t s d, posted_same none_p s d)) (enough_none none_t)

    -- a frame posted
    post_step :
        (now next : Merging) (lives : List L) (done left : List (List D)) → Going now lives done left → (p : ℕ) (act : D) (acts : List D) → slice_get left p ≡ Some (act ∷ acts) → (e : ℕ) (f : Frame) → act_of act ≡ Posted e f
        → next.inside ≡ with_inside now.inside p e (now.inside p e + 1) → map way (get_or next.left p []) ≡ ways_in acts → ((q : ℕ) → q ≢ p → get_or next.left q [] ≡ get_or now.left q [])
        → (m : L) × Going next (set lives p m) (set done p (get_or done p [] ++ act ∷ [])) (set left p acts)
    post_step now next lives done left going p act acts here e f is lanes own kept =
        let none : (s : ℕ) → length (taken_in s (act ∷ [])) ≡ 0 = λ s. ap (λ a. length (taken_of s (a ∷ []))) is in
        let one : length (posted_in e (act ∷ [])) ≡ 1 = ap (λ a. length (posted_to e (a ∷ []))) is ∙ posted_one e e f refl in
        let nil : (d : ℕ) → e ≢ d → length (posted_in d (act ∷ [])) ≡ 0 = λ d other. ap (λ a. length (posted_to d (a ∷ []))) is ∙ posted_none e d f other in
        let taken = taken_same now lives done left going p act acts here none in
        advance now lives done left going p act acts here next (moves_set now lives done left going p act acts here next.left own kept)
        (λ s d. let inside : next.inside s d ≡ with_inside now.inside p e (now.inside p e + 1) s d = ap (λ (g : ℕ → ℕ → ℕ). g s d) lanes in
        elim (cases_eq s p) [
          | inl from ↦ elim (cases_eq e d) [
            | inl to ↦ (
                let here' : next.inside p e ≡ now.inside p e + 1 = ap (λ (g : ℕ → ℕ → ℕ). g p e) lanes ∙ inside_same now.inside p e (now.inside p e + 1) in
                rw (from, sym to) (omega (arith, here', one, posted_own now lives done left going p act acts here e, taken p e, going.inside p e)))
            | inr other ↦
                rw from (omega (arith, ap (λ (g : ℕ → ℕ → ℕ). g p d) lanes, inside_to now.inside p e (now.inside p e + 1) p d (λ z. other (sym z)), nil d other, posted_own now lives done left going p act acts here d, taken p d, going.inside p d))
          ]
          | inr differ ↦ omega (arith, inside, inside_from now.inside p e (now.inside p e + 1) s d differ, posted_kept now lives done left going p act acts here s d differ, taken s d, going.inside s d)
        ])
        (enough_none now lives done left going p act acts here none)

    -- a frame taken
    take_step :
        (now next : Merging) (lives : List L) (done left : List (List D)) → Going now lives done left → (p : ℕ) (act : D) (acts : List D) → slice_get left p ≡ Some (act ∷ acts) → (e : ℕ) (f : Frame) → act_of act ≡ Took e f
        → (n : ℕ) → now.inside e p ≡ suc n → next.inside ≡ with_inside now.inside e p n → map way (get_or next.left p []) ≡ ways_in acts → ((q : ℕ) → q ≢ p → get_or next.left q [] ≡ get_or now.left q [])
        → (m : L) × Going next (set lives p m) (set done p (get_or done p [] ++ act ∷ [])) (set left p acts)
    take_step now next lives done left going p act acts here e f is n full lanes own kept =
        let one : length (taken_in e (act ∷ [])) ≡ 1 = ap (λ a. length (taken_of e (a ∷ []))) is ∙ taken_one e e f refl in
        let nil : (s : ℕ) → e ≢ s → length (taken_in s (act ∷ [])) ≡ 0 = λ s other. ap (λ a. length (taken_of s (a ∷ []))) is ∙ taken_none e s f other in
        let posted = posted_same now lives done left going p act acts here (λ d. ap (λ a. length (posted_to d (a ∷ []))) is) in
        advance now lives done left going p act acts here next (moves_set now lives done left going p act acts here next.left own kept)
        (λ s d. let inside : next.inside s d ≡ with_inside now.inside e p n s d = ap (λ (g : ℕ → ℕ → ℕ). g s d) lanes in
        elim (cases_eq d p) [
          | inl to ↦ elim (cases_eq e s) [
            | inl from ↦ (
                let here' : next.inside e p ≡ n = ap (λ (g : ℕ → ℕ → ℕ). g e p) lanes ∙ inside_same now.inside e p n in
                rw (to, sym from) (omega (arith, here', full, one, taken_own now lives done left going p act acts here e, posted e p, going.inside e p)))
            | inr other ↦
                rw to (omega (arith, ap (λ (g : ℕ → ℕ → ℕ). g s p) lanes, inside_from now.inside e p n s p (λ z. other (sym z)), nil s other, taken_own now lives done left going p act acts here s, posted s p, going.inside s p))
          ]
          | inr differ ↦ omega (arith, inside, inside_to now.inside e p n s d differ, taken_kept now lives done left going p act acts here s d differ, posted s d, going.inside s d)
        ])
        (λ s. elim (cases_eq e s) [
          | inl from ↦ rw (sym from) (omega (arith, full, one, going.inside e p))
          | inr other ↦ omega (arith, nil s other, going.inside s p)
        ])

    -- ---- to the end

    abbrev TheEnd : Type 0
    TheEnd = Reached (rule machine) (map see opening) (map told_steps pasts) (map (λ (y : PastOf L K). see y.living) pasts)

    ended : (now : Merging) (lives : List L) (done left : List (List D)) → Going now lives done left → ((p : ℕ) → get_or left p [] ≡ []) → TheEnd
    ended now lives done left going none =
        let same : lives ≡ map (λ (y : PastOf L K). y.living) pasts = same_list lives (map (λ (y : PastOf L K). y.living) pasts) (going.count ∙ sym (told.count) ∙ sym (length-map pasts (λ (y : PastOf L K). y.living)))
        (λ p b c has has'.
        let below' : p < length opening = omega (arith, slice_get_within lives p b has, going.count) in
        let y = member pasts p (omega (arith, below', told.count)) in
        let q = member opening p below' in
        let final : slice_get (map (λ (z : PastOf L K). z.living) pasts) p ≡ Some (y.0).living = slice_get-map (λ (z : PastOf L K). z.living) pasts p ∙ ap (option_map (λ (z : PastOf L K). z.living)) y.1 in
        let is : (y.0).living ≡ c = cc (final, has') in
        let at = going.at p q.0 b y.0 q.1 has y.1 in
        let end : b ≡ (y.0).living = subst (λ zs. Trail Does b zs (y.0).living) (none p) at.lives in
        end ∙ is) in
        let lists : (p : ℕ) → get_or (map steps_in done) p [] ≡ get_or (map told_steps pasts) p [] = λ p. elim (cases_lt p (length opening)) [
          | inl within ↦ (
              let y = member pasts p (omega (arith, within, told.count)) in
              let b = member lives p (omega (arith, within, going.count)) in
              let q = member opening p within in
              let at = going.at p q.0 b.0 y.0 q.1 b.1 y.1 in
              let all : get_or done p [] ≡ get_or totals p [] = sym (append-nil (get_or done p [])) ∙ ap (λ zs. get_or done p [] ++ zs) (sym (none p)) ∙ at.whole in
              let there : slice_get (map told_steps pasts) p ≡ Some (told_steps y.0) = slice_get-map told_steps pasts p ∙ ap (option_map told_steps) y.1 in
              map_at steps_in done p refl ∙ ap steps_in all ∙ sym ((acted p q.0 y.0 q.1 y.1).steps) ∙ sym (get_or_from_slice_get (map told_steps pasts) p (told_steps y.0) [] there))
          | inr past ↦ get_or_past (map steps_in done) p [] (omega (arith, past, going.dones, length-map done steps_in))
              ∙ sym (get_or_past (map told_steps pasts) p [] (omega (arith, past, told.count, length-map pasts told_steps)))
        ] in
        let states : map see lives ≡ map (λ (y : PastOf L K). see y.living) pasts = ap (map see) same ∙ map_map pasts in
        let r = going.reached in
        subst (λ ss. Reached (rule machine) (map see opening) (map told_steps pasts) ss) states (r.0, r.1, λ p. sym (lists p) ∙ r.2 p)
      where
        map_map : (xs : List (PastOf L K)) → map see (map (λ (y : PastOf L K). y.living) xs) ≡ map (λ (y : PastOf L K). see y.living) xs
        map_map [] = refl
        map_map (y ∷ xs) = ap (λ zs. see y.living ∷ zs) (map_map xs)

    one_less : (left : List (List D)) (p : ℕ) (act : D) (acts : List D) → slice_get left p ≡ Some (act ∷ acts) → suc (sum_by length (set left p acts)) ≡ sum_by length left
    one_less left p act acts here =
        let sums = sum_by-set length left p acts [] (slice_get_within left p (act ∷ acts) here) in
        let size = ap length (get_or_from_slice_get left p (act ∷ acts) [] here) in
        omega (arith, sums, size)

    none_by_sum : (left : List (List D)) → sum_by length left ≤ 0 → (p : ℕ) → get_or left p [] ≡ []
    none_by_sum left none p = elim (cases_lt p (length left)) [
      | inl within ↦ nil_from_length (get_or left p []) (omega (arith, none, get_or-le-sum_by length left p [] within))
      | inr past ↦ get_or_past left p [] past
    ]

    -- where a peer's moves are all used and none of its acts left begins with another, nothing is left
    none_by_moves : (acts : List D) → [] ≡ ways_in acts → HasNone acts → acts ≡ []
    none_by_moves [] moves plain = refl
    none_by_moves (x ∷ xs) moves plain = by_ways (ways_at x) refl
      where
        by_ways : (ws : List Way) → ways_at x ≡ ws → x ∷ xs ≡ []
        by_ways [] is = absurd (plain x xs refl is)
        by_ways (w ∷ ws) is = let no_way : [] ≡ w ∷ (ws ++ ways_in xs) = moves ∙ ap (λ vs. vs ++ ways_in xs) is in absurd (cc (no_way))

    -- the act of a peer's next move
    record NextAct (left : List (List D)) (p : ℕ) (w : Way) (rest : List Way) : Type 0 where
      act : D
      acts : List D
      here : slice_get left p ≡ Some (act ∷ acts)
      own : ways_at act ≡ w ∷ []
      rest_is : rest ≡ ways_in acts

    slice_of : (left : List (List D)) (p : ℕ) (x : D) (xs : List D) → get_or left p [] ≡ x ∷ xs → slice_get left p ≡ Some (x ∷ xs)
    slice_of [] p x xs e = absurd (cc (e))
    slice_of (l ∷ left) zero x xs e = ap Some e
    slice_of (l ∷ left) (suc p) x xs e = slice_of left p x xs e

    -- an act moves once, or not at all
    one_way : (x : D) (w : Way) (ws : List Way) → ways_at x ≡ w ∷ ws → ws ≡ []
    one_way x w ws is = by_act (act_of x) is
      where
        by_act : (a : Act) → ways_by a ≡ w ∷ ws → ws ≡ []
        by_act Did e = absurd (cc (e))
        by_act (Took s f) e = cc (e)
        by_act (Posted d f) e = cc (e)
        by_act Drew e = absurd (cc (e))
        by_act Had e = absurd (cc (e))

    next_act : (left : List (List D)) (p : ℕ) (w : Way) (rest : List Way) (acts : List D) → get_or left p [] ≡ acts → w ∷ rest ≡ ways_in acts → HasNone acts → NextAct left p w rest
    next_act left p w rest [] is moves plain = absurd (cc (moves))
    next_act left p w rest (x ∷ xs) is moves plain = by_ways (ways_at x) refl
      where
        by_ways : (ws : List Way) → ways_at x ≡ ws → NextAct left p w rest
        by_ways [] none = absurd (plain x xs refl none)
        by_ways (v ∷ vs) way =
            let one : vs ≡ [] = one_way x v vs way in
            let all : w ∷ rest ≡ v ∷ ways_in xs = moves ∙ ap (λ us. us ++ ways_in xs) way ∙ ap (λ us. v ∷ (us ++ ways_in xs)) one in
            let same : w ≡ v = cc (all) in
            let more : rest ≡ ways_in xs = cc (all) in
            record { act = x; acts = xs; here = slice_of left p x xs is; own = way ∙ ap (λ us. v ∷ us) one ∙ ap (λ (z : Way). z ∷ []) (sym same); rest_is = more }

    -- the peer uses its next move
    move_step :
        (now next : Merging) (lives : List L) (done left : List (List D)) → Going now lives done left → (p : ℕ) (move : Move) (act : D) (acts : List D) → slice_get left p ≡ Some (act ∷ acts) → ways_at act ≡ way move ∷ []
        → LanesAfter now.inside p move next.inside → map way (get_or next.left p []) ≡ ways_in acts → ((q : ℕ) → q ≢ p → get_or next.left q [] ≡ get_or now.left q [])
        → (m : L) × Going next (set lives p m) (set done p (get_or done p [] ++ act ∷ [])) (set left p acts)
    move_step now next lives done left going p move act acts here is lanes own kept = by_act move (act_of act) refl is lanes
      where
        by_act : (move : Move) (a : Act) → act_of act ≡ a → ways_by a ≡ way move ∷ [] → LanesAfter now.inside p move next.inside → (m : L) × Going next (set lives p m) (set done p (get_or done p [] ++ act ∷ [])) (set left p acts)
        by_act move Did e is lanes = absurd (cc (is))
        by_act move Drew e is lanes = absurd (cc (is))
        by_act move Had e is lanes = absurd (cc (is))
        by_act (Post d k) (Posted t f) e is lanes =
            let same : d ≡ t = cc (is) in
            post_step now next lives done left going p act acts here t f e (subst (λ z. next.inside ≡ with_inside now.inside p z (now.inside p z + 1)) same lanes) own kept
        by_act (Take s k) (Posted t f) e is lanes = absurd (cc (is))
        by_act (Post d k) (Took t f) e is lanes = absurd (cc (is))
        by_act (Take s k) (Took t f) e is (n, full, lanes) =
            let same : s ≡ t = cc (is) in
            take_step now next lives done left going p act acts here t f e n (subst (λ z. now.inside z p ≡ suc n) same full) (subst (λ z. next.inside ≡ with_inside now.inside z p n) same lanes) own kept

    by_move : (now : Merging) (lives : List L) (done left : List (List D)) → Going now lives done left → (order : List ℕ) → Merges now order → ((p : ℕ) → HasNone (get_or left p []))
        → ((order : List ℕ) (next : Merging) (lives' : List L) (done' left' : List (List D)) → suc (sum_by length left') ≡ sum_by length left → Merges next order → Going next lives' done' left' → TheEnd) → TheEnd
    by_move now lives done left going [] merges none more = ended now lives done left going (λ p. none_by_moves (get_or left p []) (ap (map way) (sym (merges p)) ∙ going.moves p) (none p))
    by_move now lives done left going (p ∷ order) (next, turn, merges) none more =
        let t = turn_is now next p turn in
        let mine' : get_or now.left p [] ≡ t.move ∷ t.rest = get_or_from_slice_get now.left p (t.move ∷ t.rest) [] t.here in
        let used : way t.move ∷ map way t.rest ≡ ways_in (get_or left p []) = ap (map way) (sym mine') ∙ going.moves p in
        let a = next_act left p (way t.move) (map way t.rest) (get_or left p []) refl used (none p) in
        let own : map way (get_or next.left p []) ≡ ways_in a.acts =
        ap (λ zs. map way (get_or zs p [])) t.left ∙ ap (map way) (get_or-set_same now.left p t.rest [] (slice_get_within now.left p (t.move ∷ t.rest) t.here)) ∙ a.rest_is in
        let kept : (q : ℕ) → q ≢ p → get_or next.left q [] ≡ get_or now.left q [] = λ q differ. ap (λ zs. get_or zs q []) t.left ∙ get_or-set_other now.left p q t.rest [] differ in
        let s = move_step now next lives done left going p t.move a.act a.acts a.here a.own t.lanes own kept in
        more order next (set lives p s.0) (set done p (get_or done p [] ++ a.act ∷ [])) (set left p a.acts) (one_less left p a.act a.acts a.here) merges s.1

    go : (k : ℕ) (order : List ℕ) (now : Merging) (lives : List L) (done left : List (List D)) → sum_by length left ≤ k → Merges now order → Going now lives done left → TheEnd
    go zero order now lives done left enough merges going = ended now lives done left going (none_by_sum left enough)
    go (suc k) order now lives done left enough merges going = elim (plain_or_not left) [
      | inl h ↦ (
          let s = plain_step now lives done left going h.0 h.1 h.2 h.3 h.4 in
          go k order now (set lives h.0 s.0) (set done h.0 (get_or done h.0 [] ++ h.1 ∷ [])) (set left h.0 h.2) (omega (arith, enough, one_less left h.0 h.1 h.2 h.3)) merges s.1)
      | inr none ↦ by_move now lives done left going order merges none (λ order' next lives' done' left' less merges' going'. go k order' next lives' done' left' (omega (arith, enough, less)) merges' going')
    ]

    -- ---- the opening

    nothing_done : List (List D)
    nothing_done = replicate (length opening) []

    none_done : (p : ℕ) → get_or nothing_done p [] ≡ []
    unfolding nothing_done
    none_done p = all_the_same {X = List D} (length opening) p []

    dones_is : length nothing_done ≡ length opening
    unfolding nothing_done
    dones_is = length-replicate {A = List D} (length opening) []

    abbrev first_merging : Merging
    first_merging = record { inside = λ s d. 0; left = map told_moves pasts }

    moves_at : (p : ℕ) → map way (get_or first_merging.left p []) ≡ ways_in (get_or totals p [])
    moves_at p = elim (cases_lt p (length opening)) [
      | inl within ↦ (
          let y = member pasts p (omega (arith, within, told.count)) in
          let q = member opening p within in
          let there : slice_get (map told_moves pasts) p ≡ Some (told_moves y.0) = slice_get-map told_moves pasts p ∙ ap (option_map told_moves) y.1 in
          let grew = (acted p q.0 y.0 q.1 y.1).moves in
          ap (map way) (get_or_from_slice_get (map told_moves pasts) p (told_moves y.0) [] there ∙ ap (λ z. unwrap_or z []) grew.1) ∙ grew.2)
      | inr past ↦ ap (map way) (get_or_past (map told_moves pasts) p [] (omega (arith, past, told.count, length-map pasts told_moves)))
          ∙ ap ways_in (sym (get_or_past totals p [] (omega (arith, past, sized))))
    ]

    begin : Going first_merging opening nothing_done totals
    unfolding taken_count posted_count
    begin = record {
      count = refl;
      dones = dones_is;
      lefts = sized;
      moves = moves_at;
      at = λ p q l y is_o has past.
          let same : q ≡ l = cc (is_o, has) in
          rw (none_done p) (subst (λ z. At p q y z [] (get_or totals p [])) same (record { whole = refl; came = refl; lives = (acted p q y is_o past).lives }));
      inside = λ s d. omega (arith, ap (λ zs. length (taken_in s zs)) (none_done d), ap (λ zs. length (posted_in d zs)) (none_done s));
      reached = reached_opening (rule machine) (map see opening) (map steps_in nothing_done) (λ p. map_at steps_in nothing_done p refl ∙ ap steps_in (none_done p));
    }

    pub all_reached : TheEnd
    all_reached =
        let order = merges_order (map told_moves pasts) told.merge in
        go (sum_by length totals) order.0 first_merging opening nothing_done totals (omega arith) order.1 begin

    -- ---- what is known in the end

    pub agrees_end : (p : ℕ) (q : L) (y : PastOf L K) → slice_get opening p ≡ Some q → slice_get pasts p ≡ Some y → Agrees (length pasts) (held y.living) y.ins y.outs
    agrees_end p q y is_o past =
        let m = acted p q y is_o past in
        let agrees = agrees_by (length opening) (acts_of (get_or totals p [])) (held q) (held y.living) (told.fresh p q is_o) (held_by (get_or totals p []) q y.living m.lives) (told.items p y past) in
        let ins : (λ s. taken_in s (get_or totals p [])) ≡ y.ins = fun_ext (λ s. sym (m.ins s)) in
        let outs : (λ d. posted_in d (get_or totals p [])) ≡ y.outs = fun_ext (λ d. sym (m.outs d)) in
        subst (λ n. Agrees n (held y.living) y.ins y.outs) (sym told.count)
        (subst (λ (t : ℕ → List Frame). Agrees (length opening) (held y.living) t y.outs) ins (subst (λ (u : ℕ → List Frame). Agrees (length opening) (held y.living) (λ s. taken_in s (get_or totals p [])) u) outs agrees))

-- what each peer did, of all peers
pub choose :
    {L D K : Type 0} (Since : L → PastOf L K → List D → Type 0) (opening : List L) (pasts : List (PastOf L K)) → length pasts ≡ length opening
    → ((p : ℕ) (o : L) (x : PastOf L K) → slice_get opening p ≡ Some o → slice_get pasts p ≡ Some x → (xs : List D) × Since o x xs)
    → (totals : List (List D)) × (length totals ≡ length opening) × ((p : ℕ) (o : L) (x : PastOf L K) → slice_get opening p ≡ Some o → slice_get pasts p ≡ Some x → Since o x (get_or totals p []))
choose Since [] pasts count acted = ([], refl, λ p o x e. absurd (cc (e)))
choose Since (o ∷ opening) [] count acted = absurd (omega (arith, count))
choose Since (o ∷ opening) (x ∷ pasts) count acted =
    let w = acted zero o x refl refl in
    let ih = choose Since opening pasts (omega (arith, count)) (λ p. acted (suc p)) in (
      w.0 ∷ ih.0,
      omega (arith, ih.1),
      elim [
        | zero ↦ λ b y e f. (let is : o ≡ b = cc (e) in let same : x ≡ y = cc (f) in
            subst (λ z. Since b z w.0) same (subst (λ z. Since z x w.0) is w.1))
        | suc p ↦ ih.2 p
      ],
    )
