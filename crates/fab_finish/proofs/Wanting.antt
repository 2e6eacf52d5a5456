-- Schedules only grow, and want of memory leaves those of turns that stood.
use Rattle.std.proofs.Common.{◌≡◌, ℕ, List, [], Some, inl, inr, sym, ap, subst, ◌∙◌}
use Rattle.std.specs.Prelude.{slice_get, slice_set, slice_index_or, Result, Ok, Err, IfOk, OnErr, OnOk, Bool}
use Rattle.std.specs.Option.{option_map}
use Rattle.std.proofs.lemmas.List.{map-set}
use Rattle.std.proofs.lemmas.Option.{slice_get-map, get_or_from_slice_get}
use Rattle.fab_base.specs.declared.peers.Step.{Step}
use Rattle.fab_model.specs.Orders.{Reached}
use Rattle.fab_model.specs.Peers.{fabric}
use Rattle.fab_model.specs.Views.{IsPrefixOf, rule}
use Rattle.fab_model.proofs.Parts.{get_or-set}
use Rattle.fab_model.proofs.Views.{prefix_prefix, prefix_self}
use Rattle.fab_face.specs.Acts.{Act, steps_of}
use Rattle.fab_peer.specs.Turns.{Ended, Turned, is_some_act}
use Rattle.fab_finish.specs.Joined.{Ends, GoesOn, Member, actors, member_steps, opened, schedules, told_of}
use Rattle.fab_finish.specs.Wanting.{Grows, Leaves}
use Rattle.fab_finish.proofs.Joining.{set_itself}

pub grows_same : (ps qs : List Member) → schedules qs ≡ schedules ps → Grows ps qs
grows_same ps qs same k = prefix_self _ _ (ap (λ (x : List (List Step)). slice_index_or x k []) (sym same))

pub grows_then : (ps qs rs : List Member) → Grows ps qs → Grows qs rs → Grows ps rs
grows_then ps qs rs a b k = prefix_prefix _ _ _ (a k) (b k)

pub leaves_same : (ps qs : List Member) → schedules qs ≡ schedules ps → Leaves ps qs
leaves_same ps qs same conf lists reached = (actors ps, subst (λ (x : List (List Step)). Reached (rule fabric) (opened conf lists) x (actors ps)) (sym same) reached)

pub leaves_after : (ps qs rs : List Member) → Ends ps qs → Leaves qs rs → Leaves ps rs
leaves_after ps qs rs ends leaves conf lists reached = leaves conf lists (ends conf lists reached)

pub goes_ends : (ps qs : List Member) → GoesOn ps qs → Ends ps qs
goes_ends ps qs on conf lists reached = on (opened conf lists) reached

-- ---- one peer

module _ (ps : List Member) (k : ℕ) (a b : Member) (is_a : slice_get ps k ≡ Some a) where
  steps_are : schedules (slice_set ps k b) ≡ slice_set (schedules ps) k (member_steps b)
  steps_are = map-set member_steps ps k b

  logs : slice_get (schedules ps) k ≡ Some (member_steps a)
  logs = slice_get-map member_steps ps k ∙ ap (option_map member_steps) is_a

  own : slice_index_or (schedules ps) k [] ≡ member_steps a
  own = get_or_from_slice_get (schedules ps) k (member_steps a) [] logs

  -- its schedule stays
  pub stays_all : member_steps b ≡ member_steps a → schedules (slice_set ps k b) ≡ schedules ps
  stays_all same = steps_are ∙ ap (slice_set (schedules ps) k) same ∙ set_itself (schedules ps) k (member_steps a) logs

  pub grows_at : IsPrefixOf (member_steps a) (member_steps b) → Grows ps (slice_set ps k b)
  grows_at grown j = elim (get_or-set (schedules ps) k j (member_steps b) []) [
    | inl other ↦ prefix_self _ _ (sym (ap (λ (x : List (List Step)). slice_index_or x j []) steps_are ∙ other))
    | inr here ↦ (
        let before : slice_index_or (schedules ps) j [] ≡ member_steps a = ap (λ i. slice_index_or (schedules ps) i []) (sym here.0) ∙ own in
        let after : slice_index_or (schedules (slice_set ps k b)) j [] ≡ member_steps b = ap (λ (x : List (List Step)). slice_index_or x j []) steps_are ∙ here.1 in
        subst (λ (y : List Step). IsPrefixOf (slice_index_or (schedules ps) j []) y) (sym after) (subst (λ (x : List Step). IsPrefixOf x (member_steps b)) (sym before) grown))
  ]

  -- a turn of it, whatever its answer
  pub turned_grows : {X E : Type 0} (moved : X → Bool) (r : Result X E) → IfOk r (λ x. (acts : List Act) × Turned (told_of a) (told_of b) acts × (moved x ≡ is_some_act acts)) → OnErr r (member_steps b ≡ member_steps a)
      → Grows ps (slice_set ps k b)
  turned_grows moved (Ok x) (acts, turned, is) stays = grows_at (steps_of acts, sym turned.schedule)
  turned_grows moved (Err e) turned stays = grows_same ps (slice_set ps k b) (stays_all stays)

  pub stays_leaves : {X E : Type 0} (r : Result X E) → OnErr r (member_steps b ≡ member_steps a) → OnErr r (Leaves ps (slice_set ps k b))
  stays_leaves (Ok x) stays = stays
  stays_leaves (Err e) stays = leaves_same ps (slice_set ps k b) (stays_all stays)

  -- its end, whatever the answer
  pub ended_grows : {X E : Type 0} (r : Result X E) → OnOk r (Ended (told_of a) (told_of b)) → OnErr r (member_steps b ≡ member_steps a) → Grows ps (slice_set ps k b)
  ended_grows (Ok x) ended stays = grows_at (ended.steps, sym ended.schedule)
  ended_grows (Err e) ended stays = grows_same ps (slice_set ps k b) (stays_all stays)
