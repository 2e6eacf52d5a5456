-- How acts join: their kinds, what they do to a port, and where they lead.
use Rattle.std.proofs.Common.{◌≡◌, ◌⊎◌, inl, inr, ◌≤◌, ◌+◌, ◌^◌, ℕ, List, [], ◌∷◌, ◌++◌, map, Option, Some, None, refl, sym, ap, ◌∙◌, subst, append_assoc, append-nil, arith}
use Rattle.std.proofs.lemmas.Bool.{cases_eq}
use Rattle.std.proofs.lemmas.List.{map-append}
use Rattle.std.proofs.lemmas.Grind.{flat_map-append}
use Rattle.fab_base.specs.Counts.{Rose}
use Rattle.fab_base.specs.declared.peers.LineResult.TheVariants.{Done}
use Rattle.fab_base.proofs.Numbers.{rose_later as rose_before}
use Rattle.fab_link.specs.declared.moves.Move.{Move}
use Rattle.fab_link.specs.declared.moves.Move.TheVariants.{Take as In}
use Rattle.fab_link.specs.Meaning.{GrewBy, Incoming, Outgoing}
use Rattle.fab_model.specs.Calls.{Call, do_call}
use Rattle.fab_face.specs.declared.events.Event.TheVariants.{Call as Called}
use Rattle.fab_face.specs.Held.{Held, Lanes, Seen}
use Rattle.fab_face.specs.Acts.{Act, Did, Took, Posted, Drew, Had, GoesBy, Went, Ported, MovedBy, Way, From, way, events, logged, taken_of, taken_by, posted_to, posted_by, ways_by, ways_of, is_move, is_post, is_draw, does}
use Rattle.fab_face.specs.Answers.{AllAre}

-- ---- kinds

pub posts_move : (acts : List Act) → AllAre is_post acts → AllAre is_move acts
posts_move [] are = refl
posts_move (Did ∷ acts) are = absurd (cc)
posts_move (Took source f ∷ acts) are = absurd (cc)
posts_move (Posted dest f ∷ acts) are = posts_move acts are
posts_move (Drew ∷ acts) are = absurd (cc)
posts_move (Had ∷ acts) are = absurd (cc)

pub draws_move : (acts : List Act) → AllAre is_draw acts → AllAre is_move acts
draws_move [] are = refl
draws_move (Did ∷ acts) are = absurd (cc)
draws_move (Took source f ∷ acts) are = absurd (cc)
draws_move (Posted dest f ∷ acts) are = absurd (cc)
draws_move (Drew ∷ acts) are = draws_move acts are
draws_move (Had ∷ acts) are = absurd (cc)

-- ---- ports

pub moved_then : (a b c : Option (List Move)) (xs ys : List Way) → MovedBy a b xs → MovedBy b c ys → MovedBy a c (xs ++ ys)
moved_then None b c xs ys p q = subst (λ (o : Option (List Move)). MovedBy o c ys) p q
moved_then (Some moves) b c xs ys (more, is, ways) q =
    let r : MovedBy (Some (moves ++ more)) c ys = subst (λ (o : Option (List Move)). MovedBy o c ys) is q in
    (more ++ r.0, r.1 ∙ ap Some (append_assoc moves more r.0), map-append way more r.0 ∙ ap (λ zs. zs ++ map way r.0) ways ∙ ap (λ zs. xs ++ zs) r.2)

pub moved_none : (a : Option (List Move)) → MovedBy a a []
moved_none None = refl
moved_none (Some moves) = ([], ap Some (sym (append-nil moves)), refl)

pub moved_same : (a b : Option (List Move)) → b ≡ a → MovedBy a b []
moved_same a b is = subst (λ (x : Option (List Move)). MovedBy a x []) (sym is) (moved_none a)

moved_one : (a b : Option (List Move)) (move : ℕ → Move) (w : Way) → ((n : ℕ) → way (move n) ≡ w) → GrewBy move a b → MovedBy a b (w ∷ [])
moved_one None b move w is grew = grew
moved_one (Some moves) b move w is (n, grew) = (move n ∷ [], grew, ap (λ x. x ∷ []) (is n))

-- one frame is taken, and one is posted
pub moved_took : (a m b : Option (List Move)) (source : ℕ) → m ≡ a → GrewBy (In source) m b → MovedBy a b (From source ∷ [])
moved_took a m b source is grew = moved_one a b (In source) (From source) (λ n. refl) (subst (λ (x : Option (List Move)). GrewBy (In source) x b) is grew)

rose_behind : (a b c : ℕ) → Rose a b → b ≤ c → Rose a c
rose_behind a b c (inl less) le = inl (omega (arith, le, less))
rose_behind a b c (inr last) le = elim (cases_eq b c) [
  | inl same ↦ inr (last.0 ∙ same, subst (λ n. n + 1 ≡ 2 ^ 64) same last.1)
  | inr other ↦ (let e = last.0 in inl (omega (arith, le, other, e)))
]

none_before : {X : Type 0} (xs ys : List X) → xs ++ ys ≡ [] → xs ≡ []
none_before [] ys none = refl
none_before (x ∷ xs) ys none = absurd (cc (none))

none_behind : {X : Type 0} (xs ys : List X) → xs ++ ys ≡ [] → ys ≡ []
none_behind [] ys none = none
none_behind (x ∷ xs) ys none = absurd (cc (none))

empty_then : (a b c : Incoming) → a.empty_seen ≤ b.empty_seen → b.empty_seen ≤ c.empty_seen → Rose a.empty_seen b.empty_seen ⊎ (b.empty_at ≡ a.empty_at) → Rose b.empty_seen c.empty_seen ⊎ (c.empty_at ≡ b.empty_at)
    → Rose a.empty_seen c.empty_seen ⊎ (c.empty_at ≡ a.empty_at)
empty_then a b c le then p (inl rose) = inl (rose_before _ _ _ le rose)
empty_then a b c le then (inl rose) (inr same) = inl (rose_behind _ _ _ rose then)
empty_then a b c le then (inr was) (inr same) = inr (same ∙ was)

full_then : (a b c : Outgoing) → a.lane_full_seen ≤ b.lane_full_seen → b.lane_full_seen ≤ c.lane_full_seen → a.pool_full_seen ≤ b.pool_full_seen → b.pool_full_seen ≤ c.pool_full_seen
    → (Rose a.lane_full_seen b.lane_full_seen ⊎ Rose a.pool_full_seen b.pool_full_seen) ⊎ (b.full_at ≡ a.full_at) → (Rose b.lane_full_seen c.lane_full_seen ⊎ Rose b.pool_full_seen c.pool_full_seen) ⊎ (c.full_at ≡ b.full_at)
    → (Rose a.lane_full_seen c.lane_full_seen ⊎ Rose a.pool_full_seen c.pool_full_seen) ⊎ (c.full_at ≡ a.full_at)
full_then a b c lane_le lane_then pool_le pool_then p (inl (inl lane)) = inl (inl (rose_before _ _ _ lane_le lane))
full_then a b c lane_le lane_then pool_le pool_then p (inl (inr pool)) = inl (inr (rose_before _ _ _ pool_le pool))
full_then a b c lane_le lane_then pool_le pool_then (inl (inl lane)) (inr same) = inl (inl (rose_behind _ _ _ lane lane_then))
full_then a b c lane_le lane_then pool_le pool_then (inl (inr pool)) (inr same) = inl (inr (rose_behind _ _ _ pool pool_then))
full_then a b c lane_le lane_then pool_le pool_then (inr was) (inr same) = inr (same ∙ was)

module _ {Home : Type 0} where
  -- acts that take and post nothing
  pub ported_still : (a b : Lanes Home) (acts : List Act) → b ≡ a → ((s : ℕ) → taken_of s acts ≡ []) → ((d : ℕ) → posted_to d acts ≡ []) → ways_of acts ≡ [] → Ported a b acts
  ported_still a b acts is took posted ways = subst (λ (x : Lanes Home). Ported a x acts) (sym is) (record {
    taken = λ s. rw (took s) (sym (append-nil ((a.ins s).taken)));
    posted = λ d. rw (posted d) (sym (append-nil ((a.outs d).frames)));
    moves = rw ways (moved_none a.moves);
    empty_seen = λ s. omega arith;
    lane_full = λ d. omega arith;
    pool_full = λ d. omega arith;
    empty_at = λ s. inr refl;
    full_at = λ d. inr refl;
    lent = λ s f none lent. lent;
    number = refl;
    peers = refl;
    home = refl;
    in_list = refl;
    in_after = λ s. refl;
    out_after = λ d. refl;
    owed = λ d. refl;
  })

  pub ported_same : (a b : Lanes Home) → b ≡ a → Ported a b []
  ported_same a b is = ported_still a b [] is (λ s. refl) (λ d. refl) refl

  pub ported_did : (a b : Lanes Home) → b ≡ a → Ported a b (Did ∷ [])
  ported_did a b is = ported_still a b (Did ∷ []) is (λ s. refl) (λ d. refl) refl

  pub ported_had : (a b : Lanes Home) → b ≡ a → Ported a b (Had ∷ [])
  ported_had a b is = ported_still a b (Had ∷ []) is (λ s. refl) (λ d. refl) refl

  pub ported_then : (a b c : Lanes Home) (xs ys : List Act) → Ported a b xs → Ported b c ys → Ported a c (xs ++ ys)
  ported_then a b c xs ys p q = record {
    taken = λ s. q.taken s ∙ ap (λ fs. fs ++ taken_of s ys) (p.taken s) ∙ append_assoc ((a.ins s).taken) (taken_of s xs) (taken_of s ys) ∙ ap (λ fs. (a.ins s).taken ++ fs) (sym (flat_map-append (taken_by s) xs ys));
    posted = λ d. q.posted d ∙ ap (λ fs. fs ++ posted_to d ys) (p.posted d) ∙ append_assoc ((a.outs d).frames) (posted_to d xs) (posted_to d ys) ∙ ap (λ fs. (a.outs d).frames ++ fs) (sym (flat_map-append (posted_by d) xs ys));
    moves = subst (λ (ways : List Way). MovedBy a.moves c.moves ways) (sym (flat_map-append ways_by xs ys)) (moved_then a.moves b.moves c.moves (ways_of xs) (ways_of ys) p.moves q.moves);
    empty_seen = λ s. (let x = p.empty_seen s in let y = q.empty_seen s in omega (arith, x, y));
    lane_full = λ d. (let x = p.lane_full d in let y = q.lane_full d in omega (arith, x, y));
    pool_full = λ d. (let x = p.pool_full d in let y = q.pool_full d in omega (arith, x, y));
    empty_at = λ s. empty_then (a.ins s) (b.ins s) (c.ins s) (p.empty_seen s) (q.empty_seen s) (p.empty_at s) (q.empty_at s);
    full_at = λ d. full_then (a.outs d) (b.outs d) (c.outs d) (p.lane_full d) (q.lane_full d) (p.pool_full d) (q.pool_full d) (p.full_at d) (q.full_at d);
    lent = λ s f none lent.
        let both : taken_of s xs ++ taken_of s ys ≡ [] = sym (flat_map-append (taken_by s) xs ys) ∙ none in
        q.lent s f (none_behind (taken_of s xs) (taken_of s ys) both) (p.lent s f (none_before (taken_of s xs) (taken_of s ys) both) lent);
    number = q.number ∙ p.number;
    peers = q.peers ∙ p.peers;
    home = q.home ∙ p.home;
    in_list = q.in_list ∙ p.in_list;
    in_after = λ s. q.in_after s ∙ p.in_after s;
    out_after = λ d. q.out_after d ∙ p.out_after d;
    owed = λ d. q.owed d ∙ p.owed d;
  }

-- ---- endpoints

pub goes_append : (call : Option Call) (xs ys : List Act) (h m k : Held) → GoesBy call h xs m → GoesBy call m ys k → GoesBy call h (xs ++ ys) k
goes_append call [] ys h m k a b = subst (λ (x : Held). GoesBy call x ys k) (sym a) b
goes_append call (x ∷ xs) ys h m k (mid, one, rest) b = (mid, one, goes_append call xs ys mid m k rest b)

module _ {Home : Type 0} (call : Option Call) where
  pub went_none : (a b : Seen Home) → b.held ≡ a.held → b.log ≡ a.log → b.log_size ≡ a.log_size → Ported a.lanes b.lanes [] → Went call a b []
  went_none a b held log size ported = record { goes = sym held; log = log ∙ sym (append-nil a.log); size = size; ported = ported }

  pub went_then : (a b c : Seen Home) (xs ys : List Act) → Went call a b xs → Went call b c ys → Went call a c (xs ++ ys)
  went_then a b c xs ys p q = record {
    goes = goes_append call xs ys a.held b.held c.held p.goes q.goes;
    log = q.log ∙ ap (λ l. l ++ events ys) p.log ∙ append_assoc a.log (events xs) (events ys) ∙ ap (λ es. a.log ++ es) (sym (flat_map-append logged xs ys));
    size = q.size ∙ p.size;
    ported = ported_then a.lanes b.lanes c.lanes xs ys p.ported q.ported;
  }

-- the call itself
pub went_did : {Home : Type 0} (call : Call) (a b : Seen Home) → do_call a.held.state call ≡ (Done, b.held.state) → b.held ≡ does call b.held.state a.held → b.log ≡ a.log ++ Called ∷ [] → b.log_size ≡ a.log_size
    → Ported a.lanes b.lanes (Did ∷ []) → Went (Some call) a b (Did ∷ [])
went_did call a b done held log size ported = record { goes = (b.held, (done, held), refl); log = log; size = size; ported = ported }
