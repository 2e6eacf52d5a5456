-- When nothing moved, nothing can.
use Rattle.std.proofs.Common.{◌≡◌, ◌+◌, inl, inr, Bool, true, ◌||◌, List, [], ◌∷◌, ◌++◌, length, append-nil, map, None, Ok, refl, sym, ap, ◌∙◌, subst, arith}
use Rattle.std.proofs.lemmas.List.Sums.{sum_by-cons}
use Rattle.std.specs.Prelude.{cond, count_by, nat_lt}
use Rattle.std.proofs.lemmas.Bool.{lt-ltb}
use Rattle.fab_base.proofs.Bools.{or_true}
use Rattle.fab_base.proofs.Numbers.{rose_later as then_rose}
use Rattle.fab_face.proofs.Joining.{ported_same}
use Rattle.fab_peer.proofs.Paths.{moves_live, steps_told, none_acts}
use Rattle.fab_face.specs.declared.events.Moved.{Moved}
use Rattle.fab_face.specs.declared.events.Stop.{Stop}
use Rattle.fab_face.specs.declared.events.Stop.TheVariants.{Idle, Budget, CqFull as StoppedCqFull, LogFull as StoppedLogFull}
use Rattle.fab_face.specs.Held.{Held, Seen, IsOpen}
use Rattle.fab_face.specs.Acts.{Act, Did, Took, Posted, Drew, Had, GoesBy, Ported, events, is_move, is_take, is_post}
use Rattle.fab_face.specs.Answers.{AllAre, Progressed, StopsAs, IsIdle}
use Rattle.fab_peer.specs.Turns.{Told, MovedOn, IsRead, drained, with_seen, step_of, is_some_act, is_some_event}
use Rattle.fab_peer.proofs.Counting.{counted_moves}
use Rattle.fab_face.proofs.Holding.{never_held}

-- ---- counts

module _ {Home : Type 0} where
  -- what a later part of a turn saw, the turn saw
  pub idle_then : (a b c d : Seen Home) (acts : List Act) → Ported a.lanes b.lanes acts → IsIdle b c → d.lanes ≡ c.lanes → d.held ≡ c.held → IsIdle a d
  idle_then a b c d acts before idle lanes held =
      let here : IsIdle a c = record {
        draws = idle.draws;
        empty = λ s below. (let e = idle.empty s below in record { rose = then_rose _ _ _ (before.empty_seen s) e.rose; at_end = e.at_end; all = e.all });
        full = λ k below some. (let f = idle.full k below some in record {
          rose = elim f.rose [ inl r ↦ inl (then_rose _ _ _ (before.lane_full k) r) | inr r ↦ inr (then_rose _ _ _ (before.pool_full k) r) ];
          at_end = f.at_end;
        });
      } in
      record {
        draws = rw held here.draws;
        empty = rw lanes here.empty;
        full = rw (lanes, held) here.full;
      }

-- ---- progress

pos : (test : Act → Bool) (act : Act) (acts : List Act) → test act ≡ true → nat_lt 0 (count_by test (act ∷ acts)) ≡ true
pos test act acts is =
    let more : count_by test (act ∷ acts) ≡ 1 + count_by test acts = sum_by-cons (λ a. cond (test a) 1 0) act acts ∙ ap (λ b. cond b 1 0 + count_by test acts) is in
    lt-ltb 0 (count_by test (act ∷ acts)) (omega (arith, more))

-- what moved was counted or logged
moved_some : (acts : List Act) → AllAre is_move acts → ((nat_lt 0 (count_by is_take acts) || nat_lt 0 (count_by is_post acts)) || is_some_event (events acts)) ≡ is_some_act acts
moved_some [] are = refl
moved_some (Did ∷ acts) are = absurd (cc)
moved_some (Took source f ∷ acts) are = ap (λ b. (b || nat_lt 0 (count_by is_post (Took source f ∷ acts))) || is_some_event (events (Took source f ∷ acts))) (pos is_take (Took source f) acts refl)
moved_some (Posted dest f ∷ acts) are =
    let counted = ap (λ b. nat_lt 0 (count_by is_take (Posted dest f ∷ acts)) || b) (pos is_post (Posted dest f) acts refl) ∙ or_true (nat_lt 0 (count_by is_take (Posted dest f ∷ acts))) in
    ap (λ b. b || is_some_event (events (Posted dest f ∷ acts))) counted
moved_some (Drew ∷ acts) are = or_true (nat_lt 0 (count_by is_take (Drew ∷ acts)) || nat_lt 0 (count_by is_post (Drew ∷ acts)))
moved_some (Had ∷ acts) are = absurd (cc)

module _ {Home : Type 0} (a : Told Home) (e : Seen Home) (m : Moved) (none : a.seen.log ≡ []) (opened : IsOpen e) {fixed : Bool} (p : Progressed fixed 64 a.seen e (Ok m)) where
  -- where nothing moved, nothing can
  idle_of : p.acts ≡ [] → IsRead a.seen → IsIdle a.seen (let d = drained (with_seen a e) in d.seen)
  idle_of empty read = by_stop m.stop refl p.counted.3
    where
      same : a.seen.held ≡ e.held
      same = subst (λ (acts : List Act). GoesBy None a.seen.held acts e.held) empty p.went.goes

      log : e.log ≡ []
      log = p.went.log ∙ ap (λ acts. a.seen.log ++ events acts) empty ∙ append-nil a.seen.log ∙ none

      by_stop : (s : Stop) → m.stop ≡ s → StopsAs a.seen e s → IsIdle a.seen (let d = drained (with_seen a e) in d.seen)
      by_stop Idle is idle = idle_then a.seen a.seen e _ [] (ported_same a.seen.lanes a.seen.lanes refl) idle refl refl
      by_stop Budget is idle =
          let all = p.counted.2.0 is in
          let t : m.taken ≡ 0 = p.counted.0 ∙ ap (count_by is_take) empty in
          let q : m.posted ≡ 0 = p.counted.1 ∙ ap (count_by is_post) empty in
          absurd (omega (arith, all, t, q))
      by_stop StoppedCqFull is back = absurd (never_held a.seen e back (subst (λ (h : Held). h.state.cq.taken_out ≡ length h.state.cq.written) same read) opened.cq)
      by_stop StoppedLogFull is short = let l : length e.log ≡ 0 = ap length log in absurd (omega (arith, short, l, opened.log))

  pub moved_on : (d : Told Home) (logged moved : Bool) → d ≡ drained (with_seen a e) → logged ≡ is_some_event e.log → moved ≡ ((nat_lt 0 m.taken || nat_lt 0 m.posted) || logged) → MovedOn fixed a d moved
  moved_on d logged moved is is_logged is_moved =
      let events_are : e.log ≡ events p.acts = p.went.log ∙ ap (λ l. l ++ events p.acts) none in
      let some : moved ≡ is_some_act p.acts =
      is_moved ∙ ap (λ b. (nat_lt 0 m.taken || nat_lt 0 m.posted) || b) (is_logged ∙ ap is_some_event events_are)
      ∙ ap (λ n. (nat_lt 0 n || nat_lt 0 m.posted) || is_some_event (events p.acts)) p.counted.0
      ∙ ap (λ n. (nat_lt 0 (count_by is_take p.acts) || nat_lt 0 n) || is_some_event (events p.acts)) p.counted.1 ∙ moved_some p.acts p.moves in
      rw is (record {
        near = e;
        answer = m;
        progressed = p;
        is = refl;
        acts = p.acts;
        lived = record {
          lives = moves_live None p.acts a.seen.held e.held a.lines a.results a.kept p.moves p.went.goes;
          schedule = ap (λ l. a.schedule ++ map step_of l) events_are ∙ ap (λ s. a.schedule ++ s) (steps_told p.acts p.moves);
          ported = p.went.ported;
        };
        moved_is = some;
        log = refl;
        lines = refl;
        idle = λ stood read. idle_of (none_acts p.acts (sym some ∙ stood)) read;
        counted = counted_moves a.lines a.results a.kept None p.acts a.seen.held e.held p.moves p.went.goes;
      })
