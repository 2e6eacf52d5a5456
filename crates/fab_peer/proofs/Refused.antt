-- What is no lap.
--     skips_progress      behind its lines it moved fewer than 64 frames, its log had room, and it did not look at a lane of which no frame lies lent
use Rattle.std.proofs.Common.{◌≡◌, ◌<◌, ◌≤◌, ◌+◌, ◌^◌, ℕ, inl, inr, Bool, [], ◌++◌, length, None, refl, sym, ap, ◌∙◌, subst, arith}
use Rattle.std.specs.Prelude.{count_by}
use Rattle.fab_face.specs.declared.events.Stop.{Stop}
use Rattle.fab_face.specs.declared.events.Stop.TheVariants.{Idle, Budget, CqFull as StoppedCqFull, LogFull as StoppedLogFull}
use Rattle.fab_face.specs.Held.{Lanes}
use Rattle.fab_face.specs.Acts.{events, is_take, is_post}
use Rattle.fab_face.specs.Answers.{SawEmpty, StopsAs}
use Rattle.fab_peer.specs.Turns.{Told}
use Rattle.fab_peer.specs.Laps.{Lap}

-- the count of empty looks at this lane, which is not at its last value, stays from the lap's begin to its end
pub skips_progress : {Home : Type 0} (fixed : Bool) (source : ℕ) (a d : Told Home) (l : Lap fixed a d) → source < a.seen.lanes.peers
    → (a.seen.lanes.ins source).empty_seen + 1 < 2 ^ 64 → (d.seen.lanes.ins source).empty_seen ≡ (a.seen.lanes.ins source).empty_seen → (d.seen.lanes.ins source).lent ≡ None
    → count_by is_take l.progressed.acts + count_by is_post l.progressed.acts < 64 → length (events l.progressed.acts) + 2 ≤ a.seen.log_size → ⊥
skips_progress fixed source a d l peer below stays free few room = by_stop l.moved.stop refl l.progressed.counted.3
  where
    end : l.near.lanes ≡ d.seen.lanes
    end = sym l.reads.lanes

    within : source < l.near.lanes.peers
    within = (let before = l.ported.peers in let after = l.progressed.went.ported.peers in omega (arith, peer, before, after))

    unseen : SawEmpty l.mid.seen.lanes l.near.lanes source → ⊥
    unseen saw =
        let less = l.ported.empty_seen source in
        let same = ap (λ (x : Lanes _). (x.ins source).empty_seen) end in
        elim saw.rose [
          | inl rose ↦ omega (arith, rose, less, same, stays)
          | inr last ↦ (let top = last.1 in omega (arith, top, same, stays, below))
        ]

    by_stop : (s : Stop) → l.moved.stop ≡ s → StopsAs l.mid.seen l.near s → ⊥
    by_stop Idle is idle = unseen (idle.empty source within)
    by_stop Budget is drawn =
        let all = l.progressed.counted.2.0 is in
        let taken = l.progressed.counted.0 in
        let posted = l.progressed.counted.1 in
        omega (arith, all, taken, posted, few)
    by_stop StoppedCqFull is back = elim (back.empty source within) [
      | inl saw ↦ unseen saw
      | inr lent ↦ (let none = ap (λ (x : Lanes _). (x.ins source).lent) end ∙ free in let some = lent.1 in cc)
    ]
    by_stop StoppedLogFull is short =
        let log : length l.near.log ≡ length (events l.progressed.acts) = ap length (l.progressed.went.log ∙ ap (λ xs. xs ++ events l.progressed.acts) l.log) in
        let size = l.progressed.went.size ∙ l.size in
        omega (arith, short, log, size, room)
