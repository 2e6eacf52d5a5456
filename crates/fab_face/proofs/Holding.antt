-- In a completion queue that is all read, nothing waits for room.
use Rattle.std.proofs.Common.{◌≡◌, ◌≤◌, ◌-◌, inl, inr, true, length, None, arith}
use Rattle.std.proofs.lemmas.Bool.{le-leb}
use Rattle.fab_base.proofs.Lists.{none_past}
use Rattle.fab_link.specs.Joined.{grown}
use Rattle.fab_model.specs.State.{State, fits}
use Rattle.fab_model.specs.Receiving.{draw_due}
use Rattle.fab_model.specs.Peers.{unread}
use Rattle.fab_face.specs.Held.{Seen, IsOpen, begun_of}
use Rattle.fab_face.specs.Acts.{is_first}
use Rattle.fab_face.specs.Answers.{IsHeldBack}
use Rattle.fab_face.proofs.Writing.{Adds, adds_then, adds_more, adds_draw, adds_tail, adds_sent, adds_headed}

-- where all is read and two entries have room, what writes at most two fits
pub fits_two : (s u : State) → Adds 2 s u → s.cq.taken_out ≡ length s.cq.written → 2 ≤ s.cq.size → fits u.cq ≡ true
fits_two s u a read size = le-leb (length u.cq.written - u.cq.taken_out) u.cq.size (omega (arith, a.read, a.size, a.most, read, size))

module _ {Home : Type 0} where
  -- where there is no first unread entry, all are read
  pub none_unread : (e : Seen Home) → IsOpen e → unread e.held.state.cq ≡ None → e.held.state.cq.taken_out ≡ length e.held.state.cq.written
  none_unread e sound none = let past = none_past e.held.state.cq.written e.held.state.cq.taken_out none in omega (arith, past, sound.read)

  -- nothing waits for room in a completion queue that is all read
  pub never_held : (old new : Seen Home) → IsHeldBack old new → new.held.state.cq.taken_out ≡ length new.held.state.cq.written → 2 ≤ new.held.state.cq.size → ⊥
  never_held old new back read size =
      let s = new.held.state in
      let no_draw : draw_due s.rx ≡ true → ⊥ = λ due. (let fits_it = fits_two s _ (adds_draw s) read size in let lacks = (back.draws due).1 in cc) in
      elim back.some [
        | inl draw ↦ no_draw draw.0
        | inr rest ↦ elim rest [
          | inl (k, (f, lent, lacks)) ↦ elim lacks [
            | inl held ↦ no_draw held.1
            | inr full ↦ (let fits_it = fits_two s _ (adds_then 0 2 s _ _ (adds_headed (is_first f) s k f.head.item) (adds_tail _ k (grown (begun_of new.held k) f).head (grown (begun_of new.held k) f).bytes)) read size in let lacks_it = full.1 in cc)
          ]
          | inr (d, (f, next, (last, lacks))) ↦ (let fits_it = fits_two s _ (adds_more 1 2 s _ (omega arith) (adds_sent s d)) read size in cc)
        ]
      ]
