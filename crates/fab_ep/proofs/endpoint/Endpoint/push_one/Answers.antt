use Rattle.std.proofs.Common.{◌≡◌, ◌≤◌, ◌+◌, ◌⊎◌, inl, inr, length, Some, false}
use Rattle.fab_base.specs.declared.frames.Frame.{Frame}
use Rattle.fab_link.specs.Joined.{is_last}
use Rattle.fab_face.specs.Held.{next_frame}
use Rattle.fab_ep.specs.Value.{seen}
use Rattle.fab_ep.proofs.Staying.{stays_of}
use Rattle.fab_ep.proofs.Pushing.{pushes_of, places_of}
use Rattle.fab_ep.proofs.endpoint.Endpoint.push_one.Goals as goal
use Rattle.fab_ep.proofs.endpoint.Endpoint.push_one.Goals.{else-last-via-then-last+else-tight, else-last-via-else-last}

pub returns-clause-tries : goal.returns-clause-tries
returns-clause-tries g c = pushes_of _ _ c.args.dest _ c.post_one.ensures.tries c.requires.places

pub returns-clause-places : goal.returns-clause-places
returns-clause-places g c =
    let why : ((f : Frame) → next_frame c.args.self.now.held c.args.dest ≡ Some f → is_last f.head ≡ false) ⊎ (length c.args.self.now.log + 3 ≤ c.args.self.now.log_size) = elim c.else-last.branch [
      | else-last-via-then-last+else-tight w ↦ inr (c.is_tight-tight.ensures.room w.if-tight.false)
      | else-last-via-else-last w ↦ inl (c.next_is_last-last.ensures.no w.if-last.false)
    ] in
    places_of (seen g.P.Port c.args.self.now) _ c.args.dest _ c.post_one.ensures.tries c.requires.places why

pub returns-clause-stays : goal.returns-clause-stays
returns-clause-stays g c =
    stays_of (seen g.P.Port c.args.self.now) (seen g.P.Port c.post_one.new.self) c.args.dest _ c.post_one.ensures.tries
    (let why : ((f : Frame) → next_frame c.args.self.now.held c.args.dest ≡ Some f → is_last f.head ≡ false) ⊎ (length c.args.self.now.log + 3 ≤ c.args.self.now.log_size) = elim c.else-last.branch [
      | else-last-via-then-last+else-tight w ↦ inr (c.is_tight-tight.ensures.room w.if-tight.false)
      | else-last-via-else-last w ↦ inl (c.next_is_last-last.ensures.no w.if-last.false)
    ] in
    places_of (seen g.P.Port c.args.self.now) _ c.args.dest _ c.post_one.ensures.tries c.requires.places why)
