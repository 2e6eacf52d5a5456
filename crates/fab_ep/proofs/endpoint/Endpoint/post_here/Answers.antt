use Rattle.std.proofs.Common.{rules, refl, arith, ◌≡◌, ◌∙◌, ap, Ok, length-append, ◌∷◌, [], true}
use Rattle.fab_face.specs.Held.{piece}
use Rattle.fab_ep.specs.Value.{seen}
use Rattle.fab_face.specs.Machine.{gone_on}
use Rattle.fab_link.specs.Joined.{is_last}
use Rattle.fab_face.specs.declared.events.Event.TheVariants.{Sent}
use Rattle.fab_ep.specs.Tries.{next_of}
use Rattle.fab_face.specs.Ports.{lanes_in}
use Rattle.fab_face.proofs.Repaid.{next_repays}
use Rattle.fab_ep.proofs.Circle.{circle_on}
use Rattle.fab_ep.proofs.Taking.{tied_looked}
use Rattle.fab_ep.proofs.Posting.{some_next, tied_more, tied_last, last_is, place_within}
use Rattle.fab_ep.proofs.endpoint.Endpoint.post_here.Goals as goal

pub post_next-requires-clause-sound : goal.post_next-requires-clause-sound
post_next-requires-clause-sound g c = (c.known.ensures.items c.args.dest _ (next_of c.in-Some.item) c.in-Some.ensures.some).1

pub post_next-requires-2-clause-sound : goal.post_next-requires-2-clause-sound
post_next-requires-2-clause-sound g c = (c.known.ensures.items c.args.dest _ (next_of c.in-Some.item) c.in-Some.ensures.some).1

pub invariant_of-self-then-left-gt-FRAME_BYTES : goal.invariant_of-self-then-left-gt-FRAME_BYTES
invariant_of-self-then-left-gt-FRAME_BYTES g c =
    let i = c.self.inside in (
      c.self.invariant.0,
      tied_more (seen g.P.Port (record { port = i.port; held = g.C.Machine.held i.core; log = i.log.items; log_size = i.log_size; pushed = i.pushed; next = i.next })) _ c.args.dest (next_of c.in-Some.item) c.place-place.result
          c.self.invariant.1 (search rules) (search rules) (search rules) c.if-left-gt-FRAME_BYTES.true
          (c.go_on.ensures
          ∙ ap (λ n. gone_on c.args.dest n (g.C.Machine.held i.core)) (let within = place_within (g.C.Machine.held c.self.inside.core) c.args.dest (next_of c.in-Some.item) c.place-place.result c.place-place.ensures c.known.ensures.out c.in-Some.ensures.some in omega (arith, within, c.if-left-gt-FRAME_BYTES.true))) refl refl
          (c.in_ok-post_next.ensures.yes (ap Ok c.if-not-branch.false)) c.known.ensures,
      circle_on _ _ i.next (let p = c.in_ok-post_next.ensures.yes (ap Ok c.if-not-branch.false) in p.peers) c.self.invariant.2,
    )

pub invariant_of-self-2 : goal.invariant_of-self-2
invariant_of-self-2 g c =
    let i = c.self.inside in (
      search rules,
      tied_last (seen g.P.Port (record { port = i.port; held = g.C.Machine.held i.core; log = i.log.items; log_size = i.log_size; pushed = i.pushed; next = i.next })) _ c.args.dest (next_of c.in-Some.item) c.place-place.result
          c.self.invariant.1 (search rules) (let within = place_within (g.C.Machine.held c.self.inside.core) c.args.dest (next_of c.in-Some.item) c.place-place.result c.place-place.ensures c.known.ensures.out c.in-Some.ensures.some in omega (arith, within, c.if-left-gt-FRAME_BYTES.false)) c.finish.ensures.held (search rules) (let l = length-append i.log.items (Sent c.args.dest ∷ []) in rw c.push_back_reserved.ensures.items (omega (arith, l, (let place = rw (← c.self.view_is) at c.requires.place in place (some_next (g.C.Machine.held i.core) c.args.dest (next_of c.in-Some.item) c.in-Some.ensures.some))))) refl
          (c.in_ok-post_next-2.ensures.yes (ap Ok c.if-not-branch-2.false)) c.known.ensures c.in-Some.ensures.some c.place-place.ensures (search rules),
      circle_on _ _ i.next (let p = c.in_ok-post_next-2.ensures.yes (ap Ok c.if-not-branch-2.false) in p.peers) c.self.invariant.2,
    )

pub returns-then-not-sent_fits-clause-posts : goal.returns-then-not-sent_fits-clause-posts
returns-then-not-sent_fits-clause-posts g c =
    let within = place_within (g.C.Machine.held c.self.inside.core) c.args.dest (next_of c.in-Some.item) c.place-place.result c.place-place.ensures c.known.ensures.out c.in-Some.ensures.some in
    let last : is_last (piece (next_of c.in-Some.item) c.place-place.result).head ≡ true = last_is (next_of c.in-Some.item) c.place-place.result (omega (arith, within, c.if-left-gt-FRAME_BYTES.false)) in
    (search rules, (piece (next_of c.in-Some.item) c.place-place.result, search rules, (last, search rules)))

pub post_next-requires-clause-whole : goal.post_next-requires-clause-whole
post_next-requires-clause-whole g c = (c.known.ensures.items c.args.dest _ (next_of c.in-Some.item) c.in-Some.ensures.some).0

pub post_next-requires-2-clause-whole : goal.post_next-requires-2-clause-whole
post_next-requires-2-clause-whole g c = (c.known.ensures.items c.args.dest _ (next_of c.in-Some.item) c.in-Some.ensures.some).0

pub post_next-requires-clause-repays : goal.post_next-requires-clause-repays
post_next-requires-clause-repays g c = rw c.place-place.ensures (next_repays (lanes_in g.P.Port c.self.inside.port) (g.C.Machine.held c.self.inside.core) c.args.dest (next_of c.in-Some.item) (search rules) c.in-Some.ensures.some (let tied = c.self.invariant.1 in tied.repaid))

pub invariant_of-self-in_err-post_next : goal.invariant_of-self-in_err-post_next
invariant_of-self-in_err-post_next g c = let i = c.self.inside in (c.self.invariant.0, tied_looked (seen g.P.Port (record { port = i.port; held = g.C.Machine.held i.core; log = i.log.items; log_size = i.log_size; pushed = i.pushed; next = i.next })) _ c.self.invariant.1 refl refl refl c.in_err-post_next.ensures.err, circle_on _ _ i.next (let p = c.in_err-post_next.ensures.err in p.peers) c.self.invariant.2)

pub invariant_of-self-then-not-branch : goal.invariant_of-self-then-not-branch
invariant_of-self-then-not-branch g c = let i = c.self.inside in (c.self.invariant.0, tied_looked (seen g.P.Port (record { port = i.port; held = g.C.Machine.held i.core; log = i.log.items; log_size = i.log_size; pushed = i.pushed; next = i.next })) _ c.self.invariant.1 refl refl refl (c.in_ok-post_next.ensures.no (ap Ok c.if-not-branch.true)), circle_on _ _ i.next (let p = c.in_ok-post_next.ensures.no (ap Ok c.if-not-branch.true) in p.peers) c.self.invariant.2)

pub post_next-requires-2-clause-repays : goal.post_next-requires-2-clause-repays
post_next-requires-2-clause-repays g c = rw c.place-place.ensures (next_repays (lanes_in g.P.Port c.self.inside.port) (g.C.Machine.held c.self.inside.core) c.args.dest (next_of c.in-Some.item) (search rules) c.in-Some.ensures.some (let tied = c.self.invariant.1 in tied.repaid))

pub invariant_of-self-in_err-post_next-2 : goal.invariant_of-self-in_err-post_next-2
invariant_of-self-in_err-post_next-2 g c = let i = c.self.inside in (c.self.invariant.0, tied_looked (seen g.P.Port (record { port = i.port; held = g.C.Machine.held i.core; log = i.log.items; log_size = i.log_size; pushed = i.pushed; next = i.next })) _ c.self.invariant.1 refl refl refl c.in_err-post_next-2.ensures.err, circle_on _ _ i.next (let p = c.in_err-post_next-2.ensures.err in p.peers) c.self.invariant.2)

pub invariant_of-self-then-not-branch-2 : goal.invariant_of-self-then-not-branch-2
invariant_of-self-then-not-branch-2 g c = let i = c.self.inside in (c.self.invariant.0, tied_looked (seen g.P.Port (record { port = i.port; held = g.C.Machine.held i.core; log = i.log.items; log_size = i.log_size; pushed = i.pushed; next = i.next })) _ c.self.invariant.1 refl refl refl (c.in_ok-post_next-2.ensures.no (ap Ok c.if-not-branch-2.true)), circle_on _ _ i.next (let p = c.in_ok-post_next-2.ensures.no (ap Ok c.if-not-branch-2.true) in p.peers) c.self.invariant.2)
