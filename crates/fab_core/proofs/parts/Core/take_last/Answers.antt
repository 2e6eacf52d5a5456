use Rattle.std.proofs.lemmas.Bool.{eq-eqb}
use Rattle.fab_link.specs.Frames.{frame}
use Rattle.fab_core.proofs.Feeding.{last_goes, last_lacks, last_room, last_room_back, last_whole, nothing_begun, stay_fed}
use Rattle.fab_core.proofs.parts.Core.take_last.Goals as goal

pub returns-then-lacks-clause-no : goal.returns-then-lacks-clause-no
returns-then-lacks-clause-no g c = λ _. last_lacks c.args.self.now (rw (← c.self.view_is) c.self.invariant.2) (rw (← c.self.view_is) c.known.ensures) c.args.source (frame c.args.head.now c.args.bytes.now) c.requires.source c.requires.next c.lacks.result c.lacks.ensures c.if-lacks.true (rw (← c.self.view_is) c.known-2.ensures.read) (rw (← c.self.view_is) c.known-2.ensures.fits) c.requires.last

pub take_whole-requires-clause-whole : goal.take_whole-requires-clause-whole
take_whole-requires-clause-whole g c = last_whole c.args.self.now (rw (← c.self.view_is) c.self.invariant.2) (rw (← c.self.view_is) c.known.ensures) c.args.source (frame c.args.head.now c.args.bytes.now) c.requires.source c.requires.next c.feed.new.self.rx c.in_ok-feed.ensures.rx c.requires.filled c.requires.last

pub take_whole-requires-clause-room : goal.take_whole-requires-clause-room
take_whole-requires-clause-room g c = last_room c.args.self.now (rw (← c.self.view_is) c.self.invariant.2) (rw (← c.self.view_is) c.known.ensures) c.args.source (frame c.args.head.now c.args.bytes.now) c.requires.source c.requires.next c.lacks.result c.lacks.ensures c.if-lacks.false c.feed.new.self c.in_ok-feed.ensures.ok c.in_ok-feed.ensures.rx

pub take_whole-requires-clause-back : goal.take_whole-requires-clause-back
take_whole-requires-clause-back g c = last_room_back c.args.self.now (rw (← c.self.view_is) c.self.invariant.2) (rw (← c.self.view_is) c.known.ensures) c.args.source (frame c.args.head.now c.args.bytes.now) c.requires.source c.requires.next c.lacks.result c.lacks.ensures c.if-lacks.false c.feed.new.self c.in_ok-feed.ensures.ok c.in_ok-feed.ensures.rx

pub lacks-requires-clause-first : goal.lacks-requires-clause-first
lacks-requires-clause-first g c = λ first. nothing_begun _ (frame c.args.head.now c.args.bytes.now) c.requires.next (eq-eqb _ _ first)

pub returns-clause-yes : goal.returns-clause-yes
returns-clause-yes g c = λ _. last_goes c.args.self.now (rw (← c.self.view_is) c.self.invariant.2) (rw (← c.self.view_is) c.known.ensures) c.args.source (frame c.args.head.now c.args.bytes.now) c.requires.source c.requires.next c.requires.ready c.feed.new.self c.take_whole.new.self c.in_ok-feed.ensures.ok c.in_ok-feed.ensures.rx c.take_whole.ensures.fits c.take_whole.ensures.state c.take_whole.ensures.begun c.take_whole.ensures.places c.take_whole.ensures.multis c.requires.last

pub returns-clause-next : goal.returns-clause-next
returns-clause-next g c = stay_fed c.args.self.now c.feed.new.self c.take_whole.new.self c.args.source (frame c.args.head.now c.args.bytes.now) c.in_ok-feed.ensures.ok c.take_whole.ensures.next
