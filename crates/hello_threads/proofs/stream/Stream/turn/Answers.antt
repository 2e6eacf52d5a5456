use Rattle.hello_threads.proofs.Streaming.{hears}
use Rattle.hello_threads.proofs.stream.Stream.turn.Goals as goal

pub returns : goal.returns
returns g c = λ opening at.
    hears c.args.other c.args.texts.now (g.E.Sees.seen c.tell.new.endpoint) (g.E.Sees.seen c.hear.new.endpoint) c.tell.new.self.sent c.tell.new.self.came.items c.hear.new.came.items c.hear.ensures opening
    (c.tell.ensures opening (c.ask.ensures c.args.texts.now opening at))
