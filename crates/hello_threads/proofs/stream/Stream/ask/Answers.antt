use Rattle.hello_threads.proofs.Streaming.{quiet}
use Rattle.hello_threads.proofs.stream.Stream.ask.Goals as goal

pub returns-in_err-posted : goal.returns-in_err-posted
returns-in_err-posted g c = λ texts. quiet c.args.other texts _ _ c.args.self.now.sent c.args.self.now.came.items c.post.ensures

pub returns : goal.returns
returns g c = λ texts. quiet c.args.other texts _ _ c.args.self.now.sent c.args.self.now.came.items c.post.ensures
