use Rattle.std.proofs.Common.{List, [], ◌∷◌, ℕ, ◌∙◌, subst, take}
use Rattle.hello_threads.specs.Stream.{Talks}
use Rattle.hello_threads.proofs.Streaming.{quiet, tells}
use Rattle.hello_threads.proofs.stream.Stream.tell.Goals as goal

pub returns-in_err-said : goal.returns-in_err-said
returns-in_err-said g c = quiet c.args.other c.args.texts.now _ _ c.args.self.now.sent c.args.self.now.came.items c.in_err-said.ensures.err

pub returns : goal.returns
returns g c =
    let seen = g.E.Sees.seen in
    let said = c.in_ok-said.ensures.sent in
    tells c.args.other c.args.texts.now (seen c.args.endpoint.now) (seen c.say.new.endpoint) c.args.self.now.sent c.args.self.now.came.items c.in_ok-said.said c.index-texts-self.result c.if-self-texts.false (
      said.0,
      subst (λ (text : List ℕ). Talks c.args.other (g.E.Sees.seen c.args.endpoint.now) (g.E.Sees.seen c.say.new.endpoint) (take c.in_ok-said.said (text ∷ [])) []) (c.as_slice.ensures ∙ c.index-texts-self.is) said.1,
    )
