use Rattle.std.proofs.Common.{Some, map, sym, ap, ◌∙◌, refl}
use Rattle.std.specs.Prelude.{Ok}
use Rattle.fab_grammar.specs.Grammar.{script_said, script_with}
use Rattle.fab_model.specs.Negotiation.{grant}
use Rattle.fab_script.proofs.GrammarLemmas.{script_made, script_not_granted, script_without_peers}
use Rattle.fab_script.proofs.grammar.script.Goals as goal

pub returns-in_default : goal.returns-in_default
unfolding script_said
returns-in_default c = λ before h. rw (sym h.header, c.in_default.is) refl

pub returns-in_default-peers : goal.returns-in_default-peers
returns-in_default-peers c = λ before h. script_without_peers c.in-Some.api c.args.count c.args.reader before h c.in-Some.is c.in_default-peers.is

pub returns-in_default-getinfo : goal.returns-in_default-getinfo
returns-in_default-getinfo c = λ before h.
    script_not_granted c.in-Some.api c.args.count c.in-Some-peers.peers c.args.reader before h c.in-Some.is c.in-Some-peers.is
    (ap (λ hints. grant c.in-Some.api (Some hints)) (sym c.hints-hints.ensures) ∙ c.in_default-getinfo.ensures.refused)

pub returns : goal.returns
returns c = λ before h.
    let api = c.in-Some.api in
    let n = c.in-Some-peers.peers in
    let hints = sym c.hints-hints.ensures in
    script_made api c.args.count n c.in-Ok.info c.args.reader before h c.in-Some.is c.in-Some-peers.is (ap (λ hints. grant api (Some hints)) hints ∙ c.in-Ok.ensures.granted)
    ∙ (ap (λ asked. Ok (script_with api (record { hints = Some asked; info = c.in-Ok.info; peers = n; selective = c.args.reader.settings.is_selective }) c.args.reader.payloads.items (map (λ part. part.items) c.args.reader.parts.lines.items))) hints
    ∙ ap Ok (sym c.in_ok-script_with.ensures))
