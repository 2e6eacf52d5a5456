use Rattle.std.proofs.Common.{◌≡◌, ℕ, true, sym, ap, ◌∙◌, subst}
use Rattle.fab_base.specs.declared.frames.FrameHead.{FrameHead}
use Rattle.fab_link.specs.Owing.{ends_owing}
use Rattle.fab_link.specs.Meaning.{Outgoing, Incoming, Owes}
use Rattle.fab_port_suite.proofs.Paying.{owes_one}
use Rattle.fab_port_suite.proofs.answering.answer.Goals as goal

pub post-requires-clause-repays : goal.post-requires-clause-repays
post-requires-clause-repays g c begins = let peer : ℕ = c.args.peer in let request : FrameHead = c.in-Some.request in
    let o : Outgoing = g.P.Port.outs c.args.port.now peer in let o' : Outgoing = g.P.Port.outs c.advance.new.self peer in
    let i : Incoming = g.P.Port.ins c.args.port.now peer in let j : Incoming = g.P.Port.ins c.next_head.new.port peer in let k : Incoming = g.P.Port.ins c.advance.new.self peer in
    let same : o' ≡ o = ap (λ (z : ℕ → Outgoing). z peer) c.advance.ensures.outgoing ∙ ap (λ (z : ℕ → Outgoing). z peer) c.in-Some.ensures.outs in
    let ends : ends_owing request ≡ true = sym c.ends_owing.ensures ∙ c.if-not-ends_owing.false in
    subst (λ (z : FrameHead). Owes o' k z.item.op 1) (sym c.reply_head.ensures) (owes_one o o' i j k request (c.requires.owed request.item.op) same c.in-Some.ensures.taken c.in-Some.ensures.lent ends c.advance.ensures.taken)
