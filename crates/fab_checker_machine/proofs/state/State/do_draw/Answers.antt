use Rattle.std.proofs.Common.{◌≡◌, Some, None, get_or, sym, ap, ◌∙◌, rules, refl}
use Rattle.std.specs.Prelude.{position, find, is_some}
use Rattle.fab_base.specs.declared.operations.Receive.{Receive}
use Rattle.fab_model.specs.State.{State, Receiving, with_rx}
use Rattle.fab_model.specs.Matching.{takes}
use Rattle.fab_model.specs.Complete.{release}
use Rattle.fab_model.specs.Receiving.{draws, give, without_first}
use Rattle.fab_model.proofs.Firsts.{first_none}
use Rattle.fab_checker_halves.specs.Places.{seated_in}
use Rattle.fab_checker_halves.specs.Seen.{rx_of}
use Rattle.fab_checker_machine.specs.Seen.{state_of}
use Rattle.fab_checker_halves.proofs.Placing.{found_at}
use Rattle.fab_checker_machine.proofs.Answering.{draw_none, draw_untaken, draw_some}
use Rattle.fab_checker_machine.proofs.state.State.do_draw.Goals as goal

pub returns-in_default : goal.returns-in_default
returns-in_default c =
    let none : position (draws c.args.self.now.rx.unexpected.items) c.args.self.now.rx.posted.items ≡ None = search rules in
    sym (draw_none (state_of c.args.self.now) ((first_none (draws c.args.self.now.rx.unexpected.items) c.args.self.now.rx.posted.items none).0))

pub returns-in_default-take_unexpected : goal.returns-in_default-take_unexpected
returns-in_default-take_unexpected c =
    let at : position (draws c.args.self.now.rx.unexpected.items) c.args.self.now.rx.posted.items ≡ Some c.in-Some.at = search rules in
    let r = c.index.result.now in
    let s = state_of c.args.self.now in
    let drawn = found_at (draws c.args.self.now.rx.unexpected.items) r c.args.self.now.rx.posted.items c.in-Some.at at c.index.ensures in
    let none : find (takes r.want) c.args.self.now.rx.unexpected.items ≡ None = sym c.in_default-take_unexpected.ensures.found in
    ap (λ (rx : Receiving). with_rx rx s) c.in_default-take_unexpected.ensures.none ∙ sym (draw_untaken s r drawn none)

pub returns : goal.returns
returns c =
    let s = state_of c.args.self.now in
    let rx = rx_of c.args.self.now.rx in
    let k = c.in-Some.at in
    let first = c.index.result.now in
    let r = c.in_ok-receive.receive in
    let a = c.in-Some-take_unexpected.arrival in
    let at : position (draws rx.unexpected) rx.posted ≡ Some k = search rules in
    let rest : rx_of c.take_unexpected.new.self ≡ without_first first.want rx = c.in-Some-take_unexpected.ensures.rest in
    let was : r ≡ get_or rx.posted k r = c.in_ok-receive.ensures.was ∙ ap (λ (x : Receiving). get_or x.posted k r) rest in
    let one = found_at (draws rx.unexpected) first rx.posted k at c.index.ensures in
    let other = found_at (draws rx.unexpected) r rx.posted k at was in
    let same : first ≡ r = cc (one, other) in
    let some : find (takes r.want) rx.unexpected ≡ Some a = rw (← same) (sym c.in-Some-take_unexpected.ensures.found) in
    let seated = c.in_ok-receive.ensures.seated ∙ ap (λ (x : Receiving). seated_in k a.head.total r x) rest ∙ ap (λ (w : Receive). seated_in k a.head.total r (without_first w.want rx)) same in
    let multi : is_some r.least ≡ c.is_some-is_multi.result = sym c.is_some-is_multi.ensures in
    c.in_ok-release.ensures r refl multi ∙ ap (λ (x : State). release r x) (c.in_ok-give.ensures ∙ ap (λ (x : Receiving). give r r.used a (with_rx x s)) seated) ∙ sym (draw_some s k r a at was some)
