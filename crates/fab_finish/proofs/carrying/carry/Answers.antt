use Rattle.std.proofs.Common.{◌≡◌, ◌∙◌, [], inl, inr, ap, sym, subst, arith, Ok}
use Rattle.std.proofs.lemmas.Bool.{cases_eq}
use Rattle.fab_link.specs.Plain.{left}
use Rattle.fab_finish.specs.Freight.{freight}
use Rattle.fab_finish.specs.Joined.{lane}
use Rattle.fab_finish.proofs.Freight.{freight_both}
use Rattle.fab_finish.proofs.carrying.carry.Goals as goal

pub loop-from-preserved : goal.loop-from-preserved
loop-from-preserved g c =
    let e = c.in_ok-here.ensures in
    let inv = c.loop-from.invariant in
    record {
      joined = e.joined;
      all = c.carry_from.auto.peers ∙ inv.all;
      few = inv.few ∙ sym c.carry_from.auto.peers;
      actors = e.actors ∙ inv.actors;
      schedules = e.schedules ∙ inv.schedules;
      done = λ s r below within. elim (cases_eq s c.loop-from.from) [
        | inl here ↦ subst (λ i. left (lane c.carry_from.new.peers i r) ≡ []) (sym here) (e.none r (let few = inv.few in let many = c.carry_from.auto.peers in omega (arith, within, few, many)))
        | inr there ↦ e.others s r there ∙ inv.done s r (omega (arith, there, below)) within
      ];
      same = λ none. (let both = c.either-moved.ensures.no none in e.same (ap Ok both.1) ∙ inv.same both.0);
      less = freight_both c.either-moved.result c.loop-from.moved c.in_ok-here.here (freight c.args.peers.now) (freight c.loop-from.peers) (freight c.carry_from.new.peers) c.either-moved.ensures.is inv.less e.less;
    }
