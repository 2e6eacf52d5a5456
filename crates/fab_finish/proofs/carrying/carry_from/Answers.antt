use Rattle.std.proofs.Common.{◌≡◌, ◌∙◌, [], inl, inr, ap, sym, subst, arith, Ok}
use Rattle.std.proofs.lemmas.Bool.{cases_eq}
use Rattle.fab_link.specs.Plain.{left}
use Rattle.fab_finish.specs.Freight.{freight}
use Rattle.fab_finish.specs.Joined.{lane}
use Rattle.fab_finish.proofs.Freight.{freight_both}
use Rattle.fab_finish.proofs.carrying.carry_from.Goals as goal

pub loop-to-preserved : goal.loop-to-preserved
loop-to-preserved g c =
    let e = c.in_ok-here.ensures in
    let inv = c.loop-to.invariant in
    record {
      joined = e.joined;
      all = c.carry_lane.auto.peers ∙ inv.all;
      few = inv.few ∙ sym c.carry_lane.auto.peers;
      actors = e.actors ∙ inv.actors;
      schedules = e.schedules ∙ inv.schedules;
      others = λ s r other. e.others s r (inl other) ∙ inv.others s r other;
      done = λ r below. elim (cases_eq r c.loop-to.to) [
        | inl here ↦ subst (λ i. left (lane c.carry_lane.new.peers c.args.from i) ≡ []) (sym here) e.none
        | inr there ↦ e.others c.args.from r (inr there) ∙ inv.done r (omega (arith, there, below))
      ];
      same = λ none. (let both = c.either-moved.ensures.no none in e.same (ap Ok both.1) ∙ inv.same both.0);
      less = freight_both c.either-moved.result c.loop-to.moved c.in_ok-here.here (freight c.args.peers.now) (freight c.loop-to.peers) (freight c.carry_lane.new.peers) c.either-moved.ensures.is inv.less e.less;
    }
