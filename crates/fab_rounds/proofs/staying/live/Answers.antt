use Rattle.std.proofs.Common.{arith, ◌≡◌, ◌+◌, ℕ, true, [], ◌∷◌, length, sym, refl, ap, ◌∙◌, subst, length-append}
use Rattle.fab_ep.specs.Value.{seen}
use Rattle.fab_peer.specs.Turns.{told}
use Rattle.fab_meeting.specs.declared.kinds.Account.{Account}
use Rattle.fab_meeting.specs.Accounts.{answer_at}
use Rattle.fab_rounds.specs.Rounds.{between}
use Rattle.fab_rounds.specs.Words.{goes, told_by}
use Rattle.fab_rounds.specs.Staying.{account_in, IsLife}
use Rattle.fab_rounds.proofs.Life.{life_begins, life_more}
use Rattle.fab_rounds.proofs.staying.live.Goals as goal

pub loop-going-init : goal.loop-going-init
loop-going-init g c = record {
  within = omega arith;
  seated = c.requires.seated;
  place = refl;
  count = ap length c.requires.silent;
  life = life_begins (between (told (seen g.P.Port) c.args.peer.now.peer) c.args.peer.now.moved c.args.peer.now.failed) (account_in c.args.peer.now.seat) c.requires.silent;
  now = λ n end. absurd (omega arith);
}

pub loop-going-preserved : goal.loop-going-preserved
loop-going-preserved g c =
    let i = c.loop-going.invariant in
    let turn = c.quantum-kept.ensures in
    let here : Account = account_in c.quantum-kept.new.self.seat in
    let after : Account = account_in c.meet.new.self.seat in
    let sat : here ≡ account_in c.loop-going.peer.seat = ap account_in turn.seat in
    let same = c.meet.ensures.same in
    let long : length here.said ≡ c.loop-going.made = ap (λ (z : Account). length z.said) sat ∙ i.count in
    let goes_on : c.loop-going.going ≡ true = c.loop-going-test.true in
    let a = between (told (seen g.P.Port) c.args.peer.now.peer) c.args.peer.now.moved c.args.peer.now.failed in
    let b = between (told (seen g.P.Port) c.loop-going.peer.peer) c.loop-going.peer.moved c.loop-going.peer.failed in
    let d = between (told (seen g.P.Port) c.quantum-kept.new.self.peer) c.quantum-kept.new.self.moved c.quantum-kept.new.self.failed in
    let life = subst (λ (z : Account). IsLife a b z) (sym sat) i.life in
    let more = life_more a b d here after (told_by d) life (λ n end. ap (λ (z : Account). goes (answer_at z n)) sat ∙ i.now n (sym long ∙ end) ∙ goes_on)
    (record { turned = turn.turned; still = turn.still; stays = turn.stays; left = turn.left; spoiled = λ was. ap (λ r. between (told (seen g.P.Port) r.peer) r.moved r.failed) (turn.failed was) }) (record { grown = turn.grown; risen = turn.risen }) refl c.meet.ensures.said c.meet.ensures.kept in
    record {
      within = omega (arith, c.if-made-limit.true);
      seated = c.meet.ensures.seated;
      place = c.meet.ensures.place ∙ ap (λ (z : Account). z.place) sat ∙ i.place;
      count = ap length c.meet.ensures.said ∙ length-append here.said (told_by d ∷ []) ∙ ap (λ (z : ℕ). z + 1) long;
      life = subst (λ z. IsLife a z after) (λ j. between (told (seen g.P.Port) (sym same.0 j)) (sym same.1 j) (sym same.2 j)) more;
      now = λ n end. ap goes (ap (answer_at after) (let e : n ≡ length here.said = omega arith in e) ∙ c.meet.ensures.answered) ∙ sym c.all_go_on-going.ensures;
    }
