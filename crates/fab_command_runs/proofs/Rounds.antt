-- The script of some rounds, and what its peers came to.
use Rattle.std.proofs.Common.{◌≡◌, ◌<◌, ◌≤◌, ℕ, zero, suc, List, [], ◌∷◌, true, get_or, length, sym, ap, subst, ◌∙◌, arith}
use Rattle.std.proofs.lemmas.List.{length-map}
use Rattle.fab_base.specs.declared.script.Bound.{Bound}
use Rattle.fab_base.specs.declared.script.Conf.{Conf}
use Rattle.fab_model.specs.Orders.{Reached}
use Rattle.fab_model.specs.Peers.{Actor, fabric}
use Rattle.fab_model.specs.Replay.{Lawful, opening, at_rest}
use Rattle.fab_model.specs.Views.{rule}
use Rattle.fab_model.proofs.Replays.{reached_lawful, reached_sound}
use Rattle.fab_answer.specs.Laws.{last_states}
use Rattle.fab_finish.specs.Joined.{Member, actors, member_actor, schedules}
use Rattle.fab_rounds.specs.Phases.{IsSized}
use Rattle.fab_workloads.specs.Script.{conf_of}
use Rattle.fab_workloads.specs.declared.round.Round.{Round}
use Rattle.fab_workloads.specs.Plan.{plan_of}
use Rattle.fab_workloads.specs.Rounds.{AreWithin}
use Rattle.fab_workload_laws.specs.CollLaws.{EachFolds, FoldsIn, results_so_far}

-- the results of a rank's lines
pub results_at : (ps : List Member) (r : ℕ) (x : Member) → r < length ps → x ≡ get_or ps r x → results_so_far (actors ps) r ≡ (member_actor x).results
results_at [] r x below is = absurd (omega (arith, below))
results_at (p ∷ ps) zero x below is = ap (λ (q : Member). (member_actor q).results) (sym is)
results_at (p ∷ ps) (suc r) x below is = results_at ps r x (omega (arith, below)) is

-- peers run with the settings of collectives, which are those of workloads
pub sized_by : (conf : Conf) (n : ℕ) → conf ≡ conf_of n → (0 < n) × (n ≤ 64) → IsSized conf
sized_by conf n is few = subst IsSized (sym is) (record {
  peers = few;
  lane = (omega arith, omega arith);
  pool = (omega arith, omega arith);
  log = omega arith;
})

module _ (peers : ℕ) (rounds : List Round) (b : Bound) (is : b ≡ plan_of peers rounds) where
  -- its settings are those of its number of peers
  pub settings : b.script.conf ≡ conf_of peers
  unfolding plan_of
  settings = ap (λ (x : Bound). x.script.conf) is

  pub sized : AreWithin peers rounds → IsSized b.script.conf
  sized within = sized_by b.script.conf peers settings (omega (arith, within.0), omega (arith, within.1))

  -- at rest each rank makes of what it received what the rounds come to
  pub folds_at_rest : EachFolds → AreWithin peers rounds → (ps : List Member) → Reached (rule fabric) (opening b) (schedules ps) (actors ps) → at_rest (actors ps) ≡ true → FoldsIn peers rounds (actors ps)
  folds_at_rest folds within ps reached rest =
      let led = reached_lawful b (schedules ps) (actors ps) reached in
      let lawful : Lawful (plan_of peers rounds) (schedules ps) = subst (λ (x : Bound). Lawful x (schedules ps)) is led.0 in
      let end : last_states (plan_of peers rounds) (schedules ps) ≡ actors ps = ap (λ (x : Bound). last_states x (schedules ps)) (sym is) ∙ led.1 in
      subst (λ (states : List Actor). FoldsIn peers rounds states) end (folds peers rounds within (schedules ps) lawful (ap at_rest end ∙ rest))

  pub as_many : (ps : List Member) → Reached (rule fabric) (opening b) (schedules ps) (actors ps) → length ps ≡ peers
  as_many ps reached = sym (length-map ps member_actor) ∙ (reached_sound b (schedules ps) (actors ps) reached).count ∙ ap (λ (c : Conf). c.peers) settings
