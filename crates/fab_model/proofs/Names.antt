-- A lawful schedule names the script's own peers, so its report tells it.
use Rattle.std.proofs.Common.{◌≡◌, ◌<◌, ◌^◌, ℕ, List, [], ◌∷◌, All, length, slice_get, set, Some, inl, inr, refl, sym, ◌∙◌, subst, arith}
use Rattle.std.proofs.lemmas.Bool.{cases_eq}
use Rattle.std.proofs.lemmas.List.Elements.{All-nil, All-cons, All-from_get_or, All-weaker}
use Rattle.std.proofs.lemmas.Option.{slice_get_within}
use Rattle.fab_base.specs.declared.peers.Step.{Step}
use Rattle.fab_base.specs.declared.peers.Step.TheVariants.{Do, Head, Tail, Sent, Draw, Read, Final}
use Rattle.fab_base.specs.declared.script.Bound.{Bound}
use Rattle.fab_model.specs.Laws.{named_peer, NamesBelow, BoundReportTellsSchedule, LawfulReportTellsSchedule}
use Rattle.fab_model.specs.Orders.{Turn, Leads, steps_left, steps_of, turn}
use Rattle.fab_model.specs.Peers.{Actor, fabric}
use Rattle.fab_model.specs.Replay.{Lawful, opening, replayed, start}
use Rattle.fab_model.specs.Report.{report}
use Rattle.fab_model.specs.Views.{rule, seen}
use Rattle.fab_model.proofs.Confluence.{replay_keeps}
use Rattle.fab_model.proofs.Grows.{StepIs, step_is}
use Rattle.fab_model.proofs.Orders.{steps_of_own, steps_of_other}
use Rattle.fab_model.proofs.Patient.{accepted_within, opening_sound, sender_is}
use Rattle.fab_model.proofs.Replays.{Sound, fabric_commutes, lawful_reached}
use Rattle.fab_model.proofs.Told.{report_tells}
use Rattle.fab_model.proofs.Turns.{SoundMoment, exchange}
use Rattle.fab_model.proofs.Views.{rule_is}

-- ---- any schedule

-- the replay keeps the states sound, so there are as many as peers
pub replayed_sound : (bound : Bound) (schedule : List (List Step)) → Sound bound (replayed bound schedule).states
unfolding replayed
replayed_sound bound schedule =
    let m = start bound schedule in
    let law = exchange (rule fabric) (Sound bound) (fabric_commutes bound) (length schedule) in
    (replay_keeps (turn (rule fabric)) (SoundMoment (Sound bound) (length schedule)) law.keeps (length schedule) (steps_left m) m (opening_sound bound, refl)).0

pub bound_report_tells : BoundReportTellsSchedule
unfolding report
bound_report_tells bound schedule same small = report_tells bound.script.version (replayed bound schedule).states schedule (same ∙ sym ((replayed_sound bound schedule).count)) small

-- ---- a lawful schedule

names_within : (bound : Bound) (states : List Actor) (p : ℕ) (a b : Actor) (x : Step) → Sound bound states → slice_get states p ≡ Some a → StepIs (seen fabric states p) a x b → named_peer x < bound.script.conf.peers
names_within bound states p a b (Head source) sound has (item, ready, none, passes) =
    let sender = sender_is states p source _ item ready in
    omega (arith, slice_get_within states source sender.0 sender.1, sound.count)
names_within bound states p a b (Tail source) sound has (item, ready, lt, passes) =
    let sender = sender_is states p source _ item ready in
    omega (arith, slice_get_within states source sender.0 sender.1, sound.count)
names_within bound states p a b (Sent t) sound has (lt, passes) = omega (arith, accepted_within a.state.tx.accepted t _ lt, (sound.own p a has).count)
names_within bound states p a b Do sound has is = omega (arith, slice_get_within states p a has, sound.count)
names_within bound states p a b Draw sound has is = omega (arith, slice_get_within states p a has, sound.count)
names_within bound states p a b Read sound has is = omega (arith, slice_get_within states p a has, sound.count)
names_within bound states p a b Final sound has is = omega (arith, slice_get_within states p a has, sound.count)

-- a step that stands names a peer that there is
stands_within : (bound : Bound) (states : List Actor) (p : ℕ) (x : Step) (b : Actor) → Sound bound states → rule fabric states p x ≡ Some b → named_peer x < bound.script.conf.peers
stands_within bound states p x b sound stands =
    let is = rule_is fabric states p x b stands in
    names_within bound states p is.0 b x sound is.1 (step_is (seen fabric states p) is.0 b x is.2)

leads_within :
    (bound : Bound) (turns : List (Turn Step)) (states last : List Actor) (p : ℕ) → Sound bound states → Leads (rule fabric) states turns last
    → All (λ step. named_peer step < bound.script.conf.peers) (steps_of p turns)
leads_within bound [] states last p sound leads = All-nil (λ step. named_peer step < bound.script.conf.peers)
leads_within bound (t ∷ turns) states last p sound leads =
    let within = λ (step : Step). named_peer step < bound.script.conf.peers in
    let law = fabric_commutes bound in
    let rest = leads_within bound turns (set states t.peer leads.0) last p (law.keeps states t.peer t.step leads.0 sound leads.1) leads.2 in
    elim (cases_eq t.peer p) [
      | inl same ↦ subst (All within) (sym (steps_of_own p t turns same)) (All-cons within t.step (steps_of p turns) (stands_within bound states t.peer t.step leads.0 sound leads.1) rest)
      | inr differ ↦ subst (All within) (sym (steps_of_other p t turns differ)) rest
    ]

pub lawful_names : (bound : Bound) (schedule : List (List Step)) → Lawful bound schedule → NamesBelow bound.script.conf.peers schedule
lawful_names bound schedule lawful =
    let within = λ (step : Step). named_peer step < bound.script.conf.peers in
    let reached = lawful_reached bound schedule lawful in
    All-from_get_or (All within) schedule [] (λ p lt. subst (All within) (sym (reached.2 p)) (leads_within bound reached.0 (opening bound) (replayed bound schedule).states p (opening_sound bound) reached.1))

pub lawful_report_tells : LawfulReportTellsSchedule
lawful_report_tells bound schedule lawful same few =
    let within = λ (step : Step). named_peer step < bound.script.conf.peers in
    let small = λ (step : Step). named_peer step < 10 ^ 64 in
    bound_report_tells bound schedule same (All-weaker (All within) (All small) (All-weaker within small (λ step lt. omega arith)) schedule (lawful_names bound schedule lawful))
