-- A report of what peers did tells the schedule that led there.
use Rattle.std.proofs.Common.{◌≡◌, ◌≤◌, ◌^◌, ℕ, suc, Bool, true, List, [], ◌∷◌, map, length, refl, sym, ap, subst, ◌∙◌, arith}
use Rattle.std.proofs.lemmas.Bool.{and_from}
use Rattle.std.proofs.lemmas.List.{length-map}
use Rattle.fab_base.specs.declared.script.Bound.{Bound}
use Rattle.fab_model.specs.Orders.{Reached}
use Rattle.fab_model.specs.Peers.{Actor, fabric}
use Rattle.fab_model.specs.Replay.{Lawful, opening, replayed, at_rest, all_done, is_empty}
use Rattle.fab_model.specs.Report.{report, report_of, traces}
use Rattle.fab_model.specs.Views.{rule}
use Rattle.fab_model.proofs.Replays.{reached_lawful, reached_sound}
use Rattle.fab_model.proofs.Names.{lawful_report_tells}
use Rattle.fab_replay.specs.declared.verdicts.Verdict.TheVariants as answer
use Rattle.fab_report.specs.Reading.{schedule_told}
use Rattle.fab_replay.specs.Verdict.{verdict}
use Rattle.fab_base.specs.declared.peers.Step.{Step}
use Rattle.fab_replay.proofs.Meaning.{means_verdict}
use Rattle.fab_report.proofs.Written.{report_told}
use Rattle.fab_finish.specs.Joined.{member_actor, member_steps}
use Rattle.fab_finish.specs.Joined.{AreCleared}
use Rattle.fab_finish.specs.Joined.{Member}
use Rattle.fab_answer.specs.Laws.{nothing_posted}
use Rattle.fab_laws.specs.Headline.{Headline}
use Rattle.fab_top.specs.Runs.{Reports, ComesToRest}

none_posted : (all : List Actor) → AreCleared all → nothing_posted all ≡ true
none_posted [] cleared = refl
none_posted (a ∷ all) cleared = and_from _ _ (ap is_empty (cleared 0 a refl)) (none_posted all (λ p x has. cleared (suc p) x has))

-- the checker finds the report of a lawful schedule that ends at rest
found_lawful : (bound : Bound) (schedule : List (List Step)) (text : List ℕ) → Lawful bound schedule → length schedule ≡ bound.script.conf.peers → bound.script.conf.peers ≤ 10 ^ 64 → text ≡ report bound schedule
    → at_rest (replayed bound schedule).states ≡ true → verdict bound text ≡ answer.Lawful true
found_lawful bound schedule text lawful many few is rest =
    sym (means_verdict bound text (answer.Lawful true) (record {
      schedule = schedule;
      told = ap (schedule_told bound.script.conf.peers) is ∙ report_told bound schedule lawful many few;
      lawful = lawful;
      text_is = is;
      rest_is = rest;
    }))

pub reports : (bound : Bound) (peers : List Member) (text : List ℕ) (done : Bool) → Reached (rule fabric) (opening bound) (map member_steps peers) (map member_actor peers)
    → at_rest (map member_actor peers) ≡ true → (all_done (map member_actor peers) ≡ true → AreCleared (map member_actor peers)) → length peers ≤ 10 ^ 64 → text ≡ report_of bound.script.version (map member_actor peers) (map member_steps peers)
    → done ≡ all_done (map member_actor peers) → ((schedule : List (List Step)) → Lawful bound schedule → Headline bound schedule) → Reports bound text done
unfolding report
reports bound peers text done reached rest cleared few is ends head =
    let schedule = map member_steps peers in
    let states = map member_actor peers in
    let lawful = reached_lawful bound schedule states reached in
    let count : length states ≡ bound.script.conf.peers = (reached_sound bound schedule states reached).count in
    let many : length schedule ≡ bound.script.conf.peers = length-map peers member_steps ∙ sym (length-map peers member_actor) ∙ count in
    let whole : text ≡ report bound schedule = is ∙ ap (λ xs. report_of bound.script.version xs schedule) (sym lawful.1) in
    let told : traces text ≡ schedule = ap traces whole ∙ lawful_report_tells bound schedule lawful.0 many (omega (arith, few, count, length-map peers member_actor)) in
    let found = subst (λ x. Lawful bound x) (sym told) lawful.0 in
    record {
      lawful = found;
      text_is = whole ∙ ap (report bound) (sym told);
      rest = ap (λ x. at_rest (replayed bound x).states) told ∙ ap at_rest lawful.1 ∙ rest;
      done_is = ap (λ x. all_done (replayed bound x).states) told ∙ ap all_done lawful.1 ∙ sym ends;
      cleared = λ all. ap (λ x. nothing_posted (replayed bound x).states) told ∙ ap nothing_posted lawful.1 ∙ none_posted states (cleared (sym ends ∙ all));
      found = found_lawful bound schedule text lawful.0 many (omega (arith, few, count, length-map peers member_actor)) whole (ap at_rest lawful.1 ∙ rest);
      headline = head (traces text) found;
    }

-- what peers did that came to rest is a lawful schedule
pub comes_to_rest : (bound : Bound) (peers : List Member) (done : Bool) → Reached (rule fabric) (opening bound) (map member_steps peers) (map member_actor peers)
    → at_rest (map member_actor peers) ≡ true → done ≡ all_done (map member_actor peers) → ComesToRest bound done
comes_to_rest bound peers done reached rest ends =
    let lawful = reached_lawful bound (map member_steps peers) (map member_actor peers) reached in
    (map member_steps peers, lawful.0, ap at_rest lawful.1 ∙ rest, ap all_done lawful.1 ∙ sym ends)
