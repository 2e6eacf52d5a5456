-- The laws of any program hold of what threads did with their endpoints.
use Rattle.std.proofs.Common.{◌≡◌, ℕ, zero, suc, List, [], ◌∷◌, ◌++◌, drop, map, take, slice_get, Some, refl, sym, ◌∙◌, ap, subst, arith}
use Rattle.std.specs.Prelude.{slice_index_or}
use Rattle.std.specs.Option.{option_map}
use Rattle.std.proofs.lemmas.Option.{slice_get-map}
use Rattle.fab_base.specs.declared.operations.Written.{Written}
use Rattle.fab_model.specs.Orders.{AreSteps, Leads, Turn, steps_of}
use Rattle.fab_model.specs.State.{State}
use Rattle.fab_model.specs.Views.{rule}
use Rattle.fab_laws.specs.Programs.{Deed, peer, program}
use Rattle.fab_laws.specs.Moments.{AtEveryMoment}
use Rattle.fab_laws.specs.Completed.{accepts, operations_of}
use Rattle.fab_laws.specs.MessageLaws.{asked_by, asked_of}
use Rattle.fab_laws.specs.Recorded.{Recorded, plain, recall, recorded}
use Rattle.fab_laws.proofs.Stepping.{at_opening}
use Rattle.fab_laws.proofs.Recorded.{accepted_own, asked_own, of_recorded, recorded_leads}
use Rattle.fab_laws.proofs.matching.Orders.{got_rightly, none_passed_over, past_tells_state, served_in_order, taken_in_order}
use Rattle.fab_laws.proofs.completion.Once.{nothing_is_held_back, numbers_complete, one_final_completion}
use Rattle.fab_laws.proofs.fences.Law.{fences_hold, gone_in_order, items_are_of_calls}
use Rattle.fab_laws.proofs.replies.Stray.{answered_once, no_stray}
use Rattle.fab_laws.proofs.replies.Waiting.{all_wait_at_match}
use Rattle.fab_laws.proofs.streams.Taken.{taken_is_first}
use Rattle.fab_laws.proofs.streams.Posted.{taken_is_posted}
use Rattle.fab_laws.proofs.streams.Arrived.{all_is_taken, arrived_is_first, arrived_is_posted, whole_has_arrived}
use Rattle.fab_laws.proofs.streams.Entries.{entries_tell, receives_tell}
use Rattle.fab_laws.proofs.streams.Sized.{items_are_sized}
use Rattle.fab_laws.proofs.receiving.Holding.{closes_in_time, freed_rightly, goes_once, got_is_told, lost_is_put_away, none_is_lost, one_tells, parts_stand, places_follow, releases_in_time, releases_tell, stays_claimed, takes_tell, tells_once, took_is_told}
use Rattle.fab_merging.specs.Pasts.{begun}
use Rattle.fab_doings.specs.Doings.{Living, deeds_of, entries_of, peer_in}
use Rattle.fab_doings.specs.Law.{IsOwn, Kept, Obeys, Past, ProgramObeys, peers, plains, programs}
use Rattle.fab_doings.proofs.alike.Laws.{served_in_turn, told_in_turn}
use Rattle.fab_doings.proofs.Reaching.{program_reaches}
use Rattle.fab_doings.proofs.Reading.{HasRead, all_read}

all_obey : AtEveryMoment Obeys
all_obey from turns states leads p a here =
    let told = past_tells_state from turns states leads p a here in
    record {
      passed = none_passed_over from turns states leads p a here;
      served = served_in_order from turns states leads p a here;
      taken = taken_in_order from turns states leads p a here;
      got = got_rightly from turns states leads p a here;
      unexpected = told.0;
      posted = told.1;
      once = one_final_completion from turns states leads p a here;
      numbers = numbers_complete from turns states leads p a here;
      fenced = fences_hold from turns states leads p a here;
      order = gone_in_order from turns states leads p a here;
      of_calls = items_are_of_calls from turns states leads p a here;
      idle = nothing_is_held_back from turns states leads p a here;
      stray = no_stray from turns states leads p a here;
      answered = answered_once from turns states leads p;
      waits = all_wait_at_match from turns states leads p a here;
      first = taken_is_first from turns states leads p a here;
      of_posted = taken_is_posted from turns states leads p a here;
      entries = entries_tell from turns states leads p a here;
      receives = receives_tell from turns states leads p a here;
      sized = items_are_sized from turns states leads p a here;
      arrived = arrived_is_first from turns states leads p a here;
      arrived_posted = arrived_is_posted from turns states leads p a here;
      behind = whole_has_arrived from turns states leads p a here;
      takes_all = all_is_taken from turns states leads p a here;
      freed = (freed_rightly from turns states leads p a here).0;
      slips = (freed_rightly from turns states leads p a here).1;
      aside = stays_claimed from turns states leads p a here;
      lost = lost_is_put_away from turns states leads p a here;
      own = takes_tell from turns states leads p a here;
      told = got_is_told from turns states leads p a here;
      took = took_is_told from turns states leads p a here;
      only = one_tells from turns states leads p a here;
      leaves = goes_once from turns states leads p a here;
      places = places_follow from turns states leads p a here;
      closes = closes_in_time from turns states leads p a here;
      parts = parts_stand from turns states leads p a here;
      released = releases_tell from turns states leads p a here;
      back = releases_in_time from turns states leads p a here;
      each = tells_once from turns states leads p a here;
      fates = none_is_lost from turns states leads p a here;
      in_turn = served_in_turn from turns states leads p a here;
      told_in_turn = told_in_turn from turns states leads p a here;
    }

peers_plain : (opening : List Living) → map plain (map peer_in opening) ≡ map (λ (o : Living). peer o.held.state) opening
peers_plain [] = refl
peers_plain (o ∷ opening) = ap (λ ps. peer o.held.state ∷ ps) (peers_plain opening)

pub doings_at : (pasts : List Past) (p : ℕ) (x : Past) → slice_get pasts p ≡ Some x → slice_index_or (programs pasts) p [] ≡ deeds_of x.steps
doings_at [] p x e = absurd (cc)
doings_at (y ∷ pasts) zero x e = let same : y ≡ x = cc in ap (λ (z : Past). deeds_of z.steps) same
doings_at (y ∷ pasts) (suc p) x e = doings_at pasts p x e

-- lists that follow the same one to the same one
same_more : (front xs ys : List State) → front ++ xs ≡ front ++ ys → xs ≡ ys
same_more [] xs ys e = e
same_more (s ∷ front) xs ys e = same_more front xs ys (ap (λ us. drop 1 us) e)

pub program_obeys : ProgramObeys
program_obeys from opening pasts starts told = record { turns = turns; deeds = run.2; led = led; obeys = λ p x at. run.3 p (peer_in x.living) (now p x at); own = own }
  where
    same : map plain (map peer_in opening) ≡ from.peers
    same = peers_plain opening ∙ starts

    run : (turns : List (Turn Deed)) × Leads (rule recorded) (map peer_in opening) turns (peers pasts) × AreSteps (programs pasts) turns × ((p : ℕ) (b : Recorded) → slice_get (peers pasts) p ≡ Some b → Obeys from.peers turns (map plain (peers pasts)) p (plain b))
    run = of_recorded Obeys all_obey from (map peer_in opening) same (programs pasts) (peers pasts) (program_reaches opening pasts told)

    turns : List (Turn Deed)
    turns = run.0

    led : Leads (rule program) from.peers turns (plains pasts)
    led = subst (λ ss. Leads (rule program) ss turns (plains pasts)) same (recorded_leads turns (map peer_in opening) (peers pasts) run.1)

    now : (p : ℕ) (x : Past) → slice_get pasts p ≡ Some x → slice_get (peers pasts) p ≡ Some (peer_in x.living)
    now p x at = slice_get-map (λ (x : Past). peer_in x.living) pasts p ∙ ap (option_map (λ (x : Past). peer_in x.living)) at

    before : (p : ℕ) (o : Living) → slice_get opening p ≡ Some o → slice_get (map peer_in opening) p ≡ Some (peer_in o)
    before p o at = slice_get-map peer_in opening p ∙ ap (option_map peer_in) at

    read_all : (p : ℕ) (o : Living) (x : Past) → slice_get opening p ≡ Some o → Kept (begun o) x → entries_of x.steps ≡ map (λ (w : Written). w.entry) (take x.living.held.state.cq.taken_out x.living.held.state.cq.written)
    read_all p o x at (more, kept) =
        let start : slice_get from.peers p ≡ Some (peer o.held.state) = ap (λ ps. slice_get ps p) (sym starts) ∙ slice_get-map (λ (l : Living). peer l.held.state) opening p ∙ ap (option_map (λ (l : Living). peer l.held.state)) at in
        let none : HasRead o.held.state [] = at_opening from (λ (s : State). HasRead s []) (λ conf av names. record { are = refl; within = omega arith }) p (peer o.held.state) start in
        ap entries_of kept.doings ∙ (all_read o x.living more [] kept.lives none).are

    own : (p : ℕ) (o : Living) (x : Past) → slice_get opening p ≡ Some o → slice_get pasts p ≡ Some x → IsOwn from.peers turns p o x
    own p o x at there =
        let accepted = accepted_own turns (map peer_in opening) (peers pasts) p (peer_in o) (peer_in x.living) run.1 (before p o at) (now p x there) in
        let asked = asked_own turns (map peer_in opening) (peers pasts) p (peer_in o) (peer_in x.living) run.1 (before p o at) (now p x there) in
        let mine : steps_of p turns ≡ deeds_of x.steps = sym (run.2 p) ∙ doings_at pasts p x there in
        let one : asked.0 ≡ accepted.0 = same_more o.past asked.0 accepted.0 (sym asked.1 ∙ accepted.1) in
        record {
          grew = accepted.0;
          past = accepted.1;
          accepted = ap (λ ps. (operations_of ps turns p).accepted) (sym same) ∙ accepted.2 ∙ ap (λ ds. recall (λ a deed b m. accepts a deed b ++ m) o.held.state ds accepted.0 []) mine;
          asked = ap (λ ps. asked_of ps turns p) (sym same) ∙ asked.2 ∙ ap (λ us. recall (λ a deed b m. asked_by a deed b ++ m) o.held.state (steps_of p turns) us []) one
              ∙ ap (λ ds. recall (λ a deed b m. asked_by a deed b ++ m) o.held.state ds accepted.0 []) mine;
          read = read_all p o x at (told.acted p o x at there);
        }
