-- Receive calls that were refused made draws alone, and draws are progress.
use Rattle.std.proofs.Common.{◌≡◌, ℕ, List, [], ◌∷◌, Some, refl, subst}
use Rattle.fab_base.specs.declared.faults.Fault.{Fault}
use Rattle.fab_model.specs.Calls.{Call}
use Rattle.fab_face.specs.Held.{Seen}
use Rattle.fab_face.specs.Acts.{Act, Did, Took, Posted, Drew as DrewOne, Had, is_draw, taken_of, posted_to, ways_of}
use Rattle.fab_face.specs.Answers.{AllAre, ReceivesNot}
use Rattle.fab_face.proofs.Joining.{draws_move, ported_still}
use Rattle.fab_app.specs.Cleared.{cleared}
use Rattle.fab_app.specs.Late.{Drew, ReceivesLate, ReceivesLateNot, asked}
use Rattle.fab_app.specs.declared.receiving.Ask.{Ask}
use Rattle.fab_app.specs.Progresses.{Progresses}
use Rattle.fab_app.specs.Trying.{ReceivesWithin, ReceivesWithinNot}
use Rattle.fab_app.proofs.Chains.{goes_none, then_more}

-- draws take and post nothing
took_none : (acts : List Act) (s : ℕ) → AllAre is_draw acts → taken_of s acts ≡ []
took_none [] s are = refl
took_none (Did ∷ acts) s are = absurd (cc)
took_none (Took source f ∷ acts) s are = absurd (cc)
took_none (Posted d f ∷ acts) s are = absurd (cc)
took_none (DrewOne ∷ acts) s are = took_none acts s are
took_none (Had ∷ acts) s are = absurd (cc)

posted_none : (acts : List Act) (d : ℕ) → AllAre is_draw acts → posted_to d acts ≡ []
posted_none [] d are = refl
posted_none (Did ∷ acts) d are = absurd (cc)
posted_none (Took source f ∷ acts) d are = absurd (cc)
posted_none (Posted dest f ∷ acts) d are = absurd (cc)
posted_none (DrewOne ∷ acts) d are = posted_none acts d are
posted_none (Had ∷ acts) d are = absurd (cc)

no_ways : (acts : List Act) → AllAre is_draw acts → ways_of acts ≡ []
no_ways [] are = refl
no_ways (Did ∷ acts) are = absurd (cc)
no_ways (Took source f ∷ acts) are = absurd (cc)
no_ways (Posted d f ∷ acts) are = absurd (cc)
no_ways (DrewOne ∷ acts) are = no_ways acts are
no_ways (Had ∷ acts) are = absurd (cc)

module _ {Home : Type 0} where
  drew_on : (a b : Seen Home) → Drew a b → Progresses a b
  drew_on a b drew = record {
    acts = drew.acts;
    moves = draws_move drew.acts drew.draws;
    goes = drew.goes;
    ported = ported_still a.lanes b.lanes drew.acts drew.lanes (λ s. took_none drew.acts s drew.draws) (λ d. posted_none drew.acts d drew.draws) (no_ways drew.acts drew.draws);
    size = drew.size;
  }

  refused_draws : (call : Call) (b c : Seen Home) (fault : Fault) → ReceivesNot call (cleared b) c fault → Progresses b c
  refused_draws call b c fault r =
      let moves = draws_move r.acts r.draws in
      record { acts = r.acts; moves = moves; goes = goes_none (Some call) r.acts b.held c.held moves r.went.goes; ported = r.went.ported; size = r.went.size }

  -- one more receive call that was refused
  pub refused_late : (call : Call) (a b c : Seen Home) (fault : Fault) → Progresses a b → ReceivesLateNot call b c fault → Progresses a c
  refused_late call a b c fault p r = then_more a b c p (then_more b r.mid c (drew_on b r.mid r.drew) (refused_draws call r.mid c fault r.refused))

  -- a receive call after progress, whose buffer is the one that came
  pub receives_within : (ask : Ask) (ctx : ℕ) (first buf : List ℕ) (a e c : Seen Home) → buf ≡ first → Progresses a e → ReceivesLate (asked ask ctx buf) e c → ReceivesWithin (asked ask ctx first) a c
  receives_within ask ctx first buf a e c is p r = record { mid = e; before = p; receives = subst (λ (x : List ℕ). ReceivesLate (asked ask ctx x) e c) is r }

  pub receives_within_not : (ask : Ask) (ctx : ℕ) (first buf : List ℕ) (a e c : Seen Home) (why : Fault) → buf ≡ first → Progresses a e → ReceivesLateNot (asked ask ctx buf) e c why → ReceivesWithinNot (asked ask ctx first) a c why
  receives_within_not ask ctx first buf a e c why is p r = record { mid = e; before = p; refused = subst (λ (x : List ℕ). ReceivesLateNot (asked ask ctx x) e c why) is r }
