-- Progress and refused transmit calls, one after another, are frames and draws.
use Rattle.std.proofs.Common.{◌≡◌, List, [], ◌∷◌, ◌++◌, Option, None, Some, Result, refl, ◌∙◌, subst}
use Rattle.std.proofs.lemmas.List.Folds.{list_all-append}
use Rattle.std.proofs.lemmas.Bool.{and_from}
use Rattle.std.specs.Prelude.{ℕ, Bool}
use Rattle.fab_base.specs.declared.faults.Fault.{Fault}
use Rattle.fab_base.specs.declared.faults.NoMemory.{NoMemory}
use Rattle.fab_model.specs.Calls.{Call}
use Rattle.fab_face.specs.declared.events.Moved.{Moved}
use Rattle.fab_face.specs.Held.{Held, Seen}
use Rattle.fab_face.specs.Acts.{Act, Did, Took, Posted, Drew, Had, GoesBy, is_move}
use Rattle.fab_face.specs.Answers.{AllAre, Progressed, SendsNot}
use Rattle.fab_face.proofs.Joining.{goes_append, ported_same, ported_then, posts_move}
use Rattle.fab_app.specs.Cleared.{cleared}
use Rattle.fab_app.specs.declared.moving.Next.{Next}
use Rattle.fab_app.specs.Progresses.{Moves, Progresses}

-- frames and draws are part of no call
pub goes_none : (call : Option Call) (acts : List Act) (h k : Held) → AllAre is_move acts → GoesBy call h acts k → GoesBy None h acts k
goes_none call [] h k are goes = goes
goes_none call (Did ∷ acts) h k are goes = absurd (cc)
goes_none call (Took source f ∷ acts) h k are (mid, one, rest) = (mid, one, goes_none call acts mid k are rest)
goes_none call (Posted d f ∷ acts) h k are (mid, one, rest) = (mid, one, goes_none call acts mid k are rest)
goes_none call (Drew ∷ acts) h k are (mid, one, rest) = (mid, one, goes_none call acts mid k are rest)
goes_none call (Had ∷ acts) h k are goes = absurd (cc)

module _ {Home : Type 0} where
  pub none : (e : Seen Home) → Progresses e e
  none e = record { acts = []; moves = refl; goes = refl; ported = ported_same e.lanes e.lanes refl; size = refl }

  pub then_more : (a b c : Seen Home) → Progresses a b → Progresses b c → Progresses a c
  then_more a b c p q = record {
    acts = p.acts ++ q.acts;
    moves = list_all-append is_move p.acts q.acts ∙ and_from _ _ p.moves q.moves;
    goes = goes_append None p.acts q.acts a.held b.held c.held p.goes q.goes;
    ported = ported_then a.lanes b.lanes c.lanes p.acts q.acts p.ported q.ported;
    size = q.size ∙ p.size;
  }

  -- one more progress
  pub progressed_on : (fixed : Bool) (a b mid c : Seen Home) (budget : ℕ) (moved : Result Moved NoMemory) → Progresses a b → mid ≡ cleared b → Progressed fixed budget mid c moved → Progresses a c
  progressed_on fixed a b mid c budget moved p is q =
      let r : Progressed fixed budget (cleared b) c moved = subst (λ (x : Seen Home). Progressed fixed budget x c moved) is q in
      then_more a b c p (record { acts = r.acts; moves = r.moves; goes = r.went.goes; ported = r.went.ported; size = r.went.size })

  -- one more transmit call that was refused
  pub refused_on : (fixed : Bool) (call : Call) (a b c : Seen Home) (fault : Fault) → Progresses a b → SendsNot fixed call (cleared b) c fault → Progresses a c
  refused_on fixed call a b c fault p r =
      let moves = posts_move r.acts r.push in
      then_more a b c p (record { acts = r.acts; moves = moves; goes = goes_none (Some call) r.acts b.held c.held moves r.went.goes; ported = r.went.ported; size = r.went.size })

  pub moved_on : (fixed : Bool) (a b c : Seen Home) (budget : ℕ) (answer : Result Next NoMemory) → Progresses a b → Moves fixed budget (cleared b) c answer → Progresses a c
  moved_on fixed a b c budget answer p m = progressed_on fixed a b (cleared b) c budget m.moved p refl m.progressed
