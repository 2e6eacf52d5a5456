-- Draws: what the machine's draw makes of what is held, and draws one after another.
use Rattle.std.proofs.Common.{◌⊎◌, inl, inr, ◌≡◌, ℕ, true, List, [], ◌∷◌, ◌++◌, length, length-append, append-nil, Option, Some, None, refl, sym, ap, ◌∙◌, subst, arith, rules}
use Rattle.std.specs.Prelude.{find}
use Rattle.std.proofs.lemmas.Bool.{and_from}
use Rattle.std.proofs.lemmas.List.Folds.{list_all-append}
use Rattle.fab_base.specs.declared.operations.Arrival.{Arrival}
use Rattle.fab_base.specs.declared.operations.Receive.{Receive}
use Rattle.fab_model.specs.Matching.{takes}
use Rattle.fab_model.specs.State.{State, with_rx}
use Rattle.fab_model.specs.Complete.{fill, release, release_multi, reply, book}
use Rattle.fab_model.specs.Receiving.{draws, give, without_first}
use Rattle.fab_model.specs.Arrivals.{do_draw, seating}
use Rattle.fab_model.specs.Calls.{Call}
use Rattle.fab_face.specs.declared.events.Event.TheVariants.{Draw as DrawEvent}
use Rattle.fab_face.specs.Held.{Held, Seen}
use Rattle.fab_face.specs.Acts.{Act, Did, Took, Posted, Drew, Had, GoesBy, Went, is_draw, events}
use Rattle.fab_face.specs.Answers.{AllAre, HasPlaces}
use Rattle.fab_face.proofs.Joining.{went_none, went_then, ported_same}
use Rattle.fab_ep.specs.Draws.{Drawing, DrawsOne}

-- ---- draws change nothing that the refusals for good look at

pub record SameGrounds (s t : State) : Type 0 where
  pub caps : t.caps ≡ s.caps
  pub av : t.av ≡ s.av
  pub message : t.most_message ≡ s.most_message
  pub claimed : t.rx.claimed ≡ s.rx.claimed

same_grounds : (s : State) → SameGrounds s s
same_grounds s = record { caps = refl; av = refl; message = refl; claimed = refl }

grounds_option : {X : Type 0} (s : State) (o : Option X) (some : X → State) → ((x : X) → SameGrounds s (some x)) → SameGrounds s (elim o [ None ↦ s | Some x ↦ some x ])
grounds_option s None some f = same_grounds s
grounds_option s (Some x) some f = f x

grounds_give : (r : Receive) (place : ℕ) (a : Arrival) (s : State) → SameGrounds s (release r (give r place a s))
unfolding release_multi give fill book reply
grounds_give r place a s = record { caps = grind rules; av = grind rules; message = grind rules; claimed = grind rules }

grounds_draw : (s : State) → SameGrounds s (do_draw s)
unfolding do_draw
grounds_draw s = grounds_option s (find (draws s.rx.unexpected) s.rx.posted) _ (λ r.
    grounds_option s (find (takes r.want) s.rx.unexpected) _ (λ a.
    let given = grounds_give r r.used a (with_rx (without_first r.want (seating a.head.total r s.rx.unexpected s.rx)) s) in
    record { caps = given.caps; av = given.av; message = given.message; claimed = given.claimed }))

pub grounds_draws : (acts : List Act) (h k : Held) → AllAre is_draw acts → GoesBy None h acts k → SameGrounds h.state k.state
grounds_draws [] h k are goes = subst (λ (x : Held). SameGrounds h.state x.state) goes (record { caps = refl; av = refl; message = refl; claimed = refl })
grounds_draws (Did ∷ acts) h k are goes = absurd (cc)
grounds_draws (Took source f ∷ acts) h k are goes = absurd (cc)
grounds_draws (Posted d f ∷ acts) h k are goes = absurd (cc)
grounds_draws (Drew ∷ acts) h k are (mid, one, rest) =
    let first : SameGrounds h.state mid.state = subst (λ (x : Held). SameGrounds h.state x.state) (sym one.2) (grounds_draw h.state) in
    let then = grounds_draws acts mid k are rest in
    record { caps = then.caps ∙ first.caps; av = then.av ∙ first.av; message = then.message ∙ first.message; claimed = then.claimed ∙ first.claimed }
grounds_draws (Had ∷ acts) h k are goes = absurd (cc)

-- a call is part of no draw
goes_as : (call : Option Call) (acts : List Act) (h k : Held) → AllAre is_draw acts → GoesBy None h acts k → GoesBy call h acts k
goes_as call [] h k are goes = goes
goes_as call (Did ∷ acts) h k are goes = absurd (cc)
goes_as call (Took source f ∷ acts) h k are goes = absurd (cc)
goes_as call (Posted d f ∷ acts) h k are goes = absurd (cc)
goes_as call (Drew ∷ acts) h k are (mid, one, rest) = (mid, one, goes_as call acts mid k are rest)
goes_as call (Had ∷ acts) h k are goes = absurd (cc)

-- ---- endpoints

module _ {Home : Type 0} where
  went_as : (call : Option Call) (a b : Seen Home) (acts : List Act) → AllAre is_draw acts → Went None a b acts → Went call a b acts
  went_as call a b acts are went = record { goes = goes_as call acts a.held b.held are went.goes; log = went.log; size = went.size; ported = went.ported }

  pub went_draws : (call : Option Call) (a b : Seen Home) → (d : Drawing a b) → Went call a b d.acts
  went_draws call a b d = went_as call a b d.acts d.draws d.went

  -- ---- draws, one after another

  pub drawing_none : (a : Seen Home) → Drawing a a
  drawing_none a = record { acts = []; draws = refl; went = went_none None a a refl refl refl (ported_same a.lanes a.lanes refl); pushed = refl; lanes = refl; next = refl; room = inl refl; place = λ places. omega (arith, places) }

  pub drawing_on : (a e e1 : Seen Home) → Drawing a e → DrawsOne e e1 true → Drawing a e1
  drawing_on a e e1 was (places, went, pushed, lanes, next) = record {
    acts = was.acts ++ Drew ∷ [];
    draws = list_all-append is_draw was.acts (Drew ∷ []) ∙ and_from _ _ was.draws refl;
    went = went_then None a e e1 was.acts (Drew ∷ []) was.went went;
    pushed = pushed ∙ was.pushed;
    lanes = lanes ∙ was.lanes;
    next = next ∙ was.next;
    room = inr (had was.room);
    place = λ had_. (let l = ap length went.log ∙ length-append e.log (DrawEvent ∷ []) in let s = went.size in omega (arith, l, s, places));
  }
    where
      had : ((was.acts ≡ []) ⊎ HasPlaces a) → HasPlaces a
      had (inr room) = room
      had (inl none) = (
          let whole = was.went in
          let log : e.log ≡ a.log = whole.log ∙ ap (λ acts. a.log ++ events acts) none ∙ append-nil a.log in
          rw (← log, ← whole.size) places)
