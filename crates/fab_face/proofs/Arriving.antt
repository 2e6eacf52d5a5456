-- What arrives, and what it adds to what an endpoint owes: at most one reply, where an item that owes it is whole.
--     Alone rx source        no message of the source that is not whole was kept, where none is coming that way
--     Tailed c source head s t      the completion of an item of the source
use Rattle.std.proofs.Common.{◌≡◌, ◌≢◌, ◌≤◌, ◌<◌, ◌+◌, ℕ, Bool, true, false, ◌&&◌, List, [], ◌∷◌, ◌++◌, map, length, set, get_or, get_or-set_same, get_or-set_other, Option, Some, None, ◌⊎◌, inl, inr, refl, sym, ◌∙◌, ap, subst, arith, rules}
use Rattle.std.specs.Prelude.{find, ◌==◌, is_none, is_some, slice_index, count_by}
use Rattle.std.proofs.lemmas.Bool.{cases_eq, eqb-true}
use Rattle.std.proofs.lemmas.Bool.Decides.{nat_tests}
use Rattle.fab_base.specs.declared.items.Item.{Item}
use Rattle.fab_base.specs.declared.items.ItemHead.{ItemHead}
use Rattle.fab_base.specs.declared.items.Kind.{Kind}
use Rattle.fab_base.specs.declared.items.Kind.TheVariants.{Msg, TagMsg, WriteReq, ReadReq, AtomicReq, Reply}
use Rattle.fab_base.specs.declared.items.Outcome.{Outcome}
use Rattle.fab_base.specs.declared.items.Outcome.TheVariants.{Done}
use Rattle.fab_base.specs.declared.operations.Receive.{Receive}
use Rattle.fab_base.specs.declared.operations.Arrival.{Arrival}
use Rattle.fab_base.specs.declared.operations.Coming.{Coming}
use Rattle.fab_base.specs.declared.operations.Coming.TheVariants.{Into, Keep, Throw, Request, Answer}
use Rattle.fab_base.specs.declared.operations.Operation.{Operation}
use Rattle.fab_base.specs.Kinds.{at_delivery, at_match, is_message}
use Rattle.fab_model.specs.State.{State, Receiving, Transmitting, held_for, coming_from, with_rx, with_tx}
use Rattle.fab_model.specs.Complete.{book, fill, release, release_multi, reply}
use Rattle.fab_base.specs.Replies.{at_either, owes, owes_by}
use Rattle.fab_model.specs.Sending.{answering, do_answer, end_with, going_on, is_answered_by}
use Rattle.fab_model.specs.Target.{perform}
use Rattle.fab_model.specs.Arrivals.{completed, do_head, do_request, do_tail, heading_message, heading_other, keeping, made_whole, newcomer, remote_data, remote_event, tail_to, taker, way_of, with_regions}
use Rattle.fab_model.proofs.Answering.{message_owes}
use Rattle.fab_face.specs.Owed.{dues, to_post, is_debt, to_book, is_pledge, is_due, due_for, asked_by, kept_for, begun_in, Pledged, PartlyIn, IsPartly}
use Rattle.fab_face.proofs.Counts.{one, count_cons, count_snoc, count_same, count_map, count_none, count_sum}
use Rattle.fab_face.proofs.Letting.{lets_post}
use Rattle.fab_face.proofs.Owed.{booked_one, either_split}

abbrev pub is_keep : Option Coming → Bool
is_keep None = false
is_keep (Some Keep) = true
is_keep (Some (Into r place)) = false
is_keep (Some Throw) = false
is_keep (Some Request) = false
is_keep (Some Answer) = false

abbrev pub Alone : Receiving → ℕ → Type 0
Alone rx source = is_keep (coming_from rx source) ≡ false → (op : ℕ) → kept_for rx source op ≡ 0

-- the item is begun, or none is, of this source
abbrev pub BegunOf : ℕ → Option Item → List (Option Item) → List (Option Item) → Type 0
BegunOf source now begun begun' = (begun_in begun' source ≡ now) × ((d : ℕ) → d ≢ source → begun_in begun' d ≡ begun_in begun d)

pub alone_partly : (rx : Receiving) (begun : List (Option Item)) (source : ℕ) → IsPartly rx begun → Alone rx source
alone_partly rx begun source partly other op =
    let us = count_none (PartlyIn rx begun) (is_pledge source op) rx.unexpected partly.unexpected none in
    let cs = count_none (λ (c : ℕ × Arrival). PartlyIn rx begun c.1) (λ (c : ℕ × Arrival). is_pledge source op c.1) rx.claimed partly.claimed (λ c. none c.1) in
    omega (arith, us, cs)
  where
    none : (a : Arrival) → PartlyIn rx begun a → is_pledge source op a ≡ false
    none a is = go (a.source == source) a.bytes refl refl
      where
        go : (b : Bool) (o : Option (List ℕ)) → (a.source == source) ≡ b → a.bytes ≡ o → is_pledge source op a ≡ false
        go false o e f = rw e refl
        go true (Some bytes) e f = rw (e, f) refl
        go true None e f =
            let at : a.source ≡ source = eqb-true a.source source e in
            let way : coming_from rx source ≡ Some Keep = sym (ap (coming_from rx) at) ∙ (is f).way in
            absurd (let bad : is_keep (Some Keep) ≡ false = rw way at other in cc (bad))

-- ---- the arrival of an item

module _ (s : State) (source : ℕ) (head : ItemHead) where
  abbrev new : Arrival
  new = newcomer source (slice_index s.rx.heads source) head

  pub head_dues : (places : List ℕ) (d op : ℕ) → dues (do_head s source head) places d op ≤ dues s places d op
  unfolding do_head heading_message heading_other
  head_dues places d op = go (is_message head.kind) (taker source head s.rx)
    where
      none : one (is_debt d op new) ≡ 0
      none = both (source == d)
        where
          both : (b : Bool) → one (((b && false) && at_match head.ack) && (head.op == op)) ≡ 0
          both true = refl
          both false = refl

      message : (o : Option Receive) → count_by (is_debt d op) (elim o [ None ↦ s.rx.unexpected ++ new ∷ [] | Some _ ↦ s.rx.unexpected ]) ≡ count_by (is_debt d op) s.rx.unexpected
      message None = omega (arith, none, count_snoc (is_debt d op) s.rx.unexpected new)
      message (Some r) = refl

      go : (b : Bool) (o : Option Receive) → (let u : State = elim b [ true ↦ with_rx (heading_message source head s.rx) s | false ↦ with_rx (heading_other source head.kind s.rx) s ] in dues u places d op) ≤ dues s places d op
      go true o = (let e = message (taker source head s.rx) in omega (arith, e))
      go false o = omega arith

  -- what holds of what is coming and kept, where the item goes this way
  arrives : (begun begun' : List (Option Item)) (item : Item) → item.head ≡ head → BegunOf source (Some item) begun begun' → begun_in begun source ≡ None → source < length s.rx.coming → Pledged s.rx begun → (rx : Receiving) (c : Coming)
      → rx.coming ≡ set s.rx.coming source (Some c) → ((d op : ℕ) → d ≢ source → kept_for rx d op ≡ kept_for s.rx d op) → ((op : ℕ) → kept_for rx source op + one (is_due (Some c) head && (head.op == op)) ≤ kept_for s.rx source op + one (owes head && (head.op == op)))
      → (is_keep (Some c) ≡ false → (op : ℕ) → kept_for rx source op ≡ kept_for s.rx source op) → Pledged rx begun' × Alone rx source
  arrives begun begun' item same is none within p rx c coming others here kept = (λ d op. at d op (cases_eq d source), λ other op. let k = kept (sym (ap is_keep now) ∙ other) op in let z = nothing op in omega (arith, k, z))
    where
      now : coming_from rx source ≡ Some c
      now = ap (λ cs. get_or cs source None) coming ∙ get_or-set_same s.rx.coming source (Some c) None within

      nothing : (op : ℕ) → kept_for s.rx source op ≡ 0
      nothing op = let l : kept_for s.rx source op + 0 ≤ 0 = rw none at (p source op) in omega (arith, l)

      at : (d op : ℕ) → (d ≡ source) ⊎ (d ≢ source) → kept_for rx d op + due_for (coming_from rx d) (begun_in begun' d) op ≤ asked_by (begun_in begun' d) op
      at d op (inl e) = rw (e, now, is.0, same) (let l = here op in let z = nothing op in omega (arith, l, z))
      at d op (inr ne) =
          let way : coming_from rx d ≡ coming_from s.rx d = ap (λ cs. get_or cs d None) coming ∙ get_or-set_other s.rx.coming source d (Some c) None ne in
          rw (way, is.1 d ne) (let k = others d op ne in let l = p d op in omega (arith, k, l))

  pub head_pledged : (begun begun' : List (Option Item)) (item : Item) → item.head ≡ head → BegunOf source (Some item) begun begun' → begun_in begun source ≡ None → source < length s.rx.coming → Pledged s.rx begun
      → Pledged (do_head s source head).rx begun' × Alone (do_head s source head).rx source
  unfolding do_head heading_message heading_other
  head_pledged begun begun' item same is none within p = go (is_message head.kind) refl
    where
      message : is_message head.kind ≡ true → (o : Option Receive) → taker source head s.rx ≡ o → Pledged (heading_message source head s.rx) begun' × Alone (heading_message source head s.rx) source
      message m None f =
          let owes_is = message_owes head m in
          let rx = heading_message source head s.rx in
          let us : rx.unexpected ≡ s.rx.unexpected ++ new ∷ [] = rw (f, heading_message) refl in
          let coming : rx.coming ≡ set s.rx.coming source (Some Keep) = rw (f, heading_message) refl in
          let more : (d op : ℕ) → kept_for rx d op ≡ kept_for s.rx d op + one (is_pledge d op new) = λ d op. rw us (omega (arith, count_snoc (is_pledge d op) s.rx.unexpected new)) in
          arrives begun begun' item same is none within p rx Keep coming
          (λ d op ne. let no : (source == d) ≡ false = grind (arith, nat_tests, ne) in let z : one (is_pledge d op new) ≡ 0 = rw no refl in let k = more d op in omega (arith, k, z))
          (λ op. let yes_ : (source == source) ≡ true = grind (arith, nat_tests) in let z : one (is_pledge source op new) ≡ one (at_match head.ack && (head.op == op)) = rw yes_ refl in
          let k = more source op in let split = either_split head.ack (head.op == op) in
          let e : one (owes head && (head.op == op)) ≡ one (at_either head.ack && (head.op == op)) = ap (λ b. one (b && (head.op == op))) owes_is in
          omega (arith, k, z, split, e))
          (λ bad. absurd (cc (bad)))
      message m (Some r) f =
          let owes_is = message_owes head m in
          let rx = heading_message source head s.rx in
          let us : rx.unexpected ≡ s.rx.unexpected = rw (f, heading_message) refl in
          let coming : rx.coming ≡ set s.rx.coming source (Some (Into r r.used)) = rw (f, heading_message) refl in
          let same_kept : (d op : ℕ) → kept_for rx d op ≡ kept_for s.rx d op = λ d op. rw us refl in
          arrives begun begun' item same is none within p rx (Into r r.used) coming (λ d op ne. same_kept d op)
          (λ op. let k = same_kept source op in let e : one (owes head && (head.op == op)) ≡ one (at_either head.ack && (head.op == op)) = ap (λ b. one (b && (head.op == op))) owes_is in omega (arith, k, e))
          (λ _ op. same_kept source op)

      request : (k : Kind) → head.kind ≡ k → way_of k ≡ Request → owes_by (at_either head.ack) k ≡ true → (let rx : Receiving = heading_other source k s.rx in Pledged rx begun' × Alone rx source)
      request k e way owed = arrives begun begun' item same is none within p (heading_other source k s.rx) Request (ap (λ c. set s.rx.coming source (Some c)) way) (λ d op ne. refl)
          (λ op. let o : owes head ≡ true = ap (owes_by (at_either head.ack)) e ∙ owed in let x : one (owes head && (head.op == op)) ≡ one (true && (head.op == op)) = ap (λ b. one (b && (head.op == op))) o in omega (arith, x)) (λ _ op. refl)

      other : (k : Kind) → head.kind ≡ k → is_message k ≡ false → (let rx : Receiving = heading_other source k s.rx in Pledged rx begun' × Alone rx source)
      other Msg e m = absurd (cc (m))
      other TagMsg e m = absurd (cc (m))
      other WriteReq e m = request WriteReq e refl refl
      other ReadReq e m = request ReadReq e refl refl
      other AtomicReq e m = request AtomicReq e refl refl
      other Reply e m = arrives begun begun' item same is none within p (heading_other source Reply s.rx) Answer refl (λ d op ne. refl) (λ op. omega arith) (λ _ op. refl)

      go : (b : Bool) → is_message head.kind ≡ b → (let u : State = elim b [ true ↦ with_rx (heading_message source head s.rx) s | false ↦ with_rx (heading_other source head.kind s.rx) s ] in Pledged u.rx begun' × Alone u.rx source)
      go true m = message m (taker source head s.rx) refl
      go false m = other head.kind refl m

-- ---- the completion of an item

-- more replies are booked at most where one is due, and what was kept and not whole is to be booked
pub record Tailed (c : Option Coming) (source : ℕ) (head : ItemHead) (s t : State) : Type 0 where
  pub post : (places : List ℕ) (d op : ℕ) → to_post t.tx places d op ≤ to_post s.tx places d op + one (is_due c head && ((source == d) && (head.op == op)))
  pub coming : t.rx.coming ≡ set s.rx.coming source None
  pub all : (d op : ℕ) → to_book t.rx d op + kept_for t.rx d op ≡ to_book s.rx d op + kept_for s.rx d op
  pub here : (op : ℕ) → kept_for t.rx source op ≡ 0
  pub away : (d op : ℕ) → d ≢ source → kept_for t.rx d op ≡ kept_for s.rx d op

one_less : (b x : Bool) → one (b && x) ≤ one x
one_less true x = omega arith
one_less false x = omega arith

and_none : (b x : Bool) → x ≡ false → one (b && x) ≡ 0
and_none true x e = ap one e
and_none false x e = refl

-- what this adds
pub tailed_dues : (c : Option Coming) (source : ℕ) (head : ItemHead) (s t : State) → Tailed c source head s t → (begun : List (Option Item)) (item : Item) → begun_in begun source ≡ Some item → item.head ≡ head → coming_from s.rx source ≡ c → Pledged s.rx begun
    → (places : List ℕ) (d op : ℕ) → dues t places d op ≤ dues s places d op + one ((source == d) && (owes head && (head.op == op)))
tailed_dues c source head s t tailed begun item is same way p places d op = go (cases_eq source d)
  where
    go : (source ≡ d) ⊎ (source ≢ d) → dues t places d op ≤ dues s places d op + one ((source == d) && (owes head && (head.op == op)))
    go (inl e) =
        let yes_ : (source == d) ≡ true = grind (arith, nat_tests, e) in
        let l : kept_for s.rx source op + one (is_due c head && (head.op == op)) ≤ one (owes head && (head.op == op)) = rw (is, way, same) at (p source op) in
        let kept : kept_for s.rx source op ≡ kept_for s.rx d op = ap (λ k. kept_for s.rx k op) e in
        let none : kept_for t.rx d op ≡ 0 = ap (λ k. kept_for t.rx k op) (sym e) ∙ tailed.here op in
        let x : one (is_due c head && ((source == d) && (head.op == op))) ≡ one (is_due c head && (head.op == op)) = rw yes_ refl in
        let y : one ((source == d) && (owes head && (head.op == op))) ≡ one (owes head && (head.op == op)) = rw yes_ refl in
        omega (arith, tailed.post places d op, tailed.all d op, none, kept, l, x, y)
    go (inr ne) =
        let no : (source == d) ≡ false = grind (arith, nat_tests, ne) in
        let x : one (is_due c head && ((source == d) && (head.op == op))) ≡ 0 = and_none (is_due c head) ((source == d) && (head.op == op)) (rw no refl) in
        omega (arith, tailed.post places d op, tailed.all d op, tailed.away d op (λ e. ne (sym e)), x)

pub tailed_pledged : (c : Option Coming) (source : ℕ) (head : ItemHead) (s t : State) → Tailed c source head s t → (begun begun' : List (Option Item)) → BegunOf source None begun begun' → Pledged s.rx begun → Pledged t.rx begun'
tailed_pledged c source head s t tailed begun begun' is p d op = at (cases_eq d source)
  where
    at : (d ≡ source) ⊎ (d ≢ source) → kept_for t.rx d op + due_for (coming_from t.rx d) (begun_in begun' d) op ≤ asked_by (begun_in begun' d) op
    at (inl e) = rw (e, is.0) (let z = tailed.here op in omega (arith, z))
    at (inr ne) =
        let way : coming_from t.rx d ≡ coming_from s.rx d = ap (λ cs. get_or cs d None) tailed.coming ∙ get_or-set_other s.rx.coming source d None None ne in
        rw (way, is.1 d ne) (let k = tailed.away d op ne in let l = p d op in omega (arith, k, l))

-- the arrival whose bytes these are
debt_here : (source : ℕ) (bytes : List ℕ) (op : ℕ) (a : Arrival) → one (is_debt source op (completed source bytes a)) ≡ one (is_debt source op a) + one (is_pledge source op a)
debt_here source bytes op a = go (a.source == source) a.bytes refl refl
  where
    go : (b : Bool) (o : Option (List ℕ)) → (a.source == source) ≡ b → a.bytes ≡ o → one (is_debt source op (completed source bytes a)) ≡ one (is_debt source op a) + one (is_pledge source op a)
    go true None e f = rw (e, f, completed) (rw (e) (omega arith))
    go true (Some x) e f = rw (e, f, completed) (rw (e, f) (omega arith))
    go false o e f = rw (e, completed) (rw (e) refl)

pledge_here : (source : ℕ) (bytes : List ℕ) (op : ℕ) (a : Arrival) → is_pledge source op (completed source bytes a) ≡ false
pledge_here source bytes op a = go (a.source == source) a.bytes refl refl
  where
    go : (b : Bool) (o : Option (List ℕ)) → (a.source == source) ≡ b → a.bytes ≡ o → is_pledge source op (completed source bytes a) ≡ false
    go true None e f = rw (e, f, completed) (rw (e) refl)
    go true (Some x) e f = rw (e, f, completed) (rw (e, f) refl)
    go false o e f = rw (e, completed) (rw (e) refl)

completed_is : (P : Arrival → Type 0) (source : ℕ) (bytes : List ℕ) (a : Arrival) → (a.source ≡ source → P (record a { bytes = Some bytes })) → P a → P (completed source bytes a)
completed_is P source bytes a now was = go (a.source == source) a.bytes refl refl
  where
    go : (b : Bool) (o : Option (List ℕ)) → (a.source == source) ≡ b → a.bytes ≡ o → P (elim b [ true ↦ elim o [ None ↦ record a { bytes = Some bytes } | Some _ ↦ a ] | false ↦ a ])
    go true None e f = now (eqb-true a.source source e)
    go true (Some x) e f = was
    go false o e f = was

away_same : (p : Bool → Option (List ℕ) → Arrival → Bool) (source d : ℕ) (bytes : List ℕ) (a : Arrival) → source ≢ d → ((x : Option (List ℕ)) (y : Arrival) → p false x y ≡ false) → p ((completed source bytes a).source == d) (completed source bytes a).bytes (completed source bytes a) ≡ p (a.source == d) a.bytes a
away_same p source d bytes a ne none = completed_is (λ (x : Arrival). p (x.source == d) x.bytes x ≡ p (a.source == d) a.bytes a) source bytes a
    (λ at. let off : (a.source == d) ≡ false = grind (arith, nat_tests, at, ne) in rw off (none (Some bytes) (record a { bytes = Some bytes }) ∙ sym (none a.bytes a))) refl

-- the bytes join the messages that are the source's and not whole
keeps_all : (source : ℕ) (bytes : List ℕ) (s t : State) → t.rx.unexpected ≡ map (completed source bytes) s.rx.unexpected → t.rx.claimed ≡ map (λ (c : ℕ × Arrival). (c.0, completed source bytes c.1)) s.rx.claimed
    → ((op : ℕ) → (to_book t.rx source op ≡ to_book s.rx source op + kept_for s.rx source op) × (kept_for t.rx source op ≡ 0)) × ((d op : ℕ) → source ≢ d → (to_book t.rx d op ≡ to_book s.rx d op) × (kept_for t.rx d op ≡ kept_for s.rx d op))
keeps_all source bytes s t us cs = (here, away)
  where
    debts : (d op : ℕ) → to_book t.rx d op ≡ count_by (λ a. is_debt d op (completed source bytes a)) s.rx.unexpected + count_by (λ (c : ℕ × Arrival). is_debt d op (completed source bytes c.1)) s.rx.claimed
    debts d op = rw (us, cs) (omega (arith, count_map (is_debt d op) (completed source bytes) s.rx.unexpected, count_map (λ (c : ℕ × Arrival). is_debt d op c.1) (λ (c : ℕ × Arrival). (c.0, completed source bytes c.1)) s.rx.claimed))

    pledges : (d op : ℕ) → kept_for t.rx d op ≡ count_by (λ a. is_pledge d op (completed source bytes a)) s.rx.unexpected + count_by (λ (c : ℕ × Arrival). is_pledge d op (completed source bytes c.1)) s.rx.claimed
    pledges d op = rw (us, cs) (omega (arith, count_map (is_pledge d op) (completed source bytes) s.rx.unexpected, count_map (λ (c : ℕ × Arrival). is_pledge d op c.1) (λ (c : ℕ × Arrival). (c.0, completed source bytes c.1)) s.rx.claimed))

    never : {X : Type 0} (p : X → Bool) (xs : List X) → ((x : X) → p x ≡ false) → count_by p xs ≡ 0
    never p xs off = count_same p (λ x. false) xs off ∙ nothing xs
      where
        nothing : {X : Type 0} (xs : List X) → count_by (λ (x : X). false) xs ≡ 0
        nothing [] = refl
        nothing (x ∷ xs) = omega (arith, nothing xs, count_cons (λ x. false) x xs)

    here : (op : ℕ) → (to_book t.rx source op ≡ to_book s.rx source op + kept_for s.rx source op) × (kept_for t.rx source op ≡ 0)
    here op = (
      omega (
        arith,
        debts source op,
        count_sum (λ a. is_debt source op (completed source bytes a)) (is_debt source op) (is_pledge source op) s.rx.unexpected (debt_here source bytes op),
        count_sum (λ (c : ℕ × Arrival). is_debt source op (completed source bytes c.1)) (λ (c : ℕ × Arrival). is_debt source op c.1) (λ (c : ℕ × Arrival). is_pledge source op c.1) s.rx.claimed (λ c. debt_here source bytes op c.1),
      ),
      omega (arith, pledges source op, never (λ a. is_pledge source op (completed source bytes a)) s.rx.unexpected (pledge_here source bytes op), never (λ (c : ℕ × Arrival). is_pledge source op (completed source bytes c.1)) s.rx.claimed (λ c. pledge_here source bytes op c.1)),
    )

    away : (d op : ℕ) → source ≢ d → (to_book t.rx d op ≡ to_book s.rx d op) × (kept_for t.rx d op ≡ kept_for s.rx d op)
    away d op ne =
        let debt : (a : Arrival) → is_debt d op (completed source bytes a) ≡ is_debt d op a = λ a. away_same (λ b o x. b && is_some o && at_match x.head.ack && (x.head.op == op)) source d bytes a ne (λ x y. refl) in
        let pledge : (a : Arrival) → is_pledge d op (completed source bytes a) ≡ is_pledge d op a = λ a. away_same (λ b o x. b && is_none o && at_match x.head.ack && (x.head.op == op)) source d bytes a ne (λ x y. refl) in (
          omega (arith, debts d op, count_same (λ a. is_debt d op (completed source bytes a)) (is_debt d op) s.rx.unexpected debt, count_same (λ (c : ℕ × Arrival). is_debt d op (completed source bytes c.1)) (λ (c : ℕ × Arrival). is_debt d op c.1) s.rx.claimed (λ c. debt c.1)),
          omega (arith, pledges d op, count_same (λ a. is_pledge d op (completed source bytes a)) (is_pledge d op) s.rx.unexpected pledge, count_same (λ (c : ℕ × Arrival). is_pledge d op (completed source bytes c.1)) (λ (c : ℕ × Arrival). is_pledge d op c.1) s.rx.claimed (λ c. pledge c.1)),
        )

-- a reply is booked where it is due
books : (b : Bool) (source : ℕ) (head : ItemHead) (v : State) (places : List ℕ) (d op : ℕ) → to_post (book b source head v).tx places d op ≤ to_post v.tx places d op + one (b && ((source == d) && (head.op == op)))
unfolding book
books true source head v places d op = booked_one source head.op Done [] v places d op
books false source head v places d op = omega arith

module _ (s : State) (source : ℕ) (head : ItemHead) (bytes : List ℕ) where
  abbrev whole : State
  whole = with_rx (made_whole source s.rx) s

  -- where nothing is kept, only replies are booked
  tailed_as : (c : Option Coming) (t : State) → Alone s.rx source → coming_from s.rx source ≡ c → is_keep c ≡ false → t.rx.unexpected ≡ s.rx.unexpected → t.rx.claimed ≡ s.rx.claimed → t.rx.coming ≡ set s.rx.coming source None
      → ((places : List ℕ) (d op : ℕ) → to_post t.tx places d op ≤ to_post s.tx places d op + one (is_due c head && ((source == d) && (head.op == op)))) → Tailed c source head s t
  tailed_as c t alone way other us cs coming post = record {
    post = post;
    coming = coming;
    all = λ d op. rw (us, cs) refl;
    here = λ op. rw (us, cs) (alone (ap is_keep way ∙ other) op);
    away = λ d op ne. rw (us, cs) refl;
  }

  book_rx : (b : Bool) (v : State) → (book b source head v).rx ≡ v.rx
  unfolding book reply
  book_rx true v = refl
  book_rx false v = refl

  release_rx : (r : Receive) (v : State) → ((release r v).tx ≡ v.tx) × ((release r v).rx.unexpected ≡ v.rx.unexpected) × ((release r v).rx.claimed ≡ v.rx.claimed) × ((release r v).rx.coming ≡ v.rx.coming)
  unfolding release_multi
  release_rx r v = (grind rules, grind rules, grind rules, grind rules)

  filled : (r : Receive) (place : ℕ) → Alone s.rx source → coming_from s.rx source ≡ Some (Into r place) → Tailed (Some (Into r place)) source head s (release r (book (at_either head.ack) source head (fill r place source head bytes whole)))
  unfolding fill made_whole
  filled r place alone way =
      let v1 : State = fill r place source head bytes whole in
      let v2 : State = book (at_either head.ack) source head v1 in
      let v3 : State = release r v2 in
      let same = release_rx r v2 in
      let rx = book_rx (at_either head.ack) v1 in
      tailed_as (Some (Into r place)) v3 alone way refl (same.1 ∙ ap (λ (x : Receiving). x.unexpected) rx) (same.2 ∙ ap (λ (x : Receiving). x.claimed) rx) (same.3 ∙ ap (λ (x : Receiving). x.coming) rx)
      (λ places d op. let e : to_post v3.tx places d op ≡ to_post v2.tx places d op = ap (λ (x : Transmitting). to_post x places d op) same.0 in let l = books (at_either head.ack) source head v1 places d op in omega (arith, e, l))

  kept : coming_from s.rx source ≡ Some Keep → Tailed (Some Keep) source head s (book (at_delivery head.ack) source head (with_rx (keeping source bytes whole.rx) whole))
  unfolding keeping made_whole
  kept way =
      let v1 : State = with_rx (keeping source bytes whole.rx) whole in
      let v2 : State = book (at_delivery head.ack) source head v1 in
      let rx = book_rx (at_delivery head.ack) v1 in
      let all = keeps_all source bytes s v2 (ap (λ (x : Receiving). x.unexpected) rx) (ap (λ (x : Receiving). x.claimed) rx) in
      let sum : (d op : ℕ) → (source ≡ d) ⊎ (source ≢ d) → to_book v2.rx d op + kept_for v2.rx d op ≡ to_book s.rx d op + kept_for s.rx d op =
      λ d op at. elim at [
        | inl e ↦ subst (λ k. to_book v2.rx k op + kept_for v2.rx k op ≡ to_book s.rx k op + kept_for s.rx k op) e (let h = all.0 op in let a = h.0 in let b = h.1 in omega (arith, a, b))
        | inr ne ↦ (let h = all.1 d op ne in let a = h.0 in let b = h.1 in omega (arith, a, b))
      ] in
      record {
        post = λ places d op. books (at_delivery head.ack) source head v1 places d op;
        coming = ap (λ (x : Receiving). x.coming) rx;
        all = λ d op. sum d op (cases_eq source d);
        here = λ op. (all.0 op).1;
        away = λ d op ne. (all.1 d op (λ e. ne (sym e))).1;
      }

  performed : Alone s.rx source → coming_from s.rx source ≡ Some Request → Tailed (Some Request) source head s (do_request whole source head bytes)
  unfolding do_request made_whole reply
  performed alone way =
      let p = perform whole.regions head bytes in
      let v1 : State = with_regions p.regions whole in
      let v2 : State = reply source head.op p.outcome p.bytes v1 in
      let v3 : State = remote_data p.outcome source head (remote_event p.outcome head v2) in
      let tx : v3.tx ≡ v2.tx = grind rules in
      let rx : v3.rx ≡ v2.rx = grind rules in
      tailed_as (Some Request) v3 alone way refl (ap (λ (x : Receiving). x.unexpected) rx) (ap (λ (x : Receiving). x.claimed) rx) (ap (λ (x : Receiving). x.coming) rx)
      (λ places d op. let e : to_post v3.tx places d op ≡ to_post v2.tx places d op = ap (λ (x : Transmitting). to_post x places d op) tx in let l = booked_one source head.op p.outcome p.bytes v1 places d op in omega (arith, e, l))

  ended : (w : Outcome) (o : Operation) (v : State) → ((end_with w bytes o v).tx ≡ v.tx) × ((end_with w bytes o v).rx ≡ v.rx)
  unfolding end_with
  ended w o v = (grind rules, grind rules)

  answered : Alone s.rx source → coming_from s.rx source ≡ Some Answer → Tailed (Some Answer) source head s (do_answer whole source head bytes)
  unfolding do_answer made_whole answering
  answered alone way = go (find (is_answered_by whole.tx source head) whole.tx.live)
    where
      go : (x : Option Operation) → (let u : State = elim x [ None ↦ whole | Some o ↦ end_with head.outcome bytes o (with_tx (going_on source (answering source head whole.tx)) whole) ] in Tailed (Some Answer) source head s u)
      go None = tailed_as (Some Answer) whole alone way refl refl refl refl (λ places d op. omega arith)
      go (Some o) =
          let tx : Transmitting = answering source head whole.tx in
          let v : State = with_tx (going_on source tx) whole in
          let e = ended head.outcome o v in
          tailed_as (Some Answer) (end_with head.outcome bytes o v) alone way refl (ap (λ (x : Receiving). x.unexpected) e.1) (ap (λ (x : Receiving). x.claimed) e.1) (ap (λ (x : Receiving). x.coming) e.1)
          (λ places d op.
          let f : to_post (end_with head.outcome bytes o v).tx places d op ≡ to_post (going_on source tx) places d op = ap (λ (x : Transmitting). to_post x places d op) e.0 in
          let l : to_post (going_on source tx) places d op ≤ to_post s.tx places d op = lets_post op source (held_for tx source) tx (omega arith) places d in
          omega (arith, f, l))

  pub tail_tailed : Alone s.rx source → Tailed (coming_from s.rx source) source head s (do_tail s source head bytes)
  unfolding do_tail tail_to made_whole
  tail_tailed alone = go (coming_from s.rx source) refl
    where
      go : (c : Option Coming) → coming_from s.rx source ≡ c → Tailed c source head s (tail_to c whole source head bytes)
      go None way = tailed_as None whole alone way refl refl refl refl (λ places d op. omega arith)
      go (Some (Into r place)) way = filled r place alone way
      go (Some Keep) way = kept way
      go (Some Throw) way = tailed_as (Some Throw) (book (at_either head.ack) source head whole) alone way refl (ap (λ (x : Receiving). x.unexpected) (book_rx (at_either head.ack) whole)) (ap (λ (x : Receiving). x.claimed) (book_rx (at_either head.ack) whole)) (ap (λ (x : Receiving). x.coming) (book_rx (at_either head.ack) whole))
          (λ places d op. books (at_either head.ack) source head whole places d op)
      go (Some Request) way = performed alone way
      go (Some Answer) way = answered alone way
