-- How many entries a draw and the bytes of an item write: what is told before of the room that they need is what is so after.
use Rattle.std.proofs.Common.{◌≡◌, ℕ, zero, suc, ◌+◌, ◌<◌, ◌≤◌, Bool, true, false, not, ◌&&◌, ◌||◌, cond, List, [], ◌∷◌, ◌++◌, length, take, drop, Option, Some, None, refl, sym, ap, ap₂, subst, ◌∙◌, arith, eqb}
use Rattle.std.specs.Prelude.{find, is_some, nat_lt, slice_set}
use Rattle.std.specs.List.{list_any}
use Rattle.std.proofs.lemmas.Bool.{eq-eqb, ltb-true, ltb-false, lt-ltb}
use Rattle.std.proofs.lemmas.Bool.Decides.{nat_tests}
use Rattle.std.proofs.lemmas.List.Folds.{list_any-append}
use Rattle.fab_base.specs.declared.items.ItemHead.{ItemHead}
use Rattle.fab_base.specs.declared.items.Kind.{Kind}
use Rattle.fab_base.specs.declared.items.Kind.TheVariants.{Msg, TagMsg, WriteReq, ReadReq, AtomicReq, Reply}
use Rattle.fab_base.specs.declared.items.Outcome.{Outcome}
use Rattle.fab_base.specs.declared.items.Outcome.TheVariants.{Done, BadKey, BadAccess, BadRange}
use Rattle.fab_base.specs.declared.operations.Receive.{Receive}
use Rattle.fab_base.specs.declared.operations.Arrival.{Arrival}
use Rattle.fab_base.specs.declared.operations.Coming.{Coming}
use Rattle.fab_base.specs.declared.operations.Coming.TheVariants.{Into, Keep, Throw, Request, Answer}
use Rattle.fab_base.specs.declared.operations.Operation.{Operation}
use Rattle.fab_model.specs.State.{State, Receiving, Completions, Region, coming_from, under_way, is_into, fits, with_rx, with_tx}
use Rattle.fab_model.specs.Matching.{change_first, takes}
use Rattle.fab_model.specs.Complete.{fill, fill_multi, filled, filling, is_made_by, release, release_multi, book, reply}
use Rattle.fab_base.specs.Replies.{at_either}
use Rattle.fab_base.proofs.Lists.{list_any-find as any_found}
use Rattle.fab_model.specs.Receiving.{draws, give, without_first}
use Rattle.fab_model.specs.Arrivals.{stays, shut, seating, do_draw, made_whole, tail_to, do_tail, do_request, remote_data, with_regions}
use Rattle.fab_model.specs.Sending.{is_answered_by, answering, going_on, do_answer}
use Rattle.fab_model.specs.Target.{is_keyed, outcome_of, perform}
use Rattle.fab_model.proofs.Unchanged.{event_cq, book_cq, book_rx}
use Rattle.fab_checker_machine.specs.Room.{has_room, entries_given, entries_taken, entries_drawn, is_let_go, entries_into, entries_to, entries_tail, entries_told, entries_of_end}
use Rattle.fab_checker_halves.specs.Places.{is_under_way_besides}
use Rattle.fab_checker_machine.proofs.Growing.{Grows, fits_grown, give_grows, end_grows, none_written, one_written, fill_grows}
use Rattle.fab_checker_machine.proofs.Answering.{draw_none, draw_untaken, drawn_none, drawn_untaken, drawn_some}

-- ---- lists

made_more : (call place : ℕ) (bytes : List ℕ) (test : Receive → Bool) (r : Receive) (rs : List Receive) (b : Bool) → test r ≡ b → list_any (is_made_by call) (change_first test (filled place bytes) rs) ≡ list_any (is_made_by call) rs
    → list_any (is_made_by call) (change_first test (filled place bytes) (r ∷ rs)) ≡ list_any (is_made_by call) (r ∷ rs)
made_more call place bytes test r rs true e ih = rw (e, change_first) refl
made_more call place bytes test r rs false e ih = rw (e, change_first) (ap (λ b. is_made_by call r || b) ih)

-- a receive that is filled is made by the same call
made_filled : (call place : ℕ) (bytes : List ℕ) (test : Receive → Bool) (rs : List Receive) → list_any (is_made_by call) (change_first test (filled place bytes) rs) ≡ list_any (is_made_by call) rs
made_filled call place bytes test [] = refl
made_filled call place bytes test (r ∷ rs) = made_more call place bytes test r rs (test r) refl (made_filled call place bytes test rs)

made_fill_by : (call place : ℕ) (bytes : List ℕ) (r : Receive) (rs : List Receive) (least : Option ℕ) → r.least ≡ least → list_any (is_made_by call) (fill_multi r place bytes rs) ≡ list_any (is_made_by call) rs
made_fill_by call place bytes r rs None e = rw (e, fill_multi) refl
made_fill_by call place bytes r rs (Some l) e = rw (e, fill_multi) (made_filled call place bytes (is_made_by r.call) rs)

made_fill : (call place : ℕ) (bytes : List ℕ) (r : Receive) (rs : List Receive) → list_any (is_made_by call) (fill_multi r place bytes rs) ≡ list_any (is_made_by call) rs
made_fill call place bytes r rs = made_fill_by call place bytes r rs r.least refl

or_right : (b x y : Bool) → x ≡ y → (b || x) ≡ (b || y)
or_right b x y e = ap (λ z. b || z) e

or_assoc : (a b c : Bool) → (a || (b || c)) ≡ ((a || b) || c)
or_assoc true b c = refl
or_assoc false b c = refl

-- an item that is whole goes nowhere more
set_none : (call source : ℕ) (coming : List (Option Coming)) → list_any (is_into call) (slice_set coming source None) ≡ (list_any (is_into call) (take source coming) || list_any (is_into call) (drop 1 (drop source coming)))
set_none call source [] = nothing source
  where
    nothing : (source : ℕ) → false ≡ (list_any (is_into call) (take source []) || list_any (is_into call) (drop 1 (drop source [])))
    nothing zero = refl
    nothing (suc n) = refl
set_none call zero (x ∷ xs) = refl
set_none call (suc n) (x ∷ xs) = or_right (is_into call x) _ _ (set_none call n xs) ∙ or_assoc (is_into call x) _ _

below_more : (n m : ℕ) (b : Bool) → nat_lt n m ≡ b → nat_lt (suc n) (suc m) ≡ b
below_more n m true e = let lt : n < m = ltb-true n m e in lt-ltb (suc n) (suc m) (omega arith)
below_more n m false e = let le : m ≤ n = ltb-false n m e in grind (arith, nat_tests)

below_none : (n : ℕ) → nat_lt n 0 ≡ false
below_none n = grind (arith, nat_tests)

below_some : (m : ℕ) → nat_lt 0 (suc m) ≡ true
below_some m = lt-ltb 0 (suc m) (omega arith)

swapped : (a b c : Bool) → (a || (b || c)) ≡ (b || (a || c))
swapped true true c = refl
swapped true false c = refl
swapped false b c = refl

-- an item that goes into the receive is under way there
set_into : (call source place : ℕ) (r : Receive) (coming : List (Option Coming)) → eqb r.call call ≡ true → list_any (is_into call) (slice_set coming source (Some (Into r place))) ≡ (nat_lt source (length coming) || list_any (is_into call) coming)
set_into call source place r [] same = ap (λ b. b || false) (sym (below_none source))
set_into call zero place r (x ∷ xs) same = rw same (ap (λ b. b || list_any (is_into call) (x ∷ xs)) (sym (below_some (length xs))))
set_into call (suc n) place r (x ∷ xs) same =
    or_right (is_into call x) _ _ (set_into call n place r xs same) ∙ swapped (is_into call x) (nat_lt n (length xs)) (list_any (is_into call) xs)
    ∙ ap (λ b. b || list_any (is_into call) (x ∷ xs)) (sym (below_more n (length xs) (nat_lt n (length xs)) refl))

-- ---- queues

then_written : (m n : ℕ) (a b c : Completions) → Grows m a b → Grows n b c → Grows (m + n) a c
then_written m n a b c g h = record { written = omega (arith, g.written, h.written); taken_out = h.taken_out ∙ g.taken_out; size = h.size ∙ g.size }

fill_rx : (r : Receive) (place source : ℕ) (head : ItemHead) (bytes : List ℕ) (s : State) → (fill r place source head bytes s).rx ≡ filling r place bytes s.rx
unfolding fill
fill_rx r place source head bytes s = refl

-- ---- letting go

-- the multi-receive is closing, and none of its items is under way
abbrev closes : ℕ → Receiving → Bool
closes call rx = list_any (is_made_by call) rx.closing && not (under_way rx call)

multi_grows : (call : ℕ) (s : State) (o : Option Receive) (b : Bool) → find (is_made_by call) s.rx.closing ≡ o → under_way s.rx call ≡ b → Grows (cond (is_some o && not b) 1 0) s.cq (release_multi call s).cq
unfolding release_multi
multi_grows call s None b e f = rw (e, release_multi) (none_written s.cq)
multi_grows call s (Some r) true e f = rw (e, f, release_multi) (none_written s.cq)
multi_grows call s (Some r) false e f = rw (e, f, release_multi) (one_written _ _ s.cq)

release_by : (r : Receive) (s : State) (least : Option ℕ) → r.least ≡ least → Grows (cond (is_some least && closes r.call s.rx) 1 0) s.cq (release r s).cq
release_by r s None e = rw (e, release) (none_written s.cq)
release_by r s (Some l) e =
    let g = multi_grows r.call s (find (is_made_by r.call) s.rx.closing) (under_way s.rx r.call) refl refl in
    rw (e, release) (subst (λ b. Grows (cond (b && not (under_way s.rx r.call)) 1 0) s.cq (release_multi r.call s).cq) (sym (any_found (is_made_by r.call) s.rx.closing)) g)

release_grows : (r : Receive) (s : State) → Grows (cond (is_some r.least && closes r.call s.rx) 1 0) s.cq (release r s).cq
release_grows r s = release_by r s r.least refl

-- ---- draws

shut_by : (total : ℕ) (r : Receive) (l : ℕ) (b : Bool) → r.least ≡ Some l → stays total r ≡ b → list_any (is_made_by r.call) (shut total r) ≡ not b
shut_by total r l true e st = rw (e, st, shut) refl
shut_by total r l false e st = rw (e, st, shut, eq-eqb r.call r.call refl) refl

abbrev left_after : Receive → Arrival → State → State
left_after r a s = with_rx (without_first r.want (seating a.head.total r s.rx.unexpected s.rx)) s

closing_by : (r : Receive) (total l : ℕ) (closing : List Receive) → r.least ≡ Some l → list_any (is_made_by r.call) (closing ++ shut total r) ≡ (not (stays total r) || list_any (is_made_by r.call) closing)
closing_by r total l closing e =
    list_any-append (is_made_by r.call) closing (shut total r)
    ∙ ap (λ b. list_any (is_made_by r.call) closing || b) (shut_by total r l (stays total r) e refl) ∙ turned (list_any (is_made_by r.call) closing) (not (stays total r))
  where
    turned : (a b : Bool) → (a || b) ≡ (b || a)
    turned true true = refl
    turned true false = refl
    turned false true = refl
    turned false false = refl

regroup : (x y z : Bool) → (x && not (y || z)) ≡ (x && not (true && y) && not z)
regroup true true z = refl
regroup true false z = refl
regroup false y z = refl

-- what is let go after a draw is what was told before
given_by : (r : Receive) (a : Arrival) (s : State) (l : ℕ) (o : Option (List ℕ)) → r.least ≡ Some l → a.bytes ≡ o → closes r.call (give r r.used a (left_after r a s)).rx ≡ is_let_go r a s.rx
unfolding give
given_by r a s l None e f =
    let into = set_into r.call a.source r.used r s.rx.coming (eq-eqb r.call r.call refl) in
    let closing = closing_by r a.head.total l s.rx.closing e in
    rw (f, give) (ap₂ (λ (x y : Bool). x && not y) closing into ∙ regroup (not (stays a.head.total r) || list_any (is_made_by r.call) s.rx.closing) (nat_lt a.source (length s.rx.coming)) (under_way s.rx r.call))
given_by r a s l (Some bytes) e f =
    let closing = closing_by r a.head.total l s.rx.closing e in
    let same = made_fill r.call r.used bytes r (s.rx.closing ++ shut a.head.total r) ∙ closing in
    rw (f, give) (rw (book_rx _ a.source a.head (fill r r.used a.source a.head bytes (left_after r a s)), fill_rx r r.used a.source a.head bytes (left_after r a s))
    (ap (λ (x : Bool). x && not (under_way s.rx r.call)) same ∙ free (not (stays a.head.total r) || list_any (is_made_by r.call) s.rx.closing) (under_way s.rx r.call)))
  where
    free : (x z : Bool) → (x && not z) ≡ (x && true && not z)
    free true z = refl
    free false z = refl

taken_by : (r : Receive) (a : Arrival) (s : State) (least : Option ℕ) → r.least ≡ least → (is_some r.least && closes r.call (give r r.used a (left_after r a s)).rx) ≡ (is_some r.least && is_let_go r a s.rx)
taken_by r a s None e = rw e refl
taken_by r a s (Some l) e = ap (λ b. is_some r.least && b) (given_by r a s l a.bytes e refl)

drawn_grows : (r : Receive) (a : Arrival) (s : State) → Grows (entries_taken r a s.rx) s.cq (release r (give r r.used a (left_after r a s))).cq
drawn_grows r a s =
    let after = give r r.used a (left_after r a s) in
    subst (λ b. Grows (entries_given a + cond b 1 0) s.cq (release r after).cq) (taken_by r a s r.least refl)
    (then_written (entries_given a) _ s.cq after.cq (release r after).cq (give_grows r r.used a (left_after r a s)) (release_grows r after))

draw_some : (s : State) (r : Receive) (a : Arrival) → find (draws s.rx.unexpected) s.rx.posted ≡ Some r → find (takes r.want) s.rx.unexpected ≡ Some a → do_draw s ≡ release r (give r r.used a (left_after r a s))
unfolding do_draw
draw_some s r a e f = rw (e, f, do_draw) refl

fits_drawn_by : (s : State) (r : Receive) (o : Option Arrival) → find (draws s.rx.unexpected) s.rx.posted ≡ Some r → find (takes r.want) s.rx.unexpected ≡ o → fits (do_draw s).cq ≡ has_room (entries_drawn s) s.cq
fits_drawn_by s r None e f = rw (draw_untaken s r e f, drawn_untaken s r e f) (fits_grown 0 s.cq s.cq (none_written s.cq))
fits_drawn_by s r (Some a) e f = rw (draw_some s r a e f, drawn_some s r a e f) (fits_grown (entries_taken r a s.rx) s.cq _ (drawn_grows r a s))

fits_drawn_at : (s : State) (o : Option Receive) → find (draws s.rx.unexpected) s.rx.posted ≡ o → fits (do_draw s).cq ≡ has_room (entries_drawn s) s.cq
fits_drawn_at s None e = rw (draw_none s e, drawn_none s e) (fits_grown 0 s.cq s.cq (none_written s.cq))
fits_drawn_at s (Some r) e = fits_drawn_by s r (find (takes r.want) s.rx.unexpected) e refl

pub fits_drawn : (s : State) → fits (do_draw s).cq ≡ has_room (entries_drawn s) s.cq
fits_drawn s = fits_drawn_at s (find (draws s.rx.unexpected) s.rx.posted) refl

-- ---- an item that is whole

into_closes : (r : Receive) (place source : ℕ) (head : ItemHead) (bytes : List ℕ) (s : State) (due : Bool)
    → closes r.call (book due source head (fill r place source head bytes (with_rx (made_whole source s.rx) s))).rx ≡ (list_any (is_made_by r.call) s.rx.closing && not (is_under_way_besides source r.call s.rx))
unfolding made_whole
into_closes r place source head bytes s due =
    rw (book_rx due source head (fill r place source head bytes (with_rx (made_whole source s.rx) s)), fill_rx r place source head bytes (with_rx (made_whole source s.rx) s))
    (ap₂ (λ (x y : Bool). x && not y) (made_fill r.call place bytes r s.rx.closing) (set_none r.call source s.rx.coming))

one_or_two : (b : Bool) → 1 + cond b 1 0 ≡ cond b 2 1
one_or_two true = refl
one_or_two false = refl

into_grows : (r : Receive) (place source : ℕ) (head : ItemHead) (bytes : List ℕ) (s : State) (due : Bool)
    → Grows (entries_into r source s.rx) s.cq (release r (book due source head (fill r place source head bytes (with_rx (made_whole source s.rx) s)))).cq
into_grows r place source head bytes s due =
    let whole = with_rx (made_whole source s.rx) s in
    let after = book due source head (fill r place source head bytes whole) in
    let filled_one : Grows 1 s.cq after.cq = rw (book_cq due source head (fill r place source head bytes whole)) (fill_grows r place source head bytes whole) in
    let both = then_written 1 _ s.cq after.cq (release r after).cq filled_one (release_grows r after) in
    let let_go = ap (λ b. is_some r.least && b) (into_closes r place source head bytes s due) in
    subst (λ n. Grows n s.cq (release r after).cq) (ap (λ b. 1 + cond b 1 0) let_go ∙ one_or_two _) both

performed_by : (regions : List Region) (head : ItemHead) (bytes : List ℕ) (region : Option Region) (o : Outcome) → find (is_keyed head.key) regions ≡ region → outcome_of region head ≡ o → (perform regions head bytes).outcome ≡ o
unfolding perform outcome_of
performed_by regions head bytes None BadKey e f = rw (e, perform, outcome_of) refl
performed_by regions head bytes None Done e f = absurd (cc)
performed_by regions head bytes None BadAccess e f = absurd (cc)
performed_by regions head bytes None BadRange e f = absurd (cc)
performed_by regions head bytes (Some r) Done e f = rw (e, f, perform, e) refl
performed_by regions head bytes (Some r) BadKey e f = rw (e, perform, f) refl
performed_by regions head bytes (Some r) BadAccess e f = rw (e, perform, f) refl
performed_by regions head bytes (Some r) BadRange e f = rw (e, perform, f) refl

told_by : (source : ℕ) (head : ItemHead) (s : State) (k : Kind) (imm : Option ℕ) → head.kind ≡ k → head.imm ≡ imm → Grows (entries_told Done head) s.cq (remote_data Done source head s).cq
told_by source head s WriteReq None e f = rw (e, f, remote_data) (none_written s.cq)
told_by source head s WriteReq (Some imm) e f = rw (e, f, remote_data) (one_written _ _ s.cq)
told_by source head s Msg imm e f = rw (e, remote_data) (none_written s.cq)
told_by source head s TagMsg imm e f = rw (e, remote_data) (none_written s.cq)
told_by source head s ReadReq imm e f = rw (e, remote_data) (none_written s.cq)
told_by source head s AtomicReq imm e f = rw (e, remote_data) (none_written s.cq)
told_by source head s Reply imm e f = rw (e, remote_data) (none_written s.cq)

told_grows : (o : Outcome) (source : ℕ) (head : ItemHead) (s : State) → Grows (entries_told o head) s.cq (remote_data o source head s).cq
told_grows Done source head s = told_by source head s head.kind head.imm refl refl
told_grows BadKey source head s = none_written s.cq
told_grows BadAccess source head s = none_written s.cq
told_grows BadRange source head s = none_written s.cq

request_grows : (s : State) (source : ℕ) (head : ItemHead) (bytes : List ℕ) → Grows (entries_told (outcome_of (find (is_keyed head.key) s.regions) head) head) s.cq (do_request s source head bytes).cq
unfolding do_request reply
request_grows s source head bytes =
    let o = outcome_of (find (is_keyed head.key) s.regions) head in
    let is : (perform s.regions head bytes).outcome ≡ o = performed_by s.regions head bytes (find (is_keyed head.key) s.regions) o refl refl in
    let done = (perform s.regions head bytes).outcome in
    let none = event_cq done head (reply source head.op done (perform s.regions head bytes).bytes (with_regions (perform s.regions head bytes).regions s)) in
    subst (λ o. Grows (entries_told o head) s.cq (do_request s source head bytes).cq) is
    (subst (λ cq. Grows (entries_told done head) cq (do_request s source head bytes).cq) none (told_grows done source head _))

answer_by : (s : State) (source : ℕ) (head : ItemHead) (bytes : List ℕ) (o : Option Operation) → find (is_answered_by s.tx source head) s.tx.live ≡ o → Grows (entries_of_end head.outcome o) s.cq (do_answer s source head bytes).cq
unfolding do_answer
answer_by s source head bytes None e = rw (e, do_answer) (none_written s.cq)
answer_by s source head bytes (Some o) e = rw (e, do_answer) (end_grows head.outcome bytes o (with_tx (going_on source (answering source head s.tx)) s))

tail_grows : (s : State) (source : ℕ) (head : ItemHead) (bytes : List ℕ) (coming : Option Coming) → Grows (entries_to coming source head s) s.cq (tail_to coming (with_rx (made_whole source s.rx) s) source head bytes).cq
unfolding tail_to made_whole
tail_grows s source head bytes None = none_written s.cq
tail_grows s source head bytes (Some (Into r place)) = into_grows r place source head bytes s (at_either head.ack)
tail_grows s source head bytes (Some Keep) = rw (book_cq _ source head _) (none_written s.cq)
tail_grows s source head bytes (Some Throw) = rw (book_cq _ source head _) (none_written s.cq)
tail_grows s source head bytes (Some Request) = request_grows (with_rx (made_whole source s.rx) s) source head bytes
tail_grows s source head bytes (Some Answer) = answer_by (with_rx (made_whole source s.rx) s) source head bytes (find (is_answered_by s.tx source head) s.tx.live) refl

pub fits_tail : (s : State) (source : ℕ) (head : ItemHead) (bytes : List ℕ) → fits (do_tail s source head bytes).cq ≡ has_room (entries_tail source head s) s.cq
unfolding do_tail
fits_tail s source head bytes = fits_grown (entries_tail source head s) s.cq _ (tail_grows s source head bytes (coming_from s.rx source))
