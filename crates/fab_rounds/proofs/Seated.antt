-- Threads that stay: from peers without seats (p0) to peers with new seats (p1), to where their threads end (p2), to peers without seats again (p3).
use Rattle.std.proofs.Common.{◌≡◌, ◌<◌, ◌≤◌, ℕ, true, Option, Some, List, [], ◌∷◌, map, length, get_or, sym, ap, ◌∙◌, subst, arith}
use Rattle.std.specs.Prelude.{is_some}
use Rattle.std.specs.List.{All}
use Rattle.std.proofs.lemmas.List.{length-map}
use Rattle.std.proofs.lemmas.Option.{same_Some}
use Rattle.fab_meeting.specs.declared.board.Meeting.{Meeting}
use Rattle.fab_meeting.specs.declared.board.MeetingSeat.{MeetingSeat}
use Rattle.fab_meeting.specs.Accounts.{new_account}
use Rattle.fab_meeting.specs.Gather.{AreMet}
use Rattle.fab_meeting.specs.Seats.{account_of, members_of, IsOf, AreAll, AreNew}
use Rattle.fab_rounds.specs.Rounds.{Each, Between}
use Rattle.fab_rounds.specs.Staying.{account_in, IsSeated, IsLife, RanFor}
use Rattle.fab_rounds.proofs.Joined.{lives_told, rounds_ran}
use Rattle.fab_rounds.proofs.Carried.{seat_at, peer_at, as_many}

module _ {X : Type 0} (seat : X → Option MeetingSeat) (m : Meeting) where
  -- with new seats
  pub ready : (p : List X) (s : List MeetingSeat) → map seat p ≡ map (λ z. Some z) s → AreNew m s → All (λ x. IsSeated m (seat x) × ((account_in (seat x)).said ≡ [])) p
  ready p s sat new k d near =
      let at = seat_at seat p s sat k d near in let own : MeetingSeat = at.0 in
      let of : IsOf m own = subst (IsOf m) (at.3 own) (new.all.of k own at.2) in
      let silent : (account_of own).said ≡ [] = subst (λ (z : MeetingSeat). (account_of z).said ≡ []) (at.3 own) (new.silent k own at.2) in
      (record { seat = own; is = at.1; of = of }, ap (λ o. (account_in o).said) at.1 ∙ silent)

  pub are_some : (p : List X) → All (λ x. IsSeated m (seat x)) p → All (λ x. is_some (seat x) ≡ true) p
  are_some p seated k d near = ap is_some (seated k d near).is

  module _ (p1 p2 : List X) (s0 s1 : List MeetingSeat) (long : length p2 ≡ length p1) (sat : map seat p1 ≡ map (λ z. Some z) s0) (new : AreNew m s0) (seated : All (λ x. IsSeated m (seat x)) p2)
      (places : Each (λ a b. (account_in (seat b)).place ≡ (account_in (seat a)).place) p1 p2) (stood : map seat p2 ≡ map (λ z. Some z) s1) where
    counts : length s1 ≡ members_of m
    counts = sym (as_many seat p2 s1 stood) ∙ long ∙ as_many seat p1 s0 sat ∙ new.all.count

    pub all_back : AreAll m s1
    all_back = record {
      count = counts;
      of = λ k e near. let at = peer_at seat p2 s1 stood k e near in let x = at.0 in let held = subst (λ z. IsSeated m (seat z)) (at.3 x) (seated k x at.2) in
          subst (IsOf m) (same_Some held.seat (get_or s1 k e) (sym held.is ∙ at.1)) held.of;
      order = λ k e near. let at = peer_at seat p2 s1 stood k e near in let x = at.0 in
          let low : k < length p1 = (let l = at.2 in omega arith) in
          let was = seat_at seat p1 s0 sat k x low in let own : MeetingSeat = was.0 in
          ap (λ o. (account_in o).place) (sym at.1) ∙ ap (λ z. (account_in (seat z)).place) (sym (at.3 x)) ∙ places k x low ∙ ap (λ o. (account_in o).place) was.1
          ∙ ap (λ (z : MeetingSeat). (account_of z).place) (sym (was.3 own)) ∙ new.all.order k own was.2;
    }

-- made is what the first seat tells
module _ {X : Type 0} (seat : X → Option MeetingSeat) (p2 : List X) (s1 : List MeetingSeat) (stood : map seat p2 ≡ map (λ z. Some z) s1) (some : 0 < length p2) (made : ℕ) (e : MeetingSeat) (is : made ≡ length (account_of (get_or s1 0 e)).said) where
  pub made_within : (limit : ℕ) → All (λ x. length (account_in (seat x)).said ≤ limit) p2 → made ≤ limit
  made_within limit within =
      let at = peer_at seat p2 s1 stood 0 e (omega (arith, some, as_many seat p2 s1 stood)) in let x = at.0 in
      let most : length (account_in (seat (get_or p2 0 x))).said ≤ limit = within 0 x some in
      let told : length (account_in (seat (get_or p2 0 x))).said ≡ made = ap (λ z. length (account_in (seat z)).said) (at.3 x) ∙ ap (λ o. length (account_in o).said) at.1 ∙ sym is in
      omega (arith, most, told)

  first_account : length (get_or (map account_of s1) 0 (new_account 0 0)).said ≡ made
  first_account = first s1 is (omega (arith, some, as_many seat p2 s1 stood))
    where
      first : (ss : List MeetingSeat) → made ≡ length (account_of (get_or ss 0 e)).said → 0 < length ss → length (get_or (map account_of ss) 0 (new_account 0 0)).said ≡ made
      first [] told none = absurd (omega (arith, none))
      first (s ∷ ss) told none = sym told

  module _ {Home : Type 0} (view : X → Between Home) (p0 p1 p3 : List X) (long : length p2 ≡ length p1) (start : map view p1 ≡ map view p0) (end : map view p3 ≡ map view p2)
      (lives : Each (λ a b. IsLife (view a) (view b) (account_in (seat b))) p1 p2) (met : AreMet (map account_of s1)) where
    pub stayed : RanFor made (map view p0) (map view p3)
    stayed =
        let l1 : length (map view p1) ≡ length p1 = length-map p1 view in
        let l2 : length (map view p2) ≡ length p2 = length-map p2 view in
        let l3 : length (map account_of s1) ≡ length s1 = length-map s1 account_of in
        let l4 : length p2 ≡ length s1 = as_many seat p2 s1 stood in
        let ran = rounds_ran (map view p1) (map view p2) (map account_of s1) (omega (arith, l1, l2, long)) (omega (arith, l2, l3, l4)) (omega (arith, l2, some))
        (lives_told view seat p1 p2 s1 long stood lives) met made (new_account 0 0) first_account in
        subst (λ z. RanFor made z (map view p3)) start (subst (λ z. RanFor made (map view p1) z) (sym end) ran)
