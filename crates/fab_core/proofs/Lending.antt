-- What holds of multi-receives is kept where entries are written and read, and where calls are made.
use Rattle.std.proofs.Common.{◌≡◌, ◌≢◌, ◌⊎◌, inl, inr, ℕ, zero, suc, ◌+◌, ◌-◌, ◌<◌, ◌≤◌, ◌==◌, Bool, true, false, List, [], ◌∷◌, ◌++◌, length, length-append, map, Option, Some, None, refl, sym, ap, subst, ◌∙◌, arith}
use Rattle.std.specs.Prelude.{slice_get, is_some, find, Contains}
use Rattle.std.specs.List.{AllZip}
use Rattle.std.proofs.lemmas.Bool.{eqb-true, eq-eqb, ne_eqb, and_parts as and_both}
use Rattle.std.proofs.lemmas.Option.{slice_get_within}
use Rattle.std.proofs.lemmas.List.Elements.{Contains-append_left, Contains-append_right, Contains-append_cases}
use Rattle.fab_base.specs.declared.entries.Taken.{Taken}
use Rattle.fab_base.specs.declared.operations.Coming.{Coming}
use Rattle.fab_base.specs.declared.operations.Coming.TheVariants.{Into, Keep, Throw, Request, Answer}
use Rattle.fab_base.specs.declared.operations.Receive.{Receive}
use Rattle.fab_base.specs.declared.operations.Written.{Written}
use Rattle.fab_base.proofs.Options.{some_there as some_value}
use Rattle.fab_model.specs.Matching.{remove_first}
use Rattle.fab_model.specs.State.{Completions, Receiving, State, Transmitting, coming_from, writing}
use Rattle.fab_model.specs.Peers.{multi_buf, released_buf, same_ctx}
use Rattle.fab_cq.specs.Queues.{buffer_in, later, taking_out}
use Rattle.fab_face.specs.Acts.{is_end_of}
use Rattle.fab_face.specs.Answers.{IsSharing}
use Rattle.fab_rx.specs.Arriving.{call_in, id_in}
use Rattle.fab_rx.specs.Opened.{is_multi, opened}
use Rattle.fab_rx.proofs.Tying.{tied_push as zip_push}
use Rattle.fab_settling.specs.declared.places.Place.{Place}
use Rattle.fab_settling.specs.declared.places.Place.TheVariants.{Open, Ended}
use Rattle.fab_settling.specs.declared.places.Member.{Member}
use Rattle.fab_settling.specs.Members.{Members, ended_at, enlisted, is_first, is_next, let_one_go, moved_up, one_read, read_by}
use Rattle.fab_core.specs.Parts.{Parts, held_of, state_of}
use Rattle.fab_settling.specs.Ends.{unread_of}
use Rattle.fab_core.specs.Lent.{AreApart, GoesInto, IsAt, IsComingIn, IsLent, IsLentBy, IsOther, IsPlaced, IsUnread, back_of, is_ending, size_by, size_of}
use Rattle.fab_settling.proofs.Listing.{contains_cases, contains_fewer, contains_here, contains_kept, first_all, first_kept, first_none, first_push, first_pushed, get_kept, get_last, get_push}
use Rattle.fab_core.proofs.Placing.{single_fewer, single_push, zip_each, zip_read, zip_turned}

-- ---- entries and their calls

pub same_call : (call : ℕ) (o : Option ℕ) → same_ctx (Some call) o ≡ true → o ≡ Some call
same_call call None e = absurd (cc)
same_call call (Some c) e = ap (λ k. Some k) (sym (eqb-true call c e))

same_end : (call : ℕ) (o : Option ℕ) → same_ctx o (Some call) ≡ true → o ≡ Some call
same_end call None e = absurd (cc)
same_end call (Some c) e = ap (λ k. Some k) (eqb-true c call e)

-- what gives a buffer back is of its call
pub back_call : (call : ℕ) (w : Written) → is_some (released_buf (Some call) w) ≡ true → w.call ≡ Some call
back_call call w e = by (same_ctx (Some call) w.call) refl
  where
    by : (b : Bool) → same_ctx (Some call) w.call ≡ b → w.call ≡ Some call
    by true is = same_call call w.call is
    by false is = let none : released_buf (Some call) w ≡ None = rw (is, released_buf) refl in let no : false ≡ true = sym (ap is_some none) ∙ e in absurd (cc)

pub other_back : (call : ℕ) (w : Written) → w.call ≢ Some call → released_buf (Some call) w ≡ None
other_back call w other = by (same_ctx (Some call) w.call) refl
  where
    by : (b : Bool) → same_ctx (Some call) w.call ≡ b → released_buf (Some call) w ≡ None
    by true is = absurd (other (same_call call w.call is))
    by false is = rw (is, released_buf) refl

pub end_call : (w : Written) (m : ℕ × ℕ) → is_end_of w m ≡ true → (w.call ≡ Some m.1) × (is_ending w.entry ≡ true)
end_call w m e = let both = and_both (same_ctx w.call (Some m.1)) (is_ending w.entry) e in (same_end m.1 w.call both.0, both.1)

end_is : (w : Written) (m : ℕ × ℕ) → w.call ≡ Some m.1 → is_ending w.entry ≡ true → is_end_of w m ≡ true
end_is w m its ends = rw (its, eq-eqb m.1 m.1 refl) ends

positive : (n : ℕ) → (n == 0) ≡ false → 1 ≤ n
positive zero e = absurd (cc)
positive (suc n) e = omega arith

-- ---- an unread entry

module _ (rx next : Receiving) (known after : List (ℕ × ℕ)) (cq later : Completions) (multis rest : List (ℕ × ℕ)) (w : Written) where
  pub unread_kept : ((ctx call : ℕ) → w.call ≡ Some call → Contains multis (ctx, call) → Contains rest (ctx, call) × (size_of next later call ≡ size_of rx cq call))
      → ((call : ℕ) → w.call ≡ Some call → is_multi after call ≡ true → is_multi known call ≡ true) → IsUnread rx known cq multis w → IsUnread next after later rest w
  unread_kept keep before u = record {
    parts = λ ctx at len e. (let h = u.parts ctx at len e in let k = keep ctx h.0 h.1 h.2 in (h.0, h.1, k.0, let s = k.1 in let le = h.3 in omega (arith, s, le)));
    ends = λ ctx used buf e. (let h = u.ends ctx used buf e in (h.0, h.1, (keep ctx h.0 h.1 h.2).0));
    cancels = u.cancels;
    back = λ call is there ending. u.back call is (before call is there) ending;
  }

-- ---- the receive half changes

module _ (rx : Receiving) (known : List (ℕ × ℕ)) (tx : Transmitting) (cq : Completions) (calls : ℕ) (multis : Members) (ok : IsLent rx known tx cq calls multis) where
  -- no multi-receive leaves, and no buffer changes its length
  moved_place : (next : Receiving) → ((call : ℕ) → is_multi known call ≡ true → opened next call ≡ opened rx call) → (call : ℕ) → is_multi known call ≡ true → (p : Place) → IsAt rx known cq call p → IsAt next known cq call p
  moved_place next same call is (Open id) h = (h.0, h.1, ap is_some (same call is) ∙ h.2)
  moved_place next same call is (Ended n) h = h

  pub lent_moved : (next : Receiving) → ((call : ℕ) → is_multi known call ≡ true → opened next call ≡ opened rx call) → ((s : ℕ) → IsComingIn next known calls (coming_from next s)) → IsLent next known tx cq calls multis
  lent_moved next same coming = record {
    made = ok.made;
    early = ok.early;
    others = ok.others;
    posted = ok.posted;
    once = ok.once;
    stands = λ call x is e. ok.stands call x is (sym (same call is) ∙ e);
    coming = coming;
    unread = λ i w le e. unread_kept rx next known known cq cq multis.list multis.list w (λ ctx call is there. (there, ap (λ o. size_by o (back_of cq call)) (same call (ok.posted (ctx, call) there)))) (λ call is there. there) (ok.unread i w le e);
    last = ok.last;
    taken = ok.taken;
    placed = zip_each (IsPlaced rx known cq) (IsPlaced next known cq) (λ s m p. record { ctx = p.ctx; multi = p.multi; place = moved_place next same m.1 p.multi s.place p.place }) multis.places multis.list ok.placed;
    single = ok.single;
  }

  -- ---- calls and operations

  coming_later : (more : ℕ) → calls ≤ more → (c : Option Coming) → IsComingIn rx known calls c → IsComingIn rx known more c
  coming_later more le None h = h
  coming_later more le (Some (Into r place)) h = by r.least h
    where
      by : (o : Option ℕ) → GoesInto rx known calls o r place → GoesInto rx known more o r place
      by None h = (h.0, let lt = h.1 in omega (arith, lt, le))
      by (Some least) h = h
  coming_later more le (Some Keep) h = h
  coming_later more le (Some Throw) h = h
  coming_later more le (Some Request) h = h
  coming_later more le (Some Answer) h = h

  pub lent_called : (more : ℕ) (after : Transmitting) → calls ≤ more → AreApart known more after → IsLent rx known after cq more multis
  lent_called more after le others = record {
    made = λ i w call e is. (let lt = ok.made i w call e is in omega (arith, lt, le));
    early = λ call is. (let lt = ok.early call is in omega (arith, lt, le));
    others = others;
    posted = ok.posted;
    once = ok.once;
    stands = ok.stands;
    coming = λ s. coming_later more le (coming_from rx s) (ok.coming s);
    unread = ok.unread;
    last = ok.last;
    taken = ok.taken;
    placed = ok.placed;
    single = ok.single;
  }

  -- ---- an entry is written

  module _ (next : Receiving) (call : Option ℕ) (entry : Taken) where
    abbrev new : Written
    new = record { call = call; entry = entry }

    abbrev more : Completions
    more = writing call entry cq

    -- what becomes of the multi-receive of a call: it stays as it is, or the entry gives its buffer back
    abbrev pub Becomes : ℕ → Type 0
    Becomes c =
        ((opened next c ≡ opened rx c) × (released_buf (Some c) new ≡ None))
        ⊎ ((x : ℕ × ℕ) × (buf : List ℕ) × (opened next c ≡ None) × (opened rx c ≡ Some x) × (released_buf (Some c) new ≡ Some buf) × (length buf ≡ x.1))

    module _ (change : (c : ℕ) → is_multi known c ≡ true → Becomes c) where
      size_same : (c : ℕ) → is_multi known c ≡ true → size_of next more c ≡ size_of rx cq c
      size_same c is = elim (change c is) [
        | inl h ↦ rw (h.0, first_push (released_buf (Some c)) cq.written new h.1) refl
        | inr h ↦ (let none = (ok.stands c h.0 is h.3).1 in rw (h.2, h.3, first_pushed (released_buf (Some c)) cq.written new h.1 h.4 none) h.5)
      ]

      keep : (w : Written) (ctx c : ℕ) → w.call ≡ Some c → Contains multis.list (ctx, c) → Contains multis.list (ctx, c) × (size_of next more c ≡ size_of rx cq c)
      keep w ctx c is there = (there, size_same c (ok.posted (ctx, c) there))

      pub lent_written : ((c : ℕ) → call ≡ Some c → c < calls) → ((c : ℕ) → call ≡ Some c → is_multi known c ≡ true → back_of cq c ≡ None)
          → IsUnread rx known cq multis.list new → ((s : ℕ) → IsComingIn next known calls (coming_from next s)) → (places : List Member) → AllZip (IsPlaced next known more) places multis.list
          → IsLent next known tx more calls (record { list = multis.list; places = places; room = multis.room })
      lent_written made before fine coming places placed = record {
        made = λ i w c e is. elim (get_push cq.written new w i e) [ inl h ↦ ok.made i w c h is | inr h ↦ made c (ap (λ (w : Written). w.call) (sym h.1) ∙ is) ];
        early = ok.early;
        others = ok.others;
        posted = ok.posted;
        once = ok.once;
        stands = λ c x is e. elim (change c is) [
          | inl h ↦ (let o = ok.stands c x is (sym h.0 ∙ e) in (o.0, first_push (released_buf (Some c)) cq.written new h.1 ∙ o.1))
          | inr h ↦ (let no : None ≡ Some x = sym h.2 ∙ e in absurd (cc))
        ];
        coming = coming;
        unread = λ i w le e. elim (get_push cq.written new w i e) [
          | inl h ↦ unread_kept rx next known known cq more multis.list multis.list w (keep w) (λ c is there. there) (ok.unread i w le h)
          | inr h ↦ subst (λ (w : Written). IsUnread next known more multis.list w) (sym h.1) (unread_kept rx next known known cq more multis.list multis.list new (keep new) (λ c is there. there) fine)
        ];
        last = λ i j w u c le lt ei ej is back. elim (get_push cq.written new w i ei) [
          | inl hi ↦ elim (get_push cq.written new u j ej) [
            | inl hj ↦ ok.last i j w u c le lt hi hj is back
            | inr hj ↦ λ that. (let none = first_none (released_buf (Some c)) cq.written i w (before c (ap (λ (w : Written). w.call) (sym hj.1) ∙ that) is) hi in let no : false ≡ true = sym (ap is_some none) ∙ back in absurd (cc))
          ]
          | inr hi ↦ elim (get_push cq.written new u j ej) [
            | inl hj ↦ (let in_list = slice_get_within cq.written j u hj in let n = hi.0 in absurd (omega (arith, in_list, n, lt)))
            | inr hj ↦ (let n = hi.0 in let m = hj.0 in absurd (omega (arith, n, m, lt)))
          ]
        ];
        taken = (let taken = ok.taken in let longer = length-append cq.written (new ∷ []) in omega (arith, taken, longer));
        placed = placed;
        single = ok.single;
      }

    -- where no multi-receive ends, each stays where it is
    written_place : (c : ℕ) → opened next c ≡ opened rx c → (p : Place) → IsAt rx known cq c p → IsAt next known more c p
    written_place c same (Open id) h = (h.0, h.1, ap is_some same ∙ h.2)
    written_place c same (Ended n) h = (h.0, h.1, get_kept cq.written new h.0 (cq.taken_out + n) h.2, h.3, h.4, h.5, first_kept (released_buf (Some c)) cq.written new h.1 h.6)

    pub places_kept : ((c : ℕ) → is_multi known c ≡ true → opened next c ≡ opened rx c) → AllZip (IsPlaced next known more) multis.places multis.list
    places_kept same = zip_each (IsPlaced rx known cq) (IsPlaced next known more) (λ s m p. record { ctx = p.ctx; multi = p.multi; place = written_place m.1 (same m.1 p.multi) s.place p.place }) multis.places multis.list ok.placed

    -- the one under the id ends with this entry
    module _ (id c : ℕ) (buf : List ℕ) (home : id_in known c ≡ Some id) (mine : call_in known id ≡ Some c) (its : call ≡ Some c) (ending : is_ending entry ≡ true) (back : buffer_in entry ≡ Some buf) (none : back_of cq c ≡ None) (others : (k : ℕ) → k ≢ c → opened next k ≡ opened rx k) where
      brings : released_buf (Some c) new ≡ Some buf
      brings = rw (its, eq-eqb c c refl, released_buf) back

      ended_here : IsAt next known more c (Ended (unread_of cq))
      ended_here =
          let taken = ok.taken in
          let place : length cq.written ≡ cq.taken_out + unread_of cq = omega (arith, taken) in
          (new, buf, subst (λ (i : ℕ). slice_get more.written i ≡ Some new) place (get_last cq.written new), its, ending, back, first_pushed (released_buf (Some c)) cq.written new buf brings none)

      ended_now : (k : ℕ) → call_in known id ≡ Some k → IsAt next known more k (Ended (unread_of cq))
      ended_now k is = let both : Some c ≡ Some k = sym mine ∙ is in let same : c ≡ k = cc in subst (λ (k : ℕ). IsAt next known more k (Ended (unread_of cq))) same ended_here

      turned_place : (k : ℕ) (p : Place) → IsAt rx known cq k p → IsAt next known more k (ended_at id (unread_of cq) p)
      turned_place k (Ended n) h = (h.0, h.1, get_kept cq.written new h.0 (cq.taken_out + n) h.2, h.3, h.4, h.5, first_kept (released_buf (Some k)) cq.written new h.1 h.6)
      turned_place k (Open i) h = by (i == id) refl
        where
          by : (b : Bool) → (i == id) ≡ b → IsAt next known more k (ended_at id (unread_of cq) (Open i))
          by true is = rw is (ended_now k (subst (λ (i : ℕ). call_in known i ≡ Some k) (eqb-true i id is) h.1))
          by false is =
              let other : k ≢ c = λ same. (let both : Some i ≡ Some id = sym h.0 ∙ ap (id_in known) same ∙ home in let one : i ≡ id = cc in let no : true ≡ false = sym (eq-eqb i id one) ∙ is in absurd (cc)) in
              rw is (written_place k (others k other) (Open i) h)

      pub places_turned : AllZip (IsPlaced next known more) (map (let_one_go id (unread_of cq)) multis.places) multis.list
      places_turned = zip_turned (IsPlaced rx known cq) (IsPlaced next known more) (let_one_go id (unread_of cq)) (λ s m p. record { ctx = p.ctx; multi = p.multi; place = turned_place m.1 s.place p.place }) multis.places multis.list ok.placed

  -- ---- the first unread entry is read

  module _ (w : Written) (first : slice_get cq.written cq.taken_out ≡ Some w) where
    this : IsUnread rx known cq multis.list w
    this = ok.unread cq.taken_out w (omega arith) first

    -- the end of one that is there gives its buffer back
    ends_back : (m : ℕ × ℕ) → Contains multis.list m → is_end_of w m ≡ true → is_some (released_buf (Some m.1) w) ≡ true
    ends_back m there e = let both = end_call w m e in this.back m.1 both.0 (ok.posted m there) both.1

    stays : (m : ℕ × ℕ) → Contains multis.list m → (is_some (released_buf (Some m.1) w) ≡ true → ⊥) → Contains (remove_first (is_end_of w) multis.list) m
    stays m there lacks = contains_kept (is_end_of w) multis.list m there (by (is_end_of w m) refl)
      where
        by : (b : Bool) → is_end_of w m ≡ b → is_end_of w m ≡ false
        by true e = absurd (lacks (ends_back m there e))
        by false e = e

    -- an entry of another call, or of the same that is no end
    place_after : (c : ℕ) → is_multi known c ≡ true → (p : Place) → IsAt rx known cq c p → is_next p ≡ false → IsAt rx known (taking_out cq) c (moved_up p)
    place_after c k (Open id) h later = h
    place_after c k (Ended n) h later =
        let some = positive n later in
        let place : cq.taken_out + n ≡ cq.taken_out + 1 + (n - 1) = omega (arith, some) in
        (h.0, h.1, subst (λ (i : ℕ). slice_get cq.written i ≡ Some h.0) place h.2, h.3, h.4, h.5, h.6)

    -- the first unread entry is the end of the one whose place says so
    next_by : (m : ℕ × ℕ) → is_multi known m.1 ≡ true → (p : Place) → IsAt rx known cq m.1 p → (b : Bool) → is_end_of w m ≡ b → is_next p ≡ b
    next_by m k (Open id) h true e =
        let both = end_call w m e in
        let back = this.back m.1 both.0 k both.1 in
        let x = some_value (opened rx m.1) h.2 in
        let none = first_none (released_buf (Some m.1)) cq.written cq.taken_out w (ok.stands m.1 x.0 k x.1).1 first in
        let no : false ≡ true = sym (ap is_some none) ∙ back in absurd (cc)
    next_by m k (Open id) h false e = refl
    next_by m k (Ended n) h true e = by (n == 0) refl
      where
        by : (b : Bool) → (n == 0) ≡ b → (n == 0) ≡ true
        by true is = is
        by false is =
            let both = end_call w m e in
            let some = positive n is in
            absurd (ok.last cq.taken_out (cq.taken_out + n) w h.0 m.1 (omega arith) (omega (arith, some)) first h.2 k (this.back m.1 both.0 k both.1) h.3)
    next_by m k (Ended n) h false e = by (n == 0) refl
      where
        by : (b : Bool) → (n == 0) ≡ b → (n == 0) ≡ false
        by false is = is
        by true is =
            let none : n ≡ 0 = eqb-true n 0 is in
            let here : Some h.0 ≡ Some w = sym h.2 ∙ ap (slice_get cq.written) (let at : cq.taken_out + n ≡ cq.taken_out = omega (arith, none) in at) ∙ first in
            let same : h.0 ≡ w = cc in
            let its : w.call ≡ Some m.1 = ap (λ (w : Written). w.call) (sym same) ∙ h.3 in
            let ends : is_ending w.entry ≡ true = ap (λ (w : Written). is_ending w.entry) (sym same) ∙ h.4 in
            let yes : is_end_of w m ≡ true = end_is w m its ends in
            let no : true ≡ false = sym yes ∙ e in absurd (cc)

    one_end : (m n : ℕ × ℕ) → is_end_of w m ≡ true → is_end_of w n ≡ true → n.1 ≡ m.1
    one_end m n a b = let both : Some n.1 ≡ Some m.1 = sym (end_call w n b).0 ∙ (end_call w m a).0 in cc

    placed_read : AllZip (IsPlaced rx known (taking_out cq)) (map one_read (remove_first is_first multis.places)) (remove_first (is_end_of w) multis.list)
    placed_read = zip_read (IsPlaced rx known cq) (IsPlaced rx known (taking_out cq)) is_first (is_end_of w) one_read
        (λ s m p. next_by m p.multi s.place p.place (is_end_of w m) refl) one_end
        (λ s m p not_it. record { ctx = p.ctx; multi = p.multi; place = place_after m.1 p.multi s.place p.place (next_by m p.multi s.place p.place false not_it) })
        multis.places multis.list ok.placed ok.single

    pub lent_read : IsLent rx known tx (taking_out cq) calls (read_by (Some w) multis)
    lent_read = record {
      made = ok.made;
      early = ok.early;
      others = ok.others;
      posted = λ m there. ok.posted m (contains_fewer (is_end_of w) multis.list m there);
      once = λ c d call a b. ok.once c d call (contains_fewer (is_end_of w) multis.list (c, call) a) (contains_fewer (is_end_of w) multis.list (d, call) b);
      stands = λ call x is e. (let o = ok.stands call x is e in (stays (x.0, call) o.0 (λ back. (let none = first_none (released_buf (Some call)) cq.written cq.taken_out w o.1 first in let no : false ≡ true = sym (ap is_some none) ∙ back in absurd (cc))), o.1));
      coming = ok.coming;
      unread = λ i u le e. unread_kept rx rx known known cq (taking_out cq) multis.list (remove_first (is_end_of w) multis.list) u
          (λ ctx call is there. (stays (ctx, call) there (λ back. ok.last cq.taken_out i w u call (omega arith) (omega (arith, le)) first e (ok.posted (ctx, call) there) back is), refl)) (λ call is there. there) (ok.unread i u (omega (arith, le)) e);
      last = λ i j v u call le lt. ok.last i j v u call (omega (arith, le)) lt;
      taken = (let within = slice_get_within cq.written cq.taken_out w first in omega (arith, within));
      placed = placed_read;
      single = single_fewer (is_end_of w) multis.list ok.single;
    }

  -- ---- a multi-receive is posted

  module _ (next : Receiving) (id ctx n : ℕ) (joined : opened next calls ≡ Some (ctx, n)) (same : (c : ℕ) → c ≢ calls → opened next c ≡ opened rx c) (coming_same : (s : ℕ) → coming_from next s ≡ coming_from rx s) (fresh : (k c : ℕ) → c ≢ calls → id_in known c ≡ Some k → is_some (opened rx c) ≡ true → k ≢ id) where
    abbrev wider : List (ℕ × ℕ)
    wider = (id, calls) ∷ known

    abbrev longer : List (ℕ × ℕ)
    longer = multis.list ++ (ctx, calls) ∷ []

    known_cases : (c : ℕ) → is_multi wider c ≡ true → (c ≡ calls) ⊎ (is_multi known c ≡ true)
    known_cases c h = by (calls == c) refl
      where
        by : (b : Bool) → (calls == c) ≡ b → (c ≡ calls) ⊎ (is_multi known c ≡ true)
        by true is = inl (sym (eqb-true calls c is))
        by false is = inr (rw is at h)

    known_other : (c : ℕ) → c ≢ calls → is_multi wider c ≡ is_multi known c
    known_other c other = rw (ne_eqb calls c (λ e. other (sym e))) refl

    early_other : (c : ℕ) → is_multi known c ≡ true → c ≢ calls
    early_other c is e = let lt = ok.early c is in absurd (omega (arith, lt, e))

    below_other : (c : ℕ) → c < calls → c ≢ calls
    below_other c lt e = absurd (omega (arith, lt, e))

    contains_one : (y x : ℕ × ℕ) → Contains (y ∷ []) x → y ≡ x
    contains_one y x c = elim (contains_cases y x [] c) [ inl e ↦ e | inr none ↦ (let lt = none.1 in absurd (omega (arith, lt))) ]

    coming_more : (c : Option Coming) → IsComingIn rx known calls c → IsComingIn next wider (calls + 1) c
    coming_more None h = h
    coming_more (Some (Into r place)) h = by r.least h
      where
        by : (o : Option ℕ) → GoesInto rx known calls o r place → GoesInto next wider (calls + 1) o r place
        by None h = (known_other r.call (below_other r.call h.1) ∙ h.0, let lt = h.1 in omega (arith, lt))
        by (Some least) h = (known_other r.call (early_other r.call h.0) ∙ h.0, same r.call (early_other r.call h.0) ∙ h.1, h.2)
    coming_more (Some Keep) h = h
    coming_more (Some Throw) h = h
    coming_more (Some Request) h = h
    coming_more (Some Answer) h = h

    stands_new : (x : ℕ × ℕ) → opened next calls ≡ Some x → Contains longer (x.0, calls) × (back_of cq calls ≡ None)
    stands_new x e =
        let both : Some (ctx, n) ≡ Some x = sym joined ∙ e in
        let pair : (ctx, n) ≡ x = cc in (
          subst (λ (y : ℕ × ℕ). Contains longer (y.0, calls)) pair (Contains-append_right multis.list ((ctx, calls) ∷ []) (ctx, calls) (contains_here (ctx, calls) [])),
          first_all (released_buf (Some calls)) cq.written (λ i w at. other_back calls w (λ is. (let lt = ok.made i w calls at is in absurd (omega (arith, lt))))),
        )

    abbrev IsNew : ℕ × ℕ → Type 0
    IsNew m = ◌≡◌ {A = ℕ × ℕ} (ctx, calls) m

    once_by : (c d call : ℕ) → (Contains multis.list (c, call)) ⊎ IsNew (c, call) → (Contains multis.list (d, call)) ⊎ IsNew (d, call) → c ≡ d
    once_by c d call (inl a) (inl b) = ok.once c d call a b
    once_by c d call (inl a) (inr b) = absurd (early_other call (ok.posted (c, call) a) (ap (λ (p : ℕ × ℕ). p.1) (sym b)))
    once_by c d call (inr a) (inl b) = absurd (early_other call (ok.posted (d, call) b) (ap (λ (p : ℕ × ℕ). p.1) (sym a)))
    once_by c d call (inr a) (inr b) = ap (λ (p : ℕ × ℕ). p.0) (sym a ∙ b)

    cases_of : (m : ℕ × ℕ) → Contains longer m → (Contains multis.list m) ⊎ IsNew m
    cases_of m there = elim (Contains-append_cases multis.list ((ctx, calls) ∷ []) m there) [ inl h ↦ inl h | inr h ↦ inr (contains_one (ctx, calls) m h) ]

    known_here : is_multi wider calls ≡ true
    known_here = rw (eq-eqb calls calls refl) refl

    posted_by : (m : ℕ × ℕ) → (Contains multis.list m) ⊎ IsNew m → is_multi wider m.1 ≡ true
    posted_by m (inl h) = known_other m.1 (early_other m.1 (ok.posted m h)) ∙ ok.posted m h
    posted_by m (inr e) = subst (λ (p : ℕ × ℕ). is_multi wider p.1 ≡ true) e known_here

    early_by : (c : ℕ) → (c ≡ calls) ⊎ (is_multi known c ≡ true) → c < calls + 1
    early_by c (inl e) = omega (arith, e)
    early_by c (inr k) = let lt = ok.early c k in omega (arith, lt)

    stands_by : (c : ℕ) (x : ℕ × ℕ) → (c ≡ calls) ⊎ (is_multi known c ≡ true) → opened next c ≡ Some x → Contains longer (x.0, c) × (back_of cq c ≡ None)
    stands_by c x (inl e) is = subst (λ (k : ℕ). opened next k ≡ Some x → Contains longer (x.0, k) × (back_of cq k ≡ None)) (sym e) (stands_new x) is
    stands_by c x (inr k) is = let o = ok.stands c x k (sym (same c (early_other c k)) ∙ is) in (Contains-append_left multis.list ((ctx, calls) ∷ []) (x.0, c) o.0, o.1)

    last_by : (i j : ℕ) (w u : Written) (c : ℕ) → cq.taken_out ≤ i → i < j → slice_get cq.written i ≡ Some w → slice_get cq.written j ≡ Some u → (c ≡ calls) ⊎ (is_multi known c ≡ true) → is_some (released_buf (Some c) w) ≡ true → u.call ≢ Some c
    last_by i j w u c le lt ei ej (inl e) back = λ that. (let below = ok.made i w c ei (back_call c w back) in absurd (omega (arith, below, e)))
    last_by i j w u c le lt ei ej (inr k) back = ok.last i j w u c le lt ei ej k back

    -- ids and calls of the others stay
    home_other : (c : ℕ) → c ≢ calls → id_in wider c ≡ id_in known c
    home_other c other = rw (ne_eqb calls c (λ e. other (sym e))) refl

    mine_other : (k : ℕ) → k ≢ id → call_in wider k ≡ call_in known k
    mine_other k other = rw (ne_eqb id k (λ e. other (sym e))) refl

    place_more : (c : ℕ) → c ≢ calls → (p : Place) → IsAt rx known cq c p → IsAt next wider cq c p
    place_more c other (Open k) h = (home_other c other ∙ h.0, mine_other k (fresh k c other h.0 h.2) ∙ h.1, ap is_some (same c other) ∙ h.2)
    place_more c other (Ended n) h = h

    place_new : IsPlaced next wider cq (record { ctx = ctx; place = Open id }) (ctx, calls)
    place_new = record { ctx = refl; multi = known_here; place = (rw (eq-eqb calls calls refl) refl, rw (eq-eqb id id refl) refl, ap is_some joined) }

    placed_more : AllZip (IsPlaced next wider cq) (multis.places ++ record { ctx = ctx; place = Open id } ∷ []) longer
    placed_more = zip_push (IsPlaced next wider cq) multis.places multis.list (record { ctx = ctx; place = Open id }) (ctx, calls)
        (zip_each (IsPlaced rx known cq) (IsPlaced next wider cq) (λ s m p. record { ctx = p.ctx; multi = known_other m.1 (early_other m.1 p.multi) ∙ p.multi; place = place_more m.1 (early_other m.1 p.multi) s.place p.place }) multis.places multis.list ok.placed) place_new

    other_more : (call : ℕ) → IsOther known calls call → IsOther wider (calls + 1) call
    other_more call other = (let below = other.0 in omega (arith, below), known_other call (below_other call other.0) ∙ other.1)

    pub lent_shared : IsLent next ((id, calls) ∷ known) tx cq (calls + 1) (enlisted id ctx calls multis)
    lent_shared = record {
      made = λ i w c e is. (let lt = ok.made i w c e is in omega (arith, lt));
      early = λ c is. early_by c (known_cases c is);
      others = (λ k d lt. other_more _ (ok.others.0 k d lt), λ t k d lt. other_more _ (ok.others.1 t k d lt));
      posted = λ m there. posted_by m (cases_of m there);
      once = λ c d call a b. once_by c d call (cases_of (c, call) a) (cases_of (d, call) b);
      stands = λ c x is e. stands_by c x (known_cases c is) e;
      coming = λ s. subst (λ (c : Option Coming). IsComingIn next wider (calls + 1) c) (sym (coming_same s)) (coming_more (coming_from rx s) (ok.coming s));
      unread = λ i w le e. unread_kept rx next known wider cq cq multis.list longer w
          (λ ctx c is there. (Contains-append_left multis.list _ (ctx, c) there, ap (λ o. size_by o (back_of cq c)) (same c (early_other c (ok.posted (ctx, c) there)))))
          (λ c is there. sym (known_other c (below_other c (ok.made i w c e is))) ∙ there) (ok.unread i w le e);
      last = λ i j w u c le lt ei ej is back. last_by i j w u c le lt ei ej (known_cases c is) back;
      taken = ok.taken;
      placed = placed_more;
      single = single_push multis.list (ctx, calls) ok.single (λ x there e. early_other x.1 (ok.posted x there) (sym e));
    }

-- ---- what callers know

pub multi_length : (s : State) (call : ℕ) → length (multi_buf s (Some call)) ≡ size_of s.rx s.cq call
multi_length s call = by (find (λ (r : Receive). call == r.call) (s.rx.posted ++ s.rx.closing)) refl
  where
    by : (o : Option Receive) → find (λ (r : Receive). call == r.call) (s.rx.posted ++ s.rx.closing) ≡ o → length (multi_buf s (Some call)) ≡ size_of s.rx s.cq call
    by None e = rw (e, multi_buf) refl
    by (Some r) e = rw (e, multi_buf) refl

pub is_sharing : (p : Parts) → IsLentBy p → IsSharing (held_of p)
is_sharing p ok = record {
  unread = λ i w le e. (let u = ok.unread i w le e in record {
    parts = λ ctx at len is. (let h = u.parts ctx at len is in (h.0, h.1, h.2, let le = h.3 in let same = multi_length (state_of p) h.0 in omega (arith, le, same)));
    ends = u.ends;
    cancels = u.cancels;
  });
  once = ok.once;
}
