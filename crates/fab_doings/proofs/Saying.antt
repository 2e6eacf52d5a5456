-- The law in bytes: what was received is the first of what was sent.
use Rattle.std.proofs.Common.{◌≡◌, ◌≤◌, ◌+◌, ◌-◌, ℕ, Bool, true, false, List, [], ◌∷◌, ◌++◌, length, length-append, map, take, drop, min, None, Some, inl, inr, refl, sym, ap, ◌∙◌, subst, arith, append_assoc}
use Rattle.std.specs.Prelude.{cond, filter}
use Rattle.std.specs.List.{flat_map}
use Rattle.std.proofs.lemmas.Grind.{flat_map-append}
use Rattle.std.proofs.lemmas.List.{take-append-le, take_all}
use Rattle.fab_base.specs.declared.entries.Taken.{Taken}
use Rattle.fab_base.specs.declared.entries.Taken.TheVariants.{Success, Failure}
use Rattle.fab_base.specs.declared.entries.Entry.{Entry}
use Rattle.fab_base.specs.declared.entries.Entry.TheVariants.{Received}
use Rattle.fab_model.specs.Complete.{entry_of, paste, tag_of}
use Rattle.fab_model.specs.Receiving.{Posting}
use Rattle.fab_model.specs.Sending.{Order, head_of}
use Rattle.fab_model.specs.Views.{IsPrefixOf}
use Rattle.fab_laws.specs.Members.{In}
use Rattle.fab_laws.proofs.Lists.{never}
use Rattle.fab_laws.proofs.streams.Entries.{entry_reads}
use Rattle.fab_doings.specs.Doings.{entries_of, own_of}
use Rattle.fab_doings.specs.Heard.{HeardIsSaid, answers, as_receive, bytes_of, counts, heard, message_in, orders_to, postings, said, wanted}
use Rattle.fab_doings.proofs.Hearing.{heard_in_turn, in_filter}

-- an entry that does not count hands nothing over
module _ (mine : ℕ → Bool) where
  none_in : (e : Taken) → counts mine e ≡ false → message_in mine e ≡ []
  none_in (Success entry) out = by_entry entry out
    where
      by_entry : (entry : Entry) → counts mine (Success entry) ≡ false → message_in mine (Success entry) ≡ []
      by_entry (Received ctx source tag imm len buf) out = ap (λ (b : Bool). let ms : List (List ℕ) = elim b [ true ↦ take len buf ∷ [] | false ↦ [] ] in ms) out
      by_entry _ out = refl
  none_in (Failure e) out = refl

  counted : (es : List Taken) → flat_map (message_in mine) (filter (counts mine) es) ≡ flat_map (message_in mine) es
  counted [] = refl
  counted (e ∷ es) = go (counts mine e) refl (counted es)
    where
      go : (b : Bool) → counts mine e ≡ b → flat_map (message_in mine) (filter (counts mine) es) ≡ flat_map (message_in mine) es
          → flat_map (message_in mine) (cond b (e ∷ filter (counts mine) es) (filter (counts mine) es)) ≡ message_in mine e ++ flat_map (message_in mine) es
      go true c ih = ap (λ ms. message_in mine e ++ ms) ih
      go false c ih = ih ∙ ap (λ ms. ms ++ flat_map (message_in mine) es) (sym (none_in e c))

  -- the bytes stand in front of what the buffer held
  pasted : (buf bytes : List ℕ) → length bytes ≤ length buf → take (length bytes) (paste buf 0 bytes) ≡ bytes
  unfolding paste
  pasted buf bytes fits =
      let n : min (length bytes) (length buf - 0) ≡ length bytes = omega (arith, fits) in
      ap (λ k. take (length bytes) (take k bytes ++ drop (0 + k) buf)) n
      ∙ ap (λ xs. take (length bytes) (xs ++ drop (0 + length bytes) buf)) (take_all (length bytes) bytes (omega arith))
      ∙ take-append-le (length bytes) bytes (drop (0 + length bytes) buf) (omega arith) ∙ take_all (length bytes) bytes (omega arith)

  answer_is : (p : ℕ) (q : Posting) (o : Order) → mine q.ctx ≡ true → length (bytes_of o) ≤ length q.buf → message_in mine (entry_of (as_receive q) 0 p (head_of 0 o) (bytes_of o)) ≡ bytes_of o ∷ []
  answer_is p q o m fits =
      let long : length (bytes_of o) ≡ length o.bytes + length o.compared = length-append o.bytes o.compared in
      let reads = (entry_reads (as_receive q) p (head_of 0 o) (bytes_of o) refl).0 (omega (arith, fits, long)) in
      ap (message_in mine) reads
      ∙ ap (λ (b : Bool). let ms : List (List ℕ) = elim b [ true ↦ take (length o.bytes + length o.compared) (paste q.buf 0 (bytes_of o)) ∷ [] | false ↦ [] ] in ms) m
      ∙ ap (λ xs. xs ∷ []) (ap (λ k. take k (paste q.buf 0 (bytes_of o))) (sym long) ∙ pasted q.buf (bytes_of o) fits)

  answers_said : (p : ℕ) (qs : List Posting) (os : List Order) → ((q : Posting) → In q qs → mine q.ctx ≡ true) → ((q : Posting) (o : Order) → In q qs → In o os → length (bytes_of o) ≤ length q.buf) → IsPrefixOf (flat_map (message_in mine) (answers p qs os)) (map bytes_of os)
  answers_said p [] os all fits = (map bytes_of os, refl)
  answers_said p (q ∷ qs) [] all fits = ([], refl)
  answers_said p (q ∷ qs) (o ∷ os) all fits =
      let t = answers_said p qs os (λ z i. all z (inr i)) (λ z y i j. fits z y (inr i) (inr j)) in
      (t.0, ap (λ ms. (ms ++ flat_map (message_in mine) (answers p qs os)) ++ t.0) (answer_is p q o (all q (inl refl)) (fits q o (inl refl) (inl refl))) ∙ ap (λ ms. bytes_of o ∷ ms) t.1)

passes : {X : Type 0} (test : X → Bool) (xs : List X) (x : X) → In x (filter test xs) → test x ≡ true
passes test [] x i = never i
passes {X} test (y ∷ xs) x i = go (test y) refl i (passes test xs x)
  where
    go : (b : Bool) → test y ≡ b → In x (cond b (y ∷ filter test xs) (filter test xs)) → (In x (filter test xs) → test x ≡ true) → test x ≡ true
    go true t (inl e) ih = ap test e ∙ t
    go true t (inr j) ih = ih j
    go false t j ih = ih j

mapped_in : (os : List Order) (o : Order) → In o os → In (bytes_of o) (map bytes_of os)
mapped_in [] o i = i
mapped_in (y ∷ os) o (inl e) = inl (ap bytes_of e)
mapped_in (y ∷ os) o (inr i) = inr (mapped_in os o i)

pub heard_is_said : HeardIsSaid
heard_is_said from opening pasts run p q o r x y at_o at_x at_r at_y kept_x kept_y simple_x simple_y want mine chooses fit =
    let first = heard_in_turn from opening pasts run p q o r x y at_o at_x at_r at_y kept_x kept_y simple_x simple_y want mine chooses in
    let qs : List Posting = filter (λ (s : Posting). mine s.ctx) (postings (own_of y.steps)) in
    let os : List Order = filter (wanted want p) (orders_to o.held.state q (own_of x.steps)) in
    let all = answers_said mine p (filter (λ (s : Posting). mine s.ctx) (postings (own_of y.steps))) (filter (wanted want p) (orders_to o.held.state q (own_of x.steps))) (λ z i. passes (λ (s : Posting). mine s.ctx) (postings (own_of y.steps)) z i)
    (λ z w i j. fit z (bytes_of w) (in_filter (λ (s : Posting). mine s.ctx) (postings (own_of y.steps)) z i) (passes (λ (s : Posting). mine s.ctx) (postings (own_of y.steps)) z i) (mapped_in (filter (wanted want p) (orders_to o.held.state q (own_of x.steps))) w j)) in (
      flat_map (message_in mine) first.0 ++ all.0,
      ap (λ ms. ms ++ (flat_map (message_in mine) first.0 ++ all.0)) (sym (counted mine (entries_of (own_of y.steps))))
          ∙ sym (append_assoc (flat_map (message_in mine) (filter (counts mine) (entries_of (own_of y.steps)))) (flat_map (message_in mine) first.0) all.0)
          ∙ ap (λ ms. ms ++ all.0) (sym (flat_map-append (message_in mine) (filter (counts mine) (entries_of (own_of y.steps))) first.0) ∙ ap (flat_map (message_in mine)) first.1) ∙ all.1,
    )
