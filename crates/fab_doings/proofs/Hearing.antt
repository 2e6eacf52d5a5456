-- The law of what threads heard of one another.
use Rattle.std.proofs.Common.{◌≡◌, ◌-◌, ℕ, Bool, true, false, not, ◌&&◌, List, [], ◌∷◌, ◌++◌, length, map, take, drop, reverse, slice_get, Option, None, Some, inl, inr, refl, sym, ap, ap₂, ◌∙◌, subst, append_assoc}
use Rattle.std.specs.Prelude.{cond, filter}
use Rattle.std.specs.List.{list_all}
use Rattle.std.specs.Option.{option_map}
use Rattle.std.proofs.lemmas.Grind.{reverse_onto}
use Rattle.std.proofs.lemmas.List.{map-append, take-append-drop}
use Rattle.std.proofs.lemmas.List.Elements.{filter-append}
use Rattle.std.proofs.lemmas.Option.{slice_get-map}
use Rattle.fab_base.specs.Replies.{is_reply}
use Rattle.fab_base.specs.declared.entries.Taken.{Taken}
use Rattle.fab_base.specs.declared.entries.Taken.TheVariants.{Success, Failure}
use Rattle.fab_base.specs.declared.entries.Entry.{Entry}
use Rattle.fab_base.specs.declared.entries.Entry.TheVariants.{Part, Received}
use Rattle.fab_base.specs.declared.entries.ErrKind.{ErrKind}
use Rattle.fab_base.specs.declared.entries.ErrKind.TheVariants.{Truncated}
use Rattle.fab_base.specs.declared.items.Item.{Item}
use Rattle.fab_base.specs.declared.items.ItemHead.{ItemHead}
use Rattle.fab_base.specs.declared.items.Kind.{Kind}
use Rattle.fab_base.specs.declared.items.Kind.TheVariants.{Msg, TagMsg, WriteReq, ReadReq, AtomicReq, Reply}
use Rattle.fab_base.specs.declared.items.Want.{Want}
use Rattle.fab_base.specs.declared.operations.Receive.{Receive}
use Rattle.fab_base.specs.declared.operations.Written.{Written}
use Rattle.fab_base.proofs.Lists.{append_same as same_more}
use Rattle.fab_model.specs.Calls.{Call, Transmit, Post, Look, TakeClaimed, DropClaimed, Cancel, CancelFirst, Insert, Remove, Reg, Close, Put, Show, Count}
use Rattle.fab_model.specs.Complete.{entry_of, has_space, paste, received, tag_of, truncated}
use Rattle.fab_model.specs.Matching.{matches}
use Rattle.fab_base.specs.Kinds.{is_message}
use Rattle.fab_model.specs.Orders.{steps_of}
use Rattle.fab_model.specs.Receiving.{Posting}
use Rattle.fab_model.specs.Sending.{Order, head_of}
use Rattle.fab_model.specs.State.{State}
use Rattle.fab_model.specs.Views.{IsPrefixOf}
use Rattle.fab_laws.specs.Matched.{tells_message}
use Rattle.fab_laws.specs.Members.{In}
use Rattle.fab_laws.specs.Programs.{Deed, Head, Opening, Tail, peer}
use Rattle.fab_laws.specs.Recorded.{plain, recall}
use Rattle.fab_laws.specs.StreamLaws.{asks, posted_for, whole_from}
use Rattle.fab_laws.specs.Completed.{operations_of}
use Rattle.fab_laws.specs.MessageLaws.{asked_of}
use Rattle.fab_laws.proofs.Lists.{in_back, in_front, in_map, mapped, never}
use Rattle.fab_laws.specs.InTurn.{IsChosen, is_plain, leaves_all, told}
use Rattle.fab_laws.proofs.Turning.{all_told_in_turn}
use Rattle.fab_laws.proofs.Words.{is_of_message, is_one, not_both}
use Rattle.fab_link.specs.Joined.{is_last}
use Rattle.fab_face.specs.Acts.{is_first, only}
use Rattle.fab_merging.specs.Pasts.{begun}
use Rattle.fab_doings.specs.Doings.{Calls, Did, Doing, Drew, Had, Living, Posted, Took, Writes, deeds_of, entries_of, own_of, peer_in}
use Rattle.fab_doings.specs.Law.{IsRun, Kept, Past, plains}
use Rattle.fab_doings.proofs.Obeying.{doings_at}
use Rattle.fab_doings.specs.Heard.{HeardInTurn, IsSimple, answers, as_receive, counts, is_simple, orders_to, postings, wanted}
use Rattle.fab_doings.proofs.Fixed.{still}
use Rattle.fab_doings.proofs.Walking.{Shown, Walked, accepting, asking, plain_item, plain_order, shown, shown_post, walk}

-- ---- entries

-- the entry of a receive of one message has its context
counts_own : (mine : ℕ → Bool) (r : Receive) (s : ℕ) (head : ItemHead) (bytes : List ℕ) → r.least ≡ None → counts mine (entry_of r 0 s head bytes) ≡ mine r.ctx
unfolding entry_of received truncated
counts_own mine r s head bytes single = go (has_space r 0 head)
  where
    got : (o : Option ℕ) → o ≡ None → counts mine (let e : Taken = elim o [
      | None ↦ Success (Received r.ctx s (tag_of head) head.imm head.total (paste r.buf 0 bytes))
      | Some _ ↦ Success (Part r.ctx s head.imm 0 head.total)
    ] in e) ≡ mine r.ctx
    got None e = refl
    got (Some n) e = absurd (cc (e))

    go : (b : Bool) → counts mine (let e : Taken = elim b [ true ↦ received r 0 s head bytes | false ↦ truncated r (length r.buf - 0) 0 s head bytes ] in e) ≡ mine r.ctx
    go true = got r.least single
    go false = refl

counts_tells : (mine : ℕ → Bool) (e : Taken) → counts mine e ≡ true → tells_message e ≡ true
counts_tells mine (Success entry) c = by_entry entry c
  where
    by_entry : (entry : Entry) → counts mine (Success entry) ≡ true → tells_message (Success entry) ≡ true
    by_entry (Received ctx source tag imm len buf) c = refl
    by_entry (Part ctx source imm at len) c = refl
    by_entry _ c = absurd (cc (c))
counts_tells mine (Failure e) c = by_kind e.kind c
  where
    by_kind : (kind : ErrKind) → (let b : Bool = elim kind [ Truncated ↦ elim e.ctx [ None ↦ false | Some ctx ↦ mine ctx ] | _ ↦ false ] in b) ≡ true → (let b : Bool = elim kind [ Truncated ↦ true | _ ↦ false ] in b) ≡ true
    by_kind Truncated c = refl
    by_kind _ c = absurd (cc (c))

-- so the entries are the same, whatever the numbers of receives and messages
same_entry : (p : ℕ) (s0 : State) (r : Receive) (x : Item) (q : Posting) (o : Order) → shown r ≡ shown_post s0 q → plain_item x ≡ plain_order o → q.least ≡ None → entry_of r 0 p x.head x.bytes ≡ entry_of (as_receive q) 0 p (head_of 0 o) (o.bytes ++ o.compared)
unfolding entry_of received truncated
same_entry p s0 r x q o same item single =
    ap₂ (λ (z : Shown) (y : ItemHead × List ℕ). entry_of (record { call = 0; want = (as_receive q).want; buf = z.buf; ctx = z.ctx; least = z.least; used = 0 }) 0 p y.0 y.1) same item
    ∙ ap (λ (l : Option ℕ). entry_of (record { call = 0; want = (as_receive q).want; buf = q.buf; ctx = q.ctx; least = l; used = 0 }) 0 p (head_of 0 o) (o.bytes ++ o.compared)) single

module _ (p : ℕ) (s0 : State) (mine : ℕ → Bool) (want : Want) where
  abbrev mine_receive : Receive → Bool
  mine_receive r = mine r.ctx

  abbrev mine_post : Posting → Bool
  mine_post q = mine q.ctx

  kept_receives : (rs : List Receive) (qs : List Posting) → map shown rs ≡ map (shown_post s0) qs → map shown (filter mine_receive rs) ≡ map (shown_post s0) (filter mine_post qs)
  kept_receives [] [] e = refl
  kept_receives [] (q ∷ qs) e = absurd (cc (e))
  kept_receives (r ∷ rs) [] e = absurd (cc (e))
  kept_receives (r ∷ rs) (q ∷ qs) e =
      let first : shown r ≡ shown_post s0 q = cc (e) in
      let rest : map shown rs ≡ map (shown_post s0) qs = cc (e) in
      go (mine r.ctx) (mine q.ctx) refl (ap (λ (z : Shown). mine z.ctx) (sym first)) first (kept_receives rs qs rest)
    where
      go : (b c : Bool) → mine r.ctx ≡ b → mine q.ctx ≡ mine r.ctx → shown r ≡ shown_post s0 q → map shown (filter mine_receive rs) ≡ map (shown_post s0) (filter mine_post qs) → map shown (filter mine_receive (r ∷ rs)) ≡ map (shown_post s0) (filter mine_post (q ∷ qs))
      go true c b d first ih = rw (b, d ∙ b) (ap₂ (λ (z : Shown) (zs : List Shown). z ∷ zs) first ih)
      go false c b d first ih = rw (b, d ∙ b) ih

  kept_items : (xs : List Item) (os : List Order) → map plain_item xs ≡ map plain_order os → map plain_item (filter (is_one p want) xs) ≡ map plain_order (filter (wanted want p) os)
  kept_items [] [] e = refl
  kept_items [] (o ∷ os) e = absurd (cc (e))
  kept_items (x ∷ xs) [] e = absurd (cc (e))
  kept_items (x ∷ xs) (o ∷ os) e =
      let first : plain_item x ≡ plain_order o = cc (e) in
      let rest : map plain_item xs ≡ map plain_order os = cc (e) in
      go (is_one p want x) refl (ap (λ (z : ItemHead × List ℕ). matches want p z.0) (sym first)) first (kept_items xs os rest)
    where
      go : (b : Bool) → is_one p want x ≡ b → wanted want p o ≡ is_one p want x → plain_item x ≡ plain_order o → map plain_item (filter (is_one p want) xs) ≡ map plain_order (filter (wanted want p) os) → map plain_item (filter (is_one p want) (x ∷ xs)) ≡ map plain_order (filter (wanted want p) (o ∷ os))
      go true b d first ih = rw (b, d ∙ b) (ap₂ (λ (z : ItemHead × List ℕ) (zs : List (ItemHead × List ℕ)). z ∷ zs) first ih)
      go false b d first ih = rw (b, d ∙ b) ih

  told_answers : (rs : List Receive) (qs : List Posting) (xs : List Item) (os : List Order) → map shown rs ≡ map (shown_post s0) qs → map plain_item xs ≡ map plain_order os → ((q : Posting) → In q qs → q.least ≡ None) → told p rs xs ≡ answers p qs os
  told_answers [] [] xs os e f single = refl
  told_answers [] (q ∷ qs) xs os e f single = absurd (cc (e))
  told_answers (r ∷ rs) [] xs os e f single = absurd (cc (e))
  told_answers (r ∷ rs) (q ∷ qs) [] [] e f single = refl
  told_answers (r ∷ rs) (q ∷ qs) [] (o ∷ os) e f single = absurd (cc (f))
  told_answers (r ∷ rs) (q ∷ qs) (x ∷ xs) [] e f single = absurd (cc (f))
  told_answers (r ∷ rs) (q ∷ qs) (x ∷ xs) (o ∷ os) e f single =
      let first : shown r ≡ shown_post s0 q = cc (e) in
      let rest : map shown rs ≡ map (shown_post s0) qs = cc (e) in
      let item : plain_item x ≡ plain_order o = cc (f) in
      let others : map plain_item xs ≡ map plain_order os = cc (f) in
      ap₂ (λ (z : Taken) (zs : List Taken). z ∷ zs) (same_entry p s0 r x q o first item (single q (inl refl))) (told_answers rs qs xs os rest others (λ z i. single z (inr i)))

told_first : (p : ℕ) (rs : List Receive) (xs ys : List Item) → IsPrefixOf (told p rs xs) (told p rs (xs ++ ys))
told_first p [] xs ys = ([], refl)
told_first p (r ∷ rs) [] ys = (told p (r ∷ rs) ys, refl)
told_first p (r ∷ rs) (x ∷ xs) ys = let t = told_first p rs xs ys in (t.0, ap (λ es. entry_of r 0 p x.head x.bytes ∷ es) t.1)

-- ---- lists

pub in_filter : {X : Type 0} (test : X → Bool) (xs : List X) (x : X) → In x (filter test xs) → In x xs
in_filter test [] x i = i
in_filter {X} test (y ∷ xs) x i = go (test y) i (in_filter test xs x)
  where
    go : (b : Bool) → In x (cond b (y ∷ filter test xs) (filter test xs)) → (In x (filter test xs) → In x xs) → In x (y ∷ xs)
    go true (inl e) ih = inl e
    go true (inr j) ih = inr (ih j)
    go false j ih = inr (ih j)

in_reverse : {X : Type 0} (xs : List X) (x : X) → In x xs → In x (reverse xs)
in_reverse [] x i = never i
in_reverse (y ∷ xs) x (inl e) = subst (In x) (sym (reverse_onto xs y [])) (in_back x (reverse xs) (y ∷ []) (inl e))
in_reverse (y ∷ xs) x (inr i) = subst (In x) (sym (reverse_onto xs y [])) (in_front x (reverse xs) (y ∷ []) (in_reverse xs x i))

-- who passes the first test passes the second
twice : {X : Type 0} (test wider : X → Bool) (xs : List X) → ((x : X) → test x ≡ true → wider x ≡ true) → filter test (filter wider xs) ≡ filter test xs
twice test wider [] so = refl
twice {X} test wider (x ∷ xs) so = go (test x) (wider x) refl refl (twice test wider xs so)
  where
    go : (b c : Bool) → test x ≡ b → wider x ≡ c → filter test (filter wider xs) ≡ filter test xs → filter test (filter wider (x ∷ xs)) ≡ filter test (x ∷ xs)
    go true true t w ih = rw (w, t) (ap (λ zs. x ∷ zs) ih)
    go true false t w ih = not_both (wider x) (so x t) w
    go false true t w ih = rw (w, t) ih
    go false false t w ih = rw (w, t) ih

-- ---- what a simple part is

simple_plain : (c : Call) → is_simple c ≡ true → leaves_all c ≡ true
simple_plain (Transmit o) e = refl
simple_plain (Post q) e = refl
simple_plain (Look how source tag ignore ctx) e = absurd (cc (e))
simple_plain (TakeClaimed buf ctx) e = absurd (cc (e))
simple_plain (DropClaimed ctx) e = absurd (cc (e))
simple_plain (Cancel ctx) e = absurd (cc (e))
simple_plain CancelFirst e = absurd (cc (e))
simple_plain (Insert name) e = refl
simple_plain (Remove index) e = refl
simple_plain (Reg key access bytes) e = refl
simple_plain (Close key) e = refl
simple_plain (Put key at bytes) e = refl
simple_plain (Show key) e = refl
simple_plain (Count class) e = refl

only_plain : (b : Bool) (x : Deed) (ds : List Deed) → is_plain x ≡ true → list_all is_plain ds ≡ true → list_all is_plain (only b x ++ ds) ≡ true
only_plain true x ds e f = ap₂ (λ (a : Bool) (b : Bool). a && b) e f
only_plain false x ds e f = f

deeds_plain : (xs : List Doing) → ((z : Doing) → In z (own_of xs) → IsSimple z) → list_all is_plain (deeds_of xs) ≡ true
deeds_plain [] simple = refl
deeds_plain (Did (Calls c a) ∷ xs) simple = ap₂ (λ (a : Bool) (b : Bool). a && b) (simple_plain c (simple (Did (Calls c a)) (inl refl)).0) (deeds_plain xs (λ z i. simple z (inr i)))
deeds_plain (Did (Writes counters) ∷ xs) simple = never (simple (Did (Writes counters)) (inl refl))
deeds_plain (Had entry ∷ xs) simple = deeds_plain xs (λ z i. simple z (inr i))
deeds_plain (Took source f ∷ xs) simple = ap (list_all is_plain) (append_assoc (only (is_first f) (Head source)) (only (is_last f.head) (Tail source)) (deeds_of xs)) ∙ only_plain (is_first f) (Head source) (only (is_last f.head) (Tail source) ++ deeds_of xs) refl (only_plain (is_last f.head) (Tail source) (deeds_of xs) refl (deeds_plain xs simple))
deeds_plain (Posted dest f ∷ xs) simple = only_plain (is_last f.head) (Deed.Sent dest) (deeds_of xs) refl (deeds_plain xs simple)
deeds_plain (Drew ∷ xs) simple = deeds_plain xs simple

own_entries : (xs : List Doing) → entries_of (own_of xs) ≡ entries_of xs
own_entries [] = refl
own_entries (Did own ∷ xs) = own_entries xs
own_entries (Had entry ∷ xs) = ap (λ es. entry ∷ es) (own_entries xs)
own_entries (Took source f ∷ xs) = own_entries xs
own_entries (Posted dest f ∷ xs) = own_entries xs
own_entries (Drew ∷ xs) = own_entries xs

-- ---- the law

module _ (from : Opening) (opening : List Living) (pasts : List Past) (run : IsRun from opening pasts) where
  here : (p : ℕ) (x : Past) → slice_get pasts p ≡ Some x → slice_get (plains pasts) p ≡ Some (peer x.living.held.state)
  here p x at = slice_get-map plain (map (λ (x : Past). peer_in x.living) pasts) p ∙ ap (option_map plain) (slice_get-map (λ (x : Past). peer_in x.living) pasts p ∙ ap (option_map (λ (x : Past). peer_in x.living)) at)

  -- a thread's record, walked
  module _ (p : ℕ) (o : Living) (x : Past) (at : slice_get opening p ≡ Some o) (there : slice_get pasts p ≡ Some x) (kept : Kept (begun o) x) (simple : (z : Doing) → In z (own_of x.steps) → IsSimple z) (d : ℕ) where
    walked : Walked o.held.state d o x.living x.steps
    walked =
        let w = walk o.held.state d o x.living kept.0 kept.1.lives (λ z i. simple z (subst (λ xs. In z (own_of xs)) (sym kept.1.doings) i)) (still o.held.state) in
        subst (λ xs. Walked o.held.state d o x.living xs) (sym kept.1.doings) w

    same_grew : (run.own p o x at there).grew ≡ walked.grew
    same_grew = same_more o.past (run.own p o x at there).grew walked.grew (sym (run.own p o x at there).past ∙ walked.past)

    its_receives : reverse (asked_of from.peers run.turns p) ≡ walked.receives
    its_receives = ap reverse ((run.own p o x at there).asked ∙ ap (λ us. recall asking o.held.state (deeds_of x.steps) us []) same_grew) ∙ walked.asked []

    its_items : posted_for d (operations_of from.peers run.turns p).accepted ≡ walked.items
    its_items = ap (posted_for d) ((run.own p o x at there).accepted ∙ ap (λ us. recall accepting o.held.state (deeds_of x.steps) us []) same_grew) ∙ walked.accepted []

pub heard_in_turn : HeardInTurn
heard_in_turn from opening pasts run p q o r x y at_o at_x at_r at_y kept_x kept_y simple_x simple_y want mine chooses =
    let s0 = r.held.state in
    let wx = walked from opening pasts run p o x at_o at_x kept_x simple_x q in
    let wy = walked from opening pasts run q r y at_r at_y kept_y simple_y q in
    let asked : reverse (asked_of from.peers run.turns q) ≡ wy.receives = its_receives from opening pasts run q r y at_r at_y kept_y simple_y q in
    let sent : posted_for q (operations_of from.peers run.turns p).accepted ≡ wx.items = its_items from opening pasts run p o x at_o at_x kept_x simple_x q in
    let of_post : (f : Receive) → In f (asked_of from.peers run.turns q) → (z : Posting) × In z (postings (own_of y.steps)) × (shown f ≡ shown_post s0 z) = λ f i. (
    let j : In f wy.receives = subst (In f) asked (in_reverse (asked_of from.peers run.turns q) f i) in
    mapped (shown_post s0) (shown f) (postings (own_of y.steps)) (subst (In (shown f)) wy.shows (in_map shown f wy.receives j))) in
    let single : (f : Receive) → In f (asked_of from.peers run.turns q) → f.least ≡ None = λ f i. (let z = of_post f i in ap (λ (k : Shown). k.least) z.2 ∙ chooses.single z.0 z.1) in
    let chosen : IsChosen p want (λ (f : Receive). mine f.ctx) (counts mine) (asked_of from.peers run.turns q) = record {
      directed = chooses.directed;
      single = single;
      wants = λ f i m. (let z = of_post f i in ap (λ (k : Shown). k.want) z.2 ∙ chooses.wants z.0 z.1 (ap (λ (k : Shown). mine k.ctx) (sym z.2) ∙ m));
      apart = λ f s head i m t. (let z = of_post f i in ap (λ (k : Shown). matches k.want s head) z.2 ∙ chooses.apart z.0 s head z.1 (ap (λ (k : Shown). mine k.ctx) (sym z.2) ∙ m) t);
      messages = counts_tells mine;
      own = λ f s head bytes i. counts_own mine f s head bytes (single f i);
    } in
    let plain_all : list_all is_plain (steps_of q run.turns) ≡ true = subst (λ ds. list_all is_plain ds ≡ true) (sym (doings_at pasts q y at_y) ∙ run.deeds q) (deeds_plain y.steps simple_y) in
    let whole : List Item = whole_from from.peers run.turns q p in
    let all = all_told_in_turn from run.turns (plains pasts) run.led q (peer y.living.held.state) (here from opening pasts run q y at_y) p want (λ (f : Receive). mine f.ctx) (counts mine) (peer x.living.held.state) (here from opening pasts run p x at_x) plain_all chosen in
    let first = (run.obeys q y at_y).of_posted p (peer x.living.held.state) (here from opening pasts run p x at_x) in
    let rs : List Receive = filter (λ (f : Receive). mine f.ctx) (reverse (asked_of from.peers run.turns q)) in
    let is_ask : (z : Item) → is_one p want z ≡ true → asks z ≡ true = λ z e. message_asks z.head.kind (is_of_message want p z.head e) in
    let items : filter (is_one p want) (posted_for q (operations_of from.peers run.turns p).accepted) ≡ filter (is_one p want) (whole_from from.peers run.turns q p) ++ filter (is_one p want) first.0 =
    ap (filter (is_one p want)) (sym first.1) ∙ filter-append (is_one p want) (filter asks (whole_from from.peers run.turns q p)) first.0 ∙ ap (λ zs. zs ++ filter (is_one p want) first.0) (twice (is_one p want) asks (whole_from from.peers run.turns q p) is_ask) in
    let more = told_first p rs (filter (is_one p want) (whole_from from.peers run.turns q p)) (filter (is_one p want) first.0) in
    let ends : told p rs (filter (is_one p want) (posted_for q (operations_of from.peers run.turns p).accepted)) ≡ answers p (filter (λ (s : Posting). mine s.ctx) (postings (own_of y.steps))) (filter (wanted want p) (orders_to o.held.state q (own_of x.steps))) =
    ap₂ (λ (cs : List Receive) (bs : List Item). told p (filter (λ (f : Receive). mine f.ctx) cs) (filter (is_one p want) bs)) asked sent
    ∙ told_answers p s0 mine want (filter (λ (f : Receive). mine f.ctx) wy.receives) (filter (λ (s : Posting). mine s.ctx) (postings (own_of y.steps))) (filter (is_one p want) wx.items) (filter (wanted want p) (orders_to o.held.state q (own_of x.steps)))
    (kept_receives p s0 mine want wy.receives (postings (own_of y.steps)) wy.shows) (kept_items p s0 mine want wx.items (orders_to o.held.state q (own_of x.steps)) wx.are) (λ z i. chooses.single z (in_filter (λ (s : Posting). mine s.ctx) (postings (own_of y.steps)) z i)) in
    let ws = y.living.held.state.cq.written in
    let n = y.living.held.state.cq.taken_out in
    let read : entries_of (own_of y.steps) ≡ map (λ (w : Written). w.entry) (take n ws) = own_entries y.steps ∙ (run.own q r y at_r at_y).read in
    let split : filter (counts mine) (map (λ (w : Written). w.entry) ws) ≡ filter (counts mine) (map (λ (w : Written). w.entry) (take n ws)) ++ filter (counts mine) (map (λ (w : Written). w.entry) (drop n ws)) =
    ap (λ zs. filter (counts mine) (map (λ (w : Written). w.entry) zs)) (sym (take-append-drop n ws)) ∙ ap (filter (counts mine)) (map-append (λ (w : Written). w.entry) (take n ws) (drop n ws)) ∙ filter-append (counts mine) (map (λ (w : Written). w.entry) (take n ws)) (map (λ (w : Written). w.entry) (drop n ws)) in (
      filter (counts mine) (map (λ (w : Written). w.entry) (drop n ws)) ++ more.0,
      ap (λ es. filter (counts mine) es ++ (filter (counts mine) (map (λ (w : Written). w.entry) (drop n ws)) ++ more.0)) read
          ∙ sym (append_assoc (filter (counts mine) (map (λ (w : Written). w.entry) (take n ws))) (filter (counts mine) (map (λ (w : Written). w.entry) (drop n ws))) more.0)
          ∙ ap (λ es. es ++ more.0) (sym split ∙ all) ∙ more.1 ∙ ap (λ zs. told p rs zs) (sym items) ∙ ends,
    )
  where
    message_asks : (k : Kind) → is_message k ≡ true → not (is_reply k) ≡ true
    message_asks Msg e = refl
    message_asks TagMsg e = refl
    message_asks Reply e = absurd (cc (e))
    message_asks WriteReq e = refl
    message_asks ReadReq e = refl
    message_asks AtomicReq e = refl
