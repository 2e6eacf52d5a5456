-- Requests: why they are refused, and that they are the machine's.
use Rattle.std.proofs.Common.{◌≡◌, ℕ, ◌+◌, ◌%◌, ◌<◌, ◌≤◌, Bool, true, false, not, ◌&&◌, ◌||◌, ◌==◌, List, [], ◌∷◌, length, Option, Some, None, refl, sym, ap, ◌∙◌, subst, arith}
use Rattle.std.specs.Prelude.{is_none, min, nat_le, IfSome, IfNone, IfErr, Result, Err}
use Rattle.std.proofs.lemmas.Bool.{eqb-true, leb-false, ltb-false, or_parts as both_false}
use Rattle.fab_base.specs.Elements.{element_size, is_of_form}
use Rattle.fab_base.specs.declared.faults.Fault.{Fault}
use Rattle.fab_base.specs.declared.faults.Fault.TheVariants.{NotSupported, MsgSize, Invalid, NoEntry}
use Rattle.fab_base.specs.declared.items.AtomicOp.{AtomicOp}
use Rattle.fab_base.specs.declared.items.AtomicOp.TheVariants.{Min, Max, Sum, Prod, Lor, Land, Lxor, Bor, Band, Bxor, AtomicRead, AtomicWrite, Cswap, CswapNe, CswapLe, CswapLt, CswapGe, CswapGt, Mswap}
use Rattle.fab_base.specs.declared.items.Form.{Form}
use Rattle.fab_base.specs.declared.items.Form.TheVariants.{Base, Fetch, Compare}
use Rattle.fab_base.specs.declared.items.Kind.{Kind}
use Rattle.fab_base.specs.declared.items.Kind.TheVariants.{Msg, TagMsg, WriteReq, ReadReq, AtomicReq, Reply}
use Rattle.fab_base.specs.declared.peers.LineResult.TheVariants.{Done, Refused}
use Rattle.fab_link.specs.Frames.{IsSound, operand_bytes, compare_bytes}
use Rattle.fab_base.specs.Replies.{is_reply}
use Rattle.fab_base.specs.Kinds.{is_message}
use Rattle.fab_model.specs.State.{State, in_use, lookup}
use Rattle.fab_model.specs.Sending.{Order, first_fault, head_of, is_granted, is_too_long, is_well_formed, most_bytes, transmit, transmit_to}
use Rattle.fab_model.specs.Calls.{Transmit, do_call}
use Rattle.fab_face.specs.Acts.{DoesCall}
use Rattle.fab_face.specs.Answers.{is_final}
use Rattle.fab_face.specs.Requesting.{atom_asked, kind_asked, order_asked, requesting}
use Rattle.fab_face.specs.declared.requesting.Asked.{Asked}
use Rattle.fab_face.specs.declared.requesting.Asked.TheVariants.{Read, Write, Atomic}
use Rattle.fab_face.specs.declared.requesting.Request.{Request}
use Rattle.fab_core.proofs.Made.{none_made}
use Rattle.fab_core.specs.Parts.{Parts, held_of, state_of}
use Rattle.fab_core.specs.Asking.{accepted_as}
use Rattle.fab_core.specs.Doing.{lasting_transmit}
use Rattle.fab_core.proofs.Calling.{not_lasting, three, transmit_done, transmit_final, transmit_passing, transmit_refused}

-- ---- refusals

module _ (s : State) (r : Request) (bytes compared : List ℕ) (f : Option Fault) (is : f ≡ lasting_transmit s (order_asked r bytes compared None)) where
  pub if_asked_some : IfSome f (λ why. (buf : Option (List ℕ)) → do_call s (requesting r bytes compared buf) ≡ (Refused why, s))
  if_asked_some = by f refl
    where
      by : (g : Option Fault) → f ≡ g → IfSome g (λ why. (buf : Option (List ℕ)) → do_call s (requesting r bytes compared buf) ≡ (Refused why, s))
      by None e = tt
      by (Some why) e = λ buf. transmit_refused s (order_asked r bytes compared buf) why (sym is ∙ e)

  pub if_asked_lasting : IfSome f (λ why. is_final (Refused why) ≡ true)
  if_asked_lasting = by f refl
    where
      by : (g : Option Fault) → f ≡ g → IfSome g (λ why. is_final (Refused why) ≡ true)
      by None e = tt
      by (Some why) e = transmit_final s (order_asked r bytes compared None) why (sym is ∙ e)

  pub if_asked_none : IfNone f ((buf : Option (List ℕ)) → is_final (do_call s (requesting r bytes compared buf)).0 ≡ false)
  if_asked_none = by f refl
    where
      by : (g : Option Fault) → f ≡ g → IfNone g ((buf : Option (List ℕ)) → is_final (do_call s (requesting r bytes compared buf)).0 ≡ false)
      by None e = λ buf. transmit_passing s (order_asked r bytes compared buf) (sym is ∙ e)
      by (Some why) e = tt

-- ---- acceptance

accepted_as_is : (p : Parts) (t : ℕ) (o : Order) → transmit_to t (state_of p) o ≡ state_of (accepted_as t o p)
unfolding transmit_to
accepted_as_is p t o = refl

pub asks : (p : Parts) (t : ℕ) (o : Order) (q : Parts) → lookup p.av.indices o.dest ≡ Some t → is_final (do_call (state_of p) (Transmit o)).0 ≡ false → nat_le p.tx.most (in_use p.tx.tx) ≡ false
    → q ≡ accepted_as t o p → DoesCall (Some (Transmit o)) (held_of p) (held_of q)
unfolding transmit
asks p t o q there granted room is =
    let none = not_lasting (state_of p) o granted in
    let goes : transmit (state_of p) o ≡ state_of (accepted_as t o p) = to_peer ∙ accepted_as_is p t o in
    rw is (transmit_done (state_of p) o none room ∙ ap (λ (s : State). (Done, s)) goes, none_made (Transmit o) (held_of p) (state_of (accepted_as t o p)) refl)
  where
    to_peer : transmit (state_of p) o ≡ transmit_to t (state_of p) o
    to_peer = rw (transmit, there) refl

-- ---- the tests that a call passed that is not refused for good

or_false : (a b c : Bool) → (a || b || not c) ≡ false → (a ≡ false) × (b ≡ false) × (c ≡ true)
or_false true b c e = absurd (cc)
or_false false true c e = absurd (cc)
or_false false false false e = absurd (cc)
or_false false false true e = (refl, refl, refl)

most_in_word : (most : ℕ) (kind : Kind) (injected : Bool) → most < 4_294_967_296 → most_bytes most kind injected < 4_294_967_296
most_in_word most AtomicReq true word = omega (arith, word)
most_in_word most AtomicReq false word = omega (arith, word)
most_in_word most Msg true word = omega (arith, word)
most_in_word most Msg false word = omega (arith, word)
most_in_word most TagMsg true word = omega (arith, word)
most_in_word most TagMsg false word = omega (arith, word)
most_in_word most WriteReq true word = omega (arith, word)
most_in_word most WriteReq false word = omega (arith, word)
most_in_word most ReadReq true word = omega (arith, word)
most_in_word most ReadReq false word = omega (arith, word)
most_in_word most Reply true word = omega (arith, word)
most_in_word most Reply false word = omega (arith, word)

module _ (p : Parts) (o : Order) (granted : is_final (do_call (state_of p) (Transmit o)).0 ≡ false) where
  passed : (is_too_long p.most_message o ≡ false) × ((is_none (lookup p.av.indices o.dest) || nat_le 4_611_686_018_427_387_904 p.tx.tx.ops || not (is_well_formed o o.atom)) ≡ false)
  passed = three (not (is_granted p.caps o.kind o.atom)) (is_too_long p.most_message o) (is_none (lookup p.av.indices o.dest) || nat_le 4_611_686_018_427_387_904 p.tx.tx.ops || not (is_well_formed o o.atom)) (not_lasting (state_of p) o granted)

  valid : (is_none (lookup p.av.indices o.dest) ≡ false) × (nat_le 4_611_686_018_427_387_904 p.tx.tx.ops ≡ false) × (is_well_formed o o.atom ≡ true)
  valid = or_false _ _ _ passed.1

  -- its peer stands in the address vector
  pub stands : (r : Result ℕ Fault) (why : Fault) → IfErr r (λ fault. (fault ≡ NoEntry) × (lookup p.av.indices o.dest ≡ None)) → r ≡ Err why → ⊥
  stands r why all is =
      let gone : lookup p.av.indices o.dest ≡ None = (subst (λ (r : Result ℕ Fault). IfErr r (λ fault. (fault ≡ NoEntry) × (lookup p.av.indices o.dest ≡ None))) is all).1 in
      let there : is_none (lookup p.av.indices o.dest) ≡ false = valid.0 in
      let not_there : is_none (lookup p.av.indices o.dest) ≡ true = ap is_none gone in
      absurd (cc)

  pub counts : p.tx.tx.ops < 4_611_686_018_427_387_904
  counts = leb-false _ _ valid.1

  pub formed : is_well_formed o o.atom ≡ true
  formed = valid.2

  pub short : length o.bytes + length o.compared ≤ most_bytes p.most_message o.kind o.injected
  short = ltb-false (most_bytes p.most_message o.kind o.injected) (length o.bytes + length o.compared) (both_false _ _ passed.0).0

  pub few_counted : o.count ≤ most_bytes p.most_message o.kind o.injected
  few_counted = ltb-false (most_bytes p.most_message o.kind o.injected) o.count (both_false _ _ passed.0).1

  pub bytes_word : p.most_message < 4_294_967_296 → length o.bytes < 4_294_967_296
  bytes_word word = (let s = short in let most = most_in_word p.most_message o.kind o.injected word in omega (arith, s, most))

  pub count_word : p.most_message < 4_294_967_296 → o.count < 4_294_967_296
  count_word word = (let s = few_counted in let most = most_in_word p.most_message o.kind o.injected word in omega (arith, s, most))

  pub few_copied : min (most_bytes p.most_message o.kind o.injected) (length o.bytes + length o.compared) ≤ 4_096 → length o.bytes + length o.compared ≤ 4_096
  few_copied least = (let s = short in omega (arith, s, least))

-- ---- the head of a request makes sense

pub asks_no_reply : (a : Asked) → is_reply (kind_asked a) ≡ false
asks_no_reply Read = refl
asks_no_reply Write = refl
asks_no_reply (Atomic atom) = refl

pub asks_no_message : (a : Asked) → is_message (kind_asked a) ≡ false
asks_no_message Read = refl
asks_no_message Write = refl
asks_no_message (Atomic atom) = refl

operand_is : (op : AtomicOp) (n : ℕ) → elim op [ AtomicRead ↦ 0 | _ ↦ n ] ≡ operand_bytes op n
operand_is Min n = refl
operand_is Max n = refl
operand_is Sum n = refl
operand_is Prod n = refl
operand_is Lor n = refl
operand_is Land n = refl
operand_is Lxor n = refl
operand_is Bor n = refl
operand_is Band n = refl
operand_is Bxor n = refl
operand_is AtomicRead n = refl
operand_is AtomicWrite n = refl
operand_is Cswap n = refl
operand_is CswapNe n = refl
operand_is CswapLe n = refl
operand_is CswapLt n = refl
operand_is CswapGe n = refl
operand_is CswapGt n = refl
operand_is Mswap n = refl

compare_is : (form : Form) (n : ℕ) → elim form [ Base ↦ 0 | Fetch ↦ 0 | Compare ↦ n ] ≡ compare_bytes form n
compare_is Base n = refl
compare_is Fetch n = refl
compare_is Compare n = refl

five : (a b c d e : Bool) → (a && b && c && d && e) ≡ true → (a ≡ true) × (b ≡ true) × (c ≡ true) × (d ≡ true) × (e ≡ true)
five false b c d e is = absurd (cc)
five true false c d e is = absurd (cc)
five true true false d e is = absurd (cc)
five true true true false e is = absurd (cc)
five true true true true false is = absurd (cc)
five true true true true true is = (refl, refl, refl, refl, refl)

module _ (p : Parts) (r : Request) (bytes compared : List ℕ) (buf : Option (List ℕ)) (granted : is_final (do_call (state_of p) (requesting r bytes compared buf)).0 ≡ false) where
  abbrev o : Order
  o = order_asked r bytes compared buf

  pub sound : IsSound (head_of p.tx.tx.ops o)
  sound = by r.asked refl
    where
      by : (a : Asked) → r.asked ≡ a → IsSound (head_of p.tx.tx.ops o)
      by Read e = rw e refl
      by Write e = rw e refl
      by (Atomic atom) e =
          let well : is_well_formed o (Some atom) ≡ true = subst (λ (a : Asked). is_well_formed o (atom_asked a) ≡ true) e (formed p o granted) in
          let all = five (r.at % element_size atom.num == 0) (r.count % element_size atom.num == 0) (is_of_form atom.op atom.form) (length bytes == elim atom.op [ AtomicRead ↦ 0 | _ ↦ r.count ]) (length compared == elim atom.form [ Base ↦ 0 | Fetch ↦ 0 | Compare ↦ r.count ]) well in
          let operand : length bytes ≡ operand_bytes atom.op r.count = eqb-true _ _ all.3 ∙ operand_is atom.op r.count in
          let compare : length compared ≡ compare_bytes atom.form r.count = eqb-true _ _ all.4 ∙ compare_is atom.form r.count in
          let few : r.count ≤ 4_096 = subst (λ (a : Asked). r.count ≤ most_bytes p.most_message (kind_asked a) (is_none r.ctx)) e (few_counted p o granted) in
          rw e (record {
            of_form = all.2;
            aligned = eqb-true _ _ all.0;
            whole = eqb-true _ _ all.1;
            few = few;
            bytes = rw (operand, compare) refl;
          })
