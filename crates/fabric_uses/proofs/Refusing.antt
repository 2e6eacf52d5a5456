-- A transmit call is refused for now where all operations are in use, and for no other reason.
use Rattle.std.proofs.Common.{◌≡◌, ◌≤◌, ◌<◌, ℕ, Bool, true, false, ◌||◌, not, List, [], ◌∷◌, nat_le, Option, Some, None, Result, Ok, Err, refl, sym, ap, subst, arith}
use Rattle.std.proofs.lemmas.Bool.{leb-true}
use Rattle.std.specs.Prelude.{IfErr, IfSome, is_none}
use Rattle.fabric.specs.Acts.{Act, GoesBy}
use Rattle.fabric.specs.Answers.{SendsNot}
use Rattle.fabric.specs.Calls.{Transmit as TransmitCall, answer, do_call}
use Rattle.fabric.specs.Cleared.{is_log_full}
use Rattle.fabric.specs.Held.{Held, Seen}
use Rattle.fabric.specs.Sending.{Order, first_fault, is_granted, is_too_long, is_well_formed, transmit, transmit_fault}
use Rattle.fabric.specs.State.{State, in_use, lookup}
use Rattle.fabric.specs.Words.{Again, Avail, Busy, CqFull, Fault, Invalid, LineResult, LogFull, MsgSize, NoData, NoEntry, NoKey, NoMemory, NotSupported, PostedFull, Range, Refused, TxFull}
use Rattle.fabric_uses.specs.Uses.{is_again, may_refuse_send, most_in}

by_tests : (granted long known full : Bool) (most : ℕ) (s t after : State) (busy : Busy)
    → answer (first_fault ((granted, NotSupported) ∷ (long, MsgSize) ∷ (known, Invalid) ∷ (full, Again (TxFull most)) ∷ [])) s after ≡ (Refused (Again busy), t) → (busy ≡ TxFull most) × (full ≡ true)
by_tests true long known full most s t after busy e = (let no : Refused NotSupported ≡ Refused (Again busy) = ap (λ (p : LineResult × State). p.0) e in absurd (cc (no)))
by_tests false true known full most s t after busy e = (let no : Refused MsgSize ≡ Refused (Again busy) = ap (λ (p : LineResult × State). p.0) e in absurd (cc (no)))
by_tests false false true full most s t after busy e = (let no : Refused Invalid ≡ Refused (Again busy) = ap (λ (p : LineResult × State). p.0) e in absurd (cc (no)))
by_tests false false false true most s t after busy e = (let is : Refused (Again (TxFull most)) ≡ Refused (Again busy) = ap (λ (p : LineResult × State). p.0) e in (cc (is), refl))
by_tests false false false false most s t after busy e = (let no : LineResult.Done ≡ Refused (Again busy) = ap (λ (p : LineResult × State). p.0) e in absurd (cc (no)))

only_full : (s : State) (o : Order) (busy : Busy) (t : State) → do_call s (TransmitCall o) ≡ (Refused (Again busy), t) → (busy ≡ TxFull s.most_tx) × (s.most_tx ≤ in_use s.tx)
unfolding do_call transmit_fault
only_full s o busy t e =
    let told = by_tests (not (is_granted s.caps o.kind o.atom)) (is_too_long s.most_message o) (is_none (lookup s.av o.dest) || nat_le 4_611_686_018_427_387_904 s.tx.ops || not (is_well_formed o o.atom))
    (nat_le s.most_tx (in_use s.tx)) s.most_tx s t (transmit s o) busy e in
    (told.0, leb-true s.most_tx (in_use s.tx) told.1)

-- what a send is refused for
pub may_refuse : {Home : Type 0} (fixed : Bool) (o : Order) (old new : Seen Home) (why : Fault) → SendsNot fixed (TransmitCall o) old new why → is_log_full why ≡ false → may_refuse_send why ≡ true
may_refuse fixed o old new (Again (TxFull n)) r never = refl
may_refuse fixed o old new (Again (PostedFull n)) r never = (let told = (only_full new.held.state o (PostedFull n) new.held.state r.judged.0).0 in absurd (cc (told)))
may_refuse fixed o old new (Again (CqFull n)) r never = (let told = (only_full new.held.state o (CqFull n) new.held.state r.judged.0).0 in absurd (cc (told)))
may_refuse fixed o old new (Again (LogFull n)) r never = absurd (cc (never))
may_refuse fixed o old new NoMemory r never = refl
may_refuse fixed o old new NoData r never = refl
may_refuse fixed o old new Invalid r never = refl
may_refuse fixed o old new NoKey r never = refl
may_refuse fixed o old new Range r never = refl
may_refuse fixed o old new MsgSize r never = refl
may_refuse fixed o old new NotSupported r never = refl
may_refuse fixed o old new NoEntry r never = refl
may_refuse fixed o old new Avail r never = refl

full_by : {Home : Type 0} (fixed : Bool) (o : Order) (old new : Seen Home) (why : Fault) → SendsNot fixed (TransmitCall o) old new why
    → IfSome (most_in why) (λ most. (most ≡ new.held.state.most_tx) × (most ≤ in_use new.held.state.tx))
full_by fixed o old new (Again (TxFull n)) r =
    let told = only_full new.held.state o (TxFull n) new.held.state r.judged.0 in
    let is : n ≡ new.held.state.most_tx = (let same = told.0 in cc (same)) in
    (is, subst (λ m. m ≤ in_use new.held.state.tx) (sym is) told.1)
full_by fixed o old new (Again (PostedFull n)) r = tt
full_by fixed o old new (Again (CqFull n)) r = tt
full_by fixed o old new (Again (LogFull n)) r = tt
full_by fixed o old new NoMemory r = tt
full_by fixed o old new NoData r = tt
full_by fixed o old new Invalid r = tt
full_by fixed o old new NoKey r = tt
full_by fixed o old new Range r = tt
full_by fixed o old new MsgSize r = tt
full_by fixed o old new NotSupported r = tt
full_by fixed o old new NoEntry r = tt
full_by fixed o old new Avail r = tt

both_told : (P Q : ℕ → Type 0) (r o : Option ℕ) → r ≡ o → IfSome o (λ x. P x × Q x) → IfSome r P × IfSome r Q
both_told P Q None o e both = (tt, tt)
both_told P Q (Some x) o e both = (let here : IfSome (Some x) (λ y. P y × Q y) = subst (λ (p : Option ℕ). IfSome p (λ y. P y × Q y)) (sym e) both in here)

pub full_told : {Home : Type 0} (fixed : Bool) (o : Order) (old new : Seen Home) (why : Fault) (r : Option ℕ) → r ≡ most_in why → SendsNot fixed (TransmitCall o) old new why
    → IfSome r (λ most. most ≡ new.held.state.most_tx) × IfSome r (λ most. most ≤ in_use new.held.state.tx)
full_told fixed o old new why r e refused =
    both_told (λ most. most ≡ new.held.state.most_tx) (λ most. most ≤ in_use new.held.state.tx) r (most_in why) e (full_by fixed o old new why refused)

-- ---- where no operation is under way

module _ {Home : Type 0} (fixed : Bool) (o : Order) (old new : Seen Home) (quiet : in_use old.held.state.tx ≡ 0) (some : 0 < old.held.state.most_tx) where
  not_full : (n : ℕ) → SendsNot fixed (TransmitCall o) old new (Again (TxFull n)) → ⊥
  not_full n r = by r.acts refl
    where
      by : (acts : List Act) → r.acts ≡ acts → ⊥
      by [] none =
          let same : old.held ≡ new.held = subst (λ (acts : List Act). GoesBy (Some (TransmitCall o)) old.held acts new.held) none r.went.goes in
          let full = (only_full new.held.state o (TxFull n) new.held.state r.judged.0).1 in
          let was : old.held.state.most_tx ≤ in_use old.held.state.tx = subst (λ (h : Held). h.state.most_tx ≤ in_use h.state.tx) (sym same) full in
          omega (arith, was, quiet, some)
      by (act ∷ acts) more = (let was : old.held.state.most_tx ≤ in_use old.held.state.tx = r.only_if_full (λ none. cc (more, none)) in omega (arith, was, quiet, some))

  pub never_again : (why : Fault) → SendsNot fixed (TransmitCall o) old new why → is_log_full why ≡ false → is_again why ≡ false
  never_again (Again (TxFull n)) r never = absurd (not_full n r)
  never_again (Again (PostedFull n)) r never = (let told = (only_full new.held.state o (PostedFull n) new.held.state r.judged.0).0 in absurd (cc (told)))
  never_again (Again (CqFull n)) r never = (let told = (only_full new.held.state o (CqFull n) new.held.state r.judged.0).0 in absurd (cc (told)))
  never_again (Again (LogFull n)) r never = absurd (cc (never))
  never_again NoMemory r never = refl
  never_again NoData r never = refl
  never_again Invalid r never = refl
  never_again NoKey r never = refl
  never_again Range r never = refl
  never_again MsgSize r never = refl
  never_again NotSupported r never = refl
  never_again NoEntry r never = refl
  never_again Avail r never = refl

pub err_both : {T E : Type 0} (P N Q : E → Type 0) (r : Result T E) → ((e : E) → P e → N e → Q e) → IfErr r P → IfErr r N → IfErr r Q
err_both P N Q (Ok v) f p n = tt
err_both P N Q (Err e) f p n = f e p n
