-- What the definition of a request's performance says of each outcome and of each kind.
use Rattle.std.proofs.Common.{◌≡◌, ◌≢◌, ℕ, ◌+◌, ◌-◌, ◌≤◌, ◌%◌, Bool, true, false, cond, List, [], ◌∷◌, ◌++◌, append_assoc, length, take, drop, Option, Some, None, refl, sym, ap, subst, ◌∙◌, arith}
use Rattle.std.specs.Prelude.{find, nat_lt, IfSome, IsTrue, IsSomeAnd, Result, Ok, Err, MatchOption, OnOk, if◌then◌else◌, slice_set}
use Rattle.std.specs.Option.{option_map}
use Rattle.std.proofs.lemmas.Bool.Decides.{nat_tests}
use Rattle.std.proofs.lemmas.List.{length-drop, length-take-le, take-append-drop, drop-drop}
use Rattle.fab_base.specs.Elements.{element_size, is_of_form, operand_bytes}
use Rattle.fab_base.specs.declared.faults.Fault.{Fault}
use Rattle.fab_base.specs.declared.faults.Fault.TheVariants.{Range, NoKey}
use Rattle.fab_base.specs.declared.items.Access.{Access}
use Rattle.fab_base.specs.declared.items.Atom.{Atom}
use Rattle.fab_base.specs.declared.items.AtomicOp.{AtomicOp}
use Rattle.fab_base.specs.declared.items.AtomicOp.TheVariants.{Min, Max, Sum, Prod, Lor, Land, Lxor, Bor, Band, Bxor, AtomicRead, AtomicWrite, Cswap, CswapNe, CswapLe, CswapLt, CswapGe, CswapGt, Mswap}
use Rattle.fab_base.specs.declared.items.Form.{Form}
use Rattle.fab_base.specs.declared.items.Form.TheVariants.{Base, Fetch, Compare}
use Rattle.fab_base.specs.declared.items.ItemHead.{ItemHead}
use Rattle.fab_base.specs.declared.items.Kind.{Kind}
use Rattle.fab_base.specs.declared.items.Kind.TheVariants.{Msg, TagMsg, WriteReq, ReadReq, AtomicReq, Reply}
use Rattle.fab_base.specs.declared.items.Outcome.{Outcome}
use Rattle.fab_base.specs.declared.items.Outcome.TheVariants.{Done, BadKey, BadAccess, BadRange}
use Rattle.fab_model.specs.State.{Region}
use Rattle.fab_model.specs.Matching.{change_first}
use Rattle.fab_model.specs.Target.{Performed, changed_range, elements, is_keyed, may_access, outcome_of, perform, performed_in, put_range, reach_of, refused_by}
use Rattle.fab_base.specs.Kinds.{is_base}
use Rattle.fab_link.specs.Frames.{IsSound, IsSoundAs, IsSoundAtomic, compare_bytes}
use Rattle.fab_mr.specs.Regions.{reaches_past, region_at}
use Rattle.fab_atomics.specs.Operands.{compare_len, operand_len}
use Rattle.fab_rma.specs.Serving.{Serving, compared, is_request, outcome_at}

-- ---- judging

-- a region that is found has these rights and bytes
pub found : (o : Option Region) (access : Access) (bytes : List ℕ) → Some access ≡ option_map (λ r. r.access) o → Some bytes ≡ option_map (λ r. r.bytes) o
    → (r : Region) × (o ≡ Some r) × (r.access ≡ access) × (r.bytes ≡ bytes)
found None access bytes a b = absurd (cc)
found (Some r) access bytes a b = (r, refl, cc, cc)

pub not_found : {X : Type 0} (f : Region → X) (o : Option Region) → None ≡ option_map f o → o ≡ None
not_found f None e = refl
not_found f (Some r) e = absurd (cc)

module _ (o : Option Region) (head : ItemHead) where
  pub judged_none : o ≡ None → outcome_of o head ≡ BadKey
  unfolding outcome_of
  judged_none none = rw none refl

  pub judged_access : (r : Region) → o ≡ Some r → may_access r.access head ≡ false → outcome_of o head ≡ BadAccess
  unfolding outcome_of
  judged_access r there without = rw (there, without, outcome_of) refl

  pub judged_range : (r : Region) → o ≡ Some r → may_access r.access head ≡ true → (b : Bool) → nat_lt (length r.bytes) (head.at + reach_of head) ≡ b → outcome_of o head ≡ cond b BadRange Done
  unfolding outcome_of
  judged_range r there allowed b range = rw (there, allowed, range, outcome_of) refl

-- a request that is done has its region, and reaches a range of it
pub record IsDone (regions : List Region) (head : ItemHead) : Type 0 where
  pub region : Region
  pub there : region_at regions head.key ≡ Some region
  pub within : head.at + reach_of head ≤ length region.bytes

module _ (regions : List Region) (head : ItemHead) where
  done_range : (r : Region) (b : Bool) → region_at regions head.key ≡ Some r → nat_lt (length r.bytes) (head.at + reach_of head) ≡ b → cond b BadRange Done ≡ Done → IsDone regions head
  done_range r true there range e = absurd (cc)
  done_range r false there range e = record { region = r; there = there; within = grind (arith, nat_tests) }

  done_access : (r : Region) (b : Bool) → region_at regions head.key ≡ Some r → may_access r.access head ≡ b → outcome_at regions head ≡ Done → IsDone regions head
  done_access r true there access e = done_range r (nat_lt (length r.bytes) (head.at + reach_of head)) there refl (sym (judged_range (region_at regions head.key) head r there access _ refl) ∙ e)
  done_access r false there access e = absurd (let bad = judged_access (region_at regions head.key) head r there access in cc)

  done_by : (o : Option Region) → region_at regions head.key ≡ o → outcome_at regions head ≡ Done → IsDone regions head
  done_by None none e = absurd (let bad = judged_none (region_at regions head.key) head none in cc)
  done_by (Some r) there e = done_access r (may_access r.access head) there refl e

  pub is_done : outcome_at regions head ≡ Done → IsDone regions head
  is_done = done_by (region_at regions head.key) refl

  pub is_there : outcome_at regions head ≡ Done → region_at regions head.key ≡ None → ⊥
  is_there done none = (let there = (is_done done).there in absurd (cc))

  -- the bytes that are lent are its
  pub bytes_of : (done : outcome_at regions head ≡ Done) (bytes : List ℕ) → Some bytes ≡ option_map (λ r. r.bytes) (region_at regions head.key) → length bytes ≡ length (is_done done).region.bytes
  bytes_of done bytes lent = (let there = (is_done done).there in let e : Some bytes ≡ Some (is_done done).region.bytes = lent ∙ ap (option_map (λ r. r.bytes)) there in ap length (cc))

  pub lent_region : (done : outcome_at regions head ≡ Done) (bytes : List ℕ) → Some bytes ≡ option_map (λ r. r.bytes) (region_at regions head.key) → (r : Region) × (region_at regions head.key ≡ Some r) × (r.bytes ≡ bytes)
  lent_region done bytes lent = (let there = (is_done done).there in let e : Some bytes ≡ Some (is_done done).region.bytes = lent ∙ ap (option_map (λ r. r.bytes)) there in ((is_done done).region, there, cc))

-- ---- performing

module _ (regions : List Region) (head : ItemHead) (bytes : List ℕ) where
  pub performed : (r : Region) → region_at regions head.key ≡ Some r → outcome_at regions head ≡ Done → perform regions head bytes ≡ performed_in r regions head bytes
  unfolding perform
  performed r there done = rw (done, there, perform) refl

  refused_as : (o : Outcome) → outcome_at regions head ≡ o → o ≢ Done → perform regions head bytes ≡ refused_by o regions
  unfolding perform
  refused_as Done is bad = absurd (bad refl)
  refused_as BadKey is bad = rw (is, perform) refl
  refused_as BadAccess is bad = rw (is, perform) refl
  refused_as BadRange is bad = rw (is, perform) refl

  pub refused : outcome_at regions head ≢ Done → perform regions head bytes ≡ refused_by (outcome_at regions head) regions
  refused bad = refused_as (outcome_at regions head) refl bad

  outcome_by : (o : Outcome) → outcome_at regions head ≡ o → (perform regions head bytes).outcome ≡ o
  outcome_by Done is = (let d = is_done regions head is in ap (λ p. p.outcome) (performed d.region d.there is))
  outcome_by BadKey is = ap (λ p. p.outcome) (refused_as BadKey is (λ e. absurd (cc)))
  outcome_by BadAccess is = ap (λ p. p.outcome) (refused_as BadAccess is (λ e. absurd (cc)))
  outcome_by BadRange is = ap (λ p. p.outcome) (refused_as BadRange is (λ e. absurd (cc)))

  pub outcome_is : (perform regions head bytes).outcome ≡ outcome_at regions head
  outcome_is = outcome_by (outcome_at regions head) refl

module _ {X : Type 0} (test : X → Bool) (f : X → X) (x : X) (same : f x ≡ x) where
  same_step : (y : X) (ys : List X) (b : Bool) → test y ≡ b → cond b (Some y) (find test ys) ≡ Some x → (find test ys ≡ Some x → change_first test f ys ≡ ys) → change_first test f (y ∷ ys) ≡ y ∷ ys
  same_step y ys true is there more = (let e : y ≡ x = cc in rw (is, change_first) (ap (λ z. z ∷ ys) (ap f e ∙ same ∙ sym e)))
  same_step y ys false is there more = rw (is, change_first) (ap (λ zs. y ∷ zs) (more there))

  change_same : (xs : List X) → find test xs ≡ Some x → change_first test f xs ≡ xs
  change_same [] there = absurd (cc)
  change_same (y ∷ ys) there = same_step y ys (test y) refl there (change_same ys)

-- a range put back over itself
put_back : (at n : ℕ) (bytes : List ℕ) → at + n ≤ length bytes → take at bytes ++ take n (drop at bytes) ++ drop (at + length (take n (drop at bytes))) bytes ≡ bytes
put_back at n bytes within =
    let l : length (take n (drop at bytes)) ≡ n = length-take-le n (drop at bytes) (let d = length-drop at bytes in omega (arith, d, within)) in
    rw l (append_assoc (take at bytes) (take n (drop at bytes)) (drop (at + n) bytes)
    ∙ ap (λ xs. take at bytes ++ (take n (drop at bytes) ++ xs)) (sym (drop-drop n at bytes))
    ∙ ap (λ xs. take at bytes ++ xs) (take-append-drop n (drop at bytes)) ∙ take-append-drop at bytes)

pub range_length : (bytes : List ℕ) (at n : ℕ) → at + n ≤ length bytes → length (take n (drop at bytes)) ≡ n
range_length bytes at n within = length-take-le n (drop at bytes) (let l = length-drop at bytes in omega (arith, l, within))

abbrev pub serving : List Region → List ℕ → Serving
serving regions rooms = record { regions = regions; rooms = rooms }

-- ---- each kind, in a region

module _ (r : Region) (regions : List Region) (head : ItemHead) (bytes : List ℕ) where
  in_write : head.kind ≡ WriteReq → ((performed_in r regions head bytes).bytes ≡ []) × ((performed_in r regions head bytes).regions ≡ change_first (is_keyed head.key) (put_range head.at bytes) regions)
  unfolding changed_range
  in_write kind = (rw kind refl, rw (kind, changed_range) refl)

  -- the range of a read or of an atomic
  abbrev reached : List ℕ
  reached = take head.count (drop head.at r.bytes)

  abbrev as_kind : Kind → Option Atom → Performed
  as_kind kind atom = performed_in r regions (record head { kind = kind; atom = atom }) bytes

  in_read : head.kind ≡ ReadReq → ((performed_in r regions head bytes).bytes ≡ reached) × ((performed_in r regions head bytes).regions ≡ change_first (is_keyed head.key) (put_range head.at reached) regions)
  unfolding changed_range
  in_read kind = subst (λ (k : Kind). ((as_kind k head.atom).bytes ≡ reached) × ((as_kind k head.atom).regions ≡ change_first (is_keyed head.key) (put_range head.at reached) regions)) (sym kind) (refl, refl)

  -- of an atomic what it compares with stands behind its operand
  abbrev changed_by : Atom → List Region
  changed_by atom = change_first (is_keyed head.key) (put_range head.at (elements (length reached) atom reached (take (length bytes - compared head.count atom.form) bytes) (drop (length bytes - compared head.count atom.form) bytes))) regions

  in_atomic : (atom : Atom) → head.kind ≡ AtomicReq → head.atom ≡ Some atom → (performed_in r regions head bytes).regions ≡ changed_by atom
  unfolding changed_range
  in_atomic atom kind asked =
      subst (λ (k : Kind). (as_kind k head.atom).regions ≡ changed_by atom) (sym kind)
      (subst (λ (o : Option Atom). (as_kind AtomicReq o).regions ≡ changed_by atom) (sym asked) refl)

  pick : (c b : Bool) → c ≡ b → elim c [ true ↦ [] | false ↦ reached ] ≡ cond b [] reached
  pick true b e = ap (λ (x : Bool). cond x [] reached) e
  pick false b e = ap (λ (x : Bool). cond x [] reached) e

  in_answer : (b : Bool) → head.kind ≡ AtomicReq → is_base head.atom ≡ b → (performed_in r regions head bytes).bytes ≡ cond b [] reached
  in_answer b kind base = subst (λ (k : Kind). (as_kind k head.atom).bytes ≡ cond b [] reached) (sym kind) (pick (is_base head.atom) b base)

-- ---- each kind

module _ (regions : List Region) (head : ItemHead) (bytes : List ℕ) (done : outcome_at regions head ≡ Done) where
  -- a write, of as many bytes as its head names
  pub written : head.kind ≡ WriteReq → (perform regions head bytes).regions ≡ change_first (is_keyed head.key) (put_range head.at bytes) regions
  written kind = (let d = is_done regions head done in ap (λ p. p.regions) (performed regions head bytes d.region d.there done) ∙ (in_write d.region regions head bytes kind).1)

  pub written_nothing : head.kind ≡ WriteReq → (perform regions head bytes).bytes ≡ []
  written_nothing kind = (let d = is_done regions head done in ap (λ p. p.bytes) (performed regions head bytes d.region d.there done) ∙ (in_write d.region regions head bytes kind).0)

  -- a read
  pub read_bytes : head.kind ≡ ReadReq → (r : Region) → region_at regions head.key ≡ Some r → (perform regions head bytes).bytes ≡ take head.count (drop head.at r.bytes)
  read_bytes kind r there = ap (λ p. p.bytes) (performed regions head bytes r there done) ∙ (in_read r regions head bytes kind).0

  pub read_regions : head.kind ≡ ReadReq → (perform regions head bytes).regions ≡ regions
  read_regions kind =
      let d = is_done regions head done in
      let reach : reach_of head ≡ head.count = rw (kind, reach_of) refl in
      let w = d.within in
      ap (λ p. p.regions) (performed regions head bytes d.region d.there done) ∙ (in_read d.region regions head bytes kind).1
      ∙ change_same (is_keyed head.key) (put_range head.at (take head.count (drop head.at d.region.bytes))) d.region (ap (λ bs. record d.region { bytes = bs }) (put_back head.at head.count d.region.bytes (omega (arith, w, reach)))) regions d.there

  -- an atomic
  pub changed_regions : (atom : Atom) → head.kind ≡ AtomicReq → head.atom ≡ Some atom → (r : Region) → region_at regions head.key ≡ Some r → (perform regions head bytes).regions
      ≡ change_first (is_keyed head.key) (put_range head.at (elements (length (take head.count (drop head.at r.bytes))) atom (take head.count (drop head.at r.bytes)) (take (length bytes - compared head.count atom.form) bytes) (drop (length bytes - compared head.count atom.form) bytes))) regions
  changed_regions atom kind asked r there = ap (λ p. p.regions) (performed regions head bytes r there done) ∙ in_atomic r regions head bytes atom kind asked

  pub old_bytes : (b : Bool) → head.kind ≡ AtomicReq → is_base head.atom ≡ b → (r : Region) → region_at regions head.key ≡ Some r → (perform regions head bytes).bytes ≡ cond b [] (take head.count (drop head.at r.bytes))
  old_bytes b kind base r there = ap (λ p. p.bytes) (performed regions head bytes r there done) ∙ in_answer r regions head bytes b kind base

  -- what is handed back, and what is left
  handed : (lent : List ℕ) (r : Region) → region_at regions head.key ≡ Some r → IfSome (region_at regions head.key) (λ r. lent ≡ take head.count (drop head.at r.bytes)) → lent ≡ take head.count (drop head.at r.bytes)
  handed lent r there is = subst (λ (o : Option Region). IfSome o (λ r. lent ≡ take head.count (drop head.at r.bytes))) there is

  pub read_handed : head.kind ≡ ReadReq → (lent : List ℕ) → IfSome (region_at regions head.key) (λ r. lent ≡ take head.count (drop head.at r.bytes)) → lent ≡ (perform regions head bytes).bytes
  read_handed kind lent is = (let d = is_done regions head done in handed lent d.region d.there is ∙ sym (read_bytes kind d.region d.there))

  pub base_bytes : head.kind ≡ AtomicReq → is_base head.atom ≡ true → [] ≡ (perform regions head bytes).bytes
  base_bytes kind base = (let d = is_done regions head done in sym (old_bytes true kind base d.region d.there))

  pub fetched_bytes : head.kind ≡ AtomicReq → is_base head.atom ≡ false → (lent : List ℕ) → IfSome (region_at regions head.key) (λ r. lent ≡ take head.count (drop head.at r.bytes)) → lent ≡ (perform regions head bytes).bytes
  fetched_bytes kind base lent is = (let d = is_done regions head done in handed lent d.region d.there is ∙ sym (old_bytes false kind base d.region d.there))

  pub read_rest : head.kind ≡ ReadReq → (rooms : List ℕ) → serving regions rooms ≡ serving (perform regions head bytes).regions rooms
  read_rest kind rooms = ap (λ (x : List Region). serving x rooms) (sym (read_regions kind))

pub is_write : (kind : Kind) → is_request kind ≡ true → (kind ≡ ReadReq → ⊥) → (kind ≡ AtomicReq → ⊥) → kind ≡ WriteReq
is_write WriteReq is a b = refl
is_write ReadReq is a b = absurd (a refl)
is_write AtomicReq is a b = absurd (b refl)
is_write Msg is a b = absurd (cc)
is_write TagMsg is a b = absurd (cc)
is_write Reply is a b = absurd (cc)

pub reach_total : (head : ItemHead) → head.kind ≡ WriteReq → reach_of head ≡ head.total
reach_total head kind = rw (kind, reach_of) refl

-- ---- a write into a region whose range is within it

module _ (regions new : List Region) (head : ItemHead) (src : List ℕ) (result : Result (Unit {0}) Fault) (done : outcome_at regions head ≡ Done) (len : length src ≡ reach_of head)
    (answer : MatchOption (region_at regions head.key) (result ≡ Err NoKey) (λ r. result ≡ (if reaches_past r head.at (length src) then Err Range else Ok tt)))
    (ok : OnOk result (new ≡ change_first (is_keyed head.key) (put_range head.at src) regions)) where
  pub put_done : new ≡ change_first (is_keyed head.key) (put_range head.at src) regions
  put_done =
      let d = is_done regions head done in
      let within = d.within in
      let inside : reaches_past d.region head.at (length src) ≡ false = grind (arith, nat_tests) in
      let there : result ≡ (if reaches_past d.region head.at (length src) then Err Range else Ok tt) = rw d.there at answer in
      let fine : result ≡ Ok tt = rw inside at there in
      rw fine at ok

-- ---- the parts of an atomic's bytes

sound_as : (kind : Kind) (head : ItemHead) → kind ≡ AtomicReq → (atom : Atom) → head.atom ≡ Some atom → IsSoundAs kind head → IsSoundAtomic head atom
sound_as AtomicReq head is atom asked sound = subst (λ (o : Option Atom). IsSomeAnd o (IsSoundAtomic head)) asked sound
sound_as Msg head is atom asked sound = absurd (cc)
sound_as TagMsg head is atom asked sound = absurd (cc)
sound_as WriteReq head is atom asked sound = absurd (cc)
sound_as ReadReq head is atom asked sound = absurd (cc)
sound_as Reply head is atom asked sound = absurd (cc)

pub sound_atomic : (head : ItemHead) → head.kind ≡ AtomicReq → (atom : Atom) → head.atom ≡ Some atom → IsSound head → IsSoundAtomic head atom
sound_atomic head kind atom asked sound = sound_as head.kind head kind atom asked sound

pub operand_same : (op : AtomicOp) (n : ℕ) → operand_bytes op n ≡ operand_len op n
operand_same Min n = refl
operand_same Max n = refl
operand_same Sum n = refl
operand_same Prod n = refl
operand_same Lor n = refl
operand_same Land n = refl
operand_same Lxor n = refl
operand_same Bor n = refl
operand_same Band n = refl
operand_same Bxor n = refl
operand_same AtomicRead n = refl
operand_same AtomicWrite n = refl
operand_same Cswap n = refl
operand_same CswapNe n = refl
operand_same CswapLe n = refl
operand_same CswapLt n = refl
operand_same CswapGe n = refl
operand_same CswapGt n = refl
operand_same Mswap n = refl

-- an operation of another form compares with nothing
not_compared : (op : AtomicOp) (form : Form) → IsTrue (is_of_form op form) → compare_bytes form 1 ≡ 0 → is_of_form op Compare ≡ false
not_compared Min form is none = refl
not_compared Max form is none = refl
not_compared Sum form is none = refl
not_compared Prod form is none = refl
not_compared Lor form is none = refl
not_compared Land form is none = refl
not_compared Lxor form is none = refl
not_compared Bor form is none = refl
not_compared Band form is none = refl
not_compared Bxor form is none = refl
not_compared AtomicRead form is none = refl
not_compared AtomicWrite form is none = refl
not_compared Cswap Base is none = absurd (cc)
not_compared Cswap Fetch is none = absurd (cc)
not_compared Cswap Compare is none = absurd (omega (arith, none))
not_compared CswapNe Base is none = absurd (cc)
not_compared CswapNe Fetch is none = absurd (cc)
not_compared CswapNe Compare is none = absurd (omega (arith, none))
not_compared CswapLe Base is none = absurd (cc)
not_compared CswapLe Fetch is none = absurd (cc)
not_compared CswapLe Compare is none = absurd (omega (arith, none))
not_compared CswapLt Base is none = absurd (cc)
not_compared CswapLt Fetch is none = absurd (cc)
not_compared CswapLt Compare is none = absurd (omega (arith, none))
not_compared CswapGe Base is none = absurd (cc)
not_compared CswapGe Fetch is none = absurd (cc)
not_compared CswapGe Compare is none = absurd (omega (arith, none))
not_compared CswapGt Base is none = absurd (cc)
not_compared CswapGt Fetch is none = absurd (cc)
not_compared CswapGt Compare is none = absurd (omega (arith, none))
not_compared Mswap Base is none = absurd (cc)
not_compared Mswap Fetch is none = absurd (cc)
not_compared Mswap Compare is none = absurd (omega (arith, none))

pub compare_same : (op : AtomicOp) (form : Form) (n : ℕ) → IsTrue (is_of_form op form) → compare_bytes form n ≡ compare_len op n
compare_same op Compare n is = rw is refl
compare_same op Base n is = rw (not_compared op Base is refl) refl
compare_same op Fetch n is = rw (not_compared op Fetch is refl) refl

compared_same : (form : Form) (count : ℕ) → compared count form ≡ compare_bytes form count
compared_same Compare count = refl
compared_same Base count = refl
compared_same Fetch count = refl

pub reach_count : (head : ItemHead) → head.kind ≡ AtomicReq → reach_of head ≡ head.count
reach_count head kind = rw (kind, reach_of) refl

-- the bytes of an atomic that makes sense: its operand, and what it compares with
pub record Cuts (head : ItemHead) (atom : Atom) (bytes : List ℕ) (n : ℕ) : Type 0 where
  pub whole : head.count % element_size atom.num ≡ 0
  pub few : head.count ≤ 4096
  pub operand : length bytes - n ≡ operand_len atom.op head.count
  pub compare : n ≡ compare_len atom.op head.count
  pub within : n ≤ length bytes

pub cuts : (head : ItemHead) (atom : Atom) (bytes : List ℕ) (n : ℕ) → IsSoundAtomic head atom → length bytes ≡ head.total → n ≡ compared head.count atom.form → Cuts head atom bytes n
cuts head atom bytes n sound len is =
    let total = sound.bytes in
    let c = compared_same atom.form head.count in
    record {
      whole = sound.whole;
      few = sound.few;
      operand = (let o : length bytes - n ≡ operand_bytes atom.op head.count = omega (arith, total, c, len, is) in o ∙ operand_same atom.op head.count);
      compare = is ∙ c ∙ compare_same atom.op atom.form head.count sound.of_form;
      within = omega (arith, total, c, len, is);
    }

-- ---- an atomic is done

module _ (regions : List Region) (head : ItemHead) (atom : Atom) (bytes range : List ℕ) (n : ℕ) (kind : head.kind ≡ AtomicReq) (asked : head.atom ≡ Some atom) (sound : IsSound head) (len : length bytes ≡ head.total)
    (done : outcome_at regions head ≡ Done) (lent : Some range ≡ option_map (λ r. r.bytes) (region_at regions head.key)) (is : n ≡ compared head.count atom.form) where
  pub reached_within : head.at + head.count ≤ length range
  reached_within =
      let d = is_done regions head done in
      let same = bytes_of regions head done range lent in
      let count = reach_count head kind in
      let w = d.within in
      omega (arith, same, count, w)

  pub cut : Cuts head atom bytes n
  cut = cuts head atom bytes n (sound_atomic head kind atom asked sound) len is

  module _ (part : List ℕ) (part_is : part ≡ take head.count (drop head.at range)) where
    pub part_len : length part ≡ head.count
    part_len = ap length part_is ∙ range_length range head.at head.count reached_within

    pub atomic_done : (src operand compare : List ℕ) → operand ≡ take (length bytes - n) bytes → compare ≡ drop (length bytes - n) bytes → length src ≡ length part → src ≡ elements (length part) atom part operand compare
        → (new : List Region) (result : Result (Unit {0}) Fault) → MatchOption (region_at regions head.key) (result ≡ Err NoKey) (λ r. result ≡ (if reaches_past r head.at (length src) then Err Range else Ok tt))
        → OnOk result (new ≡ change_first (is_keyed head.key) (put_range head.at src) regions) → new ≡ (perform regions head bytes).regions
    atomic_done src operand compare o c l src_is new result answer ok =
        let there = lent_region regions head done range lent in
        let whole = changed_regions regions head bytes done atom kind asked there.0 there.1 in
        let same : elements (length part) atom part operand compare ≡ elements (length (take head.count (drop head.at there.0.bytes))) atom (take head.count (drop head.at there.0.bytes)) (take (length bytes - compared head.count atom.form) bytes) (drop (length bytes - compared head.count atom.form) bytes) =
        rw (part_is, o, c, is, there.2) refl in
        put_done regions new head src result done (l ∙ part_len ∙ sym (reach_count head kind)) answer ok ∙ ap (λ xs. change_first (is_keyed head.key) (put_range head.at xs) regions) (src_is ∙ same) ∙ sym whole

-- ---- the whole target

module _ (head : ItemHead) (bytes : List ℕ) where
  pub served : (s t : Serving) (rs : List Region) → s ≡ t → rs ≡ (perform s.regions head bytes).regions → serving rs s.rooms ≡ record t { regions = (perform t.regions head bytes).regions }
  served s t rs is e = subst (λ (t : Serving). serving rs s.rooms ≡ record t { regions = (perform t.regions head bytes).regions }) is (ap (λ (x : List Region). serving x s.rooms) e)

  -- a write whose room is let go
  pub wrote : (s t : Serving) (rs : List Region) (rooms : List ℕ) (source : ℕ) → s ≡ t → outcome_at t.regions head ≡ Done → head.kind ≡ WriteReq → rs ≡ change_first (is_keyed head.key) (put_range head.at bytes) s.regions
      → rooms ≡ slice_set s.rooms source 0 → serving rs rooms ≡ serving (perform t.regions head bytes).regions (slice_set t.rooms source 0)
  wrote s t rs rooms source is done kind put used =
      let same : rs ≡ (perform t.regions head bytes).regions = put ∙ ap (λ (s : Serving). change_first (is_keyed head.key) (put_range head.at bytes) s.regions) is ∙ sym (written t.regions head bytes done kind) in
      let left : rooms ≡ slice_set t.rooms source 0 = used ∙ ap (λ (s : Serving). slice_set s.rooms source 0) is in
      ap (λ (x : List Region). serving x rooms) same ∙ ap (λ (x : List ℕ). serving (perform t.regions head bytes).regions x) left
