-- A run that ends with a line not done is of no script that is settled and whose answer does all lines.
use Rattle.std.proofs.Common.{◌≡◌, ◌≢◌, ◌≤◌, ◌∙◌, ℕ, Bool, true, false, List, [], ◌∷◌, Option, Some, None, refl, sym, ap, subst, arith}
use Rattle.fab_base.specs.declared.script.Bound.{Bound}
use Rattle.fab_base.specs.declared.script.Payload.{Payload}
use Rattle.fab_base.specs.declared.script.Script.{Script}
use Rattle.fab_base.specs.declared.status.Status.{Status}
use Rattle.fab_base.specs.declared.status.Status.TheVariants.{Stuck}
use Rattle.fab_answer.specs.Laws.{DoneAtRest}
use Rattle.fab_model.specs.Report.{traces}
use Rattle.fab_grammar.specs.Grammar.{script_of}
use Rattle.fab_outside.specs.Commands.{script_file}
use Rattle.fab_outside.specs.Loading.{AreWhole, Files, IsRead}
use Rattle.fab_top.specs.Runs.{DoesAll, MayStick, NeverSticks, Reports}

-- where a run of the script ended with a line not done
pub not_all : DoneAtRest → (bound : Bound) (text : List ℕ) (done : Bool) → 1 ≤ bound.script.conf.info.tx → 2 ≤ bound.script.conf.info.cq → Reports bound text done → done ≡ false → DoesAll bound → ⊥
not_all law bound text done tx cq reports none does =
    let all = law bound (traces text) does.0 (tx, omega (arith, cq)) reports.lawful reports.rest in
    let is : true ≡ false = sym does.1 ∙ sym all ∙ reports.done_is ∙ none in
    cc (is)

pub may_stick : DoneAtRest → (files : Files) (words : List (List ℕ)) (file : List ℕ) (bound : Bound) (text : List ℕ) (done : Bool) → script_file words ≡ Some file → IsRead files file bound → 1 ≤ bound.script.conf.info.tx → 2 ≤ bound.script.conf.info.cq
    → Reports bound text done → done ≡ false → MayStick files words
may_stick law files words file bound text done command read tx cq reports none = (file, bound, command, read, not_all law bound text done tx cq reports none)

-- ---- a file that is told spells one script

same_files : (f : List ℕ → Option (List ℕ)) (payloads : List Payload) (xs ys : List (List ℕ)) → AreWhole (Some f) payloads xs → AreWhole (Some f) payloads ys → xs ≡ ys
same_files f [] [] [] a b = refl
same_files f [] [] (y ∷ ys) a b = absurd b
same_files f [] (x ∷ xs) ys a b = absurd a
same_files f (p ∷ ps) [] ys a b = absurd a
same_files f (p ∷ ps) (x ∷ xs) [] a b = absurd b
same_files f (p ∷ ps) (x ∷ xs) (y ∷ ys) (a, more) (b, others) =
    let first : x ≡ y = (let e : Some x ≡ Some y = sym a.0 ∙ b.0 in cc) in
    let rest = same_files f ps xs ys more others in
    ap (λ z. z ∷ xs) first ∙ ap (λ zs. y ∷ zs) rest

pub same_bound : (f : List ℕ → Option (List ℕ)) (file : List ℕ) (a b : Bound) → IsRead (Some f) file a → IsRead (Some f) file b → a ≡ b
same_bound f file a b r s =
    let bytes : r.spells.0 ≡ s.spells.0 = (let e : Some r.spells.0 ≡ Some s.spells.0 = sym r.spells.1.0 ∙ s.spells.1.0 in cc) in
    let script : a.script ≡ b.script = (let e : Some a.script ≡ Some b.script = sym r.spells.2 ∙ ap script_of bytes ∙ s.spells.2 in cc) in
    let files : a.files ≡ b.files = same_files f b.script.payloads a.files b.files (subst (λ (x : Script). AreWhole (Some f) x.payloads a.files) script r.whole) s.whole in
    ap (λ (x : Script). let y : Bound = record { script = x; files = a.files } in y) script ∙ ap (λ (x : List (List ℕ)). let y : Bound = record { script = b.script; files = x } in y) files

pub never_sticks : (files : Files) (words : List (List ℕ)) → NeverSticks files words → MayStick files words → ⊥
never_sticks None words whole may = absurd whole.0
never_sticks (Some f) words (told, (file, bound, command, read, does)) (other, found, names, spelt, not) =
    let same : other ≡ file = (let e : Some other ≡ Some file = sym names ∙ command in cc) in
    let is : found ≡ bound = same_bound f file found bound (subst (λ (x : List ℕ). IsRead (Some f) x found) same spelt) read in
    not (subst (λ (b : Bound). DoesAll b) (sym is) does)

pub never : (files : Files) (words : List (List ℕ)) (status : Status) → (status ≡ Stuck → MayStick files words) → NeverSticks files words → status ≢ Stuck
never files words status may whole is = never_sticks files words whole (may is)
