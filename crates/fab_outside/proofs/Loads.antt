-- The files of `payload` lines, loaded one after another.
use Rattle.std.proofs.Common.{◌≡◌, ◌<◌, ◌≤◌, ◌+◌, ℕ, suc, List, [], ◌∷◌, ◌++◌, length, take, drop, get_or, Option, Some, refl, sym, ap, subst, ◌∙◌}
use Rattle.std.proofs.lemmas.List.{take_more, drop_more, take-append-drop}
use Rattle.fab_base.specs.declared.script.Payload.{Payload}
use Rattle.fab_base.specs.declared.status.Status.{Status}
use Rattle.fab_base.specs.declared.status.Status.TheVariants.{Done, Stuck, Usage, ScriptRefused, TooLong, ReadFault, WriteFault, NoMemory}
use Rattle.fab_base.proofs.Numbers.{rose_later}
use Rattle.fab_outside.specs.Loading.{Files, IsWhole, IsOver, AreWhole, Reaches, IsUnloaded, AreUnloaded}

pub whole_length : (files : Files) (payloads : List Payload) (all : List (List ℕ)) → AreWhole files payloads all → length all ≡ length payloads
whole_length files [] [] whole = refl
whole_length files [] (bytes ∷ all) whole = absurd whole
whole_length files (payload ∷ payloads) [] whole = absurd whole
whole_length files (payload ∷ payloads) (bytes ∷ all) whole = ap suc (whole_length files payloads all whole.1)

-- one more
whole_then : (files : Files) (payloads : List Payload) (all : List (List ℕ)) (payload : Payload) (bytes : List ℕ) → AreWhole files payloads all → IsWhole files payload.name bytes
    → AreWhole files (payloads ++ payload ∷ []) (all ++ bytes ∷ [])
whole_then files [] [] payload bytes whole is = (is, tt)
whole_then files [] (x ∷ all) payload bytes whole is = absurd whole
whole_then files (p ∷ payloads) [] payload bytes whole is = absurd whole
whole_then files (p ∷ payloads) (x ∷ all) payload bytes whole is = (whole.0, whole_then files payloads all payload bytes whole.1 is)

-- a step of the loop over the lines
pub line_whole : (files told : Files) (payloads : List Payload) (i : ℕ) (payload : Payload) (all next : List (List ℕ)) (bytes : List ℕ) → told ≡ files → i < length payloads → payload ≡ get_or payloads i payload
    → AreWhole files (take i payloads) all → IsWhole told payload.name bytes → next ≡ all ++ bytes ∷ [] → AreWhole files (take (i + 1) payloads) next
line_whole files told payloads i payload all next bytes same below is whole one more =
    let lines : take (i + 1) payloads ≡ take i payloads ++ payload ∷ [] = take_more payloads i payload below ∙ ap (λ p. take i payloads ++ p ∷ []) (sym is) in
    let one' = subst (λ t. IsWhole t payload.name bytes) same one in
    subst (λ xs. AreWhole files xs next) (sym lines) (subst (AreWhole files (take i payloads ++ payload ∷ [])) (sym more) (whole_then files (take i payloads) all payload bytes whole one'))

pub reaches : (files : Files) (payloads : List Payload) (i : ℕ) (payload : Payload) (all : List (List ℕ)) → i < length payloads → payload ≡ get_or payloads i payload → AreWhole files (take i payloads) all
    → Reaches files payloads payload.name
reaches files payloads i payload all below is whole = record {
  before = take i payloads;
  payload = payload;
  after = drop (i + 1) payloads;
  stands = sym (take-append-drop i payloads) ∙ ap (λ rest. take i payloads ++ rest) (drop_more payloads i payload below ∙ ap (λ p. p ∷ drop (i + 1) payloads) (sym is));
  named = refl;
  all = all;
  whole = whole;
}

unloaded : (files : Files) (payloads : List Payload) (name : List ℕ) (old mid new : ℕ) (failed : Option (List ℕ)) (status : Status) → Reaches files payloads name → old ≤ mid → IsUnloaded files name mid new failed status
    → AreUnloaded files payloads old new failed status
unloaded files payloads name old mid new failed (TooLong over) reached le is = (subst (Reaches files payloads) (sym is.0) reached, subst (IsOver files) (sym is.0) is.1)
unloaded files payloads name old mid new failed (ReadFault fault) reached le is = (subst (Reaches files payloads) (sym is.0) reached, rose_later old mid new le is.1, is.2 ∙ ap Some (sym is.0))
unloaded files payloads name old mid new failed NoMemory reached le is = tt
unloaded files payloads name old mid new failed Done reached le is = absurd is
unloaded files payloads name old mid new failed Stuck reached le is = absurd is
unloaded files payloads name old mid new failed Usage reached le is = absurd is
unloaded files payloads name old mid new failed (ScriptRefused line why) reached le is = absurd is
unloaded files payloads name old mid new failed WriteFault reached le is = absurd is

-- the file of a line was not loaded, after those of the lines before it
pub line_unloaded : (files told : Files) (payloads : List Payload) (i : ℕ) (payload : Payload) (all : List (List ℕ)) (old mid new : ℕ) (failed : Option (List ℕ)) (status : Status) → told ≡ files → i < length payloads
    → payload ≡ get_or payloads i payload → AreWhole files (take i payloads) all → old ≤ mid → IsUnloaded told payload.name mid new failed status → AreUnloaded files payloads old new failed status
line_unloaded files told payloads i payload all old mid new failed status same below is whole le un =
    unloaded files payloads payload.name old mid new failed status (reaches files payloads i payload all below is whole) le (subst (λ t. IsUnloaded t payload.name mid new failed status) same un)
