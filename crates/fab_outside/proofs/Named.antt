-- The names of the loads that were made.
use Rattle.std.proofs.Common.{◌≡◌, ◌<◌, ◌∙◌, ℕ, List, [], ◌∷◌, ◌++◌, length, take, get_or, Option, Some, None, inl, inr, refl, sym, ap, subst, append-nil, append_assoc}
use Rattle.std.specs.Prelude.{option_map}
use Rattle.std.proofs.lemmas.List.Elements.{All-append, All-cons, All-nil}
use Rattle.fab_base.specs.declared.script.Payload.{Payload}
use Rattle.fab_base.specs.declared.script.Script.{Script}
use Rattle.fab_grammar.specs.Grammar.{script_of}
use Rattle.fab_outside.specs.Loading.{AreWhole, Files, IsWhole, LeadsTo, LoadsOnly, Reaches}
use Rattle.fab_outside.specs.Outside.{one_more}
use Rattle.fab_outside.proofs.Loads.{reaches}

module _ (May : List ℕ → Type 0) where
  pub loads_none : (a b : Option (List (List ℕ))) → b ≡ a → LoadsOnly May a b
  loads_none None b same = ([], All-nil May, same)
  loads_none (Some names) b same = ([], All-nil May, same ∙ ap Some (sym (append-nil names)))

  pub loads_one : (name : List ℕ) (a b : Option (List (List ℕ))) → May name → b ≡ one_more a name → LoadsOnly May a b
  loads_one name a b may more = (name ∷ [], All-cons May name [] may (All-nil May), more)

  pub loads_then : (a b c : Option (List (List ℕ))) → LoadsOnly May a b → LoadsOnly May b c → LoadsOnly May a c
  loads_then None b c (xs, all, first) (ys, others, then) = (xs ++ ys, All-append May xs ys all others, go b first then)
    where
      go : (b : Option (List (List ℕ))) → b ≡ None → c ≡ option_map (λ names. names ++ ys) b → c ≡ None
      go None e then = then
      go (Some names) e then = absurd (cc (e))
  loads_then (Some names) b c (xs, all, first) (ys, others, then) =
      (xs ++ ys, All-append May xs ys all others, then ∙ ap (λ (o : Option (List (List ℕ))). option_map (λ names. names ++ ys) o) first ∙ ap Some (append_assoc names xs ys))

pub loads_as : (May Can : List ℕ → Type 0) (a b : Option (List (List ℕ))) → ((name : List ℕ) → May name → Can name) → LoadsOnly May a b → LoadsOnly Can a b
loads_as May Can a b can (xs, all, more) = (xs, λ k d below. can _ (all k d below), more)

-- the file of a line was asked for, behind those of the lines before it
pub names_next : (files : Files) (payloads : List Payload) (i : ℕ) (payload : Payload) (all : List (List ℕ)) (a b c : Option (List (List ℕ))) → i < length payloads → payload ≡ get_or payloads i payload → AreWhole files (take i payloads) all
    → LoadsOnly (Reaches files payloads) a b → c ≡ one_more b payload.name → LoadsOnly (Reaches files payloads) a c
names_next files payloads i payload all a b c below is whole before more =
    loads_then (Reaches files payloads) a b c before (loads_one (Reaches files payloads) payload.name b c (reaches files payloads i payload all below is whole) more)

-- a script's file was asked for
pub names_script : (files : Files) (file : List ℕ) (a b : Option (List (List ℕ))) → b ≡ one_more a file → LoadsOnly (LeadsTo files file) a b
names_script files file a b more = loads_one (LeadsTo files file) file a b (inl refl) more

-- and then those of its lines
pub names_lines : (files told : Files) (file bytes : List ℕ) (script : Script) (a b c : Option (List (List ℕ))) → told ≡ files → IsWhole files file bytes → script_of bytes ≡ Some script → b ≡ one_more a file → LoadsOnly (Reaches told script.payloads) b c
    → LoadsOnly (LeadsTo files file) a c
names_lines files told file bytes script a b c same whole spells more lines =
    loads_then (LeadsTo files file) a b c (names_script files file a b more)
    (loads_as (Reaches told script.payloads) (LeadsTo files file) b c (λ name reached. inr (script, (bytes, whole, spells), subst (λ (f : Files). Reaches f script.payloads name) same reached)) lines)
