-- The premises of the law, where they come from.
use Rattle.std.proofs.Common.{◌≡◌, ◌≤◌, inl, inr, ℕ, zero, suc, List, [], ◌∷◌, length, replicate, slice_get, Option, Some, None, refl, arith}
use Rattle.std.proofs.lemmas.Bool.{cases_lt}
use mathlib.Core.List.{IsPrefix}
use Rattle.fab_base.specs.declared.items.Item.{Item}
use Rattle.fab_base.specs.declared.script.Conf.{Conf}
use Rattle.fab_base.proofs.Lists.{all_the_same, get_some as member}
use Rattle.fab_model.specs.Replay.{fresh}
use Rattle.fab_merging.specs.Pasts.{PastOf}
use Rattle.fab_merging.specs.Law.{IsFresh, outs_at, ins_at}
use Rattle.fab_merging.proofs.Lists.{outs_is, ins_is}

-- what an endpoint holds when it is opened
pub start_fresh : (conf : Conf) → IsFresh (record { state = fresh conf; places = replicate conf.peers 0; begun = replicate conf.peers None; multis = [] })
start_fresh conf = record {
  places = λ d. all_the_same {X = ℕ} conf.peers d 0;
  begun = λ s. all_the_same {X = Option Item} conf.peers s None;
  sent = λ d. all_the_same {X = ℕ} conf.peers d 0;
  tails = λ s. all_the_same {X = ℕ} conf.peers s 0;
}

-- of peers of any kind
module _ {L K : Type 0} where
  ins_past : (pasts : List (PastOf L K)) (p s : ℕ) → length pasts ≤ p → ins_at pasts p s ≡ []
  ins_past [] p s l = refl
  ins_past (y ∷ pasts) zero s l = absurd (omega arith)
  ins_past (y ∷ pasts) (suc p) s l = ins_past pasts p s (omega arith)

  -- from what is known of each two ports
  pub lanes_of : (pasts : List (PastOf L K)) → ((s d : ℕ) (x y : PastOf L K) → slice_get pasts s ≡ Some x → slice_get pasts d ≡ Some y → IsPrefix (y.ins s) (x.outs d))
      → ((d s : ℕ) (y : PastOf L K) → slice_get pasts d ≡ Some y → length pasts ≤ s → y.ins s ≡ []) → (s d : ℕ) → IsPrefix (ins_at pasts d s) (outs_at pasts s d)
  lanes_of pasts each none s d = elim (cases_lt d (length pasts)) [
    | inr past ↦ rw (ins_past pasts d s past) (outs_at pasts s d, refl)
    | inl below ↦ (
        let y = member pasts d below in
        elim (cases_lt s (length pasts)) [
          | inr past ↦ rw (ins_is pasts d s y.0 y.1, none d s y.0 y.1 past) (outs_at pasts s d, refl)
          | inl here ↦ (let x = member pasts s here in rw (ins_is pasts d s y.0 y.1, outs_is pasts s d x.0 x.1) (each s d x.0 y.0 x.1 y.1))
        ])
  ]
