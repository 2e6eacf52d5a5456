-- What the definitions give, worked out.
use Rattle.std.proofs.Common.{◌≡◌, ℕ, [], ◌∷◌, true, false, None, refl, arith}
use Rattle.fab_base.specs.declared.items.ItemHead.{ItemHead}
use Rattle.fab_base.specs.declared.items.Kind.TheVariants.{Msg}
use Rattle.fab_base.specs.declared.items.Ack.TheVariants.{Nothing}
use Rattle.fab_base.specs.declared.items.Outcome.TheVariants.{Done}
use Rattle.fab_link.specs.declared.moves.Move.TheVariants.{Post, Take}
use Rattle.fab_link.specs.Cut.{frame_count, cut_heads}
use Rattle.fab_link.specs.Merged.{IsStamped, merges}

-- the head of a message of so many bytes
abbrev message : ℕ → ItemHead
message total = record { kind = Msg; op = 0; tag = 0; imm = None; ack = Nothing; key = 0; «at» = 0; count = 0; atom = None; outcome = Done; total = total }

count_0 : frame_count 0 ≡ 1
count_0 = refl

count_64 : frame_count 64 ≡ 1
count_64 = refl

count_65 : frame_count 65 ≡ 1
count_65 = refl

count_4096 : frame_count 4096 ≡ 1
count_4096 = refl

count_4097 : frame_count 4097 ≡ 2
count_4097 = refl

count_16777216 : frame_count 16777216 ≡ 4096
count_16777216 = refl

count_268435456 : frame_count 268435456 ≡ 65536
count_268435456 = refl

-- two frames, the last one of one byte
cut_4097 : cut_heads (message 4097) ≡ record { item = message 4097; from = 0; len = 4096 } ∷ record { item = message 4097; from = 4096; len = 1 } ∷ []
cut_4097 = refl

-- a frame there and one back: whoever begins, the moves merge
there_and_back : merges ((Take 1 1 ∷ Post 1 2 ∷ []) ∷ (Post 0 1 ∷ Take 0 2 ∷ []) ∷ []) ≡ true
there_and_back = refl

-- each waits for the other: the moves don't merge, and the second peer's are not stamped
crossed : merges ((Take 1 1 ∷ Post 1 2 ∷ []) ∷ (Take 0 2 ∷ Post 0 1 ∷ []) ∷ []) ≡ false
crossed = refl

crossed_unstamped : IsStamped (Take 0 2 ∷ Post 0 1 ∷ []) → ⊥
crossed_unstamped s = omega arith
