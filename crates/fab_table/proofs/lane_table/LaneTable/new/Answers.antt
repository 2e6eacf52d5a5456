use Rattle.std.proofs.Common.{◌≡◌, ℕ, ap, ◌∙◌, get_or, replicate, List, []}
use Rattle.fab_base.proofs.Lists.{all_the_same as same_all}
use Rattle.fab_table.specs.declared.kinds.Slot.TheVariants.{Pool}
use Rattle.fab_table.proofs.Seating.{starts}
use Rattle.fab_table.proofs.lane_table.LaneTable.new.Goals as goal

pub new-requires : goal.new-requires
new-requires c = let h = c.in_ok-words.ensures in let s = c.as_slice.ensures in let q = c.in_ok-all.ensures in
    let m : ℕ = c.count_words-count.result in let all : c.as_slice.result.now ≡ replicate m 0 = s.value ∙ h.items_if_clones_equal (λ y e. e) in
    starts _ _ _ c.requires.room.0 (s.len ∙ h.len ∙ c.count_words-count.ensures) (λ i. ap (λ (z : List ℕ). get_or z i 0) all ∙ same_all m i 0) q.count (Pool []) q.cells q.slots
