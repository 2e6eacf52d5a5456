use Rattle.std.proofs.Common.{ap, ap₂, arith, sym, ◌+◌, ◌∙◌}
use Rattle.fab_words.specs.Bytes.{bytes_size}
use Rattle.fab_workloads.proofs.Sizes.{one_size, part_few}
use Rattle.fab_workloads.proofs.shares.size_of.Goals as goal

pub overflow_add-size : goal.overflow_add-size
overflow_add-size c =
    let shares = c.args.shares.now in
    let k = c.loop-share.share-index in
    let sum = ap₂ (λ n m. n + m) c.loop-share.invariant (c.bytes_size-size.ensures ∙ ap bytes_size c.share-item.is) ∙ sym (one_size shares k c.share-item.result c.loop-share-test.true) in
    omega (arith, sum, part_few shares (k + 1) c.requires.short c.requires.few)

pub returns-clause-most : goal.returns-clause-most
returns-clause-most c = omega (arith, c.loop-share.invariant, part_few c.args.shares.now c.loop-share.share-index c.requires.short c.requires.few)
