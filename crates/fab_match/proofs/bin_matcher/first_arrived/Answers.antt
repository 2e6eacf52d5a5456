use Rattle.std.proofs.Common.{◌∙◌, sym}
use Rattle.fab_match.specs.Bucket.{cards}
use Rattle.fab_match.proofs.Matching.{exact_first, open_first}
use Rattle.fab_match.proofs.bin_matcher.first_arrived.Goals as goal

pub returns-in-Exact : goal.returns-in-Exact
returns-in-Exact c =
    c.first_near.ensures ∙ exact_first c.args.unexpected.now.near.heads c.args.want.now c.in-Exact.bin (sym c.in-Exact.ensures.exact) (cards c.args.unexpected.now) c.requires.bins

pub returns-in-Open : goal.returns-in-Open
returns-in-Open c =
    c.first_wide.ensures ∙ open_first c.args.unexpected.now.near.heads c.args.want.now c.in-Open.bin (sym c.in-Open.ensures.exact) (cards c.args.unexpected.now) c.requires.bins
