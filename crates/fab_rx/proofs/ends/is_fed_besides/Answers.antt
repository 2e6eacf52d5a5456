use Rattle.std.proofs.Common.{◌≡◌, ◌∙◌, true, false, refl, sym, rules}
use Rattle.fab_rx.specs.Homes.{is_fed_by}
use Rattle.fab_rx.proofs.Onces.{any_after, any_before}
use Rattle.fab_rx.proofs.ends.is_fed_besides.Goals as goal

pub returns-then-is_fed : goal.returns-then-is_fed
returns-then-is_fed c =
    let yes : c.is_fed.result ≡ true = search rules in
    yes ∙ any_before (is_fed_by c.args.id) refl c.args.coming.now c.args.source c.requires (sym c.is_fed.ensures ∙ yes)

pub returns-else-is_fed : goal.returns-else-is_fed
returns-else-is_fed c =
    let no : c.is_fed.result ≡ false = search rules in
    c.is_fed-else-is_fed.ensures ∙ any_after (is_fed_by c.args.id) refl c.args.coming.now c.args.source c.requires (sym c.is_fed.ensures ∙ no)
