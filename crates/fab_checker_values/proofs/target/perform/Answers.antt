use Rattle.std.proofs.Common.{◌≡◌, ℕ, false, List, take, drop, Some, None, sym, ap, ◌∙◌, rules}
use Rattle.std.specs.Prelude.{find}
use Rattle.fab_base.specs.declared.items.Outcome.{Outcome}
use Rattle.fab_base.specs.declared.items.Outcome.TheVariants.{Done}
use Rattle.fab_model.specs.Matching.{change_first}
use Rattle.fab_model.specs.State.{Region}
use Rattle.fab_model.specs.Target.{Performed, is_keyed, range_of, reach_of, handed_back, changed_range, put_range}
use Rattle.fab_checker_values.specs.NewElements.{is_done}
use Rattle.fab_checker_values.proofs.Performing.{perform_none, perform_refused, perform_done, done_is}
use Rattle.fab_checker_values.proofs.target.perform.Goals as goal

abbrev made : Outcome → List ℕ → List Region → Performed
made outcome bytes regions = record { outcome = outcome; bytes = bytes; regions = regions }

pub returns-in_default : goal.returns-in_default
returns-in_default c =
    let none : find (is_keyed c.args.head.now.key) c.args.regions.now.items ≡ None = search rules in
    ap (λ (o : Outcome). made o c.refused.result.bytes c.args.regions.now.items) c.refused.ensures.outcome ∙ ap (λ (bytes : List ℕ). made _ bytes c.args.regions.now.items) c.refused.ensures.bytes
    ∙ perform_none c.args.regions.now.items c.args.head.now c.args.bytes.now none

pub returns-then-not-is_done : goal.returns-then-not-is_done
returns-then-not-is_done c =
    let r = c.in-Some.region.now in
    let o = c.outcome_in-outcome.result in
    let some : find (is_keyed c.args.head.now.key) c.args.regions.now.items ≡ Some r = search rules in
    let bad : is_done o ≡ false = sym c.is_done.ensures ∙ c.if-not-is_done.true in
    ap (λ (o : Outcome). made o c.refused-then-not-is_done.result.bytes c.args.regions.now.items) c.refused-then-not-is_done.ensures.outcome
    ∙ ap (λ (bytes : List ℕ). made o bytes c.args.regions.now.items) c.refused-then-not-is_done.ensures.bytes
    ∙ perform_refused c.args.regions.now.items c.args.head.now c.args.bytes.now r o some c.outcome_in-outcome.ensures bad

pub returns : goal.returns
returns c =
    let r = c.in-Some.region.now in
    let o = c.outcome_in-outcome.result in
    let head = c.args.head.now in
    let regions = c.args.regions.now.items in
    let some : find (is_keyed head.key) regions ≡ Some r = search rules in
    let done : o ≡ Done = done_is o (sym c.is_done.ensures ∙ c.if-not-is_done.false) in
    let bytes : c.as_slice-2.result.now ≡ r.bytes = c.as_slice-2.ensures ∙ ap (λ (x : Region). x.bytes) c.region.view_is in
    let old : c.split-2.result.0.now ≡ range_of r head =
    c.split-2.ensures.first ∙ ap (λ n. take n c.split.result.1.now) c.reach_of.ensures ∙ ap (take (reach_of head)) (c.split.ensures.rest ∙ ap (drop head.at) bytes) in
    let told : c.in_ok-told.told ≡ handed_back head (range_of r head) = c.in_ok-told.ensures ∙ ap (handed_back head) old in
    let changed : c.as_slice-3.result.now ≡ changed_range head c.args.bytes.now (range_of r head) = c.as_slice-3.ensures ∙ c.in_ok-changed.ensures ∙ ap (changed_range head c.args.bytes.now) old in
    let put = c.in_ok-put_at.ensures ∙ ap (λ (xs : List ℕ). change_first (is_keyed head.key) (put_range head.at xs) regions) changed in
    ap (λ (o : Outcome). made o c.in_ok-told.told c.put_at.new.regions.items) done ∙ ap (λ (bytes : List ℕ). made Done bytes c.put_at.new.regions.items) told ∙ ap (λ (rs : List Region). made Done (handed_back head (range_of r head)) rs) put
    ∙ perform_done regions head c.args.bytes.now r some (sym c.outcome_in-outcome.ensures ∙ done)
