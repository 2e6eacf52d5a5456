use Rattle.std.proofs.Common.{◌≡◌, ◌++◌, OnOk, subst, string_bytes}
use Rattle.fab_report.specs.Texts.{left_text}
use Rattle.fab_report.proofs.report.add_lefts.Goals as goal

pub returns : goal.returns
returns c = subst (λ kept. OnOk c.add_places.result (string_bytes c.add_places.new.out ≡ string_bytes c.args.out.now ++ left_text kept)) c.places.ensures c.add_places.ensures
