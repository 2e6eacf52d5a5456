use Rattle.std.proofs.Common.{◌≡◌, ◌∙◌, sym, ap, map, string_bytes}
use Rattle.std.specs.Vec.Iter.{into_iter_items, into_iter_len}
use Rattle.std.specs.Iterator.Adapters.{skip_source, skip_count}
use Rattle.std.proofs.lemmas.Iterator.Adapters.{YieldsList-from_vec, YieldsList-from_skip}
use Rattle.std.proofs.lemmas.List.{map-id}
use Rattle.std.proofs.lemmas.Iterator.Consumers.{YieldsList-end}
use Rattle.fab_host.proofs.command.texts_of.Goals as goal

pub returns : goal.returns
returns c =
    let args = c.args.args in
    let items = into_iter_items args in
    let iterator = c.into_iter-arg-iterator.result in
    let source : skip_source iterator ≡ args = cc in
    let count : skip_count iterator ≡ 1 = cc in
    let from = YieldsList-from_vec {s = skip_source iterator} items (ap into_iter_items source) (ap into_iter_len source ∙ args.rest.ok.0) in
    let end = YieldsList-end (YieldsList-from_skip 1 from count) c.loop-arg.yielded c.loop-arg.arg-iterator c.loop-arg.yielded_by c.next.result c.next.new.self c.in-None.is c.next.ensures.steps in
    c.loop-arg.invariant ∙ ap (map string_bytes) (sym (map-id c.loop-arg.yielded) ∙ end.0)
