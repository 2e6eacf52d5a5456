use Rattle.std.proofs.Common.{◌≡◌, ◌≤◌, ap, ◌∙◌, Some, rules, sym, length, None}
use Rattle.std.specs.Prelude.{slice_get}
use Rattle.std.proofs.lemmas.Bool.{ltb-true, ltb-false}
use Rattle.std.proofs.lemmas.Option.{slice_get_past}
use Rattle.fab_base.specs.declared.script.LineOp.TheVariants.{Insert}
use Rattle.fab_peer.specs.Turns.{told}
use Rattle.fab_peer.proofs.Calling.{next_by, finished_on}
use Rattle.fab_peer.proofs.Leaving.{same_left}
use Rattle.fab_peer.proofs.peer.Peer.do_keeping.Goals as goal

pub returns-in_default-clause-on : goal.returns-in_default-clause-on
returns-in_default-clause-on g c =
    let count : c.len.result ≡ length c.args.self.now.results.items = search rules in
    let past : length c.as_slice.result.now ≤ c.len.result = ltb-false _ _ (sym c.in_default.ensures.lookup.0) in
    let none = slice_get_past c.as_slice.result.now c.len.result past in
    let next : slice_get c.args.self.now.lines (length c.args.self.now.results.items) ≡ None = rw (c.as_slice.ensures, count) at none in
    finished_on (told g.E.Sees.seen c.args.self.now) next c.requires.log

pub count-requires-clause-next : goal.count-requires-clause-next
count-requires-clause-next g c =
    let found = c.in-Some.ensures.lookup in
    let count : c.len.result ≡ length c.args.self.now.results.items = search rules in
    next_by (told g.E.Sees.seen c.args.self.now) c.as_slice.result.now c.len.result c.in-Some.line.now _ c.as_slice.ensures count (ltb-true _ _ (sym found.0)) found.1 c.in-Count.is

pub reach-requires-clause-next : goal.reach-requires-clause-next
reach-requires-clause-next g c =
    let found = c.in-Some.ensures.lookup in
    let count : c.len.result ≡ length c.args.self.now.results.items = search rules in
    next_by (told g.E.Sees.seen c.args.self.now) c.as_slice.result.now c.len.result c.in-Some.line.now _ c.as_slice.ensures count (ltb-true _ _ (sym found.0)) found.1 c.in-Reach.is

pub insert-requires-clause-next : goal.insert-requires-clause-next
insert-requires-clause-next g c =
    let found = c.in-Some.ensures.lookup in
    let count : c.len.result ≡ length c.args.self.now.results.items = search rules in
    let name : c.in-Insert.name ≡ c.in_ok-name-in-Insert.name = sym (c.in_ok-name-in-Insert.ensures ∙ c.as_str.ensures) in
    next_by (told g.E.Sees.seen c.args.self.now) c.as_slice.result.now c.len.result c.in-Some.line.now _ c.as_slice.ensures count (ltb-true _ _ (sym found.0)) found.1 c.in-Insert.is
    ∙ ap (λ bs. Some (Insert bs)) name

pub remove-requires-clause-next : goal.remove-requires-clause-next
remove-requires-clause-next g c =
    let found = c.in-Some.ensures.lookup in
    let count : c.len.result ≡ length c.args.self.now.results.items = search rules in
    next_by (told g.E.Sees.seen c.args.self.now) c.as_slice.result.now c.len.result c.in-Some.line.now _ c.as_slice.ensures count (ltb-true _ _ (sym found.0)) found.1 c.in-Remove.is

pub returns-in_err-name-in-Insert-clause-left : goal.returns-in_err-name-in-Insert-clause-left
returns-in_err-name-in-Insert-clause-left g c = same_left _ _
