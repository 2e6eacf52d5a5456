use Rattle.std.proofs.Common.{◌≡◌, ◌≤◌, rules, sym, length, None}
use Rattle.std.specs.Prelude.{slice_get}
use Rattle.std.proofs.lemmas.Bool.{ltb-true, ltb-false}
use Rattle.std.proofs.lemmas.Option.{slice_get_past}
use Rattle.fab_peer.specs.Turns.{told}
use Rattle.fab_peer.proofs.Calling.{next_by, finished_on}
use Rattle.fab_peer.proofs.peer.Peer.do_line.Goals as goal

pub returns-in_default-clause-on : goal.returns-in_default-clause-on
returns-in_default-clause-on g c =
    let count : c.len.result ≡ length c.args.self.now.results.items = search rules in
    let past : length c.as_slice.result.now ≤ c.len.result = ltb-false _ _ (sym c.in_default.ensures.lookup.0) in
    let none = slice_get_past c.as_slice.result.now c.len.result past in
    let next : slice_get c.args.self.now.lines (length c.args.self.now.results.items) ≡ None = rw (c.as_slice.ensures, count) at none in
    finished_on (told g.E.Sees.seen c.args.self.now) next c.requires.log

pub wait-requires-clause-next : goal.wait-requires-clause-next
wait-requires-clause-next g c =
    let found = c.in-Some.ensures.lookup in
    let count : c.len.result ≡ length c.args.self.now.results.items = search rules in
    next_by (told g.E.Sees.seen c.args.self.now) c.as_slice.result.now c.len.result c.in-Some.line.now _ c.as_slice.ensures count (ltb-true _ _ (sym found.0)) found.1 c.in-Wait.is
