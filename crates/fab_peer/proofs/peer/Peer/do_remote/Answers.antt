use Rattle.std.proofs.Common.{◌≡◌, ◌≤◌, rules, sym, length, None}
use Rattle.std.specs.Prelude.{slice_get}
use Rattle.std.proofs.lemmas.Bool.{ltb-true, ltb-false}
use Rattle.std.proofs.lemmas.Option.{slice_get_past}
use Rattle.fab_peer.specs.Turns.{told}
use Rattle.fab_peer.proofs.Calling.{next_by, finished_on}
use Rattle.fab_peer.proofs.Leaving.{same_left}
use Rattle.fab_peer.proofs.peer.Peer.do_remote.Goals as goal

pub returns-in_default-clause-on : goal.returns-in_default-clause-on
returns-in_default-clause-on g c =
    let count : c.len.result ≡ length c.args.self.now.results.items = search rules in
    let past : length c.as_slice.result.now ≤ c.len.result = ltb-false _ _ (sym c.in_default.ensures.lookup.0) in
    let none = slice_get_past c.as_slice.result.now c.len.result past in
    let next : slice_get c.args.self.now.lines (length c.args.self.now.results.items) ≡ None = rw (c.as_slice.ensures, count) at none in
    finished_on (told g.E.Sees.seen c.args.self.now) next c.requires.log

pub read-requires-clause-next : goal.read-requires-clause-next
read-requires-clause-next g c =
    let found = c.in-Some.ensures.lookup in
    let count : c.len.result ≡ length c.args.self.now.results.items = search rules in
    next_by (told g.E.Sees.seen c.args.self.now) c.as_slice.result.now c.len.result c.in-Some.line.now _ c.as_slice.ensures count (ltb-true _ _ (sym found.0)) found.1 c.in-Read.is

pub write-requires-clause-next : goal.write-requires-clause-next
write-requires-clause-next g c =
    let found = c.in-Some.ensures.lookup in
    let count : c.len.result ≡ length c.args.self.now.results.items = search rules in (
      c.in-Write.bytes,
      next_by (told g.E.Sees.seen c.args.self.now) c.as_slice.result.now c.len.result c.in-Some.line.now _ c.as_slice.ensures count (ltb-true _ _ (sym found.0)) found.1 c.in-Write.is,
      c.in_ok-buf-in-Write.ensures,
    )

pub inject_write-requires-clause-next : goal.inject_write-requires-clause-next
inject_write-requires-clause-next g c =
    let found = c.in-Some.ensures.lookup in
    let count : c.len.result ≡ length c.args.self.now.results.items = search rules in (
      c.in-WInject.bytes,
      next_by (told g.E.Sees.seen c.args.self.now) c.as_slice.result.now c.len.result c.in-Some.line.now _ c.as_slice.ensures count (ltb-true _ _ (sym found.0)) found.1 c.in-WInject.is,
      c.in_ok-buf-in-WInject.ensures,
    )

pub returns-in_err-buf-in-Write-clause-left : goal.returns-in_err-buf-in-Write-clause-left
returns-in_err-buf-in-Write-clause-left g c = same_left _ _

pub returns-in_err-buf-in-WInject-clause-left : goal.returns-in_err-buf-in-WInject-clause-left
returns-in_err-buf-in-WInject-clause-left g c = same_left _ _
