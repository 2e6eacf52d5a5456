use Rattle.std.proofs.Common.{◌≡◌, ◌≤◌, rules, sym, length, None}
use Rattle.std.specs.Prelude.{slice_get}
use Rattle.std.proofs.lemmas.Bool.{ltb-true, ltb-false}
use Rattle.std.proofs.lemmas.Option.{slice_get_past}
use Rattle.fab_peer.specs.Turns.{told}
use Rattle.fab_peer.proofs.Calling.{next_by, finished_on}
use Rattle.fab_peer.proofs.Leaving.{same_left}
use Rattle.fab_peer.proofs.peer.Peer.do_region.Goals as goal

pub returns-in_default-clause-on : goal.returns-in_default-clause-on
returns-in_default-clause-on g c =
    let count : c.len.result ≡ length c.args.self.now.results.items = search rules in
    let past : length c.as_slice.result.now ≤ c.len.result = ltb-false _ _ (sym c.in_default.ensures.lookup.0) in
    let none = slice_get_past c.as_slice.result.now c.len.result past in
    let next : slice_get c.args.self.now.lines (length c.args.self.now.results.items) ≡ None = rw (c.as_slice.ensures, count) at none in
    finished_on (told g.E.Sees.seen c.args.self.now) next c.requires.log

pub reg-requires-clause-next : goal.reg-requires-clause-next
reg-requires-clause-next g c =
    let found = c.in-Some.ensures.lookup in
    let count : c.len.result ≡ length c.args.self.now.results.items = search rules in (
      c.in-Reg.bytes,
      next_by (told g.E.Sees.seen c.args.self.now) c.as_slice.result.now c.len.result c.in-Some.line.now _ c.as_slice.ensures count (ltb-true _ _ (sym found.0)) found.1 c.in-Reg.is,
      c.in_ok-buf-in-Reg.ensures,
    )

pub close-requires-clause-next : goal.close-requires-clause-next
close-requires-clause-next g c =
    let found = c.in-Some.ensures.lookup in
    let count : c.len.result ≡ length c.args.self.now.results.items = search rules in
    next_by (told g.E.Sees.seen c.args.self.now) c.as_slice.result.now c.len.result c.in-Some.line.now _ c.as_slice.ensures count (ltb-true _ _ (sym found.0)) found.1 c.in-Close.is

pub put-requires-clause-next : goal.put-requires-clause-next
put-requires-clause-next g c =
    let found = c.in-Some.ensures.lookup in
    let count : c.len.result ≡ length c.args.self.now.results.items = search rules in (
      c.in-Put.bytes,
      next_by (told g.E.Sees.seen c.args.self.now) c.as_slice.result.now c.len.result c.in-Some.line.now _ c.as_slice.ensures count (ltb-true _ _ (sym found.0)) found.1 c.in-Put.is,
      c.in_ok-buf-in-Put.ensures,
    )

pub show-requires-clause-next : goal.show-requires-clause-next
show-requires-clause-next g c =
    let found = c.in-Some.ensures.lookup in
    let count : c.len.result ≡ length c.args.self.now.results.items = search rules in
    next_by (told g.E.Sees.seen c.args.self.now) c.as_slice.result.now c.len.result c.in-Some.line.now _ c.as_slice.ensures count (ltb-true _ _ (sym found.0)) found.1 c.in-Show.is

pub returns-in_err-buf-in-Reg-clause-left : goal.returns-in_err-buf-in-Reg-clause-left
returns-in_err-buf-in-Reg-clause-left g c = same_left _ _

pub returns-in_err-buf-in-Put-clause-left : goal.returns-in_err-buf-in-Put-clause-left
returns-in_err-buf-in-Put-clause-left g c = same_left _ _
