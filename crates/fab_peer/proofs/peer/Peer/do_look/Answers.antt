use Rattle.std.proofs.Common.{◌≡◌, ◌≤◌, rules, sym, length, None}
use Rattle.std.specs.Prelude.{slice_get}
use Rattle.std.proofs.lemmas.Bool.{ltb-true, ltb-false}
use Rattle.std.proofs.lemmas.Option.{slice_get_past}
use Rattle.fab_peer.specs.Turns.{told}
use Rattle.fab_peer.proofs.Calling.{next_by, finished_on}
use Rattle.fab_peer.proofs.peer.Peer.do_look.Goals as goal

pub returns-in_default-clause-on : goal.returns-in_default-clause-on
returns-in_default-clause-on g c =
    let count : c.len.result ≡ length c.args.self.now.results.items = search rules in
    let past : length c.as_slice.result.now ≤ c.len.result = ltb-false _ _ (sym c.in_default.ensures.lookup.0) in
    let none = slice_get_past c.as_slice.result.now c.len.result past in
    let next : slice_get c.args.self.now.lines (length c.args.self.now.results.items) ≡ None = rw (c.as_slice.ensures, count) at none in
    finished_on (told g.E.Sees.seen c.args.self.now) next c.requires.log

pub look-requires-clause-next : goal.look-requires-clause-next
look-requires-clause-next g c =
    let found = c.in-Some.ensures.lookup in
    let count : c.len.result ≡ length c.args.self.now.results.items = search rules in
    next_by (told g.E.Sees.seen c.args.self.now) c.as_slice.result.now c.len.result c.in-Some.line.now _ c.as_slice.ensures count (ltb-true _ _ (sym found.0)) found.1 c.in-Peek.is

pub look-requires-in-Claim-clause-next : goal.look-requires-in-Claim-clause-next
look-requires-in-Claim-clause-next g c =
    let found = c.in-Some.ensures.lookup in
    let count : c.len.result ≡ length c.args.self.now.results.items = search rules in
    next_by (told g.E.Sees.seen c.args.self.now) c.as_slice.result.now c.len.result c.in-Some.line.now _ c.as_slice.ensures count (ltb-true _ _ (sym found.0)) found.1 c.in-Claim.is

pub look-requires-in-Discard-clause-next : goal.look-requires-in-Discard-clause-next
look-requires-in-Discard-clause-next g c =
    let found = c.in-Some.ensures.lookup in
    let count : c.len.result ≡ length c.args.self.now.results.items = search rules in
    next_by (told g.E.Sees.seen c.args.self.now) c.as_slice.result.now c.len.result c.in-Some.line.now _ c.as_slice.ensures count (ltb-true _ _ (sym found.0)) found.1 c.in-Discard.is

pub take-requires-clause-next : goal.take-requires-clause-next
take-requires-clause-next g c =
    let found = c.in-Some.ensures.lookup in
    let count : c.len.result ≡ length c.args.self.now.results.items = search rules in
    next_by (told g.E.Sees.seen c.args.self.now) c.as_slice.result.now c.len.result c.in-Some.line.now _ c.as_slice.ensures count (ltb-true _ _ (sym found.0)) found.1 c.in-Take.is

pub drop_claimed-requires-clause-next : goal.drop_claimed-requires-clause-next
drop_claimed-requires-clause-next g c =
    let found = c.in-Some.ensures.lookup in
    let count : c.len.result ≡ length c.args.self.now.results.items = search rules in
    next_by (told g.E.Sees.seen c.args.self.now) c.as_slice.result.now c.len.result c.in-Some.line.now _ c.as_slice.ensures count (ltb-true _ _ (sym found.0)) found.1 c.in-DropClaimed.is
