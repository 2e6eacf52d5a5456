use Rattle.std.proofs.Common.{◌≡◌, ◌≤◌, rules, sym, ap, ◌∙◌, length, Some, None}
use Rattle.std.specs.Prelude.{slice_get, replicate}
use Rattle.std.proofs.lemmas.Bool.{ltb-true, ltb-false}
use Rattle.std.proofs.lemmas.Option.{slice_get_past}
use Rattle.fab_base.specs.declared.script.LineOp.TheVariants.{Atomic, Fetch, Compare}
use Rattle.fab_peer.specs.Turns.{told}
use Rattle.fab_peer.proofs.Calling.{next_by, finished_on}
use Rattle.fab_peer.proofs.Leaving.{same_left}
use Rattle.fab_peer.proofs.peer.Peer.do_atomic.Goals as goal

pub returns-in_default-clause-on : goal.returns-in_default-clause-on
returns-in_default-clause-on g c =
    let count : c.len.result ≡ length c.args.self.now.results.items = search rules in
    let past : length c.as_slice.result.now ≤ c.len.result = ltb-false _ _ (sym c.in_default.ensures.lookup.0) in
    let none = slice_get_past c.as_slice.result.now c.len.result past in
    let next : slice_get c.args.self.now.lines (length c.args.self.now.results.items) ≡ None = rw (c.as_slice.ensures, count) at none in
    finished_on (told g.E.Sees.seen c.args.self.now) next c.requires.log

pub atomic-requires-clause-next : goal.atomic-requires-clause-next
atomic-requires-clause-next g c =
    let found = c.in-Some.ensures.lookup in
    let l = c.in-Atomic in
    let count : c.len.result ≡ length c.args.self.now.results.items = search rules in
    let operand : l.values ≡ c.in_ok-operand-in-Atomic.operand = sym (c.in_ok-operand-in-Atomic.ensures ∙ c.as_slice-in-Atomic.ensures) in
    next_by (told g.E.Sees.seen c.args.self.now) c.as_slice.result.now c.len.result c.in-Some.line.now _ c.as_slice.ensures count (ltb-true _ _ (sym found.0)) found.1 l.is
    ∙ ap (λ vs. Some (Atomic l.ctx l.dest l.key l.at l.op l.num vs l.completion l.fence)) operand

pub fetch-requires-clause-next : goal.fetch-requires-clause-next
fetch-requires-clause-next g c =
    let found = c.in-Some.ensures.lookup in
    let l = c.in-Fetch in
    let count : c.len.result ≡ length c.args.self.now.results.items = search rules in
    let operand : l.values ≡ c.in_ok-operand-in-Fetch.operand = sym (c.in_ok-operand-in-Fetch.ensures ∙ c.as_slice-in-Fetch.ensures) in (
      l.count,
      next_by (told g.E.Sees.seen c.args.self.now) c.as_slice.result.now c.len.result c.in-Some.line.now _ c.as_slice.ensures count (ltb-true _ _ (sym found.0)) found.1 l.is
          ∙ ap (λ vs. Some (Fetch l.ctx l.dest l.key l.at l.op l.num vs l.count)) operand,
      c.in_ok-buf-in-Fetch.ensures ∙ ap (λ n. replicate n 0) c.fetched.ensures,
    )

pub compare-requires-clause-next : goal.compare-requires-clause-next
compare-requires-clause-next g c =
    let found = c.in-Some.ensures.lookup in
    let l = c.in-Compare in
    let count : c.len.result ≡ length c.args.self.now.results.items = search rules in
    let operand : l.values ≡ c.in_ok-operand-in-Compare.operand = sym (c.in_ok-operand-in-Compare.ensures ∙ c.as_slice-in-Compare.ensures) in
    let other : l.compares ≡ c.in_ok-other-in-Compare.other = sym (c.in_ok-other-in-Compare.ensures ∙ c.as_slice-in-Compare-2.ensures) in
    next_by (told g.E.Sees.seen c.args.self.now) c.as_slice.result.now c.len.result c.in-Some.line.now _ c.as_slice.ensures count (ltb-true _ _ (sym found.0)) found.1 l.is
    ∙ ap (λ vs. Some (Compare l.ctx l.dest l.key l.at l.op l.num vs l.compares)) operand
    ∙ ap (λ cs. Some (Compare l.ctx l.dest l.key l.at l.op l.num c.in_ok-operand-in-Compare.operand cs)) other

pub returns-in_err-operand-in-Atomic-clause-left : goal.returns-in_err-operand-in-Atomic-clause-left
returns-in_err-operand-in-Atomic-clause-left g c = same_left _ _

pub returns-in_err-operand-in-Fetch-clause-left : goal.returns-in_err-operand-in-Fetch-clause-left
returns-in_err-operand-in-Fetch-clause-left g c = same_left _ _

pub returns-in_err-buf-in-Fetch-clause-left : goal.returns-in_err-buf-in-Fetch-clause-left
returns-in_err-buf-in-Fetch-clause-left g c = same_left _ _

pub returns-in_err-operand-in-Compare-clause-left : goal.returns-in_err-operand-in-Compare-clause-left
returns-in_err-operand-in-Compare-clause-left g c = same_left _ _

pub returns-in_err-other-in-Compare-clause-left : goal.returns-in_err-other-in-Compare-clause-left
returns-in_err-other-in-Compare-clause-left g c = same_left _ _

pub returns-in_err-buf-in-Compare-clause-left : goal.returns-in_err-buf-in-Compare-clause-left
returns-in_err-buf-in-Compare-clause-left g c = same_left _ _
