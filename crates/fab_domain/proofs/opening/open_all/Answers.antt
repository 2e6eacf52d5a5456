use Rattle.std.proofs.Common.{◌≡◌, ◌∷◌, [], ◌++◌, List, subst, sym, arith}
use Rattle.std.specs.List.{All}
use Rattle.std.specs.Prelude.{map}
use Rattle.std.proofs.lemmas.List.Elements.{All-append}
use Rattle.fab_ep.specs.Value.{Whole}
use Rattle.fab_ring.specs.declared.port.RingPort.{RingPort}
use Rattle.fab_domain.specs.Domain.{IsOpened, port_of}
use Rattle.fab_domain.proofs.Opened.{front_is, ready_first, ready_rest, opened_more, only_one}
use Rattle.fab_domain.proofs.opening.open_all.Goals as goal

pub open_one-requires-clause-ready : goal.open_one-requires-clause-ready
open_one-requires-clause-ready c =
    let r = c.remove-port.ensures in
    ready_first c.args.info.now.peers c.remove-port.result c.remove-port.new.self.items c.loop-alloc.ports.items (front_is _ _ _ (let was = c.loop-alloc.ports.ok in let now = c.remove-port.new.self.ok in let len = r.len in omega (arith, was, now, len)) r.items r.value) c.loop-alloc.invariant.ready

pub loop-alloc-preserved : goal.loop-alloc-preserved
loop-alloc-preserved c =
    let was = c.loop-alloc.invariant in
    let r = c.remove-port.ensures in
    let ports = c.loop-alloc.ports.items in
    let rest = c.remove-port.new.self.items in
    let p = c.remove-port.result in
    let e = c.in_ok-endpoint.endpoint in
    let is = front_is ports rest p (let before = c.loop-alloc.ports.ok in let now = c.remove-port.new.self.ok in let len = r.len in omega (arith, before, now, len)) r.items r.value in
    let more = c.in_ok-push.ensures.items in
    record {
      ready = ready_rest c.args.info.now.peers p rest ports is was.ready;
      ports = subst (λ (xs : List (Whole RingPort)). map port_of xs ++ rest ≡ c.args.ports.items) (sym more) (opened_more c.loop-alloc.all.items rest ports c.args.ports.items e p was.ports is c.in_ok-endpoint.ensures.port);
      opened = subst (λ (xs : List (Whole RingPort)). All (IsOpened c.args.info.now c.args.selective) xs) (sym more)
          (All-append (IsOpened c.args.info.now c.args.selective) c.loop-alloc.all.items (e ∷ []) was.opened (only_one (IsOpened c.args.info.now c.args.selective) e c.in_ok-endpoint.ensures.opened));
    }
