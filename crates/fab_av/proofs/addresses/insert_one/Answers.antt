use Rattle.std.proofs.Common.{◌≡◌, ◌++◌, ◌∷◌, [], None, Some, is_some, false, ap, ◌∙◌, sym, arith, length, position, slice_index_or, slice_set, get_or-set_same}
use Rattle.fab_base.specs.declared.peers.LineResult.TheVariants.{Index}
use Rattle.fab_base.proofs.Options.{not_some as none_from}
use Rattle.fab_model.specs.State.{State}
use Rattle.fab_model.specs.Calls.{peer_named, is_peer}
use Rattle.fab_av.proofs.Machines.{insert-no_peer, insert-there, insert-full, insert-push, same_addresses}
use Rattle.fab_av.proofs.Tables.{position-in, index_named-table, IsTable-push}
use Rattle.fab_av.proofs.addresses.insert_one.Goals as goal

pub returns-in_err-peer-clause-machine : goal.returns-in_err-peer-clause-machine
returns-in_err-peer-clause-machine c s has =
    let name = c.args.name.now in
    let unnamed = ap (λ n. peer_named n name) has.peers ∙ sym c.in_err-peer.ensures.named in
    rw c.from_residual.ensures (insert-no_peer s name unnamed ∙ ap (λ (after : State). (Index None, after)) (sym (same_addresses s _ has)))

pub returns-then-is_some-clause-machine : goal.returns-then-is_some-clause-machine
returns-then-is_some-clause-machine c s has =
    let name = c.args.name.now in
    let peer = c.in_ok-peer.peer in
    let named = ap (λ n. peer_named n name) has.peers ∙ sym c.in_ok-peer.ensures.named in
    let stands = position-in s c.args.peers c.args.by_index.now.items c.args.by_peer.now peer has c.requires.table in
    let index = slice_index_or c.args.by_peer.now peer None in
    insert-there s name peer index named stands (sym c.if-is_some.ensures) ∙ ap (λ (after : State). (Index index, after)) (sym (same_addresses s _ has))

pub returns-then-is_full-clause-machine : goal.returns-then-is_full-clause-machine
returns-then-is_full-clause-machine c s has =
    let name = c.args.name.now in
    let peer = c.in_ok-peer.peer in
    let named = ap (λ n. peer_named n name) has.peers ∙ sym c.in_ok-peer.ensures.named in
    let stands = position-in s c.args.peers c.args.by_index.now.items c.args.by_peer.now peer has c.requires.table in
    let new : is_some (position (is_peer peer) s.av) ≡ false = rw stands (sym c.if-is_some.ensures) in
    insert-full s name peer named new (omega (arith, ap length has.indices, c.len.ensures)) ∙ ap (λ (after : State). (Index None, after)) (sym (same_addresses s _ has))

pub returns-clause-table : goal.returns-clause-table
returns-clause-table c =
    let pushed : c.push.new.self.items ≡ c.args.by_index.now.items ++ Some c.in_ok-peer.peer ∷ [] = rw c.unwrap.ensures at c.push.ensures.items in
    let count : c.len-index.result ≡ length c.args.by_index.now.items = omega (arith, c.len-index.ensures) in
    rw (pushed, count) (IsTable-push c.args.peers c.args.by_index.now.items c.args.by_peer.now c.in_ok-peer.peer c.requires.table c.in_ok-peer.ensures.below (sym c.if-is_some.ensures) (omega (arith, c.len.ensures)))

pub returns-clause-machine : goal.returns-clause-machine
returns-clause-machine c s has =
    let name = c.args.name.now in
    let peer = c.in_ok-peer.peer in
    let named = ap (λ n. peer_named n name) has.peers ∙ sym c.in_ok-peer.ensures.named in
    let stands = position-in s c.args.peers c.args.by_index.now.items c.args.by_peer.now peer has c.requires.table in
    let new : is_some (position (is_peer peer) s.av) ≡ false = rw stands (sym c.if-is_some.ensures) in
    let pushed : c.push.new.self.items ≡ c.args.by_index.now.items ++ Some peer ∷ [] = rw c.unwrap.ensures at c.push.ensures.items in
    let count : c.len-index.result ≡ length c.args.by_index.now.items = omega (arith, c.len-index.ensures) in
    let added = insert-push s name peer named new (omega (arith, ap length has.indices, c.len.ensures)) in
    rw (pushed, count) (added ∙ ap (λ list. (Index (Some (length list)), record s { av = list ++ Some peer ∷ [] })) has.indices)

pub returns-then-is_some-clause-index : goal.returns-then-is_some-clause-index
returns-then-is_some-clause-index c =
    sym (index_named-table c.args.peers c.args.by_index.now.items c.args.by_peer.now c.args.name.now c.in_ok-peer.peer c.requires.table (sym c.in_ok-peer.ensures.named))

pub returns-then-is_full-clause-index : goal.returns-then-is_full-clause-index
returns-then-is_full-clause-index c =
    let stands = index_named-table c.args.peers c.args.by_index.now.items c.args.by_peer.now c.args.name.now c.in_ok-peer.peer c.requires.table (sym c.in_ok-peer.ensures.named) in
    sym (stands ∙ none_from _ (sym c.if-is_some.ensures))

pub returns-clause-index : goal.returns-clause-index
returns-clause-index c =
    let peer = c.in_ok-peer.peer in
    let list = c.args.by_index.now.items in
    let places = c.args.by_peer.now in
    let pushed : c.push.new.self.items ≡ list ++ Some peer ∷ [] = rw c.unwrap.ensures at c.push.ensures.items in
    let count : c.len-index.result ≡ length list = omega (arith, c.len-index.ensures) in
    let table = IsTable-push c.args.peers list places peer c.requires.table c.in_ok-peer.ensures.below (sym c.if-is_some.ensures) (omega (arith, c.len.ensures)) in
    let stands = index_named-table c.args.peers (list ++ Some peer ∷ []) (slice_set places peer (Some (length list))) c.args.name.now peer table (sym c.in_ok-peer.ensures.named) in
    rw (pushed, count) (sym (stands ∙ get_or-set_same places peer (Some (length list)) None (omega (arith, c.requires.table.all, c.in_ok-peer.ensures.below))))
