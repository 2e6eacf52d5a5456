use Rattle.std.proofs.Common.{Bool, slice_index_or, sym}
use Rattle.fab_model.proofs.Turns.{slice_get-set_other}
use Rattle.fab_finish.specs.declared.rounds.Went.{Went}
use Rattle.fab_finish.proofs.Joining.{got, turned_all}
use Rattle.fab_finish.proofs.Freight.{still_at, turned_lowers}
use Rattle.fab_finish.proofs.Wanting.{stays_leaves, turned_grows}
use Rattle.fab_finish.proofs.rounds.turn.Goals as goal

abbrev moved : Went → Bool
moved w = w.moved

abbrev stepped : Went → Bool
stepped w = w.stepped

pub take_turn-requires : goal.take_turn-requires
take_turn-requires g c =
    let own = c.requires.joined.own c.args.number _ (got c.args.peers.now c.args.number c.index-peers-number.result c.requires.below) in
    record { log = own.log; counted = own.counted }

pub returns-clause-joined : goal.returns-clause-joined
returns-clause-joined g c =
    let ps = c.args.peers.now in
    let a = slice_index_or c.args.peers.now c.args.number c.index-peers-number.result in
    (turned_all moved c.take_turn.result ps c.args.number a c.take_turn.new.peer c.requires.joined (got ps c.args.number c.index-peers-number.result c.requires.below) c.take_turn.ensures.log c.take_turn.ensures.counted c.take_turn.ensures.turned).0

pub returns-clause-on : goal.returns-clause-on
returns-clause-on g c =
    let ps = c.args.peers.now in
    let a = slice_index_or c.args.peers.now c.args.number c.index-peers-number.result in
    (turned_all moved c.take_turn.result ps c.args.number a c.take_turn.new.peer c.requires.joined (got ps c.args.number c.index-peers-number.result c.requires.below) c.take_turn.ensures.log c.take_turn.ensures.counted c.take_turn.ensures.turned).1

pub returns-clause-others : goal.returns-clause-others
returns-clause-others g c k other = slice_get-set_other c.args.peers.now c.args.number k c.take_turn.new.peer (λ e. other (sym e))

pub returns-clause-still : goal.returns-clause-still
returns-clause-still g c =
    let ps = c.args.peers.now in
    let a = slice_index_or c.args.peers.now c.args.number c.index-peers-number.result in
    still_at moved c.take_turn.result ps c.args.number a c.take_turn.new.peer c.requires.below c.take_turn.ensures.still

pub returns-clause-lowers : goal.returns-clause-lowers
returns-clause-lowers g c =
    let ps = c.args.peers.now in
    let a = slice_index_or c.args.peers.now c.args.number c.index-peers-number.result in
    turned_lowers moved stepped c.take_turn.result ps c.args.number a c.take_turn.new.peer c.requires.joined (got ps c.args.number c.index-peers-number.result c.requires.below) c.take_turn.ensures.open c.take_turn.ensures.turned c.take_turn.ensures.stepped

pub returns-clause-grows : goal.returns-clause-grows
returns-clause-grows g c =
    let ps = c.args.peers.now in
    let a = slice_index_or c.args.peers.now c.args.number c.index-peers-number.result in
    turned_grows ps c.args.number a c.take_turn.new.peer (got ps c.args.number c.index-peers-number.result c.requires.below) moved c.take_turn.result c.take_turn.ensures.turned c.take_turn.ensures.stays

pub returns-clause-leaves : goal.returns-clause-leaves
returns-clause-leaves g c =
    let ps = c.args.peers.now in
    let a = slice_index_or c.args.peers.now c.args.number c.index-peers-number.result in
    stays_leaves ps c.args.number a c.take_turn.new.peer (got ps c.args.number c.index-peers-number.result c.requires.below) c.take_turn.result c.take_turn.ensures.stays
