-- What the plain lists of a peer are in the machine.
--     rx_of, tx_of      its two halves
use Rattle.fab_model.specs.State as machine
use Rattle.fab_checker_halves.specs.declared.halves.Receiving.{Receiving}
use Rattle.fab_checker_halves.specs.declared.halves.Transmitting.{Transmitting}

abbrev pub rx_of : Receiving → machine.Receiving
rx_of rx = record {
  posted = rx.posted.items;
  closing = rx.closing.items;
  coming = rx.coming.items;
  unexpected = rx.unexpected.items;
  claimed = rx.claimed.items;
  heads = rx.heads.items;
  tails = rx.tails.items;
}

abbrev pub tx_of : Transmitting → machine.Transmitting
tx_of tx = record { accepted = tx.accepted.items; sent = tx.sent.items; live = tx.live.items; held = tx.held.items; ops = tx.ops }
