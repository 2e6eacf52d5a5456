-- A request asks for no reply besides its own.
use Rattle.std.proofs.Common.{◌≡◌, refl}
use Rattle.fab_base.specs.declared.items.Ack.TheVariants.{Nothing}
use Rattle.fab_base.specs.declared.peers.Level.{Level}
use Rattle.fab_model.specs.Sending.{ack_of}
use Rattle.fab_face.specs.Requesting.{kind_asked}
use Rattle.fab_face.specs.declared.requesting.Asked.{Asked}
use Rattle.fab_face.specs.declared.requesting.Asked.TheVariants.{Read, Write, Atomic}

pub asks_no_ack : (a : Asked) (level : Level) → ack_of (kind_asked a) level ≡ Nothing
asks_no_ack Read level = refl
asks_no_ack Write level = refl
asks_no_ack (Atomic atom) level = refl
