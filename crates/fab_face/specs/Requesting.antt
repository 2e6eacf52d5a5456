-- Reads, writes and atomics of a peer, as the machine's calls (fi_rma(3), fi_atomic(3)).
--     kind_asked, atom_asked asked               what is asked for, in the words of an item's head
--     order_asked request bytes compared buf     the transmit call of a request
--     requesting request bytes compared buf      the same, as a call
use Rattle.std.specs.Prelude.{ℕ, List, Option, Some, None, is_none}
use Rattle.fab_base.specs.declared.items.Atom.{Atom}
use Rattle.fab_base.specs.declared.items.Kind.{Kind}
use Rattle.fab_base.specs.declared.items.Kind.TheVariants.{ReadReq, WriteReq, AtomicReq}
use Rattle.fab_base.specs.declared.peers.Level.{Level}
use Rattle.fab_model.specs.Sending.{Order}
use Rattle.fab_model.specs.Calls.{Call, Transmit}
use Rattle.fab_face.specs.declared.requesting.Asked.{Asked}
use Rattle.fab_face.specs.declared.requesting.Asked.TheVariants.{Read, Write, Atomic}
use Rattle.fab_face.specs.declared.requesting.Request.{Request}

abbrev pub kind_asked : Asked → Kind
kind_asked Read = ReadReq
kind_asked Write = WriteReq
kind_asked (Atomic atom) = AtomicReq

abbrev pub atom_asked : Asked → Option Atom
atom_asked Read = None
atom_asked Write = None
atom_asked (Atomic atom) = Some atom

abbrev pub order_asked : Request → List ℕ → List ℕ → Option (List ℕ) → Order
order_asked r bytes compared buf = record {
  kind = kind_asked r.asked;
  injected = is_none r.ctx;
  dest = r.dest;
  tag = 0;
  imm = r.imm;
  key = r.key;
  at = r.at;
  count = r.count;
  atom = atom_asked r.asked;
  bytes = bytes;
  compared = compared;
  ctx = r.ctx;
  level = Level.Delivery;
  completion = r.completion;
  fence = r.fence;
  buf = buf;
}

abbrev pub requesting : Request → List ℕ → List ℕ → Option (List ℕ) → Call
requesting r bytes compared buf = Transmit (order_asked r bytes compared buf)
