-- What a port means, and what a new endpoint over it needs: the words for the concrete type.
--     lanes_in M port    what the port means, M being the ghost members of its trait
use Rattle.std.specs.Prelude.{◌≡◌, ℕ, ◌<◌, Bool, ◌&&◌, ◌==◌, nat_le, [], None}
use Rattle.fab_base.specs.declared.caps.Info.{Info}
use Rattle.fab_base.specs.declared.limits.Limits.{Limits}
use Rattle.fab_base.specs.declared.limits.Size.TheVariants.{Peers, Lane, Pool, Tx, Rx, Cq, Log, Inject}
use Rattle.fab_base.specs.Offer.{limits_of, most_message}
use Rattle.fab_link.specs.Cut.{IsBetweenItems}
use Rattle.fab_link.specs.Meaning.{end_of, taken_end}
use Rattle.fab_link.specs.declared.port.Port.{Ghosts}
use Rattle.fab_face.specs.Held.{Lanes}

abbrev pub lanes_in : {P : Type 0} → (M : Ghosts P) → P → Lanes M.Home
lanes_in M port = record {
  number = M.number port;
  peers = M.peer_count port;
  outs = M.outs port;
  ins = M.ins port;
  home = M.home port;
  in_list = M.in_list (M.home port);
  moves = M.moves port;
}

-- ---- opening

-- nothing was posted to this port or taken from it, no frame lies open, and what was before ends with whole items
pub record IsFresh {P : Type 0} (M : Ghosts P) (port : P) : Type 0 where
  pub posted : (d : ℕ) → (M.outs port d).frames ≡ []
  pub taken : (s : ℕ) → (M.ins port s).taken ≡ []
  pub closed : (s : ℕ) → (M.ins port s).lent ≡ None
  pub out_after : (d : ℕ) → d < M.peer_count port → IsBetweenItems (M.outs port d).after
  pub in_after : (s : ℕ) → s < M.peer_count port → IsBetweenItems (M.ins port s).after

abbrev pub within : Limits → ℕ → Bool
within l n = nat_le l.least n && nat_le n l.greatest

-- the numbers are those of the offer, for so many peers
abbrev pub is_granted : Info → ℕ → Bool
is_granted i peers =
    (i.peers == peers) && within (limits_of i.api Peers) i.peers && within (limits_of i.api Lane) i.lane && within (limits_of i.api Pool) i.pool
    && within (limits_of i.api Tx) i.tx && within (limits_of i.api Rx) i.rx && within (limits_of i.api Cq) i.cq && within (limits_of i.api Log) i.log
    && within (limits_of i.api Inject) i.inject && (i.message == most_message i.api)

-- the new port goes on where the old one ended
pub record GoesOn {P Q : Type 0} (M : Ghosts P) (N : Ghosts Q) (old : P) (new : Q) : Type 0 where
  pub fresh : (d : ℕ) → ((N.outs new d).frames ≡ []) × ((N.ins new d).taken ≡ [])
  pub number : N.number new ≡ M.number old
  pub peers : N.peer_count new ≡ M.peer_count old
  pub out_after : (d : ℕ) → (N.outs new d).after ≡ end_of (M.outs old d)
  pub in_after : (s : ℕ) → (N.ins new s).after ≡ taken_end (M.ins old s)
