use Rattle.std.proofs.Common.{◌≡◌, ℕ, ◌+◌, ◌<◌, ◌≤◌, ◌++◌, List, Option, IsSome, All, min, map, length, take, is_some, vec_len, vec_capacity}
use Rattle.std.specs.List.{count_by}
use Rattle.fab_base.specs.declared.peers.LineResult.TheVariants.{Index}
use Rattle.fab_model.specs.State.{State}
use Rattle.fab_av.specs.Addresses.{HasAddresses, IsTable, IsNamed, index_named, inserting}
use Rattle.fab_av.proofs.addresses.Av.insert.Given as goal

-- the names so far are inserted, and there is memory for the others
abbrev pub invariant-loop-name : goal.invariant-loop-name
invariant-loop-name l = record {
  table : IsTable l.self-inside.peers l.self-inside.by_index.items l.self-inside.by_peer.items;
  peers : l.self-inside.peers ≡ l.fn.self.peers;
  grown : vec_len l.self-inside.by_index ≤ length l.fn.self.indices + l.name-index;
  room : min 4_096 (length l.fn.self.indices + length l.names) ≤ vec_capacity l.self-inside.by_index;
  listed : vec_len l.indices ≡ l.name-index;
  spare : length l.names ≤ vec_capacity l.indices;
  machine : (s : State) → HasAddresses s l.fn.self →
      inserting s (take l.name-index l.names) ≡ (map Index l.indices.items, record s { av = l.self-inside.by_index.items });
  inserted : l.inserted ≡ count_by is_some l.indices.items;
  extended : (more : List (Option ℕ)) × (l.self-inside.by_index.items ≡ l.fn.self.indices ++ more);
  told : l.indices.items ≡ map (index_named (record { peers = l.self-inside.peers; indices = l.self-inside.by_index.items })) (take l.name-index l.names);
  all : length l.self-inside.by_index.items < 4_096 →
      All (λ name. IsNamed l.self-inside.peers name → IsSome (index_named (record { peers = l.self-inside.peers; indices = l.self-inside.by_index.items }) name)) (take l.name-index l.names);
  few : l.inserted ≤ l.name-index;
}
