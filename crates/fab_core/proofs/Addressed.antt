-- The address vector of a core is the machine's.
use Rattle.std.proofs.Common.{◌≡◌, ℕ, ◌<◌, List, map, Some, refl, sym, ◌∙◌, subst}
use Rattle.std.specs.Prelude.{IfOk, IfErr, OnOk, Result, Ok, Err}
use Rattle.fab_base.specs.declared.faults.Fault.{Fault}
use Rattle.fab_base.specs.declared.faults.NoMemory.{NoMemory}
use Rattle.fab_base.specs.declared.peers.LineResult.TheVariants.{Done, Index, Refused}
use Rattle.fab_av.specs.Addresses.{Addresses, HasAddresses, answer_of, inserting, with_addresses}
use Rattle.fab_av.specs.declared.addresses.InsertReport.{InsertReport}
use Rattle.fab_model.specs.State.{State, lookup}
use Rattle.fab_model.specs.Calls.{Remove, do_call, remove}
use Rattle.fab_core.specs.Parts.{IsTogether, Parts, state_of}

module _ (p : Parts) (av : Addresses) (ok : IsTogether p) where
  pub together_addressed : av.peers ≡ p.av.peers → ((i peer : ℕ) → lookup av.indices i ≡ Some peer → peer < av.peers) → IsTogether (record p { av = av })
  together_addressed peers within = record {
    size = ok.size;
    peers = ok.peers;
    addresses = peers ∙ ok.addresses;
    addressed = λ i k is. subst (λ (n : ℕ). k < n) (peers ∙ ok.addresses) (within i k is);
    earlier = ok.earlier;
    fitting = ok.fitting;
    rooms = ok.rooms;
  }

  has : HasAddresses (state_of p) p.av
  has = record { peers = sym ok.addresses; indices = refl }

  pub if_inserts : (names : List (List ℕ)) (r : Result InsertReport NoMemory)
      → IfOk r (λ report. (s : State) → HasAddresses s p.av → inserting s names ≡ (map Index report.indices, with_addresses av s))
      → IfOk r (λ report. inserting (state_of p) names ≡ (map Index report.indices, state_of (record p { av = av })))
  if_inserts names (Ok report) machine = machine (state_of p) has
  if_inserts names (Err why) machine = tt

  removes : (index : ℕ) (r : Result (Unit {0}) Fault) → ((s : State) → HasAddresses s p.av → remove s index ≡ (answer_of r, with_addresses av s)) → do_call (state_of p) (Remove index) ≡ (answer_of r, state_of (record p { av = av }))
  unfolding do_call
  removes index r machine = machine (state_of p) has

  pub if_removes : (index : ℕ) (r : Result (Unit {0}) Fault) → ((s : State) → HasAddresses s p.av → remove s index ≡ (answer_of r, with_addresses av s))
      → OnOk r (do_call (state_of p) (Remove index) ≡ (Done, state_of (record p { av = av })))
  if_removes index (Ok u) machine = removes index (Ok u) machine
  if_removes index (Err why) machine = tt

  pub if_removes_not : (index : ℕ) (r : Result (Unit {0}) Fault) → ((s : State) → HasAddresses s p.av → remove s index ≡ (answer_of r, with_addresses av s))
      → IfErr r (λ why. do_call (state_of p) (Remove index) ≡ (Refused why, state_of (record p { av = av })))
  if_removes_not index (Ok u) machine = tt
  if_removes_not index (Err why) machine = removes index (Err why) machine
