-- An endpoint that is opened over a fresh port stands between calls.
use Rattle.std.proofs.Common.{◌≡◌, ℕ, ◌≤◌, Bool, true, ◌&&◌, ◌==◌, [], Option, None, refl, ◌∙◌, arith}
use Rattle.std.proofs.lemmas.Bool.{and_parts, leb-true}
use Rattle.std.proofs.lemmas.List.{get_or-replicate, length-replicate}
use Rattle.fab_base.specs.Offer.{limits_of, most_message}
use Rattle.fab_base.specs.declared.caps.Info.{Info}
use Rattle.fab_base.specs.declared.items.Item.{Item}
use Rattle.fab_base.specs.declared.limits.Size.TheVariants.{Peers, Lane, Pool, Tx, Rx, Cq, Log, Inject}
use Rattle.fab_base.proofs.Lists.{all_the_same as same_at}
use Rattle.fab_av.specs.Addresses.{Addresses}
use Rattle.fab_link.specs.declared.port.Port.{Ghosts}
use Rattle.fab_face.specs.Held.{Held}
use Rattle.fab_face.specs.Ports.{IsFresh, is_granted, lanes_in, within}
use Rattle.fab_ep.specs.Value.{opened, seen}
use Rattle.fab_face.proofs.Repaid.{nothing_due, nothing_pledged, nothing_repaid}
use Rattle.fab_ep.specs.Tries.{IsTied}

-- what is granted has a log of four events at least
pub log_granted : (i : Info) (peers : ℕ) → is_granted i peers ≡ true → 4 ≤ i.log
log_granted i peers granted =
    let up_to_cq =
    (i.peers == peers) && within (limits_of i.api Peers) i.peers && within (limits_of i.api Lane) i.lane && within (limits_of i.api Pool) i.pool && within (limits_of i.api Tx) i.tx
    && within (limits_of i.api Rx) i.rx && within (limits_of i.api Cq) i.cq in
    let up_to_log = up_to_cq && within (limits_of i.api Log) i.log in
    let up_to_inject = and_parts (up_to_log && within (limits_of i.api Inject) i.inject) (i.message == most_message i.api) granted in
    let log = and_parts up_to_cq (within (limits_of i.api Log) i.log) (and_parts up_to_log (within (limits_of i.api Inject) i.inject) up_to_inject.0).0 in
    leb-true 4 i.log (and_parts _ _ log.1).0

pub opened_tied : {P : Type 0} (M : Ghosts P) (port : P) (av : Addresses) (info : Info) (selective : Bool) → av.peers ≡ M.peer_count port → IsFresh M port → 4 ≤ info.log
    → IsTied (seen M (opened port av info selective))
opened_tied M port av info selective count fresh most = record {
  log = most;
  within = omega (arith, most);
  peers = length-replicate {A = ℕ} av.peers 0 ∙ count;
  posted = λ d below. rw (fresh.posted d, get_or-replicate {A = ℕ} av.peers d 0 0 (omega (arith, below, count))) (fresh.out_after d below);
  taken = λ s below. rw (fresh.taken s, get_or-replicate {A = Option Item} av.peers s None None (omega (arith, below, count))) (fresh.in_after s below);
  pledged = nothing_pledged h (λ s. same_at av.peers s None) refl refl;
  repaid = nothing_repaid (lanes_in M port) h (nothing_due h (λ d. same_at av.peers d []) (λ d. same_at av.peers d []) refl refl) fresh.posted;
}
  where
    h : Held
    h = (opened port av info selective).held
