-- A message of a round is no longer than a number of 64 bits says, by the rule of when messages go by doubling.
use Rattle.std.proofs.Common.{◌≡◌, ℕ, ◌*◌, ◌/◌, ◌^◌, ◌<◌, ◌≤◌, ◌⊎◌, inl, inr, Bool, true, false, not, ◌&&◌, if◌then◌else◌, refl, sym, subst, arith}
use Rattle.std.specs.Prelude.{nat_lt}
use Rattle.std.proofs.lemmas.Bool.{and_parts, ltb-false}
use Rattle.std.proofs.lemmas.Nat.{mul-le}
use Rattle.std.proofs.Math.Nat.{mul-div-le}
use Rattle.fab_base.specs.declared.items.AtomicOp.{AtomicOp}
use Rattle.fab_base.specs.declared.items.Num.{Num}
use Rattle.fab_base.specs.declared.limits.TheConstants.{INJECT_BYTES}
use Rattle.fab_base.proofs.Bools.{not_true as not-false}
use Rattle.fab_fold.specs.declared.coll.Coll.{Coll}
use Rattle.fab_fold.specs.declared.coll.Coll.TheVariants.{Barrier, Allgather, Allreduce}
use Rattle.fab_topology.specs.declared.kinds.Topology.TheVariants.{Mesh, Dissemination}
use Rattle.fab_topology.specs.Rounds.{width}
use Rattle.fab_collectives.specs.Routes.{is_doubled, topology_by, topology_of}
use Rattle.fab_collectives.specs.declared.collective.Work.{Work}
use Rattle.fab_collectives.specs.declared.routes.TheConstants.{DOUBLING_FROM}

-- by doubling all shares together have at most twice the bytes of an inject call
pub small : (peers len : ℕ) → (not (nat_lt peers DOUBLING_FROM) && not (nat_lt (2 * INJECT_BYTES / peers) len)) ≡ true → peers * len ≤ 2 * INJECT_BYTES
small peers len is = let both = and_parts (not (nat_lt peers DOUBLING_FROM)) (not (nat_lt (2 * INJECT_BYTES / peers) len)) is in
    let fits = ltb-false (2 * INJECT_BYTES / peers) len (not-false (nat_lt (2 * INJECT_BYTES / peers) len) both.1) in
    let less = mul-le peers len peers (2 * INJECT_BYTES / peers) (omega arith) fits in let most = mul-div-le (2 * INJECT_BYTES) peers in omega arith

plain : (peers len k : ℕ) → len < 2 ^ 64 → width (if not (nat_lt peers DOUBLING_FROM) && not (nat_lt (2 * INJECT_BYTES / peers) len) then Dissemination else Mesh) peers k * len < 2 ^ 64
plain peers len k fits = by (not (nat_lt peers DOUBLING_FROM) && not (nat_lt (2 * INJECT_BYTES / peers) len)) refl
  where
    by : (b : Bool) → (not (nat_lt peers DOUBLING_FROM) && not (nat_lt (2 * INJECT_BYTES / peers) len)) ≡ b → width (if b then Dissemination else Mesh) peers k * len < 2 ^ 64
    by true is = let most = small peers len is in
        let wide : width Dissemination peers k ≤ peers = omega arith in
        let less = mul-le (width Dissemination peers k) len peers len wide (omega arith) in omega arith
    by false is = omega arith

pub wide_fits : (work : Work) (len k : ℕ) → (work.coll ≡ Barrier) ⊎ ((work.coll ≡ Allgather) ⊎ ((op : AtomicOp) × (num : Num) × work.coll ≡ Allreduce op num))
    → len < 2 ^ 64 → width (topology_of work len) work.peers k * len < 2 ^ 64
wide_fits work len k are fits = by are
  where
    at_kind : (coll : Coll) → work.coll ≡ coll → width (topology_by coll (is_doubled coll work.peers len)) work.peers k * len < 2 ^ 64 → width (topology_of work len) work.peers k * len < 2 ^ 64
    at_kind coll is fit = subst (λ (coll : Coll). width (topology_by coll (is_doubled coll work.peers len)) work.peers k * len < 2 ^ 64) (sym is) fit

    by : (work.coll ≡ Barrier) ⊎ ((work.coll ≡ Allgather) ⊎ ((op : AtomicOp) × (num : Num) × work.coll ≡ Allreduce op num)) → width (topology_of work len) work.peers k * len < 2 ^ 64
    by (inl is) = at_kind Barrier is (plain work.peers len k fits)
    by (inr (inl is)) = at_kind Allgather is (plain work.peers len k fits)
    by (inr (inr (op, num, is))) = at_kind (Allreduce op num) is (plain work.peers len k fits)
