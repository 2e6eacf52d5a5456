-- What a poll told, and the index of a peer.
use Rattle.std.proofs.Common.{◌≡◌, ℕ, Bool, true, false, List, Option, Some, None, Ok, get_or, position, refl, ap, sym, subst}
use Rattle.std.specs.Prelude.{IfSome}
use Rattle.std.proofs.lemmas.Bool.{eqb-true}
use Rattle.std.proofs.lemmas.List.Quantifiers.{position-Some}
use Rattle.fabric.specs.Calls.{is_peer}
use Rattle.fabric.specs.Held.{Seen}
use Rattle.fabric.specs.Polls.{Polls, PollsAs}
use Rattle.fabric.specs.Receiving.{draw_due}
use Rattle.fabric.specs.State.{lookup}
use Rattle.fabric.specs.Words.{Entry, Polled, PolledEntry, PolledIdle}
use Rattle.fabric_uses.specs.Uses.{first_unread}

-- ---- the index of a peer

is_the_peer : (peer : ℕ) (o : Option ℕ) → is_peer peer o ≡ true → o ≡ Some peer
is_the_peer peer None e = absurd (cc (e))
is_the_peer peer (Some k) e = ap (λ n. Some n) (eqb-true k peer e)

-- the index that is told is one of the peer
pub stands_there : (av : List (Option ℕ)) (peer dest : ℕ) → Some dest ≡ position (is_peer peer) av → lookup av dest ≡ Some peer
stands_there av peer dest e = is_the_peer peer (get_or av dest None) (position-Some (is_peer peer) av dest None (sym e)).1

-- ---- what a poll told

module _ {Home : Type 0} (fixed : Bool) (budget : ℕ) (old new : Seen Home) (polled : Polled) (p : Polls fixed budget old new (Ok polled)) where
  abbrev told : Polled → Type 0
  told x = PollsAs budget old p.mid new p.progressed.acts p.moved (Ok x)

  pub read_entry : (o : Option Entry) → IfSome o (λ e. polled ≡ PolledEntry e) → IfSome o (λ e. Polls fixed budget old new (Ok (PolledEntry e)))
  read_entry None is = tt
  read_entry (Some e) is = subst (λ (x : Polled). Polls fixed budget old new (Ok x)) is p

  pub idle_read : polled ≡ PolledIdle → first_unread new.held.state.cq ≡ None
  idle_read is = let idle : told PolledIdle = subst (λ (x : Polled). told x) is p.told in subst (λ (e : Seen Home). first_unread e.held.state.cq ≡ None) (sym idle.0.0) (rw idle.0.1 refl)

  pub idle_drawn : polled ≡ PolledIdle → draw_due new.held.state.rx ≡ false
  idle_drawn is = let idle : told PolledIdle = subst (λ (x : Polled). told x) is p.told in subst (λ (e : Seen Home). draw_due e.held.state.rx ≡ false) (sym idle.0.0) idle.1.draws

-- ---- what was read, and what is told of it

pub of_read : {T X : Type 0} (R : T → Type 0) (P : T → X → Type 0) (t : T) (o : Option X) → R t → IfSome o (λ x. P t x) → IfSome o (λ x. (u : T) × R u × P u x)
of_read R P t None read is = tt
of_read R P t (Some x) read is = (t, read, is)

pub same_some : {X : Type 0} (o : Option X) → IfSome o (λ x. o ≡ Some x)
same_some None = tt
same_some (Some x) = refl
