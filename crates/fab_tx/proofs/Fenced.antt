-- What a fence holds back has to wait, after each call; and how many operations are deferred.
use Rattle.std.proofs.Common.{◌≡◌, ◌≢◌, ℕ, ◌+◌, Bool, true, false, [], ◌∷◌, ◌++◌, length, Option, Some, None, refl, sym, ap, subst, ◌∙◌}
use Rattle.fab_base.specs.declared.items.ItemHead.{ItemHead}
use Rattle.fab_base.specs.declared.operations.Operation.{Operation}
use Rattle.fab_base.specs.declared.operations.Held.{Held}
use Rattle.fab_base.proofs.Lists.{all_the_same as replicate_get}
use Rattle.fab_model.specs.Matching.{remove_first}
use Rattle.fab_model.specs.State.{Transmitting, held_for}
use Rattle.fab_model.specs.Sending.{AreFenced, accepting, answering, ending, is_busy, let_out, transmitting, going_on as goes_on}
use Rattle.fab_model.proofs.Fences.{letting_waits}
use Rattle.fab_model.proofs.Firsts.{not_found as removed_none}
use Rattle.fab_tx.specs.Transit.{answered, finds_answered, nothing_transmitted, transmitted}
use Rattle.fab_tx.specs.Stored.{is_for, is_some_live, mine}
use Rattle.fab_tx.proofs.Ops.{busy_is, mine_elsewhere, remove_elsewhere}
use Rattle.fab_tx.proofs.Steps.{item_its, transmitted_none, transmitted_some}
use Rattle.fab_tx.proofs.Answering.{answer_its, answered_none, answered_some}

pub fenced_nothing : (peers : ℕ) → AreFenced (nothing_transmitted peers)
fenced_nothing peers d = ap (let_out false) (replicate_get peers d [])

pub fenced_accepting : (d : ℕ) (h : Held) (tx : Transmitting) → AreFenced tx → AreFenced (accepting d h tx)
unfolding accepting
fenced_accepting d h tx waits = letting_waits d (held_for tx d ++ h ∷ []) (record tx { ops = tx.ops + 1 }) (λ k differ. waits k)

-- ---- an operation ends

-- for other peers as many are under way as before
module _ (d : ℕ) (test : Operation → Bool) (its : (o : Operation) → test o ≡ true → is_for d o ≡ true) (tx u : Transmitting) (live : u.live ≡ remove_first test tx.live) (held : u.held ≡ tx.held) (waits : AreFenced tx) where
  mine_same : (k : ℕ) → k ≢ d → mine k u.live ≡ mine k tx.live
  mine_same k other = ap (mine k) live ∙ sym (mine_elsewhere d k other (remove_first test tx.live)) ∙ ap (mine k) (remove_elsewhere d test its tx.live) ∙ mine_elsewhere d k other tx.live

  busy_same : (k : ℕ) → k ≢ d → is_busy u k ≡ is_busy tx k
  busy_same k other = busy_is k u.live ∙ ap (λ os. is_some_live (length os)) (mine_same k other) ∙ sym (busy_is k tx.live)

  fenced_ended : AreFenced (goes_on d u)
  fenced_ended = letting_waits d (held_for u d) u (λ k differ. rw (held, busy_same k (λ e. differ (sym e))) (waits k))

fenced_same : (tx u : Transmitting) → u.live ≡ tx.live → u.held ≡ tx.held → AreFenced tx → AreFenced u
fenced_same tx u live held waits k = rw (live, held) (waits k)

pub fenced_transmitted : (d : ℕ) (tx : Transmitting) → AreFenced tx → AreFenced (transmitted d tx)
unfolding transmitting
fenced_transmitted d tx waits = by (ending d tx) refl
  where
    by : (o : Option Operation) → ending d tx ≡ o → AreFenced (transmitted d tx)
    by None e = subst AreFenced (sym (transmitted_none d tx e)) (fenced_same tx (transmitting d tx) (removed_none _ tx.live e) refl waits)
    by (Some o) e = subst AreFenced (sym (transmitted_some d tx o e)) (fenced_ended d _ (item_its d _) tx (transmitting d tx) refl refl waits)

pub fenced_answered : (source : ℕ) (reply : ItemHead) (tx : Transmitting) → AreFenced tx → AreFenced (answered source reply tx)
unfolding answering
fenced_answered source reply tx waits = by (finds_answered source reply tx) refl
  where
    by : (o : Option Operation) → finds_answered source reply tx ≡ o → AreFenced (answered source reply tx)
    by None e = subst AreFenced (sym (answered_none tx source reply e)) waits
    by (Some o) e = subst AreFenced (sym (answered_some tx source reply o e)) (fenced_ended source _ (answer_its tx source reply) tx (answering source reply tx) refl refl waits)
