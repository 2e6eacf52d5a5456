-- New ports have posted and taken nothing.
use Rattle.std.proofs.Common.{◌≡◌, ◌∙◌, ℕ, List, None, refl, ap}
use Rattle.std.specs.List.{All}
use Rattle.std.proofs.lemmas.Option.{slice_get-get_or}
use Rattle.fab_link.specs.Frames.{last_head}
use Rattle.fab_link.specs.Meaning.{Outgoing, Incoming, AreFresh}
use Rattle.fab_queue.specs.Ports as queue
use Rattle.fab_queue.specs.Made as queues
use Rattle.fab_rounds_tests.specs.Opening.{Begins}

begins : (n peers : ℕ) (outs : ℕ → Outgoing) (ins : ℕ → Incoming) → peers ≡ n → ((d : ℕ) → (outs d).after ≡ None) → ((s : ℕ) → (ins s).after ≡ None) → ((d : ℕ) → AreFresh (outs d) (ins d)) → Begins n peers outs ins
begins n peers outs ins count out_after in_after fresh = (
  count,
  λ d. ap (last_head (outs d).after) (fresh d).frames ∙ out_after d,
  λ s. ap (last_head (ins s).after) (fresh s).taken ∙ in_after s,
)

pub queues_begin : (n peers room : ℕ) (ports : List queue.Queued) → peers ≡ n → queues.AreMade peers room ports → All (λ p. Begins n (queue.peers_of p) (queue.out_of p) (queue.in_of p)) ports
queues_begin n peers room ports is made k d below =
    let has = slice_get-get_or ports k d below in
    begins n _ _ _ ((made.sizes k _ has).0 ∙ is) (λ d. refl) (λ s. refl) (made.fresh k _ has).1
