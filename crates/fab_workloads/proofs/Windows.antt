-- The windows of `bandwidth`.
use Rattle.std.proofs.Common.{List, [], ap, append_assoc, ℕ, ◌++◌, ◌+◌, ◌-◌, ◌∙◌, ◌∷◌, ◌≡◌}
use Rattle.fab_base.specs.declared.script.BytesWord.TheVariants.{Zero}
use Rattle.fab_base.specs.declared.script.LineOp.{LineOp}
use Rattle.fab_workloads.specs.Lines.{joined, receive, receiving, send, sent_by, wait}

-- n messages after so many others are received, waited for and acknowledged
abbrev pub received : ℕ → ℕ → ℕ → ℕ → List LineOp
received size before n ack =
    joined n (λ k. receive (before + k) 0 (before + k) size ∷ []) ++ joined n (λ k. wait (before + k) ∷ []) ++ send ack 0 ack (Zero 4) ∷ []

-- these are appended one after another
pub received_after : (size count window w before n ack : ℕ) (old posted waited new : List LineOp)
    → before ≡ sent_by count window (w - 1) → n ≡ sent_by count window w - before → ack ≡ count + w
    → posted ≡ old ++ joined n (λ k. receive (before + k) 0 (before + k) size ∷ [])
    → waited ≡ posted ++ joined n (λ k. wait (before + k) ∷ [])
    → new ≡ waited ++ send ack 0 ack (Zero 4) ∷ []
    → new ≡ old ++ receiving size count window w
received_after size count window w before n ack old posted waited new before_is n_is ack_is posted_is waited_is new_is =
    let posts = joined n (λ k. receive (before + k) 0 (before + k) size ∷ []) in
    let waits = joined n (λ k. wait (before + k) ∷ []) in
    let last : List LineOp = send ack 0 ack (Zero 4) ∷ [] in
    let most = sent_by count window w in
    new_is
    ∙ ap (λ xs. xs ++ last) (waited_is ∙ ap (λ xs. xs ++ waits) posted_is ∙ append_assoc old posts waits)
    ∙ append_assoc old (posts ++ waits) last
    ∙ ap (λ a. old ++ received size before n a) ack_is
    ∙ ap (λ k. old ++ received size before k (count + w)) n_is
    ∙ ap (λ b. old ++ received size b (most - b) (count + w)) before_is
