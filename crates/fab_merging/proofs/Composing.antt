-- What a peer did goes on: one turn after another.
use Rattle.std.proofs.Common.{[], ◌++◌, refl, sym, ap, ◌∙◌, subst, append_assoc, append-nil}
use Rattle.fab_face.specs.Acts.{MovedBy, ways_of, steps_of, taken_of, posted_to}
pub use Rattle.fab_face.proofs.Joining.{moved_then, moved_none as moved_same}
use Rattle.fab_peer.proofs.Paths.{lives_append}
use Rattle.fab_merging.specs.Pasts.{Past, Acted}
use Rattle.fab_merging.proofs.Lists.{taken-append, posted-append, steps-append, ways-append}

pub acted_same : (x : Past) → Acted x x
acted_same x = ([], record { lives = refl; steps = sym (append-nil x.steps); moves = moved_same x.moves; outs = λ d. sym (append-nil (x.outs d)); ins = λ s. sym (append-nil (x.ins s)) })

-- after some turns another
pub acted_then : (x y z : Past) → Acted x y → Acted y z → Acted x z
acted_then x y z (xs, f) (ys, g) = (
  xs ++ ys,
  record {
    lives = lives_append x.living y.living z.living xs ys f.lives g.lives;
    steps = g.steps ∙ ap (λ l. l ++ steps_of ys) f.steps ∙ append_assoc x.steps (steps_of xs) (steps_of ys) ∙ ap (λ l. x.steps ++ l) (sym (steps-append xs ys));
    moves = subst (λ ws. MovedBy x.moves z.moves ws) (sym (ways-append xs ys)) (moved_then x.moves y.moves z.moves (ways_of xs) (ways_of ys) f.moves g.moves);
    outs = λ d. g.outs d ∙ ap (λ l. l ++ posted_to d ys) (f.outs d) ∙ append_assoc (x.outs d) (posted_to d xs) (posted_to d ys) ∙ ap (λ l. x.outs d ++ l) (sym (posted-append d xs ys));
    ins = λ s. g.ins s ∙ ap (λ l. l ++ taken_of s ys) (f.ins s) ∙ append_assoc (x.ins s) (taken_of s xs) (taken_of s ys) ∙ ap (λ l. x.ins s ++ l) (sym (taken-append s xs ys));
  },
)
