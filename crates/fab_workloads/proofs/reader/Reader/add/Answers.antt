use Rattle.std.proofs.Common.{List, [], ap, ap₂, arith, sym, ℕ, ◌++◌, ◌+◌, ◌∙◌, ◌∷◌, ◌≡◌}
use Rattle.std.specs.Prelude.{sum_by}
use Rattle.fab_base.specs.declared.script.BytesWord.{BytesWord}
use Rattle.fab_words.specs.Bytes.{bytes_size}
use Rattle.fab_workloads.specs.Grammar.{bytes_before}
use Rattle.fab_workloads.specs.declared.round.Round.{Round}
use Rattle.fab_workloads.proofs.Sizes.{bytes_more}
use Rattle.fab_workloads.proofs.reader.Reader.add.Goals as goal

pub invariant_of-self-2 : goal.invariant_of-self-2
invariant_of-self-2 c =
    let rounds = c.args.self.now.rounds.items in
    let size : c.size_of-size.result ≡ sum_by bytes_size c.args.shares = c.size_of-size.ensures.value ∙ ap (λ (shares : List BytesWord). sum_by bytes_size shares) c.as_slice.ensures in
    let items = c.in_ok-push.ensures.items ∙ ap (λ (shares : List (List ℕ)). rounds ++ record { line = c.args.number; coll = c.args.coll; shares = shares } ∷ []) c.in_ok-shares.ensures in
    record {
      few_ranks = c.args.self.now.few_ranks;
      total = ap₂ (λ n m. n + m) c.args.self.now.total size ∙ sym (bytes_more rounds c.args.number c.args.coll c.args.shares c.requires.named)
          ∙ ap (λ (all : List Round). bytes_before all) (sym items);
      few_bytes = omega (arith, c.requires.room, size);
    }
