-- Texts whose rounds are worked out by the definitions alone.
use Rattle.std.proofs.Common.{List, [], refl, ℕ, ◌++◌, ◌∷◌, ◌≡◌}
use Rattle.std.specs.Prelude.{Err, Ok, codes}
use Rattle.fab_base.specs.declared.items.AtomicOp.TheVariants.{Sum}
use Rattle.fab_base.specs.declared.items.Num.TheVariants.{U8}
use Rattle.fab_base.specs.declared.status.Why.TheVariants as why
use Rattle.fab_grammar.specs.Opened.{grammar}
use Rattle.fab_workloads.specs.Grammar.{peers_rules, read_lines, read_share, round_rules, rounds_said, said_of, verdict, why_of, with_line}
use Rattle.fab_model.specs.Machine.{machine}
use Rattle.fab_model.specs.Target.{element, elements}
use Rattle.fab_fold.specs.Shares.{fold}
use Rattle.fab_workloads.specs.Text.{coll_text}
use Rattle.fab_fold.specs.declared.coll.Coll.TheVariants.{Allgather, Allreduce, Barrier, Broadcast}

abbrev line : List ℕ → List ℕ → List ℕ
line text rest = text ++ 10 ∷ rest

-- three ranks, and a round of each kind
four : verdict (line (codes "coll 1") (line (codes "peers 3") (line (codes "allreduce FI_SUM u8 200 100 7") (line (codes "broadcast 2 text:ab") (line (codes "allgather text:a text:b text:c") (codes "barrier"))))))
    ≡ Ok (
      3,
      record { line = 3; coll = Allreduce Sum U8; shares = (200 ∷ []) ∷ (100 ∷ []) ∷ (7 ∷ []) ∷ [] }
          ∷ record { line = 4; coll = Broadcast 2; shares = (97 ∷ 98 ∷ []) ∷ [] }
          ∷ record { line = 5; coll = Allgather; shares = (97 ∷ []) ∷ (98 ∷ []) ∷ (99 ∷ []) ∷ [] }
          ∷ record { line = 6; coll = Barrier; shares = [] } ∷ [],
    )
unfolding grammar peers_rules read_lines read_share round_rules rounds_said said_of verdict why_of with_line
four = refl

root : verdict (line (codes "coll 1") (line (codes "peers 2") (line (codes "broadcast 2 text:a") []))) ≡ Err (3, why.Peer)
unfolding grammar peers_rules read_lines read_share round_rules rounds_said said_of verdict why_of with_line
root = refl

lengths : verdict (line (codes "coll 1") (line (codes "peers 2") (line (codes "allgather text:a text:bc") []))) ≡ Err (3, why.Words)
unfolding grammar peers_rules read_lines read_share round_rules rounds_said said_of verdict why_of with_line
lengths = refl

-- of three shares one is no number of its type: the others differ, or they do not
other_lengths : verdict (line (codes "coll 1") (line (codes "peers 3") (line (codes "allreduce FI_SUM u8 1,2 x 1") []))) ≡ Err (3, why.Words)
unfolding grammar peers_rules read_lines read_share round_rules rounds_said said_of verdict why_of with_line
other_lengths = refl

lengths_alike : verdict (line (codes "coll 1") (line (codes "peers 3") (line (codes "allreduce FI_SUM u8 1 2,x 1") []))) ≡ Err (3, why.Number)
unfolding grammar peers_rules read_lines read_share round_rules rounds_said said_of verdict why_of with_line
lengths_alike = refl

few : verdict (line (codes "coll 1") (line (codes "peers 3") (line (codes "allgather text:a text:b") []))) ≡ Err (3, why.Words)
unfolding grammar peers_rules read_lines read_share round_rules rounds_said said_of verdict why_of with_line
few = refl

early : verdict (line (codes "coll 1") (line (codes "barrier") [])) ≡ Err (2, why.Order)
unfolding grammar peers_rules read_lines read_share round_rules rounds_said said_of verdict why_of with_line
early = refl

long : verdict (line (codes "coll 1") (line (codes "peers 2") (line (codes "allgather zero:4097 zero:4097") []))) ≡ Err (3, why.Limit)
unfolding grammar peers_rules read_lines read_share round_rules rounds_said said_of verdict why_of with_line
long = refl

swap : verdict (line (codes "coll 1") (line (codes "peers 1") (line (codes "allreduce FI_CSWAP u8 1") []))) ≡ Err (3, why.Words)
unfolding grammar peers_rules read_lines read_share round_rules rounds_said said_of verdict why_of with_line
swap = refl

missing : verdict (codes "coll 1") ≡ Err (1, why.Missing)
unfolding grammar peers_rules read_lines read_share round_rules rounds_said said_of verdict why_of with_line
missing = refl

-- ---- what is written

written : coll_text 2 (record { line = 3; coll = Allreduce Sum U8; shares = (200 ∷ []) ∷ (107 ∷ []) ∷ [] } ∷ record { line = 6; coll = Barrier; shares = [] } ∷ [])
    ≡ line (codes "coll 1 peers 2") (line (codes "peer 0") (line (codes "3 allreduce 33") (line (codes "6 barrier -") (line (codes "peer 1") (line (codes "3 allreduce 33") (line (codes "6 barrier -") (line (codes "end done") [])))))))
unfolding coll_text fold elements element machine
written = refl
