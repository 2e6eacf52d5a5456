use Rattle.std.proofs.Common.{ap, string_bytes, ◌++◌, ◌∙◌, ◌≡◌, codes, decimal, ◌∷◌, []}
use Rattle.fab_model.specs.Words.{line_of}
use Rattle.fab_command_runs.proofs.Telling.{whole_text}
use Rattle.fab_command_runs.proofs.ranks.coll_text.Goals as goal

pub returns : goal.returns
returns g c =
    let peers = c.args.script.now.peers in
    let first : string_bytes c.add_first.new.out ≡ line_of (codes "coll" ∷ codes "1" ∷ codes "peers" ∷ decimal peers ∷ []) =
    c.in_ok-add_first.ensures ∙ ap (λ text. text ++ line_of (codes "coll" ∷ codes "1" ∷ codes "peers" ∷ decimal peers ∷ [])) c.new-out.ensures.bytes in
    whole_text peers c.args.script.now.rounds _ _ _ first c.in_ok-add_ranks.ensures c.in_ok-add_last.ensures
