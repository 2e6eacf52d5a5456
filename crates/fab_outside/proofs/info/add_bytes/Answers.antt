use Rattle.std.proofs.Common.{List, ℕ, [], ◌∷◌, ◌++◌, codes, string_bytes, sym, ap, ◌∙◌, append_assoc}
use Rattle.std.specs.Prelude.{decimal}
use Rattle.fab_base.specs.declared.limits.TheConstants.{FRAME_BYTES, INJECT_BYTES, INLINE_BYTES}
use Rattle.fab_outside.proofs.info.add_bytes.Goals as goal

pub returns : goal.returns
returns c =
    let info = c.args.info.now in
    let end : List ℕ = 10 ∷ [] in
    let atomic = codes " atomic " ++ decimal INJECT_BYTES in
    let message = codes " message " ++ (decimal info.message ++ atomic) in
    let inject = codes " inject " ++ (decimal info.inject ++ message) in
    let piece = codes " piece " ++ (decimal FRAME_BYTES ++ inject) in
    let fourth = append_assoc (decimal info.message) atomic end in
    let third = append_assoc (decimal info.inject) message end ∙ ap (λ text. decimal info.inject ++ (codes " message " ++ text)) fourth in
    let second = append_assoc (decimal FRAME_BYTES) inject end ∙ ap (λ text. decimal FRAME_BYTES ++ (codes " inject " ++ text)) third in
    let line = append_assoc (decimal INLINE_BYTES) piece end ∙ ap (λ text. decimal INLINE_BYTES ++ (codes " piece " ++ text)) second in
    c.in_ok-writeln.ensures.bytes
    ∙ ap (λ text. string_bytes c.args.out.now ++ (codes "inline " ++ text)) (sym line)
