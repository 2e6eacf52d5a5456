use Rattle.std.proofs.Common.{◌≡◌, List, [], ◌∷◌, ◌++◌, codes, string_bytes}
use Rattle.fab_model.specs.Words.{Word, text_of}
use Rattle.fab_outside.specs.Info.{bytes_line, caps_line, sizes_line}
use Rattle.fab_report.proofs.Blanks.{part_last}
use Rattle.fab_outside.proofs.Offered.{line_more}
use Rattle.fab_outside.proofs.info.add_info.Goals as goal

pub returns : goal.returns
returns c =
    let info = c.args.info.now in
    let first : List (List Word) = (codes "provider" ∷ codes "shm-threads" ∷ []) ∷ (codes "endpoint" ∷ codes "FI_EP_RDM" ∷ []) ∷ [] in
    let order : List Word = codes "order" ∷ codes "FI_ORDER_SAS" ∷ [] in
    let a : string_bytes c.push_str.new.self ≡ string_bytes c.args.out.now ++ text_of first = c.in_ok-push_str.ensures.bytes in
    let b = line_more _ _ _ first (caps_line info.caps) a c.in_ok-add_caps.ensures in
    let d = line_more _ _ _ (first ++ caps_line info.caps ∷ []) order b c.in_ok-push_str-2.ensures.bytes in
    let e = line_more _ _ _ (first ++ caps_line info.caps ∷ order ∷ []) (bytes_line info) d c.in_ok-add_bytes.ensures in
    part_last c.add_sizes.result _ _ _ (first ++ caps_line info.caps ∷ order ∷ bytes_line info ∷ []) (sizes_line info) e c.add_sizes.ensures
