-- What `info` writes, in the manner of fi_info(1).
--     offer caps             what is granted to whoever asks for these capabilities, in the second version
--     info_lines info        what is granted, line by line
--     info_text caps         the text
use Rattle.std.specs.Prelude.{ℕ, List, [], ◌∷◌, map, filter, codes, decimal}
use Rattle.fab_base.specs.Granted.{has, all_caps}
use Rattle.fab_base.specs.declared.caps.Api.TheVariants.{Two}
use Rattle.fab_base.specs.declared.caps.Cap.{Cap}
use Rattle.fab_base.specs.declared.caps.Caps.{Caps}
use Rattle.fab_base.specs.declared.caps.Info.{Info}
use Rattle.fab_base.specs.declared.limits.TheConstants.{FRAME_BYTES, INJECT_BYTES, INLINE_BYTES}
use Rattle.fab_grammar.specs.Capabilities.{cap_name}
use Rattle.fab_grammar.specs.Settings.{asking}
use Rattle.fab_model.specs.Negotiation.{granted_info}
use Rattle.fab_model.specs.Words.{Word, text_of}

-- none that may be asked for is refused; whoever asks for none is granted all that is on offer
abbrev pub offer : Caps → Info
offer caps = granted_info Two (asking caps)

-- of these capabilities, the names of those in the set
abbrev pub cap_names : Caps → List Cap → List Word
cap_names caps from = map cap_name (filter (has caps) from)

abbrev pub caps_line : Caps → List Word
caps_line caps = codes "caps" ∷ cap_names caps all_caps

-- the bytes that a frame holds itself, those of a frame, of an inject call, of a message, and of an atomic's operand with its compare
abbrev pub bytes_line : Info → List Word
bytes_line info =
    codes "inline" ∷ decimal INLINE_BYTES ∷ codes "piece" ∷ decimal FRAME_BYTES ∷ codes "inject" ∷ decimal info.inject
    ∷ codes "message" ∷ decimal info.message ∷ codes "atomic" ∷ decimal INJECT_BYTES ∷ []

abbrev pub sizes_line : Info → List Word
sizes_line info =
    codes "peers" ∷ decimal info.peers ∷ codes "lane" ∷ decimal info.lane ∷ codes "pool" ∷ decimal info.pool
    ∷ codes "tx" ∷ decimal info.tx ∷ codes "rx" ∷ decimal info.rx ∷ codes "cq" ∷ decimal info.cq ∷ []

abbrev pub info_lines : Info → List (List Word)
info_lines info =
    (codes "provider" ∷ codes "shm-threads" ∷ [])
    ∷ (codes "endpoint" ∷ codes "FI_EP_RDM" ∷ [])
    ∷ caps_line info.caps
    ∷ (codes "order" ∷ codes "FI_ORDER_SAS" ∷ [])
    ∷ bytes_line info
    ∷ sizes_line info
    ∷ []

unfoldable pub info_text : Caps → List ℕ
info_text caps = text_of (info_lines (offer caps))
