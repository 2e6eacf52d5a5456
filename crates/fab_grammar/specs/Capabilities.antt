-- The capabilities that `caps` asks for (fi_getinfo(3), "Capabilities").
--     cap_name cap       the capability as it is written
--     caps_of word       those whose names the commas join
use Rattle.std.specs.Prelude.{ℕ, Bool, ◌==◌, List, [], ◌∷◌, codes, bytes_eq, find, Option, Some, None, Result, Ok, Err}
use Rattle.std.specs.List.{slice_split}
use Rattle.fab_base.specs.Granted.{with_cap, all_caps}
use Rattle.fab_base.specs.declared.caps.Cap.{Cap}
use Rattle.fab_base.specs.declared.caps.Cap.TheVariants as cap
use Rattle.fab_base.specs.declared.caps.Caps.{Caps}
use Rattle.fab_model.specs.Negotiation.{no_hints}
use Rattle.fab_words.specs.declared.misread.Misread.{Misread}
use Rattle.fab_words.specs.declared.misread.Misread.TheVariants.{Words}

abbrev pub cap_name : Cap → List ℕ
cap_name cap.Msg = codes "FI_MSG"
cap_name cap.Tagged = codes "FI_TAGGED"
cap_name cap.Rma = codes "FI_RMA"
cap_name cap.Atomic = codes "FI_ATOMIC"
cap_name cap.DirectedRecv = codes "FI_DIRECTED_RECV"
cap_name cap.Send = codes "FI_SEND"
cap_name cap.Recv = codes "FI_RECV"
cap_name cap.Read = codes "FI_READ"
cap_name cap.Write = codes "FI_WRITE"
cap_name cap.RemoteRead = codes "FI_REMOTE_READ"
cap_name cap.RemoteWrite = codes "FI_REMOTE_WRITE"
cap_name cap.MultiRecv = codes "FI_MULTI_RECV"
cap_name cap.Source = codes "FI_SOURCE"
cap_name cap.RmaEvent = codes "FI_RMA_EVENT"
cap_name cap.Fence = codes "FI_FENCE"
cap_name cap.LocalComm = codes "FI_LOCAL_COMM"

unfoldable pub cap_named : List ℕ → Option Cap
cap_named name = find (λ cap. bytes_eq name (cap_name cap)) all_caps

-- these besides those; a name may stand twice, and an empty or unknown one is no name
abbrev pub add_names : Caps → List (List ℕ) → Result Caps Misread
add_names caps [] = Ok caps
add_names caps (name ∷ names) = elim (cap_named name) [ None ↦ Err Words | Some cap ↦ add_names (with_cap cap caps) names ]

abbrev pub is_comma : ℕ → Bool
is_comma byte = byte == 44

unfoldable pub caps_of : List ℕ → Result Caps Misread
caps_of word = add_names no_hints.caps (slice_split is_comma word)
