-- A text inside an element of a picture: none of its bytes begins or ends one.
--     escaped bytes      each byte as it stands there
use Rattle.std.specs.Prelude.{ℕ, ◌==◌, ◌&&◌, nat_le, List, [], ◌∷◌, ◌++◌, codes, if◌then◌else◌}

-- `<`, `>` and `&` are spelled, and what is no printable character is `?`
abbrev pub escaped_byte : ℕ → List ℕ
escaped_byte byte =
    if byte == 60 then codes "&lt;"
    else if byte == 62 then codes "&gt;"
    else if byte == 38 then codes "&amp;"
    else if nat_le 32 byte && nat_le byte 126 then byte ∷ []
    else codes "?"

abbrev pub escaped : List ℕ → List ℕ
escaped [] = []
escaped (byte ∷ bytes) = escaped_byte byte ++ escaped bytes
