-- The messages that `gen` makes of a number, and their lines.
--     drawn number m      the number that stands for message m; messages are numbered from 1
--     source_of peers x, dest_of peers x, tag_of x, length_of x, bytes_of x      the message for which x stands
--     sends, receives     the lines of a peer: it sends all that it has to send, and then receives
--     total n f           the sum of what f gives of 1 to n
use Rattle.std.specs.Prelude.{ℕ, zero, suc, ◌+◌, ◌*◌, ◌/◌, ◌%◌, ◌^◌, ◌==◌, if◌then◌else◌, List, [], ◌∷◌, map, sum}
use Rattle.fab_base.specs.declared.script.BytesWord.TheVariants.{Hex}
use Rattle.fab_base.specs.declared.script.LineOp.{LineOp}
use Rattle.fab_model.specs.Calls.{upto}
use Rattle.fab_workloads.specs.Lines.{joined, send, receive, wait}

-- ---- numbers (a linear congruential generator)

abbrev pub next_drawn : ℕ → ℕ
next_drawn x = (x * 6364136223846793005 + 1442695040888963407) % 2 ^ 64

abbrev pub drawn : ℕ → ℕ → ℕ
drawn number zero = number
drawn number (suc m) = next_drawn (drawn number m)

-- ---- the message for which x stands

abbrev pub source_of : ℕ → ℕ → ℕ
source_of peers x = x / 2 ^ 33 % peers

abbrev pub dest_of : ℕ → ℕ → ℕ
dest_of peers x = x / 2 ^ 40 % peers

abbrev pub tag_of : ℕ → ℕ
tag_of x = x / 2 ^ 20 % 4

abbrev pub length_of : ℕ → ℕ
length_of x = x / 2 ^ 48 % 16_384

abbrev pub byte_of : ℕ → ℕ → ℕ
byte_of x j = (x / 2 ^ 24 + j) % 256

abbrev pub bytes_of : ℕ → List ℕ
bytes_of x = map (byte_of x) (upto (length_of x))

-- ---- the lines of peer p

abbrev pub send_of : ℕ → ℕ → ℕ → ℕ → List LineOp
send_of peers p m x = if source_of peers x == p then send m (dest_of peers x) (tag_of x) (Hex (bytes_of x)) ∷ [] else []

-- the contexts of receives follow those of all sends
abbrev pub receive_of : ℕ → ℕ → ℕ → ℕ → List LineOp
receive_of peers p ctx x = if dest_of peers x == p then receive ctx (source_of peers x) (tag_of x) (length_of x) ∷ wait ctx ∷ [] else []

abbrev pub sends : ℕ → ℕ → ℕ → ℕ → List LineOp
sends number peers messages p = joined messages (λ m. send_of peers p m (drawn number m))

abbrev pub receives : ℕ → ℕ → ℕ → ℕ → List LineOp
receives number peers messages p = joined messages (λ m. receive_of peers p (messages + m) (drawn number m))

-- ---- sums

abbrev pub total : ℕ → (ℕ → ℕ) → ℕ
total zero f = 0
total (suc n) f = total n f + f (n + 1)

-- of all messages, how many bytes they have and what these come to: of 8,192 messages, less than 2 ^ 36
abbrev pub generated_bytes : ℕ → ℕ → ℕ
generated_bytes number messages = total messages (λ m. length_of (drawn number m))

abbrev pub generated_sum : ℕ → ℕ → ℕ
generated_sum number messages = total messages (λ m. sum (bytes_of (drawn number m)))
