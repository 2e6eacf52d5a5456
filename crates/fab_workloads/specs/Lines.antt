-- The lines of `pingpong` and of `bandwidth` (fi_tagged(3), fi_cq(3)): how long a message takes there and back, and how
-- many messages go through in windows.
--     joined n f      what f gives of 1, of 2, and so on to n, one after another
--     send ctx dest tag bytes, receive ctx source tag len, wait ctx      the lines of which these scripts are made
use Rattle.std.specs.Prelude.{ℕ, zero, suc, ◌+◌, ◌-◌, ◌*◌, ◌/◌, min, false, List, [], ◌∷◌, ◌++◌, None, Some}
use Rattle.fab_base.specs.declared.peers.Level.TheVariants.{Transmit}
use Rattle.fab_base.specs.declared.script.BytesWord.{BytesWord}
use Rattle.fab_base.specs.declared.script.BytesWord.TheVariants.{Hex, Zero}
use Rattle.fab_base.specs.declared.script.LineOp.{LineOp}
use Rattle.fab_base.specs.declared.script.LineOp.TheVariants.{TSend, TRecv, Wait}

abbrev pub joined : {X : Type 0} → ℕ → (ℕ → List X) → List X
joined zero f = []
joined (suc n) f = joined n f ++ f (n + 1)

abbrev pub send : ℕ → ℕ → ℕ → BytesWord → LineOp
send ctx dest tag bytes = TSend ctx dest tag bytes None Transmit false false

abbrev pub receive : ℕ → ℕ → ℕ → ℕ → LineOp
receive ctx source tag len = TRecv ctx (Some source) tag 0 len

abbrev pub wait : ℕ → LineOp
wait ctx = Wait (Some ctx)

-- ---- pingpong: in round i peer 0 sends and peer 1 sends back, both with tag i

abbrev pub ping : ℕ → List ℕ → ℕ → List LineOp
ping size payload i = send (2 * i - 1) 1 i (Hex payload) ∷ receive (2 * i) 1 i size ∷ wait (2 * i) ∷ []

abbrev pub pong : ℕ → List ℕ → ℕ → List LineOp
pong size payload i = receive (2 * i - 1) 0 i size ∷ wait (2 * i - 1) ∷ send (2 * i) 0 i (Hex payload) ∷ []

-- ---- bandwidth: peer 0 sends a window of messages, and peer 1 acknowledges the window

abbrev pub windows : ℕ → ℕ → ℕ
windows count window = (count + (window - 1)) / window

-- how many messages the first w windows have
abbrev pub sent_by : ℕ → ℕ → ℕ → ℕ
sent_by count window w = min (w * window) count

-- what f gives of the messages of window w
abbrev pub in_window : {X : Type 0} → ℕ → ℕ → ℕ → (ℕ → List X) → List X
in_window count window w f =
    let before = sent_by count window (w - 1) in joined (sent_by count window w - before) (λ k. f (before + k))

-- peer 0 waits for the acknowledgement, which has 4 bytes
abbrev pub sending : ℕ → ℕ → List ℕ → ℕ → List LineOp
sending count window payload w =
    in_window count window w (λ m. send m 1 m (Hex payload) ∷ []) ++ receive (count + w) 1 (count + w) 4 ∷ wait (count + w) ∷ []

-- peer 1 waits for all messages of the window
abbrev pub receiving : ℕ → ℕ → ℕ → ℕ → List LineOp
receiving size count window w =
    in_window count window w (λ m. receive m 0 m size ∷ []) ++ in_window count window w (λ m. wait m ∷ []) ++ send (count + w) 0 (count + w) (Zero 4) ∷ []
