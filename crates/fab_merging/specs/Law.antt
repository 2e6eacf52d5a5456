-- What peers in threads did, each alone, was lawful.
--     outs_at pasts p d      the frames that peer p of the list posted to d
--     ins_at pasts p s       the frames that peer p of the list took of s
--     IsFresh h              at the opening: nothing is sent or whole, and no item is under way
--     AreToldOf held Acted opening pasts  what is known of each peer alone, and of each pair once the threads are joined
--     AreTold                the same of the peers of a script
--     ThreadsReach           the law: then some order of turns leads from the opening to the peers
--     AreTogether pasts      each peer holds what its frames say, and what was taken of each is the first of what it posted
--     ThreadsJoin            it holds once the threads are joined; so the finishing phase can go on
use Rattle.std.specs.Prelude.{◌≡◌, ℕ, zero, suc, true, List, [], ◌∷◌, length, map, Some, None, slice_get, slice_index, unwrap_or}
use mathlib.Core.List.{IsPrefix}
use Rattle.fab_base.specs.declared.frames.Frame.{Frame}
use Rattle.fab_base.specs.declared.peers.Step.{Step}
use Rattle.fab_link.specs.declared.moves.Move.{Move}
use Rattle.fab_link.specs.Merged.{merges}
use Rattle.fab_model.specs.Orders.{Reached}
use Rattle.fab_model.specs.Peers.{Actor, fabric}
use Rattle.fab_model.specs.Views.{rule}
use Rattle.fab_face.specs.Held.{Held, begun_of, AreItems}
use Rattle.fab_peer.specs.Turns.{Living, actor_in}
use Rattle.fab_peer.specs.Agreed.{Agrees}
use Rattle.fab_merging.specs.Pasts.{Past, PastOf, begun, Acted}

-- the moves of its port, where this tells them
abbrev pub told_moves : {L S : Type 0} → PastOf L S → List Move
told_moves x = unwrap_or x.moves []

abbrev pub outs_at : {L S : Type 0} → List (PastOf L S) → ℕ → ℕ → List Frame
outs_at [] p d = []
outs_at (x ∷ pasts) zero d = x.outs d
outs_at (x ∷ pasts) (suc p) d = outs_at pasts p d

abbrev pub ins_at : {L S : Type 0} → List (PastOf L S) → ℕ → ℕ → List Frame
ins_at [] p s = []
ins_at (x ∷ pasts) zero s = x.ins s
ins_at (x ∷ pasts) (suc p) s = ins_at pasts p s

pub record IsFresh (h : Held) : Type 0 where
  pub places : (d : ℕ) → slice_index h.places d ≡ 0
  pub begun : (s : ℕ) → begun_of h s ≡ None
  pub sent : (d : ℕ) → slice_index h.state.tx.sent d ≡ 0
  pub tails : (s : ℕ) → slice_index h.state.rx.tails s ≡ 0

-- of peers that hold this, and whose acts lead on so
pub record AreToldOf {L S : Type 0} (held : L → Held) (LedOn : PastOf L S → PastOf L S → Type 0) (opening : List L) (pasts : List (PastOf L S)) : Type 0 where
  pub count : length pasts ≡ length opening
  pub fresh : (p : ℕ) (o : L) → slice_get opening p ≡ Some o → IsFresh (held o)
  -- of each peer alone
  pub acted : (p : ℕ) (o : L) (x : PastOf L S) → slice_get opening p ≡ Some o → slice_get pasts p ≡ Some x → LedOn (begun o) x
  pub items : (p : ℕ) (x : PastOf L S) → slice_get pasts p ≡ Some x → AreItems (held x.living)
  -- of all: the moves merge, and the frames taken are the first of those posted
  pub merge : merges (map told_moves pasts) ≡ true
  pub lanes : (s d : ℕ) → IsPrefix (ins_at pasts d s) (outs_at pasts s d)

-- ---- of a script's peers

abbrev pub actors : List Past → List Actor
actors pasts = map (λ (x : Past). actor_in x.living) pasts

abbrev pub schedules : List Past → List (List Step)
schedules pasts = map (λ (x : Past). x.steps) pasts

abbrev pub AreTold : List Living → List Past → Type 0
AreTold opening pasts = AreToldOf (λ (o : Living). o.held) Acted opening pasts

abbrev pub ThreadsReach : Type 0
ThreadsReach = (opening : List Living) (pasts : List Past) → AreTold opening pasts → Reached (rule fabric) (map actor_in opening) (schedules pasts) (actors pasts)

pub record AreTogether (pasts : List Past) : Type 0 where
  pub agrees : (p : ℕ) (x : Past) → slice_get pasts p ≡ Some x → Agrees (length pasts) x.living.held x.ins x.outs
  pub lanes : (s d : ℕ) → IsPrefix (ins_at pasts d s) (outs_at pasts s d)

abbrev pub ThreadsJoin : Type 0
ThreadsJoin = (opening : List Living) (pasts : List Past) → AreTold opening pasts → AreTogether pasts
