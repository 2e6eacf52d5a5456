-- What a peer in a thread did, as it knows it alone.
--     Trail Does p xs q   these doings, one after another, lead from the one to the other
--     PastOf L S          a peer since the opening: as it is now (L), the steps that it tells (S), the moves that its port tells, and the frames posted to each peer and taken of each
--     begun o             a peer at the opening, which did nothing
--     Past                that of a script's peer, whose steps are those of its schedule
--     past_of a           what contracts see of a peer, as its past
--     ActedBy x y acts    the acts lead from the one to the other, and they are all that its schedule and its port's lists grew by
--     Acted x y           some acts do
use Rattle.std.specs.Prelude.{◌≡◌, ℕ, List, [], ◌∷◌, ◌++◌, Option, Some}
use Rattle.fab_base.specs.declared.frames.Frame.{Frame}
use Rattle.fab_base.specs.declared.peers.Step.{Step}
use Rattle.fab_link.specs.declared.moves.Move.{Move}
use Rattle.fab_face.specs.Acts.{Act, steps_of, taken_of, posted_to, ways_of, MovedBy}
use Rattle.fab_peer.specs.Turns.{Living, LivesBy, Told, living_of}

abbrev pub Trail : {L D : Type 0} → (L → D → L → Type 0) → L → List D → L → Type 0
Trail Does p [] q = p ≡ q
Trail {L} Does p (x ∷ xs) q = (mid : L) × Does p x mid × Trail Does mid xs q

pub record PastOf (L S : Type 0) : Type 0 where
  pub living : L
  pub steps : List S
  pub moves : Option (List Move)
  pub outs : ℕ → List Frame
  pub ins : ℕ → List Frame

abbrev pub begun : {L S : Type 0} → L → PastOf L S
begun o = record { living = o; steps = []; moves = Some []; outs = λ d. []; ins = λ s. [] }

-- ---- of a script's peer

abbrev pub Past : Type 0
Past = PastOf Living Step

abbrev pub past_of : {Home : Type 0} → Told Home → Past
past_of a = record {
  living = living_of a;
  steps = a.schedule;
  moves = a.seen.lanes.moves;
  outs = λ d. (a.seen.lanes.outs d).frames;
  ins = λ s. (a.seen.lanes.ins s).taken;
}

pub record ActedBy (x y : Past) (acts : List Act) : Type 0 where
  pub lives : LivesBy x.living acts y.living
  pub steps : y.steps ≡ x.steps ++ steps_of acts
  pub moves : MovedBy x.moves y.moves (ways_of acts)
  pub outs : (d : ℕ) → y.outs d ≡ x.outs d ++ posted_to d acts
  pub ins : (s : ℕ) → y.ins s ≡ x.ins s ++ taken_of s acts

abbrev pub Acted : Past → Past → Type 0
Acted x y = (acts : List Act) × ActedBy x y acts
