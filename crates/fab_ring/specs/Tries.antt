-- Tries on the slots of a pool, one after the other.
--     raised j ts           the counts after a try on each of the first j slots found it taken
--     between a b ts        those after a try on each from the a-th to the one before the b-th did
--     AreCounts o ts f      f is where the least of the counts ts last rose
--     IsTried o j ts f      ts are the counts after the tries on the first j slots
--     AreOnce ts us         the counts us are those after at most one try on each slot
--     IsMissed o j ts f     the j-th slot wasn't found taken, and no other was tried twice
--     tried_out, sent_as    a lane after tries, and after a frame was posted
use Rattle.std.specs.Prelude.{◌≡◌, ℕ, zero, suc, ◌+◌, ◌<◌, ◌≤◌, ◌⊎◌, Bool, List, [], ◌∷◌, length, slice_index, Option, None}
use Rattle.fab_base.specs.declared.frames.FrameHead.{FrameHead}
use Rattle.fab_link.specs.Frames.{frame}
use Rattle.fab_base.specs.declared.limits.TheConstants.{INLINE_BYTES}
use Rattle.fab_table.specs.declared.kinds.Sent.{Sent}
use Rattle.fab_table.specs.declared.kinds.Out.{Out}
use Rattle.fab_table.specs.Views.{least}

abbrev pub raised : ℕ → List ℕ → List ℕ
raised zero ts = ts
raised (suc j) [] = []
raised (suc j) (t ∷ ts) = (t + 1) ∷ raised j ts

abbrev pub between : ℕ → ℕ → List ℕ → List ℕ
between zero b ts = raised b ts
between (suc a) zero ts = ts
between (suc a) (suc b) [] = []
between (suc a) (suc b) (t ∷ ts) = t ∷ between a b ts

abbrev pub AreCounts : Out → List ℕ → ℕ → Type 0
AreCounts o ts f = ((least ts ≡ least o.tried) × (f ≡ o.full_at)) ⊎ ((least o.tried < least ts) × (f ≡ length o.posted))

abbrev pub IsTried : Out → ℕ → List ℕ → ℕ → Type 0
IsTried o j ts f = (ts ≡ raised j o.tried) × AreCounts o ts f

abbrev pub IsTriedFrom : Out → ℕ → ℕ → List ℕ → ℕ → Type 0
IsTriedFrom o a b ts f = (ts ≡ between a b o.tried) × AreCounts o ts f

abbrev pub AreOnce : List ℕ → List ℕ → Type 0
AreOnce ts us = (k : ℕ) → slice_index us k ≤ slice_index ts k + 1

abbrev pub IsMissed : Out → ℕ → List ℕ → ℕ → Type 0
IsMissed o j ts f = (slice_index ts j ≡ slice_index o.tried j) × (length ts ≡ length o.tried) × AreCounts o ts f × AreOnce o.tried ts

-- a lane with these counts, and this cell and slot in hand
abbrev pub tried_out : Out → List ℕ → ℕ → Bool → Option ℕ → Out
tried_out o ts f w c = record { posted = o.posted; got_seen = o.got_seen; full_seen = o.full_seen; tried = ts; full_at = f; writing = w; claim = c }

-- a frame of these parts
abbrev pub sent_as : FrameHead → List ℕ → ℕ → Option ℕ → Sent
sent_as head bytes n slot = record { frame = frame head bytes; number = n; slot = slot }

-- a frame of so many bytes got this slot, with these counts of the tries before; or it was short, got none, and none was tried
abbrev pub IsSent : Out → ℕ → ℕ → Option ℕ → List ℕ → ℕ → Type 0
IsSent o pool size slot ts f = ((slot ≡ None) × (ts ≡ o.tried) × (f ≡ o.full_at)) ⊎ ((j : ℕ) × (j < pool) × IsMissed o j ts f × (INLINE_BYTES < size))
