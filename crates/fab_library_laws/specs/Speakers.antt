-- What the threads of a program over lanes did, each in its own words, and which receives of one are for another.
--     Endpoint                       an endpoint over lanes, as contracts see it
--     Speaker                        an endpoint as it was opened and as its thread left it, and what the thread did
--     speaker_of hears               the same of an application's things
--     opened_by, left_by, threads_by      of speakers: the endpoints as they were opened and as they were left, and the records
--     want_for ..                    the want of a receive of one peer
--     Picks ..                       the receives under contexts that pass a test want just this, and no other matches what they do
--     HaveRoom ..                    each message has room in each such receive
use Rattle.std.specs.Prelude.{◌≡◌, ◌≤◌, ℕ, Bool, true, false, List, [], length, map, Option, None, Some}
use Rattle.fab_base.specs.declared.entries.Taken.{Taken}
use Rattle.fab_base.specs.declared.items.ItemHead.{ItemHead}
use Rattle.fab_base.specs.declared.items.Want.{Want}
use Rattle.fab_model.specs.Matching.{matches}
use Rattle.fab_model.specs.Receiving.{Posting}
use Rattle.fab_model.specs.Sending.{Order}
use Rattle.fab_laws.specs.Members.{In}
use Rattle.fab_ep.specs.Value.{Whole}
use Rattle.fab_ring.specs.declared.port.RingPort.{RingPort}
use Rattle.fab_domain.specs.Seen.{ring_seen}
use Rattle.fab_doings.specs.Heard.{bytes_of}
use Rattle.fab_library_laws.specs.Library.{Thread}
use Rattle.fab_library_laws.specs.Speaking.{Hears, Speaks}

abbrev pub Endpoint : Type 0
Endpoint = Whole RingPort

pub record Speaker : Type 0 where
  pub opened : Endpoint
  pub left : Endpoint
  pub asks : List Posting
  pub sent : List Order
  pub read : List Taken
  pub speaks : Speaks (ring_seen opened) (ring_seen left) asks sent read

abbrev pub speaker_of :
    {Thing : Type 0} (IsAsk : Posting → Type 0) (order : Thing → Order) (mine : ℕ → Bool) (e f : Endpoint) (said : List Thing) (came : List (List ℕ)) → Hears IsAsk order mine (ring_seen e) (ring_seen f) said came → Speaker
speaker_of IsAsk order mine e f said came hears = record { opened = e; left = f; asks = hears.asks; sent = map order said; read = hears.read; speaks = hears.speaks }

abbrev pub thread_by : Speaker → Thread
thread_by s = record { endpoint = s.left; doings = s.speaks.recorded.more; states = (s.speaks.recorded.adds [] []).0 }

abbrev pub opened_by : List Speaker → List Endpoint
opened_by speakers = map (λ (s : Speaker). s.opened) speakers

abbrev pub left_by : List Speaker → List Endpoint
left_by speakers = map (λ (s : Speaker). s.left) speakers

abbrev pub threads_by : List Speaker → List Thread
threads_by speakers = map thread_by speakers

-- ---- receives of one peer

abbrev pub want_for : ℕ → Bool → ℕ → ℕ → Want
want_for p tagged tag ignore = record { tagged = tagged; tag = tag; ignore = ignore; source = Some p }

-- the receive wants this of the peer that stands at the index p
pub record IsFor (p : ℕ) (tagged : Bool) (tag ignore : ℕ) (q : Posting) : Type 0 where
  pub source : q.source ≡ Some p
  pub tagged_so : q.tagged ≡ tagged
  pub tag_is : q.tag ≡ tag
  pub ignores : q.ignore ≡ ignore

-- whatever its source means, the receive matches nothing that this want does
abbrev pub IsApart : Want → Posting → Type 0
IsApart want q = (source : Option ℕ) (t : ℕ) (head : ItemHead) → matches want t head ≡ true → matches (record { tagged = q.tagged; tag = q.tag; ignore = q.ignore; source = source }) t head ≡ false

pub record Picks (p : ℕ) (tagged : Bool) (tag ignore : ℕ) (mine : ℕ → Bool) (asks : List Posting) : Type 0 where
  pub single : (q : Posting) → In q asks → q.least ≡ None
  pub wants : (q : Posting) → In q asks → mine q.ctx ≡ true → IsFor p tagged tag ignore q
  pub apart : (q : Posting) → In q asks → mine q.ctx ≡ false → IsApart (want_for p tagged tag ignore) q

-- each message has room in each such receive
abbrev pub HaveRoom : (ℕ → Bool) → List Order → List Posting → Type 0
HaveRoom mine sent asks = (q : Posting) (o : Order) → In q asks → mine q.ctx ≡ true → In o sent → length (bytes_of o) ≤ length q.buf
