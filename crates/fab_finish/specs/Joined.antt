-- All peers over plain ports: what is on its way between them is what was posted and not yet taken.
--     Member            a peer over a plain port, as contracts see it
--     lane ps k d       the lane of peer k to and from peer d
--     IsJoined ps       of each pair, what the one took and what came to it is the first of what the other posted; and each peer holds what its frames say
--     GoesOn ps qs      what led to the one leads to the other
--     Ends ps qs        the same of what began with some lines
--     opened conf lists each peer at the start of its lines
--     AreStill ps       no peer can do anything, and nothing is left to be carried
use Rattle.std.specs.Prelude.{◌≡◌, ℕ, ◌<◌, ◌≤◌, ◌^◌, false, List, [], ◌++◌, map, length, take, Some, None, replicate, slice_get, slice_index_or}
use Rattle.std.specs.Option.{option_map_or}
use Rattle.fab_base.specs.declared.frames.Frame.{Frame}
use Rattle.fab_base.specs.declared.peers.Step.{Step}
use Rattle.fab_base.specs.declared.script.Conf.{Conf}
use Rattle.fab_base.specs.declared.script.Line.{Line}
use Rattle.fab_link.specs.Frames.{last_head}
use Rattle.fab_link.specs.Plain.{Lane, Plain, PlainHome, fresh_lane, lane_at, left, out_of, in_of, home_of}
use Rattle.fab_model.specs.Calls.{upto}
use Rattle.fab_model.specs.Orders.{Reached}
use Rattle.fab_model.specs.Peers.{Actor, fabric, do_next}
use Rattle.fab_model.specs.Receiving.{draw_due}
use Rattle.fab_model.specs.Replay.{fresh, newly}
use Rattle.fab_model.specs.Views.{rule}
use Rattle.fab_face.specs.Held.{Held, Seen, next_frame}
use Rattle.fab_ep.specs.Value.{Whole}
use Rattle.fab_peer.specs.declared.peer.Peer.{Peer}
use Rattle.fab_peer.specs.Turns.{Told, told, living_of, actor_of, IsCounted, IsRead}
use Rattle.fab_peer.specs.Agreed.{Agrees}

-- ---- a peer

abbrev pub Member : Type 0
Member = Peer (Whole Plain)

-- an endpoint over a plain port as its face is seen
abbrev pub seen_plain : Whole Plain → Seen PlainHome
seen_plain e = record {
  held = e.held;
  log = e.log;
  log_size = e.log_size;
  pushed = e.pushed;
  lanes = record {
    number = e.port.number;
    peers = length e.port.lanes;
    outs = out_of e.port;
    ins = in_of e.port;
    home = home_of e.port;
    in_list = λ s. Some ((home_of e.port).in_lists s);
    moves = None;
  };
  next = e.next;
}

abbrev pub told_of : Member → Told PlainHome
told_of p = told seen_plain p

abbrev pub member_actor : Member → Actor
member_actor p = actor_of (told_of p)

abbrev pub member_steps : Member → List Step
member_steps p = p.schedule.items

abbrev pub actors : List Member → List Actor
actors ps = map member_actor ps

abbrev pub schedules : List Member → List (List Step)
schedules ps = map member_steps ps

-- ---- what is on its way

abbrev pub lane : List Member → ℕ → ℕ → Lane
lane ps k d = option_map_or (λ (p : Member). lane_at p.endpoint.port d) (slice_get ps k) (fresh_lane None None)

-- Of one peer among so many, which took these frames and posted these before it had its port: its log is empty, its multi-receives are counted, its port goes on behind them, and it holds what all its frames say.
pub record IsOwn (n : ℕ) (ins outs : ℕ → List Frame) (p : Member) : Type 0 where
  pub log : p.endpoint.log ≡ []
  pub counted : IsCounted (living_of (told_of p))
  pub lanes : length p.endpoint.port.lanes ≡ n
  pub agrees : Agrees n p.endpoint.held (λ s. ins s ++ (in_of p.endpoint.port s).taken) (λ d. outs d ++ (out_of p.endpoint.port d).frames)
  pub moved : (d : ℕ) → (lane_at p.endpoint.port d).moved ≤ length (lane_at p.endpoint.port d).out.frames
  pub out_after : (d : ℕ) → (lane_at p.endpoint.port d).out.after ≡ last_head None (outs d)
  pub in_after : (s : ℕ) → (lane_at p.endpoint.port s).in_after ≡ last_head None (ins s)

pub record IsJoined (ps : List Member) : Type 0 where
  -- what each peer took of each, and posted to each, before it had its port
  pub ins : ℕ → ℕ → List Frame
  pub outs : ℕ → ℕ → List Frame
  -- a peer that is not there posted nothing
  pub nobody : (s r : ℕ) → length ps ≤ s → outs s r ≡ []
  pub few : length ps < 2 ^ 32
  pub own : (k : ℕ) (p : Member) → slice_get ps k ≡ Some p → IsOwn (length ps) (ins k) (outs k) p
  -- what was taken before, and what came, is the first of what was posted: all from before, and as much as was moved out
  pub came : (s r : ℕ) → r < length ps → ins r s ++ (lane ps r s).in_list ≡ outs s r ++ take (lane ps s r).moved (lane ps s r).out.frames

-- ---- orders of turns

abbrev pub GoesOn : List Member → List Member → Type 0
GoesOn ps qs = (first : List Actor) → Reached (rule fabric) first (schedules ps) (actors ps) → Reached (rule fabric) first (schedules qs) (actors qs)

-- each peer at the start of its lines; a peer without a list has none
abbrev pub opened : Conf → List (List Line) → List Actor
opened conf lists = map (λ p. newly conf (slice_index_or lists p [])) (upto conf.peers)

abbrev pub Ends : List Member → List Member → Type 0
Ends ps qs =
    (conf : Conf) (lists : List (List Line)) → Reached (rule fabric) (opened conf lists) (schedules ps) (actors ps) → Reached (rule fabric) (opened conf lists) (schedules qs) (actors qs)

-- what an endpoint of a script holds when it is opened: every peer is in its address vector
abbrev pub start : Conf → Held
start conf = record { state = fresh conf; places = replicate conf.peers 0; begun = replicate conf.peers None; multis = [] }

-- ---- standing still

-- The peer can do nothing: its next line cannot be done, all completions are read, no draw is due, all that came is taken, and no frame waits to be posted.
pub record IsStill (p : Member) : Type 0 where
  pub held : do_next (member_actor p) ≡ None
  pub read : IsRead (seen_plain p.endpoint)
  pub draws : draw_due p.endpoint.held.state.rx ≡ false
  pub taken : (s : ℕ) → s < length p.endpoint.port.lanes → (in_of p.endpoint.port s).taken ≡ (lane_at p.endpoint.port s).in_list
  pub sent : (d : ℕ) → d < length p.endpoint.port.lanes → next_frame p.endpoint.held d ≡ None

abbrev pub IsStillAt : List Member → ℕ → Type 0
IsStillAt ps k = (p : Member) → slice_get ps k ≡ Some p → IsStill p

pub record AreStill (ps : List Member) : Type 0 where
  pub each : (k : ℕ) → IsStillAt ps k
  pub carried : (s r : ℕ) → s < length ps → r < length ps → left (lane ps s r) ≡ []

-- no receive of any peer is posted
abbrev pub AreCleared : List Actor → Type 0
AreCleared all = (p : ℕ) (a : Actor) → slice_get all p ≡ Some a → a.state.rx.posted ≡ []

-- what began with some lines and led to the one leaves no receive of the other posted
abbrev pub Clears : List Member → List Member → Type 0
Clears ps qs = (conf : Conf) (lists : List (List Line)) → Reached (rule fabric) (opened conf lists) (schedules ps) (actors ps) → AreCleared (actors qs)
