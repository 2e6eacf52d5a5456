-- Peers over the plain ports that their own were gathered into: they are joined behind the frames of before.
use Rattle.std.proofs.Common.{◌≡◌, ◌<◌, ◌≤◌, ◌^◌, ℕ, zero, suc, List, [], ◌∷◌, ◌++◌, length, take, append-nil, Option, Some, None, refl, sym, ap, subst, ◌∙◌, arith}
use std.Path.{fun_ext}
use Rattle.std.specs.Prelude.{slice_get, slice_index}
use Rattle.std.proofs.lemmas.List.{get_or_past}
use Rattle.std.proofs.lemmas.Option.{slice_get_within}
use Rattle.fab_base.specs.declared.frames.Frame.{Frame}
use Rattle.fab_base.specs.declared.frames.FrameHead.{FrameHead}
use Rattle.fab_base.specs.declared.peers.Step.{Step}
use Rattle.fab_link.specs.Frames.{IsLane, last_head}
use Rattle.fab_link.specs.Meaning.{end_of, taken_end}
use Rattle.fab_link.specs.Plain as plain
use Rattle.fab_link.specs.Plain.{Lane, Plain, lane_at, fresh_lane}
use Rattle.fab_model.specs.Peers.{Actor}
use Rattle.fab_link.proofs.Lanes.{lane_front}
use Rattle.fab_face.specs.Held.{IsPledged, Held, IsGathered, IsPlaced, IsOut, AreItems, next_item, begun_of}
use Rattle.fab_ep.specs.Tries.{IsTied}
use Rattle.fab_ep.specs.Value.{anew}
use Rattle.fab_peer.specs.Turns.{IsCounted, Living, actor_in}
use Rattle.fab_peer.specs.Agreed.{Agrees}
use Rattle.fab_table.specs.declared.lane_table.LaneTable.{LaneTable}
use Rattle.fab_ring.specs.declared.port.RingPort.{RingPort}
use Rattle.fab_ring.specs.Gather.{AreAll, GoesOn, Gathered}
use Rattle.fab_merging.specs.Pasts.{Past}
use Rattle.fab_merging.specs.Law as law
use Rattle.fab_merging.specs.Law.{outs_at, ins_at, AreTogether}
use Rattle.fab_merging.proofs.Lists.{outs_is, ins_is, outs_past}
use Rattle.fab_finish.specs.Joined.{Member, seen_plain, actors, schedules, lane, IsOwn, IsJoined}
use Rattle.fab_finish.proofs.Joining.{member, none_past, lane_is, lane_none}
use Rattle.fab_rounds.specs.Phases.{Paired, Seated, Follows, Tells}
use Rattle.fab_rounds.proofs.Ends.{posted_ends, taken_ends}
use Rattle.fab_rounds.proofs.Gathering.{port_at, plain_at, peers_all, lane_whole, nobody_in}

-- ---- a port at which nothing was posted or taken yet

module _ (p : RingPort) (q : Plain) (goes : GoesOn p q) where
  pub posted_none : (d : ℕ) → (plain.out_of q d).frames ≡ []
  posted_none d = (goes.fresh d).frames

  pub taken_none : (s : ℕ) → (plain.in_of q s).taken ≡ []
  taken_none s = (goes.fresh s).taken

-- ---- one peer

module _ (f : LaneTable) (ports : List RingPort) (plains : List Plain) (pasts : List Past) (all : AreAll f ports) (many : length pasts ≡ length ports) (told : Paired Tells pasts ports) (gathered : Gathered ports plains)
    (together : AreTogether pasts) where
  -- what was taken of a peer that is there makes a lane
  taken_lane : (k s : ℕ) (x : Past) → slice_get pasts k ≡ Some x → s < length pasts → IsLane None (x.ins s)
  taken_lane k s x has below =
      let y = member pasts s below in
      let first = together.lanes s k in
      let within = slice_get_within pasts k x has in
      let cut = (together.agrees s y.0 y.1).cut k within in
      lane_front None (x.ins s) first.0 (subst (IsLane None) (sym (outs_is pasts s k y.0 y.1) ∙ sym first.1 ∙ ap (λ fs. fs ++ first.0) (ins_is pasts k s x has)) cut)

  -- an endpoint may go on with what the peer holds
  pub ties : (k log_size : ℕ) (x : Past) (q : Plain) → slice_get pasts k ≡ Some x → slice_get plains k ≡ Some q → 4 ≤ log_size → length x.living.held.places ≡ length ports → IsOut x.living.held
      → AreItems x.living.held → IsPledged x.living.held → IsTied (seen_plain (anew q x.living.held log_size))
  ties k log_size x q has here most places out items pledged =
      let p = port_at f ports plains pasts all many told gathered k x has in
      let goes = gathered.goes_on k p.0 q p.1 here in
      let peers : length q.lanes ≡ length ports = goes.peers ∙ peers_all f ports plains pasts all many told gathered k p.0 p.1 in
      let agrees = together.agrees k x has in
      record {
        log = most;
        within = omega arith;
        peers = places ∙ sym peers;
        posted = λ d below. (
            let end : end_of (plain.out_of q d) ≡ last_head None (x.outs d) =
            ap (last_head (plain.out_of q d).after) (posted_none p.0 q goes d) ∙ goes.out_after d ∙ ap (last_head None) (sym (p.2.outs d)) in
            subst (λ (e : Option FrameHead). IsPlaced e (slice_index x.living.held.places d) (next_item x.living.held.state d)) (sym end)
            (posted_ends (length pasts) x.living.held x.ins x.outs agrees d (omega (arith, below, peers, many)) out items));
        taken = λ s below. (
            let end : taken_end (plain.in_of q s) ≡ last_head None (x.ins s) =
            ap (last_head (plain.in_of q s).after) (taken_none p.0 q goes s) ∙ goes.in_after s ∙ ap (last_head None) (sym (p.2.ins s)) in
            subst (λ (e : Option FrameHead). IsGathered e (begun_of x.living.held s)) (sym end)
            (taken_ends (length pasts) x.living.held x.ins x.outs agrees s (taken_lane k s x has (omega (arith, below, peers, many)))));
        pledged = pledged;
        repaid = λ d op below. tt;
      }

  -- ---- all peers

  module _ (ps : List Member) (few : length ports < 2 ^ 32) (long : length ps ≡ length ports) (follows : (k : ℕ) (x : Past) (q : Plain) (p : Member) → slice_get pasts k ≡ Some x → slice_get plains k ≡ Some q → slice_get ps k ≡ Some p → Follows x q p) (counted : (k : ℕ) (x : Past) → slice_get pasts k ≡ Some x → IsCounted x.living) where
    -- the peer that was at the place, with its ports
    past_of : (k : ℕ) (p : Member) → slice_get ps k ≡ Some p → (x : Past) × (slice_get pasts k ≡ Some x) × (a : RingPort) × (slice_get ports k ≡ Some a) × Tells x a × (q : Plain) × (slice_get plains k ≡ Some q) × Follows x q p
    past_of k p has =
        let x = member pasts k (omega (arith, slice_get_within ps k p has, many, long)) in
        let a = port_at f ports plains pasts all many told gathered k x.0 x.1 in
        let q = plain_at f ports plains pasts all many told gathered k a.0 a.1 in
        (x.0, x.1, a.0, a.1, a.2, q.0, q.1, follows k x.0 q.0 p x.1 q.1 has)

    own : (k : ℕ) (p : Member) → slice_get ps k ≡ Some p → IsOwn (length ps) (ins_at pasts k) (outs_at pasts k) p
    own k p has =
        let (x, hx, a, ha, tells, q, hq, on) = past_of k p has in
        let goes = gathered.goes_on k a q ha hq in
        let agrees = together.agrees k x hx in
        let held : p.endpoint.held ≡ x.living.held = ap (λ (l : Living). l.held) on.seated.living_is in
        let ins : x.ins ≡ (λ s. ins_at pasts k s ++ (plain.in_of q s).taken) = fun_ext (λ s. sym (ap (λ fs. ins_at pasts k s ++ fs) (taken_none a q goes s) ∙ append-nil _ ∙ ins_is pasts k s x hx)) in
        let outs : x.outs ≡ (λ d. outs_at pasts k d ++ (plain.out_of q d).frames) = fun_ext (λ d. sym (ap (λ fs. outs_at pasts k d ++ fs) (posted_none a q goes d) ∙ append-nil _ ∙ outs_is pasts k d x hx)) in
        let same : Agrees (length ps) p.endpoint.held (λ s. ins_at pasts k s ++ (plain.in_of q s).taken) (λ d. outs_at pasts k d ++ (plain.out_of q d).frames) =
        subst (λ n. Agrees n p.endpoint.held (λ s. ins_at pasts k s ++ (plain.in_of q s).taken) (λ d. outs_at pasts k d ++ (plain.out_of q d).frames)) (many ∙ sym long)
        (subst (λ (h : Held). Agrees (length pasts) h (λ s. ins_at pasts k s ++ (plain.in_of q s).taken) (λ d. outs_at pasts k d ++ (plain.out_of q d).frames)) (sym held)
        (subst (λ (t : ℕ → List Frame). Agrees (length pasts) x.living.held t (λ d. outs_at pasts k d ++ (plain.out_of q d).frames)) ins
        (subst (λ (o : ℕ → List Frame). Agrees (length pasts) x.living.held x.ins o) outs agrees))) in
        record {
          log = on.seated.log;
          counted = subst IsCounted (sym on.seated.living_is) (counted k x hx);
          lanes = ap (λ (z : Plain). length z.lanes) on.port ∙ goes.peers ∙ peers_all f ports plains pasts all many told gathered k a ha ∙ sym long;
          agrees = subst (λ (z : Plain). Agrees (length ps) p.endpoint.held (λ s. ins_at pasts k s ++ (plain.in_of z s).taken) (λ d. outs_at pasts k d ++ (plain.out_of z d).frames)) (sym on.port) same;
          moved = λ d. (
              let none = gathered.unmoved k q hq d in
              subst (λ (z : Plain). (lane_at z d).moved ≤ length (lane_at z d).out.frames) (sym on.port) (omega (arith, none)));
          out_after = λ d. ap (λ (z : Plain). (lane_at z d).out.after) on.port ∙ goes.out_after d ∙ ap (last_head None) (sym (tells.outs d)) ∙ ap (last_head None) (sym (outs_is pasts k d x hx));
          in_after = λ s. ap (λ (z : Plain). (lane_at z s).in_after) on.port ∙ goes.in_after s ∙ ap (last_head None) (sym (tells.ins s)) ∙ ap (last_head None) (sym (ins_is pasts k s x hx));
        }

    -- no frame was posted to the plain ports
    none_out : (s r : ℕ) → (lane ps s r).out.frames ≡ []
    none_out s r = by_member (slice_get ps s) refl
      where
        by_member : (o : Option Member) → slice_get ps s ≡ o → (lane ps s r).out.frames ≡ []
        by_member None none = ap (λ (l : Lane). l.out.frames) (lane_none ps s r none)
        by_member (Some p) has =
            let (x, hx, a, ha, tells, q, hq, on) = past_of s p has in
            ap (λ (l : Lane). l.out.frames) (lane_is ps s r p has) ∙ ap (λ (z : Plain). (lane_at z r).out.frames) on.port ∙ posted_none a q (gathered.goes_on s a q ha hq) r

    take_none : (n : ℕ) (fs : List Frame) → fs ≡ [] → take n fs ≡ []
    take_none zero fs e = refl
    take_none (suc n) fs e = ap (take (suc n)) e

    came : (s r : ℕ) → r < length ps → ins_at pasts r s ++ (lane ps r s).in_list ≡ outs_at pasts s r ++ take (lane ps s r).moved (lane ps s r).out.frames
    came s r below =
        let p = member ps r below in
        let (y, hy, b, hb, tells, q, hq, on) = past_of r p.0 p.1 in
        let list : (lane ps r s).in_list ≡ (lane_at q s).in_list = ap (λ (l : Lane). l.in_list) (lane_is ps r s p.0 p.1) ∙ ap (λ (z : Plain). (lane_at z s).in_list) on.port in
        ap (λ fs. ins_at pasts r s ++ fs) list ∙ ap (λ fs. fs ++ (lane_at q s).in_list) (ins_is pasts r s y hy) ∙ by_sender y q b hy hb hq (slice_get pasts s) refl
        ∙ sym (append-nil (outs_at pasts s r)) ∙ ap (λ fs. outs_at pasts s r ++ fs) (sym (take_none (lane ps s r).moved _ (none_out s r)))
      where
        by_sender : (y : Past) (q : Plain) (b : RingPort) → slice_get pasts r ≡ Some y → slice_get ports r ≡ Some b → slice_get plains r ≡ Some q → (o : Option Past) → slice_get pasts s ≡ o → y.ins s ++ (lane_at q s).in_list ≡ outs_at pasts s r
        by_sender y q b hy hb hq None none =
            let past : length pasts ≤ s = none_past pasts s none in
            let wide : length q.lanes ≡ length ports = (gathered.goes_on r b q hb hq).peers ∙ peers_all f ports plains pasts all many told gathered r b hb in
            ap (λ fs. fs ++ (lane_at q s).in_list) (nobody_in f ports plains pasts all many told gathered s r y hy none) ∙ ap (λ (l : Lane). l.in_list) (get_or_past q.lanes s (fresh_lane None None) (omega (arith, past, wide, many)))
            ∙ sym (outs_past pasts s r past)
        by_sender y q b hy hb hq (Some x) hx = sym (lane_whole f ports plains pasts all many told gathered s r x y q hx hy hq) ∙ sym (outs_is pasts s r x hx)

    pub joined : IsJoined ps
    joined = record {
      ins = ins_at pasts;
      outs = outs_at pasts;
      nobody = λ s r past. outs_past pasts s r (omega (arith, past, many, long));
      few = omega (arith, few, long);
      own = own;
      came = came;
    }

-- ---- their states and schedules

pub actors_follow : (pasts : List Past) (ps : List Member) → length ps ≡ length pasts → ((k : ℕ) (x : Past) (p : Member) → slice_get pasts k ≡ Some x → slice_get ps k ≡ Some p → Seated x.living x.steps p) → actors ps ≡ law.actors pasts
actors_follow [] [] long seated = refl
actors_follow [] (p ∷ ps) long seated = absurd (omega (arith, long))
actors_follow (x ∷ pasts) [] long seated = absurd (omega (arith, long))
actors_follow (x ∷ pasts) (p ∷ ps) long seated =
    let here = seated 0 x p refl refl in
    ap (λ (a : Actor). a ∷ actors ps) (ap actor_in here.living_is) ∙ ap (λ rest. actor_in x.living ∷ rest) (actors_follow pasts ps (omega (arith, long)) (λ k. seated (suc k)))

pub schedules_follow : (pasts : List Past) (ps : List Member) → length ps ≡ length pasts → ((k : ℕ) (x : Past) (p : Member) → slice_get pasts k ≡ Some x → slice_get ps k ≡ Some p → Seated x.living x.steps p) → schedules ps ≡ law.schedules pasts
schedules_follow [] [] long seated = refl
schedules_follow [] (p ∷ ps) long seated = absurd (omega (arith, long))
schedules_follow (x ∷ pasts) [] long seated = absurd (omega (arith, long))
schedules_follow (x ∷ pasts) (p ∷ ps) long seated =
    let here = seated 0 x p refl refl in
    ap (λ (s : List Step). s ∷ schedules ps) here.steps_are ∙ ap (λ ss. x.steps ∷ ss) (schedules_follow pasts ps (omega (arith, long)) (λ k. seated (suc k)))
