-- The lanes to one peer are emptied one by one.
use Rattle.std.proofs.Common.{◌≡◌, ◌≢◌, ℕ, ◌+◌, ◌<◌, ◌≤◌, List, [], ◌∷◌, ◌++◌, length, set, get_or, sym, refl, ap, ◌∙◌, subst, arith, length-set, length-append, append_assoc, append-nil, get_or-set_same, get_or-set_other}
use mathlib.Core.Logic.{dite}
use native.Mathlib.Decide.{ℕ_discrete}
use Rattle.std.specs.Prelude.{Some, None, slice_get, Vec, vec_capacity}
use Rattle.std.specs.declared.alloc.Global.{Global}
use Rattle.std.proofs.lemmas.List.{set-get_or, get_or_default}
use Rattle.std.proofs.lemmas.Option.{same_Some, slice_get_within}
use Rattle.std.proofs.Math.Seq.{get_or-append_seam}
use Rattle.fab_base.specs.declared.frames.Frame.{Frame}
use Rattle.fab_base.proofs.Lists.{get_set_same, get_set_other, get_seam as at_seam}
use Rattle.fab_link.specs.Frames.{IsLane}
use Rattle.fab_link.specs.Plain as plain
use Rattle.fab_link.specs.Plain.{Plain, lane_at, with_lane, fresh_lane}
use Rattle.fab_queue.specs.Ends.{Out, In, new_out, new_in}
use Rattle.fab_queue.specs.Ports.{no_lane}
use Rattle.fab_queue.specs.Laid.{row, column, out_in, in_in}
use Rattle.fab_queue.specs.Gather.{taken_end_of, Drained, Receives, Received, ReceivesAll, ReceivedAll}
use Rattle.fab_queue.proofs.Members.{members_of, members_set_same, members_set_other, members_seam}

pub record Receiving (outs0 outs : List (Vec Out Global)) (ins0 ins : List In) (rooms0 rooms : List (Vec Frame Global)) (port0 port : Plain) : Type 0 where
  pub outs_count : length outs ≡ length outs0
  pub rows : (s : ℕ) → row outs s ≡ row outs0 s
  pub ins_rest : List In
  pub ins_front : ins0 ≡ ins ++ ins_rest
  pub rooms_rest : List (Vec Frame Global)
  pub rooms_front : rooms0 ≡ rooms ++ rooms_rest
  pub even : length rooms ≡ length ins
  pub number : port.number ≡ port0.number
  pub count : length port.lanes ≡ length port0.lanes
  pub same : (s : ℕ) → lane_at port s ≡ record (lane_at port0 s) { in_list = (lane_at port s).in_list }
  pub none : (s : ℕ) → s < length ins → (lane_at port s).in_list ≡ []
  pub each : (s : ℕ) → length ins ≤ s → s < length ins0 → Drained (out_in (row outs0 s) port0.number) (in_in ins0 s) (lane_at port s).in_list

pub receiving_starts : (outs : List (Vec Out Global)) (ins : List In) (rooms : List (Vec Frame Global)) (port port' : Plain) → port' ≡ port → Receives outs ins rooms port → Receiving outs outs ins ins rooms rooms port port'
receiving_starts outs ins rooms port port' is r = subst (Receiving outs outs ins ins rooms rooms port) (sym is) record {
  outs_count = refl;
  rows = λ s. refl;
  ins_rest = [];
  ins_front = sym (append-nil ins);
  rooms_rest = [];
  rooms_front = sym (append-nil rooms);
  even = r.rooms_count;
  number = refl;
  count = refl;
  same = λ s. refl;
  none = r.none;
  each = λ s far near. absurd (omega (arith, far, near));
}

pub received : (outs0 outs : List (Vec Out Global)) (ins0 ins : List In) (rooms0 rooms : List (Vec Frame Global)) (port0 port : Plain) → Receiving outs0 outs ins0 ins rooms0 rooms port0 port → length ins ≡ 0 → Received outs0 ins0 port0 port
received outs0 outs ins0 ins rooms0 rooms port0 port k none = record { number = k.number; count = k.count; same = k.same; each = λ s near. k.each s (omega (arith, none)) near }

module _ (outs0 outs : List (Vec Out Global)) (ins0 ins ins' : List In) (rooms0 rooms rooms' : List (Vec Frame Global)) (port0 port : Plain) (i : In) (w : Vec Frame Global)
    (r : Receives outs0 ins0 rooms0 port0) (k : Receiving outs0 outs ins0 ins rooms0 rooms port0 port) (e : ins ≡ ins' ++ i ∷ []) (f : rooms ≡ rooms' ++ w ∷ []) where
  whole : ins0 ≡ ins' ++ i ∷ k.ins_rest
  whole = k.ins_front ∙ ap (λ (l : List In). l ++ k.ins_rest) e ∙ append_assoc ins' (i ∷ []) k.ins_rest

  long : length ins ≡ length ins' + 1
  long = ap length e ∙ length-append ins' (i ∷ [])

  even' : length rooms' ≡ length ins'
  even' = let a = ap length f ∙ length-append rooms' (w ∷ []) in let b = k.even in let c = long in omega (arith, a, b, c)

  low : length ins' < length ins0
  low = let a = ap length whole ∙ length-append ins' (i ∷ k.ins_rest) in let b : length (i ∷ k.ins_rest) ≡ length k.ins_rest + 1 = length-append (i ∷ []) k.ins_rest ∙ omega arith in omega (arith, a, b)

  mine : in_in ins0 (length ins') ≡ i
  mine = ap (λ (l : List In). in_in l (length ins')) whole ∙ get_or-append_seam ins' i k.ins_rest (new_in no_lane)

  room_at : slice_get rooms0 (length ins') ≡ Some w
  room_at = ap (λ (l : List (Vec Frame Global)). slice_get l (length ins')) (k.rooms_front ∙ ap (λ (l : List (Vec Frame Global)). l ++ k.rooms_rest) f ∙ append_assoc rooms' (w ∷ []) k.rooms_rest)
      ∙ ap (slice_get (rooms' ++ w ∷ k.rooms_rest)) (sym even') ∙ at_seam rooms' w k.rooms_rest

  -- the source and its end of the lane are there
  pub near_source : length ins' < length outs
  near_source = subst (λ (n : ℕ). length ins' < n) (sym (k.outs_count ∙ r.sources)) low

  pub few_sources : length ins' < 4294967296
  few_sources = let l = low in let f : length ins0 < 4294967296 = r.few in omega (arith, l, f)

  pub near_end : port0.number < length (row outs (length ins'))
  near_end = subst (λ (n : ℕ). port0.number < n) (ap length (sym (k.rows (length ins')))) (r.below (length ins') low)

  pub same_end : out_in (row outs (length ins')) port0.number ≡ out_in (row outs0 (length ins')) port0.number
  same_end = ap (λ (l : List Out). out_in l port0.number) (k.rows (length ins'))

  pub joined : (out_in (row outs (length ins')) port0.number).lane ≡ i.lane
  joined = ap (λ (o : Out). o.lane) same_end ∙ r.joined (length ins') low ∙ ap (λ (z : In). z.lane) mine

  pub roomy : (w.items ≡ []) × ((out_in (row outs (length ins')) port0.number).room + 1 ≤ vec_capacity w)
  roomy = let fits = r.room (length ins') w room_at in (fits.0, subst (λ (o : Out). o.room + 1 ≤ vec_capacity w) (sym same_end) fits.1)

  pub near_lane : length ins' < length port.lanes
  near_lane = subst (λ (n : ℕ). length ins' < n) (sym (k.count ∙ r.lanes_count)) low

  pub nothing_came : (lane_at port (length ins')).in_list ≡ []
  nothing_came = let l = long in k.none (length ins') (omega (arith, l))

  pub may_come : (fs : List Frame) → IsLane (taken_end_of i) fs → IsLane (lane_at port (length ins')).in_after fs
  may_come fs cut = subst (λ (h : _). IsLane h fs) (ap taken_end_of (sym mine) ∙ sym (r.after (length ins') low) ∙ sym (ap (λ (z : plain.Lane). z.in_after) (k.same (length ins')))) cut

  -- the port after the frames of this lane came
  module _ (outs' : List (Vec Out Global)) (port' : Plain) (fs : List Frame) (count : length outs' ≡ length outs) (rows : (s : ℕ) → row outs' s ≡ row outs s) (took : Drained (out_in (row outs (length ins')) port0.number) i fs)
      (is : port' ≡ with_lane port (length ins') (record (lane_at port (length ins')) { in_list = fs })) where
    here : lane_at port' (length ins') ≡ record (lane_at port (length ins')) { in_list = fs }
    here = ap (λ (p : Plain). lane_at p (length ins')) is ∙ get_or-set_same port.lanes (length ins') (record (lane_at port (length ins')) { in_list = fs }) (fresh_lane None None) near_lane

    there : (s : ℕ) → s ≢ length ins' → lane_at port' s ≡ lane_at port s
    there s ne = ap (λ (p : Plain). lane_at p s) is ∙ get_or-set_other port.lanes (length ins') s (record (lane_at port (length ins')) { in_list = fs }) (fresh_lane None None) ne

    pub goes_on : Receiving outs0 outs' ins0 ins' rooms0 rooms' port0 port'
    goes_on = record {
      outs_count = count ∙ k.outs_count;
      rows = λ s. rows s ∙ k.rows s;
      ins_rest = i ∷ k.ins_rest;
      ins_front = whole;
      rooms_rest = w ∷ k.rooms_rest;
      rooms_front = k.rooms_front ∙ ap (λ (l : List (Vec Frame Global)). l ++ k.rooms_rest) f ∙ append_assoc rooms' (w ∷ []) k.rooms_rest;
      even = even';
      number = ap (λ (p : Plain). p.number) is ∙ k.number;
      count = ap (λ (p : Plain). length p.lanes) is ∙ length-set port.lanes (length ins') (record (lane_at port (length ins')) { in_list = fs }) ∙ k.count;
      same = λ s. dite (ℕ_discrete s (length ins'))
          (λ at. subst (λ (z : ℕ). lane_at port' z ≡ record (lane_at port0 z) { in_list = (lane_at port' z).in_list }) (sym at)
          (here ∙ (λ j. record (k.same (length ins') j) { in_list = sym (ap (λ (z : plain.Lane). z.in_list) here) j })))
          (λ ne. there s ne ∙ k.same s ∙ (λ j. record (lane_at port0 s) { in_list = (sym (there s ne) j).in_list }));
      none = λ s near. let l = long in ap (λ (z : plain.Lane). z.in_list) (there s (λ at. omega (arith, near, at))) ∙ k.none s (omega (arith, near, l));
      each = λ s far near. dite (ℕ_discrete s (length ins'))
          (λ at. subst (λ (z : ℕ). Drained (out_in (row outs0 z) port0.number) (in_in ins0 z) (lane_at port' z).in_list) (sym at)
          (subst (λ (z : Out × In × List Frame). Drained z.0 z.1 z.2) (λ j. (same_end j, sym mine j, sym (ap (λ (z : plain.Lane). z.in_list) here) j)) took))
          (λ ne. let l = long in subst (λ (z : plain.Lane). Drained (out_in (row outs0 s) port0.number) (in_in ins0 s) z.in_list) (sym (there s ne)) (k.each s (omega (arith, far, ne, l)) near));
    }

-- an end that stays as it was leaves all as they were
pub same_rows : (outs : List (Vec Out Global)) (s d : ℕ) (v : Vec Out Global) (o : Out) → s < length outs → v.items ≡ set (row outs s) d o → o ≡ out_in (row outs s) d → (t : ℕ) → row (set outs s v) t ≡ row outs t
same_rows outs s d v o near is same t = dite (ℕ_discrete t s)
    (λ at. subst (λ (z : ℕ). row (set outs s v) z ≡ row outs z) (sym at) (members_set_same outs s v near ∙ is ∙ ap (λ (z : Out). set (row outs s) d z) same ∙ set-get_or (row outs s) d (new_out no_lane 0)))
    (λ ne. members_set_other outs s t v ne)

-- an end that was reached through its row
pub wide_row : (outs : List (Vec Out Global)) (z : Vec Out Global) (s' s d d' : ℕ) → s' ≡ s → d' ≡ d → s < length outs → d < length (row outs s) → d' < length (get_or outs s' z).items
wide_row outs z s' s d d' at n near end = subst (λ (k : ℕ × ℕ). k.0 < length (get_or outs k.1 z).items) (λ i. (sym n i, sym at i)) (subst (λ (l : List Out). d < length l) (sym (members_of outs z s near)) end)

pub end_at : (outs : List (Vec Out Global)) (z : Vec Out Global) (s' s d d' : ℕ) → s' ≡ s → d' ≡ d → s < length outs → d < length (row outs s) → (x y : Out) → x ≡ get_or (get_or outs s' z).items d' y → x ≡ out_in (row outs s) d
end_at outs z s' s d d' at n near end x y e = e ∙ get_or_default (get_or outs s' z).items d' y (new_out no_lane 0) (wide_row outs z s' s d d' at n near end)
    ∙ (λ i. out_in (get_or outs (at i) z).items (n i)) ∙ ap (λ (l : List Out). out_in l d) (members_of outs z s near)

-- an end that was reached through its row, and stays as it was, leaves all as they were
pub kept_rows : (outs : List (Vec Out Global)) (z : Vec Out Global) (s' s d d' : ℕ) → s' ≡ s → d' ≡ d → s < length outs → d < length (row outs s) → (x y o : Out) → x ≡ get_or (get_or outs s' z).items d' y → o ≡ x
    → (v : Vec Out Global) → v.items ≡ set (get_or outs s' z).items d' o → (t : ℕ) → row (set outs s' v) t ≡ row outs t
kept_rows outs z s' s d d' at n near end x y o e same v is =
    let near' : s' < length outs = subst (λ (k : ℕ). k < length outs) (sym at) near in let here = members_of outs z s' near' in
    same_rows outs s' d' v o near' (is ∙ ap (λ (l : List Out). set l d' o) here)
    (same ∙ e ∙ get_or_default (get_or outs s' z).items d' y (new_out no_lane 0) (wide_row outs z s' s d d' at n near end) ∙ ap (λ (l : List Out). out_in l d') here)

-- what may be received by ends with the same rows
pub receives_same : (outs outs' : List (Vec Out Global)) (ins : List In) (rooms : List (Vec Frame Global)) (port : Plain) → length outs' ≡ length outs → ((s : ℕ) → row outs' s ≡ row outs s) → Receives outs ins rooms port → Receives outs' ins rooms port
receives_same outs outs' ins rooms port count rows r = record {
  sources = count ∙ r.sources;
  rooms_count = r.rooms_count;
  lanes_count = r.lanes_count;
  few = r.few;
  below = λ s near. subst (λ (l : List Out). port.number < length l) (sym (rows s)) (r.below s near);
  joined = λ s near. subst (λ (l : List Out). (out_in l port.number).lane ≡ (in_in ins s).lane) (sym (rows s)) (r.joined s near);
  room = λ s w at. subst (λ (l : List Out). (w.items ≡ []) × ((out_in l port.number).room + 1 ≤ vec_capacity w)) (sym (rows s)) (r.room s w at);
  none = r.none;
  after = r.after;
}

pub received_same : (outs outs' : List (Vec Out Global)) (ins : List In) (old new : Plain) → ((s : ℕ) → row outs' s ≡ row outs s) → Received outs' ins old new → Received outs ins old new
received_same outs outs' ins old new rows r = record {
  number = r.number;
  count = r.count;
  same = r.same;
  each = λ s near. subst (λ (l : List Out). Drained (out_in l old.number) (in_in ins s) (lane_at new s).in_list) (rows s) (r.each s near);
}

-- the lanes to the last peers are empty
pub record ReceivingAll (outs0 outs : List (Vec Out Global)) (ins0 ins : List (Vec In Global)) (rooms0 rooms : List (Vec (Vec Frame Global) Global)) (ports0 ports : List Plain) : Type 0 where
  pub outs_count : length outs ≡ length outs0
  pub rows : (s : ℕ) → row outs s ≡ row outs0 s
  pub ins_rest : List (Vec In Global)
  pub ins_front : ins0 ≡ ins ++ ins_rest
  pub rooms_rest : List (Vec (Vec Frame Global) Global)
  pub rooms_front : rooms0 ≡ rooms ++ rooms_rest
  pub even : length rooms ≡ length ins
  pub count : length ports ≡ length ports0
  pub left : (r : ℕ) → r < length ins → slice_get ports r ≡ slice_get ports0 r
  pub each : (r : ℕ) (p q : Plain) → length ins ≤ r → slice_get ports0 r ≡ Some p → slice_get ports r ≡ Some q → Received outs0 (column ins0 r) p q

pub receiving_all_starts : (outs : List (Vec Out Global)) (ins : List (Vec In Global)) (rooms : List (Vec (Vec Frame Global) Global)) (ports : List Plain) → ReceivesAll outs ins rooms ports → ReceivingAll outs outs ins ins rooms rooms ports ports
receiving_all_starts outs ins rooms ports r = record {
  outs_count = refl;
  rows = λ s. refl;
  ins_rest = [];
  ins_front = sym (append-nil ins);
  rooms_rest = [];
  rooms_front = sym (append-nil rooms);
  even = r.rooms_count;
  count = refl;
  left = λ k near. refl;
  each = λ k p q far at_p at_q. absurd (let near = slice_get_within ports k p at_p in let c = r.ports_count in omega (arith, far, near, c));
}

pub received_all : (outs0 outs : List (Vec Out Global)) (ins0 ins : List (Vec In Global)) (rooms0 rooms : List (Vec (Vec Frame Global) Global)) (ports0 ports : List Plain) → ReceivingAll outs0 outs ins0 ins rooms0 rooms ports0 ports → length ins ≡ 0 → ReceivedAll outs0 ins0 ports0 ports
received_all outs0 outs ins0 ins rooms0 rooms ports0 ports k none = record { count = k.count; each = λ r p q at_p at_q. k.each r p q (omega (arith, none)) at_p at_q }

module _ (outs0 outs : List (Vec Out Global)) (ins0 ins ins' : List (Vec In Global)) (rooms0 rooms rooms' : List (Vec (Vec Frame Global) Global)) (ports0 ports : List Plain) (i : Vec In Global) (w : Vec (Vec Frame Global) Global)
    (r : ReceivesAll outs0 ins0 rooms0 ports0) (k : ReceivingAll outs0 outs ins0 ins rooms0 rooms ports0 ports) (e : ins ≡ ins' ++ i ∷ []) (f : rooms ≡ rooms' ++ w ∷ []) where
  all_whole : ins0 ≡ ins' ++ i ∷ k.ins_rest
  all_whole = k.ins_front ∙ ap (λ (l : List (Vec In Global)). l ++ k.ins_rest) e ∙ append_assoc ins' (i ∷ []) k.ins_rest

  all_rooms : rooms0 ≡ rooms' ++ w ∷ k.rooms_rest
  all_rooms = k.rooms_front ∙ ap (λ (l : List (Vec (Vec Frame Global) Global)). l ++ k.rooms_rest) f ∙ append_assoc rooms' (w ∷ []) k.rooms_rest

  all_long : length ins ≡ length ins' + 1
  all_long = ap length e ∙ length-append ins' (i ∷ [])

  all_even : length rooms' ≡ length ins'
  all_even = let a = ap length f ∙ length-append rooms' (w ∷ []) in let b = k.even in let c = all_long in omega (arith, a, b, c)

  column_here : column ins0 (length ins') ≡ i.items
  column_here = ap (λ (l : List (Vec In Global)). column l (length ins')) all_whole ∙ members_seam ins' i k.ins_rest

  pub all_near : length ins' < length ports
  all_near = let a = ap length all_whole ∙ length-append ins' (i ∷ k.ins_rest) in let b : length (i ∷ k.ins_rest) ≡ length k.ins_rest + 1 = length-append (i ∷ []) k.ins_rest ∙ omega arith in let c = k.count in let d = r.ports_count in omega (arith, a, b, c, d)

  port_was : (p : Plain) → slice_get ports (length ins') ≡ Some p → slice_get ports0 (length ins') ≡ Some p
  port_was p at = let l = all_long in sym (k.left (length ins') (omega (arith, l))) ∙ at

  pub may_receive : (p : Plain) → slice_get ports (length ins') ≡ Some p → Receives outs i.items w.items p
  may_receive p at = let room_at : slice_get rooms0 (length ins') ≡ Some w = ap (λ (l : List (Vec (Vec Frame Global) Global)). slice_get l (length ins')) all_rooms ∙ ap (slice_get (rooms' ++ w ∷ k.rooms_rest)) (sym all_even) ∙ at_seam rooms' w k.rooms_rest in
      receives_same outs0 outs i.items w.items p k.outs_count k.rows (subst (λ (l : List In). Receives outs0 l w.items p) column_here (r.each (length ins') w p room_at (port_was p at)))

  pub all_goes_on : (outs' : List (Vec Out Global)) (p q : Plain) → length outs' ≡ length outs → ((s : ℕ) → row outs' s ≡ row outs s) → slice_get ports (length ins') ≡ Some p → Received outs i.items p q
      → ReceivingAll outs0 outs' ins0 ins' rooms0 rooms' ports0 (set ports (length ins') q)
  all_goes_on outs' p q count rows at got = record {
    outs_count = count ∙ k.outs_count;
    rows = λ s. rows s ∙ k.rows s;
    ins_rest = i ∷ k.ins_rest;
    ins_front = all_whole;
    rooms_rest = w ∷ k.rooms_rest;
    rooms_front = all_rooms;
    even = all_even;
    count = length-set ports (length ins') q ∙ k.count;
    left = λ t near. let l = all_long in get_set_other ports (length ins') t q (λ z. omega (arith, near, z)) ∙ k.left t (omega (arith, near, l));
    each = λ t x y far at_x at_y. dite (ℕ_discrete t (length ins'))
        (λ is. let same_x : p ≡ x = same_Some p x (sym (port_was p at) ∙ ap (slice_get ports0) (sym is) ∙ at_x) in let same_y : q ≡ y = get_set_same ports (length ins') q y (ap (slice_get (set ports (length ins') q)) (sym is) ∙ at_y) in
        subst (λ (z : List In × Plain × Plain). Received outs0 z.0 z.1 z.2) (λ j. ((sym column_here ∙ ap (column ins0) (sym is)) j, same_x j, same_y j)) (received_same outs0 outs i.items p q k.rows got))
        (λ ne. let l = all_long in k.each t x y (omega (arith, far, ne, l)) at_x (sym (get_set_other ports (length ins') t q ne) ∙ at_y));
  }
