-- The plain ports that go on where ports ended.
use Rattle.std.proofs.Common.{◌≡◌, ℕ, ◌<◌, ◌≤◌, List, map, length, get_or, sym, ap, ◌∙◌, subst, arith, Ok, Err}
use native.Mathlib.Decide.{dec_le}
use Rattle.std.specs.Prelude.{Option, None, Result, IfOk}
use Rattle.std.proofs.Math.ListN.{get_or-eq_default}
use Rattle.std.proofs.lemmas.List.{get_or-map as map_at}
use Rattle.fab_base.specs.declared.frames.FrameHead.{FrameHead}
use Rattle.fab_link.specs.Meaning.{AreFresh}
use Rattle.fab_link.specs.Plain as plain
use Rattle.fab_link.specs.Plain.{Plain, lane_at, fresh_lane}
use Rattle.fab_queue.specs.Ends.{new_out, new_in}
use Rattle.fab_queue.specs.Ports.{Queued, no_lane, out_at, in_at, IsSound}
use Rattle.fab_queue.specs.Gather.{posted_end, taken_end_of, Succeeds}

module _ (p : Queued) (q : Plain) (posted taken : List (Option FrameHead)) (k : IsSound p) (posted_is : posted ≡ map posted_end p.outs) (taken_is : taken ≡ map taken_end_of p.ins) (peers : length q.lanes ≡ length p.outs)
    (lanes : (d : ℕ) → d < length p.outs → lane_at q d ≡ fresh_lane (get_or posted d None) (get_or taken d None)) where
  lane_is : (d : ℕ) → lane_at q d ≡ fresh_lane (posted_end (out_at p d)) (taken_end_of (in_at p d))
  lane_is d = elim (dec_le (length p.outs) d) [
    | Prim.yes far ↦ get_or-eq_default q.lanes (fresh_lane None None) (subst (λ (n : ℕ). n ≤ d) (sym peers) far)
        ∙ (λ i. fresh_lane (posted_end (sym (get_or-eq_default p.outs (new_out no_lane 0) far) i)) (taken_end_of (sym (get_or-eq_default p.ins (new_in no_lane) (subst (λ (n : ℕ). n ≤ d) (sym k.all_ins) far)) i)))
    | Prim.no low ↦ let near : d < length p.outs = omega (arith, low) in let near' : d < length p.ins = subst (λ (n : ℕ). d < n) (sym k.all_ins) near in
        lanes d near ∙ (λ i. fresh_lane ((ap (λ (xs : List (Option FrameHead)). get_or xs d None) posted_is ∙ map_at posted_end p.outs d (new_out no_lane 0) None near) i) ((ap (λ (xs : List (Option FrameHead)). get_or xs d None) taken_is ∙ map_at taken_end_of p.ins d (new_in no_lane) None near') i))
  ]

  pub succeeds : q.number ≡ p.number → ((d : ℕ) → AreFresh (plain.out_of q d) (plain.in_of q d)) → Succeeds p q
  succeeds number fresh = record {
    goes_on = record {
      number = number;
      peers = peers;
      fresh = fresh;
      out_after = λ d. ap (λ (l : plain.Lane). l.out.after) (lane_is d);
      in_after = λ s. ap (λ (l : plain.Lane). l.in_after) (lane_is s);
    };
    lanes = λ s. lane_is s ∙ (λ i. fresh_lane (sym (ap (λ (l : plain.Lane). l.out.after) (lane_is s)) i) (sym (ap (λ (l : plain.Lane). l.in_after) (lane_is s)) i));
  }

pub all_succeeds : {E : Type 0} (p : Queued) (posted taken : List (Option FrameHead)) (k : IsSound p) → posted ≡ map posted_end p.outs → taken ≡ map taken_end_of p.ins → (r : Result Plain E) → IfOk r (λ q. q.number ≡ p.number) → IfOk r (λ q. length q.lanes ≡ length p.outs)
    → IfOk r (λ q. (d : ℕ) → d < length p.outs → lane_at q d ≡ fresh_lane (get_or posted d None) (get_or taken d None)) → IfOk r (λ q. (d : ℕ) → AreFresh (plain.out_of q d) (plain.in_of q d)) → IfOk r (λ q. Succeeds p q × IsSound p)
all_succeeds p posted taken k posted_is taken_is (Ok q) number peers lanes fresh = (succeeds p q posted taken k posted_is taken_is peers lanes number fresh, k)
all_succeeds p posted taken k posted_is taken_is (Err e) number peers lanes fresh = tt
