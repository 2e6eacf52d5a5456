use Rattle.std.proofs.Common.{rules, ◌≡◌, ℕ, List, [], ◌∷◌, ◌++◌, length, sym, ap, ◌∙◌, arith, length-append, append_assoc}
use Rattle.fab_base.specs.declared.frames.Frame.{Frame}
use Rattle.fab_table.specs.declared.kinds.Sent.{Sent}
use Rattle.fab_table.specs.Views.{frames_of}
use Rattle.fab_ring.proofs.Joined.{grew_then, grew_outs, frames_append}
use Rattle.fab_ring.proofs.Coming.{spare_front, posted_same, lane_more, lane_whole}
use Rattle.fab_ring.proofs.emptying.empty_lane.Goals as goal

pub loop-spare-preserved : goal.loop-spare-preserved
loop-spare-preserved c = let i = c.loop-spare.invariant in let s = c.args.seat.now in let t = c.loop-spare.seat in let u = c.take_next-frame.new.seat in let r : ℕ = c.args.reader in let e : ℕ = c.args.source in
    let got = c.take_next-frame.ensures.taken in let x : Sent = got.0 in let xs : List Sent = i.took.0 in let spares : List (List ℕ) = c.pop.new.self.items in
    let popped : c.loop-spare.spares.items ≡ spares ++ c.in-Some.spare ∷ [] = c.in-Some.ensures.items in let longer = ap length popped ∙ length-append spares (c.in-Some.spare ∷ []) in
    let grown : c.push.new.self.items ≡ c.loop-spare.frames.items ++ c.take_next-frame.result ∷ [] = search rules in let more = ap length grown ∙ length-append c.loop-spare.frames.items (c.take_next-frame.result ∷ []) in
    let taken = ap length got.2.mine.taken ∙ length-append _ (x ∷ []) in let posted = posted_same t u e r (grew_outs t u r e (x ∷ []) got.2 e) in
    let here = i.taken in let left = i.left in let space = i.space in let capacity = c.push.ensures.capacity in record {
      same = (c.take_next-frame.ensures.seat.0 ∙ i.same.0, c.take_next-frame.ensures.seat.1 ∙ i.same.1);
      joined = c.take_next-frame.ensures.joined;
      taken = omega arith;
      left = omega arith;
      sizes = spare_front spares c.loop-spare.spares.items c.in-Some.spare popped i.sizes;
      space = omega arith;
      took = (
        xs ++ x ∷ [],
        grew_then s t u r e xs (x ∷ []) i.took.1 got.2,
        grown ∙ (λ k. i.took.2 k ++ got.1 k ∷ []) ∙ append_assoc c.args.inside.frames.items (frames_of xs) (x.frame ∷ []) ∙ ap (λ (l : List Frame). c.args.inside.frames.items ++ l) (sym (frames_append xs (x ∷ []))),
        lane_more s t u r e xs x i.took.1 got.3 i.took.3,
      );
    }

pub returns-clause-cut : goal.returns-clause-cut
returns-clause-cut c = let i = c.loop-spare.invariant in λ before leads. lane_whole c.args.seat.now c.args.reader c.args.source before c.args.inside.frames.items c.loop-spare.frames.items i.took.0 leads i.took.3 i.took.2
