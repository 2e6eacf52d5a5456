use Rattle.std.proofs.Common.{◌<◌, ◌++◌, ◌∷◌, [], List, length, ap, ◌∙◌, rules}
use Rattle.fab_queue.specs.Ends.{In}
use Rattle.fab_queue.proofs.Members.{members_of}
use Rattle.fab_queue.proofs.Growing.{laid_more}
use Rattle.fab_queue.proofs.laying.lay_from.Goals as goal

pub loop-dest-preserved : goal.loop-dest-preserved
loop-dest-preserved c =
    let near : c.loop-dest.dest < length c.loop-dest.ins = search rules in
    let i : In = c.in_ok-outlet.inlet in
    let grew = c.in_ok-push-2.ensures.items ∙ ap (λ (xs : List In). xs ++ i ∷ []) (members_of c.loop-dest.ins _ c.loop-dest.dest near) in
    rw c.in_ok-push.ensures.items (laid_more c.args.room c.loop-dest.dest _ c.loop-dest.ins c.loop-dest.outs.items c.in_ok-outlet.outlet i c.push-in-loop-dest.new.self c.loop-dest.invariant near c.in_ok-outlet.ensures grew)
