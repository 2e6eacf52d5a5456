use Rattle.std.proofs.Common.{[], sym, ap, ◌∙◌}
use Rattle.std.specs.Prelude.{is_some, unwrap_or}
use Rattle.std.specs.Option.{option_copied_mut}
use Rattle.fab_kept.specs.Places.{queue_of}
use Rattle.fab_kept.proofs.Indexing.{put_ok, put_err, fresh, written}
use Rattle.fab_kept.proofs.index.put_in_map.Goals as goal

pub returns-in-Some-clause-ok : goal.returns-in-Some-clause-ok
returns-in-Some-clause-ok c =
    let w = c.push.new.self in
    let later = c.get_mut.follows.lender w in
    put_ok (queue_of c.args.map.now) (queue_of later) c.args.ctx c.push.result c.in-Some.queue.now w c.args.place (ap (λ o. unwrap_or o []) (sym c.in-Some.ensures.value))
    (written c.args.map.now later c.args.ctx w ((c.get_mut.follows.holds w).3 (ap is_some (sym c.in-Some.ensures.value))).0) c.push.ensures.ok

pub returns-in-Some-clause-err : goal.returns-in-Some-clause-err
returns-in-Some-clause-err c =
    let w = c.push.new.self in
    let later = c.get_mut.follows.lender w in
    put_err (queue_of c.args.map.now) (queue_of later) c.args.ctx c.push.result c.in-Some.queue.now w (ap (λ o. unwrap_or o []) (sym c.in-Some.ensures.value))
    (written c.args.map.now later c.args.ctx w ((c.get_mut.follows.holds w).3 (ap is_some (sym c.in-Some.ensures.value))).0) c.push.ensures.err

pub returns-clause-ok : goal.returns-clause-ok
returns-clause-ok c =
    fresh c.args.map.now c.insert.new.self c.args.ctx c.get_mut.follows.lender-at-none _ c.args.place c.get_mut.follows.holds-at-none
    (sym c.get_mut.ensures.value ∙ ap option_copied_mut c.in_default.is) c.new.ensures
    c.in_ok-insert.ensures.updates.0
