-- What calls and arrivals leave alone: the operations that have not ended, and those that a fence holds back. Only a transmit call, and the end of an operation, change them.
--     Rests s u      from s to u they are the same, the address vector too, and the calls are no fewer
use Rattle.std.proofs.Common.{◌≡◌, ◌≤◌, ℕ, List, Bool, true, false, Option, Some, None, refl, ◌∙◌, rules, arith}
use Rattle.std.specs.Prelude.{find}
use Rattle.fab_base.specs.declared.items.ItemHead.{ItemHead}
use Rattle.fab_base.specs.declared.items.Outcome.{Outcome}
use Rattle.fab_base.specs.declared.items.Want.{Want}
use Rattle.fab_base.specs.declared.faults.Fault.{Fault}
use Rattle.fab_base.specs.declared.entries.PeekHow.{PeekHow}
use Rattle.fab_base.specs.declared.entries.PeekHow.TheVariants.{Peek, Claim, Discard}
use Rattle.fab_base.specs.declared.operations.Receive.{Receive}
use Rattle.fab_base.specs.declared.operations.Arrival.{Arrival}
use Rattle.fab_base.specs.declared.operations.Operation.{Operation}
use Rattle.fab_base.proofs.Numbers.{le_same as calls_le}
use Rattle.fab_model.specs.Matching.{takes}
use Rattle.fab_model.specs.State.{State, with_rx, called}
use Rattle.fab_model.specs.Complete.{fill, release, release_multi, reply, book}
use Rattle.fab_base.specs.Kinds.{at_match}
use Rattle.fab_model.specs.Sending.{end_with}
use Rattle.fab_model.specs.Receiving.{Posting, give, drop_arrival, post, receive_of, taken_by, without_first, look, look_at, take_claimed, drop_claimed, claim_of, without_claim, taking, cancel, cancellable, draws}
use Rattle.fab_model.specs.Target.{perform}
use Rattle.fab_model.specs.Arrivals.{heading_message, heading_other, do_head, do_draw, seating, remote_data, remote_event, with_regions, do_request}
use Rattle.fab_model.specs.Calls.{answer}

pub record Rests (s u : State) : Type 0 where
  pub live : u.tx.live ≡ s.tx.live
  pub held : u.tx.held ≡ s.tx.held
  pub av : u.av ≡ s.av
  pub calls : s.calls ≤ u.calls

pub same : {s u : State} → u.tx ≡ s.tx → u.av ≡ s.av → s.calls ≤ u.calls → Rests s u
same tx av calls = record { live = rw tx refl; held = rw tx refl; av = av; calls = calls }

pub then : {s u v : State} → Rests s u → Rests u v → Rests s v
then g h = record { live = h.live ∙ g.live; held = h.held ∙ g.held; av = h.av ∙ g.av; calls = omega (arith, g.calls, h.calls) }

pub rests_option : {X : Type 0} (s : State) (o : Option X) (none : State) (some : X → State) → Rests s none → ((x : X) → Rests s (some x)) → Rests s (elim o [ None ↦ none | Some x ↦ some x ])
rests_option s None none some n f = n
rests_option s (Some x) none some n f = f x

-- ---- what an arrival does

pub reply_rests : (source op : ℕ) (outcome : Outcome) (bytes : List ℕ) (s : State) → Rests s (reply source op outcome bytes s)
unfolding reply
reply_rests source op outcome bytes s = record { live = refl; held = refl; av = refl; calls = omega arith }

pub book_rests : (b : Bool) (source : ℕ) (head : ItemHead) (s : State) → Rests s (book b source head s)
unfolding book
book_rests true source head s = reply_rests source _ _ _ s
book_rests false source head s = same refl refl (omega arith)

pub fill_rests : (r : Receive) (place source : ℕ) (head : ItemHead) (bytes : List ℕ) (s : State) → Rests s (fill r place source head bytes s)
unfolding fill
fill_rests r place source head bytes s = same refl refl (omega arith)

pub release_rests : (r : Receive) (s : State) → Rests s (release r s)
unfolding release_multi
release_rests r s = same (grind rules) (grind rules) (calls_le s.calls _ (grind rules))

pub give_rests : (r : Receive) (place : ℕ) (a : Arrival) (s : State) → Rests s (give r place a s)
unfolding give
give_rests r place a s = rests_option s a.bytes _ _ (same refl refl (omega arith)) (λ bytes. then (fill_rests r place a.source a.head bytes s) (book_rests (at_match a.head.ack) a.source a.head _))

drop_rests : (a : Arrival) (s : State) → Rests s (drop_arrival a s)
unfolding drop_arrival
drop_rests a s = rests_option s a.bytes _ _ (same refl refl (omega arith)) (λ bytes. book_rests (at_match a.head.ack) a.source a.head s)

pub end_rests : (outcome : Outcome) (bytes : List ℕ) (o : Operation) (s : State) → Rests s (end_with outcome bytes o s)
unfolding end_with
end_rests outcome bytes o s = same (grind rules) (grind rules) (calls_le s.calls _ (grind rules))

-- ---- calls

pub fault_rests : (fault : Option Fault) (s after : State) → Rests s after → Rests s (answer fault s after).1
fault_rests None s after rests = rests
fault_rests (Some fault) s after rests = same refl refl (omega arith)

pub post_rests : (s : State) (p : Posting) → Rests s (post s p)
unfolding post
post_rests s p =
    let r = receive_of s p in
    rests_option s (taken_by r s) _ _ (same refl refl (omega arith)) (λ a. then (same refl refl (omega arith)) (give_rests r 0 a (called (with_rx (without_first r.want s.rx) s))))

look_at_rests : (how : PeekHow) (want : Want) (ctx : ℕ) (a : Arrival) (s : State) → Rests s (look_at how want ctx a s)
look_at_rests Peek want ctx a s = same refl refl (omega arith)
look_at_rests Claim want ctx a s = same refl refl (omega arith)
look_at_rests Discard want ctx a s = then (same refl refl (omega arith)) (drop_rests a (with_rx (without_first want s.rx) s))

pub look_rests : (how : PeekHow) (want : Want) (ctx : ℕ) (s : State) → Rests s (look how want ctx s)
unfolding look
look_rests how want ctx s = rests_option s (find (takes want) s.rx.unexpected) _ _ (same refl refl (omega arith)) (λ a. then (same refl refl (omega arith)) (look_at_rests how want ctx a _))

pub take_rests : (s : State) (buf : List ℕ) (ctx : ℕ) → Rests s (take_claimed s buf ctx)
unfolding take_claimed
take_rests s buf ctx =
    rests_option s (claim_of ctx s) _ _ (same refl refl (omega arith)) (λ a. then (same refl refl (omega arith)) (give_rests (taking s buf ctx) 0 a (called (with_rx (without_claim ctx s.rx) s))))

pub drop_claimed_rests : (s : State) (ctx : ℕ) → Rests s (drop_claimed s ctx)
unfolding drop_claimed
drop_claimed_rests s ctx = rests_option s (claim_of ctx s) _ _ (same refl refl (omega arith)) (λ a. then (same refl refl (omega arith)) (drop_rests a _))

pub cancel_rests : (s : State) (test : Receive → Bool) → Rests s (cancel s test)
unfolding cancel
cancel_rests s test = rests_option s (cancellable test s.rx) _ _ (same refl refl (omega arith)) (λ r. same refl refl (omega arith))

-- ---- items

pub head_rests : (s : State) (source : ℕ) (head : ItemHead) → Rests s (do_head s source head)
unfolding do_head heading_message heading_other
head_rests s source head = same (grind rules) (grind rules) (calls_le s.calls _ (grind rules))

pub draw_rests : (s : State) → Rests s (do_draw s)
unfolding do_draw
draw_rests s = rests_option s (find (draws s.rx.unexpected) s.rx.posted) _ _ (same refl refl (omega arith)) (λ r.
    rests_option s (find (takes r.want) s.rx.unexpected) _ _ (same refl refl (omega arith)) (λ a.
    then (then (same refl refl (omega arith)) (give_rests r r.used a (with_rx (without_first r.want (seating a.head.total r s.rx.unexpected s.rx)) s))) (release_rests r _)))

data_rests : (outcome : Outcome) (source : ℕ) (head : ItemHead) (s : State) → Rests s (remote_data outcome source head s)
data_rests outcome source head s = same (grind rules) (grind rules) (calls_le s.calls _ (grind rules))

event_rests : (outcome : Outcome) (head : ItemHead) (s : State) → Rests s (remote_event outcome head s)
event_rests outcome head s = same (grind rules) (grind rules) (calls_le s.calls _ (grind rules))

pub request_rests : (s : State) (source : ℕ) (head : ItemHead) (bytes : List ℕ) → Rests s (do_request s source head bytes)
unfolding do_request
request_rests s source head bytes =
    let p = perform s.regions head bytes in
    let replied = then (same refl refl (omega arith)) (reply_rests source head.op p.outcome p.bytes (with_regions p.regions s)) in
    then (then replied (event_rests p.outcome head _)) (data_rests p.outcome source head _)
