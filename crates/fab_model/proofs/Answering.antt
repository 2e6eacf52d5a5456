-- What a call that is done says of its faults and of the state after it.
use Rattle.std.proofs.Common.{Bool, List, None, Option, Some, [], ap, false, not, refl, sym, true, ◌||◌, ◌∷◌, ◌≡◌}
use Rattle.std.specs.Prelude.{is_none, nat_le}
use Rattle.fab_base.specs.Replies.{at_either, is_reply, owes, owes_by}
use Rattle.fab_base.specs.declared.faults.Busy.TheVariants.{TxFull}
use Rattle.fab_base.specs.declared.faults.Fault.{Fault}
use Rattle.fab_base.specs.declared.faults.Fault.TheVariants.{Again, Invalid, MsgSize, NotSupported}
use Rattle.fab_base.specs.declared.items.ItemHead.{ItemHead}
use Rattle.fab_base.specs.declared.items.Kind.{Kind}
use Rattle.fab_base.specs.declared.items.Kind.TheVariants.{Msg, Reply, TagMsg}
use Rattle.fab_base.specs.declared.peers.LineResult.TheVariants.{Done}
use Rattle.fab_model.specs.Calls.{Transmit, answer, do_call}
use Rattle.fab_base.specs.Kinds.{is_message}
use Rattle.fab_model.specs.Sending.{Order, first_fault, is_granted, is_too_long, is_well_formed, transmit, transmit_fault}
use Rattle.fab_model.specs.State.{State, in_use, lookup}

pub first_is : (b : Bool) (f : Fault) (rest : List (Bool × Fault)) → first_fault ((b, f) ∷ rest) ≡ None → b ≡ false
first_is true f rest e = absurd (cc (e))
first_is false f rest e = refl

-- no reply is granted
pub granted : (s : State) (o : Order) → transmit_fault s o ≡ None → is_reply o.kind ≡ false
unfolding transmit_fault
granted s o e = go (is_granted s.caps o.kind o.atom) refl (first_is (not (is_granted s.caps o.kind o.atom)) NotSupported (
    (is_too_long s.most_message o, MsgSize)
    ∷ (is_none (lookup s.av o.dest) || nat_le 4_611_686_018_427_387_904 s.tx.ops || not (is_well_formed o o.atom), Invalid)
    ∷ (nat_le s.most_tx (in_use s.tx), Again (TxFull s.most_tx))
    ∷ []
    ) e)
  where
    no_reply : (k : Kind) → is_granted s.caps k o.atom ≡ true → is_reply k ≡ false
    no_reply Reply f = absurd (cc (f))
    no_reply k f = refl

    go : (b : Bool) → is_granted s.caps o.kind o.atom ≡ b → not b ≡ false → is_reply o.kind ≡ false
    go true f e = no_reply o.kind f
    go false f e = absurd (cc (e))

pub done_by : (fault : Option Fault) (s after t : State) → answer fault s after ≡ (Done, t) → t ≡ after
done_by None s after t is = sym (ap (λ x. x.1) is)
done_by (Some why) s after t is = absurd (cc (ap (λ x. x.0) is))

pub is_transmitted : (s t : State) (o : Order) → do_call s (Transmit o) ≡ (Done, t) → t ≡ transmit s o
unfolding do_call
is_transmitted s t o is = done_by (transmit_fault s o) s (transmit s o) t is

pub message_owes : (h : ItemHead) → is_message h.kind ≡ true → owes h ≡ at_either h.ack
message_owes h m = go h.kind m
  where
    go : (w : Kind) → is_message w ≡ true → owes_by (at_either h.ack) w ≡ at_either h.ack
    go Msg e = refl
    go TagMsg e = refl
    go w e = absurd (cc (e))
