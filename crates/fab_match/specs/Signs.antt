-- What a message shows of itself, and which receives may take it (fi_tagged(3), "fi_trecv": source, tag and ignore mask).
--     sign_of s head     what a message of peer s with this head shows
--     shown sign         the head of such a message, with all else empty
--     fits want sign     a receive that wants this may take a message with this sign: the matching machine's own `matches`
use Rattle.std.specs.Prelude.{ℕ, Bool, true, false, None}
use Rattle.fab_base.specs.declared.items.Kind.{Kind}
use Rattle.fab_base.specs.declared.items.Kind.TheVariants.{Msg, TagMsg}
use Rattle.fab_base.specs.declared.items.Ack.TheVariants.{Nothing}
use Rattle.fab_base.specs.declared.items.Outcome.TheVariants.{Done}
use Rattle.fab_base.specs.declared.items.ItemHead.{ItemHead}
use Rattle.fab_base.specs.declared.items.Want.{Want}
use Rattle.fab_base.specs.declared.items.Sign.{Sign}
use Rattle.fab_model.specs.Matching.{matches}
use Rattle.fab_base.specs.Kinds.{is_tagged}

abbrev pub sign_of : ℕ → ItemHead → Sign
sign_of source head = record { tagged = is_tagged head.kind; tag = head.tag; source = source }

abbrev pub message_kind : Bool → Kind
message_kind true = TagMsg
message_kind false = Msg

abbrev pub shown : Sign → ItemHead
shown sign = record {
  kind = message_kind sign.tagged;
  op = 0;
  tag = sign.tag;
  imm = None;
  ack = Nothing;
  key = 0;
  at = 0;
  count = 0;
  atom = None;
  outcome = Done;
  total = 0;
}

abbrev pub fits : Want → Sign → Bool
fits want sign = matches want sign.source (shown sign)
