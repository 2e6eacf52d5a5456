-- What an item is by its kind and its atomic, when a message asks for its reply, and which error tells an outcome.
--     is_tagged kind, is_message kind     a tagged message, a message
--     is_base atom, is_read_only atom     the atomic has no result, it changes nothing; no atomic is of the base form
--     is_answered head                    the reply to the item has bytes
--     at_delivery ack, at_match ack       a reply is asked for once the message is delivered, once a receive has taken it
--     refusal_of outcome                  the error that tells the outcome; none where it is done
use Rattle.std.specs.Prelude.{Bool, true, false, Option, None, Some}
use Rattle.fab_base.specs.declared.entries.ErrKind.{ErrKind}
use Rattle.fab_base.specs.declared.entries.ErrKind.TheVariants.{NoKey, Access, Range}
use Rattle.fab_base.specs.declared.items.Ack.{Ack}
use Rattle.fab_base.specs.declared.items.Ack.TheVariants.{Nothing, Delivery, Match}
use Rattle.fab_base.specs.declared.items.Atom.{Atom}
use Rattle.fab_base.specs.declared.items.AtomicOp.TheVariants.{AtomicRead}
use Rattle.fab_base.specs.declared.items.Form.TheVariants.{Base, Fetch, Compare}
use Rattle.fab_base.specs.declared.items.ItemHead.{ItemHead}
use Rattle.fab_base.specs.declared.items.Kind.{Kind}
use Rattle.fab_base.specs.declared.items.Kind.TheVariants.{Msg, TagMsg, ReadReq, AtomicReq}
use Rattle.fab_base.specs.declared.items.Outcome.{Outcome}
use Rattle.fab_base.specs.declared.items.Outcome.TheVariants.{Done, BadKey, BadAccess, BadRange}

abbrev pub is_tagged : Kind → Bool
is_tagged TagMsg = true
is_tagged _ = false

abbrev pub is_message : Kind → Bool
is_message Msg = true
is_message kind = is_tagged kind

abbrev pub is_base : Option Atom → Bool
is_base None = true
is_base (Some atom) = elim atom.form [ Base ↦ true | Fetch ↦ false | Compare ↦ false ]

abbrev pub is_read_only : Option Atom → Bool
is_read_only None = false
is_read_only (Some atom) = elim atom.op [ AtomicRead ↦ true | _ ↦ false ]

-- a read, or a fetching or comparing atomic: its reply has bytes
abbrev pub is_answered : ItemHead → Bool
is_answered head = elim head.kind [
  | ReadReq ↦ true
  | AtomicReq ↦ elim head.atom [ None ↦ false | Some atom ↦ elim atom.form [ Base ↦ false | Fetch ↦ true | Compare ↦ true ] ]
  | _ ↦ false
]

abbrev pub at_delivery : Ack → Bool
at_delivery Delivery = true
at_delivery Match = false
at_delivery Nothing = false

abbrev pub at_match : Ack → Bool
at_match Match = true
at_match Delivery = false
at_match Nothing = false

abbrev pub refusal_of : Outcome → Option ErrKind
refusal_of Done = None
refusal_of BadKey = Some NoKey
refusal_of BadAccess = Some Access
refusal_of BadRange = Some Range
