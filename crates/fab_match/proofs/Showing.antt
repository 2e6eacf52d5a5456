-- A receive fits the sign of a message exactly where it matches the message.
use Rattle.std.proofs.Common.{◌≡◌, ℕ, true, refl}
use Rattle.fab_base.specs.declared.items.Kind.{Kind}
use Rattle.fab_base.specs.declared.items.Kind.TheVariants.{Msg, TagMsg, WriteReq, ReadReq, AtomicReq, Reply}
use Rattle.fab_base.specs.declared.items.ItemHead.{ItemHead}
use Rattle.fab_base.specs.declared.items.Want.{Want}
use Rattle.fab_model.specs.Matching.{matches}
use Rattle.fab_base.specs.Kinds.{is_message}
use Rattle.fab_match.specs.Signs.{fits, sign_of}

of_kind : (want : Want) (source : ℕ) (head : ItemHead) (kind : Kind) → head.kind ≡ kind → is_message kind ≡ true → fits want (sign_of source head) ≡ matches want source head
of_kind want source head Msg e message = rw e refl
of_kind want source head TagMsg e message = rw e refl
of_kind want source head WriteReq e message = absurd (cc)
of_kind want source head ReadReq e message = absurd (cc)
of_kind want source head AtomicReq e message = absurd (cc)
of_kind want source head Reply e message = absurd (cc)

pub fits-sign_of : (want : Want) (source : ℕ) (head : ItemHead) → is_message head.kind ≡ true → fits want (sign_of source head) ≡ matches want source head
fits-sign_of want source head message = of_kind want source head head.kind refl message
