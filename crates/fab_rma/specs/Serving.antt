-- What contracts see of a target, and what its requests ask of it (fi_rma(3), fi_atomic(3)).
--     Serving              the value: the regions, and of each source how many bytes of a reply there is room for
--     nothing_served n     the value of a target that is new, for n sources
--     is_request kind      an item of this kind asks its target for something
--     room_for head        how many bytes the reply to this request may hand back
--     outcome_at regions head      what becomes of the request
--     compared count form          how many bytes an atomic of this form compares with
use Rattle.std.specs.Prelude.{ℕ, Bool, true, false, List, [], replicate}
use Rattle.fab_base.specs.declared.items.Form.{Form}
use Rattle.fab_base.specs.declared.items.Form.TheVariants.{Compare}
use Rattle.fab_base.specs.declared.items.ItemHead.{ItemHead}
use Rattle.fab_base.specs.declared.items.Kind.{Kind}
use Rattle.fab_base.specs.declared.items.Kind.TheVariants.{Msg, TagMsg, WriteReq, ReadReq, AtomicReq, Reply}
use Rattle.fab_base.specs.declared.items.Outcome.{Outcome}
use Rattle.fab_model.specs.State.{Region}
use Rattle.fab_model.specs.Target.{outcome_of}
use Rattle.fab_base.specs.Kinds.{is_base}
use Rattle.fab_mr.specs.Regions.{region_at}

pub record Serving : Type 0 where
  pub regions : List Region
  pub rooms : List ℕ

abbrev pub nothing_served : ℕ → Serving
nothing_served sources = record { regions = []; rooms = replicate sources 0 }

abbrev pub is_request : Kind → Bool
is_request Msg = false
is_request TagMsg = false
is_request WriteReq = true
is_request ReadReq = true
is_request AtomicReq = true
is_request Reply = false

abbrev pub room_of : Kind → ItemHead → ℕ
room_of ReadReq head = head.count
room_of AtomicReq head = elim (is_base head.atom) [ true ↦ 0 | false ↦ head.count ]
room_of kind head = 0

abbrev pub room_for : ItemHead → ℕ
room_for head = room_of head.kind head

abbrev pub outcome_at : List Region → ItemHead → Outcome
outcome_at regions head = outcome_of (region_at regions head.key) head

abbrev pub compared : ℕ → Form → ℕ
compared count form = elim form [ Compare ↦ count | _ ↦ 0 ]
