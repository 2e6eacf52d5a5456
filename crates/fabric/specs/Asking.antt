-- What an application asks for, and why it is not opened.
--     granted_to hints     what is granted, if it is not refused
--     WhyNot hints why
use Rattle.std.specs.Prelude.{◌≡◌, ◌⊎◌, Option, Some, None}
use Rattle.fab_base.specs.declared.caps.Info.{Info}
use Rattle.fab_base.specs.declared.faults.Fault.{Fault}
use Rattle.fab_base.specs.declared.faults.Fault.TheVariants.{NoData, NoMemory as LacksMemory}
use Rattle.fab_model.specs.Negotiation.{grant}
use Rattle.fabric.specs.declared.hints.Hints.{Hints}

abbrev pub granted_to : Hints → Option Info
granted_to hints = grant hints.api (Some hints.wishes)

-- something asked for can't be had, or memory is lacking for what is granted
abbrev pub WhyNot : Hints → Fault → Type 0
WhyNot hints why =
    ((why ≡ NoData) × (granted_to hints ≡ None)) ⊎ ((info : Info) × (granted_to hints ≡ Some info) × (why ≡ LacksMemory))
