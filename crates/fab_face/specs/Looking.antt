-- Looks at unexpected messages, and claimed ones, as the machine's calls (fi_tagged(3)).
--     looking look      the call of a look
use Rattle.fab_model.specs.Calls.{Call, Look as LookCall}
use Rattle.fab_face.specs.declared.looking.Look.{Look}

abbrev pub looking : Look → Call
looking look = LookCall look.how look.source look.tag look.ignore look.ctx
