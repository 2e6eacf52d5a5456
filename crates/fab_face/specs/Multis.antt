-- Multi-receives, as the machine's call (FI_MULTI_RECV of fi_msg(3)).
--     multi_asking ask buf      the call of a multi-receive
use Rattle.std.specs.Prelude.{ℕ, List, Some, false}
use Rattle.fab_model.specs.Calls.{Call}
use Rattle.fab_face.specs.declared.multis.MultiAsk.{MultiAsk}
use Rattle.fab_face.specs.Answers.{receive_call}

abbrev pub multi_asking : MultiAsk → List ℕ → Call
multi_asking ask buf = receive_call false ask.source 0 0 buf (Some ask.least) ask.ctx
