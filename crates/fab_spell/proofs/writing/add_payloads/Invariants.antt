use Rattle.std.proofs.Common.{◌≡◌, ◌++◌, drop, map, string_bytes}
use Rattle.fab_grammar.specs.declared.settings.Setting.TheVariants.{File}
use Rattle.fab_spell.specs.Print.{settings_text}
use Rattle.fab_spell.proofs.writing.add_payloads.Given as goal

abbrev pub invariant-loop-payload : goal.invariant-loop-payload
invariant-loop-payload l =
    string_bytes l.out ++ settings_text (map File (drop l.payload-index l.payloads)) ≡ string_bytes l.initial.out ++ settings_text (map File l.payloads)
