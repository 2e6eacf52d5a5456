use Rattle.std.proofs.Common.{Some, None, rules}
use Rattle.fab_script.proofs.BindingLemmas.{first_is_outside, was_read, sound_with}
use Rattle.fab_script.proofs.binding.bind.Goals as goal

pub returns-in-Some-clause-refused : goal.returns-in-Some-clause-refused
returns-in-Some-clause-refused c = (tt, first_is_outside c.args.script c.args.files.items (Some c.in-Some.line) (search rules))

pub returns-clause-inside : goal.returns-clause-inside
returns-clause-inside c = first_is_outside c.args.script c.args.files.items None (search rules)

pub returns-clause-sound : goal.returns-clause-sound
returns-clause-sound c = λ text said.
    sound_with c.args.script _ (was_read text c.args.script said) (search rules) (first_is_outside c.args.script _ None (search rules))
