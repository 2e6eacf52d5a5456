use Rattle.std.proofs.Common.{string_bytes}
use Rattle.fab_spell.proofs.Texts.{sizes_written}
use Rattle.fab_spell.proofs.writing.add_sizes.Goals as goal

pub returns : goal.returns
returns c =
    sizes_written c.add_wish-5.result c.args.hints.now (string_bytes c.args.out.now) (string_bytes c.add_wish.new.out) (string_bytes c.add_wish-2.new.out) (string_bytes c.add_wish-3.new.out) (string_bytes c.add_wish-4.new.out) (string_bytes c.add_wish-5.new.out)
    c.in_ok-add_wish.ensures c.in_ok-add_wish-2.ensures c.in_ok-add_wish-3.ensures c.in_ok-add_wish-4.ensures c.add_wish-5.ensures
