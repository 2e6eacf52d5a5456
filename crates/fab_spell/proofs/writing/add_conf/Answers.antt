use Rattle.std.proofs.Common.{◌≡◌, ◌++◌, string_bytes, ap, sym, ◌∙◌}
use Rattle.fab_spell.specs.Print.{hints_for}
use Rattle.fab_spell.proofs.Texts.{conf_written, up_to_sizes, without_hints, with_hints}
use Rattle.fab_spell.proofs.writing.add_conf.Goals as goal
use Rattle.fab_spell.proofs.writing.add_conf.Goals.{in-None+in_ok-add_peers-in-None, in-Some+in_ok-add_asked-in-Some+in_ok-add_peers-in-Some+in_ok-add_sizes-in-Some}

pub returns : goal.returns
returns c =
    let from = string_bytes c.args.out.now in
    let conf = c.args.conf.now in
    let sizes : string_bytes c.match-conf.out ≡ from ++ up_to_sizes (hints_for conf) conf.peers = elim c.match-conf.branch [
      | in-None+in_ok-add_peers-in-None w ↦ ap string_bytes w.out-is ∙ (w.in_ok-add_peers-in-None.ensures ∙ ap (λ text. from ++ text) (sym (without_hints conf.hints conf.peers w.in-None.is)))
      | in-Some+in_ok-add_asked-in-Some+in_ok-add_peers-in-Some+in_ok-add_sizes-in-Some w ↦
          ap string_bytes w.out-is ∙ with_hints conf.hints w.in-Some.hints conf.peers from (string_bytes w.add_asked.new.out) (string_bytes w.add_peers-in-Some.new.out) (string_bytes w.add_sizes.new.out)
          w.in-Some.is w.in_ok-add_asked-in-Some.ensures w.in_ok-add_peers-in-Some.ensures w.in_ok-add_sizes-in-Some.ensures
    ] in
    conf_written c.add_selected.result from (string_bytes c.match-conf.out) (string_bytes c.add_selected.new.out) conf sizes c.add_selected.ensures
