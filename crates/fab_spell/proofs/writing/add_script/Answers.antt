use Rattle.std.proofs.Common.{◌≡◌, ◌++◌, map, string_bytes, OnOk, ap, subst, ◌∙◌}
use Rattle.fab_grammar.specs.declared.settings.Setting.TheVariants.{File}
use Rattle.fab_spell.specs.Print.{settings_text, items_text, items_of}
use Rattle.fab_spell.proofs.Texts.{script_written}
use Rattle.fab_spell.proofs.writing.add_script.Goals as goal

pub returns : goal.returns
returns c =
    let set = string_bytes c.add_conf.new.out in
    let filed = c.in_ok-add_payloads.ensures ∙ ap (λ payloads. set ++ settings_text (map File payloads)) c.as_slice.ensures in
    let parts = subst (λ parts. OnOk c.add_parts.result (string_bytes c.add_parts.new.out ≡ string_bytes c.add_payloads.new.out ++ items_text (items_of 0 parts))) c.as_slice-2.ensures c.add_parts.ensures in
    script_written c.add_parts.result (string_bytes c.args.out.now) (string_bytes c.add_header.new.out) set (string_bytes c.add_payloads.new.out) (string_bytes c.add_parts.new.out) c.args.script.now c.in_ok-add_header.ensures c.in_ok-add_conf.ensures filed parts
