use Rattle.std.proofs.Common.{◌≡◌, true, false, sym, ap, ◌∙◌}
use Rattle.std.specs.Prelude.{Ok}
use Rattle.fab_grammar.specs.Before.{has_opened, is_filled}
use Rattle.fab_grammar.specs.Rules.{is_fresh, is_set, is_one_too_many, is_refused}
use Rattle.fab_grammar.specs.Settings.{setting_of}
use Rattle.fab_script.proofs.ReaderLemmas.{setting_fresh, setting_answer}
use Rattle.fab_script.proofs.reader.Reader.take_setting.Goals as goal

pub returns : goal.returns
returns c = λ before h.
    let setting = c.in_ok-setting.setting in
    let unset : is_set before c.args.verb c.args.args.now ≡ false = sym (c.if-is_set.ensures before h) in
    let said : setting_of c.args.api c.args.verb c.args.args.now ≡ Ok setting = sym c.in_ok-read_setting.ensures ∙ c.in_ok-setting.was in
    let fresh : is_fresh before.settings setting ≡ true = setting_fresh c.args.api before c.args.verb c.args.args.now setting said unset in
    let closed : has_opened before ≡ false = ap is_filled (sym h.parts.opened) ∙ sym c.if-has_opened.ensures in
    let few : is_one_too_many before (Ok setting) ≡ false = sym (c.if-is_one_too_many.ensures before h) in
    let granted : is_refused c.args.api (Ok setting) ≡ false = sym c.if-is_refused.ensures in
    setting_answer c.args.api before c.args.number c.args.verb c.args.args.now setting c.set.new.self c.set.result closed unset said c.in_ok-in_time.ensures few granted (c.set.ensures before h fresh)
