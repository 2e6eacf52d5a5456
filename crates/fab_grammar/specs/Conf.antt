-- What a script asks for, and what it is granted (fi_getinfo(3)).
--     conf_of settings peers info      the wishes of the settings, and what the provider answers to them
use Rattle.std.specs.Prelude.{ℕ, Some}
use Rattle.fab_base.specs.declared.caps.Info.{Info}
use Rattle.fab_base.specs.declared.script.Conf.{Conf}
use Rattle.fab_grammar.specs.declared.settings.Settings.{Settings}
use Rattle.fab_grammar.specs.Settings.{hints_of}

abbrev pub conf_of : Settings → ℕ → Info → Conf
conf_of settings peers info = record { hints = Some (hints_of settings); info = info; peers = peers; selective = settings.is_selective }
