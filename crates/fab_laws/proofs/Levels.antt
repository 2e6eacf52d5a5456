-- What the lists of a peer without lines hold when it starts.
use Rattle.std.proofs.Common.{◌<◌, ℕ, [], get_or, subst, arith}
use Rattle.std.proofs.lemmas.Option.{slice_get-get_or}
use Rattle.fab_base.specs.declared.script.Bound.{Bound}
use Rattle.fab_base.specs.declared.script.Conf.{Conf}
pub use Rattle.fab_base.proofs.Lists.{all_the_same}
use Rattle.fab_model.specs.Calls.{upto}
use Rattle.fab_model.specs.Peers.{Actor}
use Rattle.fab_model.specs.Replay.{fresh, lines_of, newly, opening}
use Rattle.fab_model.proofs.Patient.{mapped, opening_sound}
use Rattle.fab_model.proofs.Holding.{Fenced, opening_fenced}

-- ---- the start

-- a script of peers without lines
abbrev idle_script : Conf → Bound
idle_script conf = record { script = record { version = 1; conf = conf; payloads = []; peers = [] }; files = [] }

pub fresh_fenced : (conf : Conf) (p : ℕ) → p < conf.peers → Fenced (fresh conf)
unfolding opening
fresh_fenced conf p lt =
    let b = idle_script conf in
    let first = newly conf [] in
    let here = slice_get-get_or (opening b) p first (omega (arith, lt, (opening_sound b).count)) in
    let is = mapped (λ q. newly conf (lines_of b q)) (upto conf.peers) p (get_or (opening b) p first) here in
    subst (λ (a : Actor). Fenced a.state) is.1 (opening_fenced b p (get_or (opening b) p first) here)
