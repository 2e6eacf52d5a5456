-- What peers over queues are opened with.
--     IsSized conf               sizes that ports and machines are made for
--     Begins n peers outs ins    a port of n peers that has posted and taken nothing
use Rattle.std.specs.Prelude.{◌≡◌, ℕ, ◌<◌, ◌≤◌, None}
use Rattle.fab_base.specs.declared.script.Conf.{Conf}
use Rattle.fab_link.specs.Meaning.{Outgoing, Incoming, end_of, taken_end}

pub record IsSized (conf : Conf) : Type 0 where
  pub peers : (0 < conf.peers) × (conf.peers ≤ 32)
  pub lane : (0 < conf.info.lane) × (conf.info.lane ≤ 1024)
  pub cq : 2 ≤ conf.info.cq
  pub log : 4 ≤ conf.info.log

abbrev pub Begins : ℕ → ℕ → (ℕ → Outgoing) → (ℕ → Incoming) → Type 0
Begins n peers outs ins = (peers ≡ n) × ((d : ℕ) → end_of (outs d) ≡ None) × ((s : ℕ) → taken_end (ins s) ≡ None)
