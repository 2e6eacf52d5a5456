use Rattle.std.proofs.Common.{List, length, ap, subst, sym, ◌∙◌}
use Rattle.fab_base.specs.declared.script.Payload.{Payload}
use Rattle.fab_grammar.specs.Grammar.{script_of}
use Rattle.fab_script.specs.Bound.{IsSound}
use Rattle.fab_outside.specs.Loading.{LoadsOnly, Reaches}
use Rattle.fab_outside.proofs.Granted.{handed_on, lane_within, peers_within, pool_within, said, tx_within}
use Rattle.fab_outside.proofs.Loads.{whole_length}
use Rattle.fab_outside.proofs.Named.{names_lines, names_script}
use Rattle.fab_outside.proofs.loading.load_script.Goals as goal

pub bind-requires : goal.bind-requires
bind-requires g c = whole_length _ c.as_slice-2.result.now c.in_ok-files.files.items c.in_ok-files.ensures.ok ∙ ap length c.as_slice-2.ensures

pub returns-clause-peers : goal.returns-clause-peers
returns-clause-peers g c = handed_on IsSound _ _ peers_within c.bind.result c.map_err.result c.map_err.ensures.cases (c.bind.ensures.sound _ (said _ _ c.in_ok-script.ensures.ok))

pub returns-clause-lane : goal.returns-clause-lane
returns-clause-lane g c = handed_on IsSound _ _ lane_within c.bind.result c.map_err.result c.map_err.ensures.cases (c.bind.ensures.sound _ (said _ _ c.in_ok-script.ensures.ok))

pub returns-clause-pool : goal.returns-clause-pool
returns-clause-pool g c = handed_on IsSound _ _ pool_within c.bind.result c.map_err.result c.map_err.ensures.cases (c.bind.ensures.sound _ (said _ _ c.in_ok-script.ensures.ok))

pub returns-clause-tx : goal.returns-clause-tx
returns-clause-tx g c = handed_on IsSound _ _ tx_within c.bind.result c.map_err.result c.map_err.ensures.cases (c.bind.ensures.sound _ (said _ _ c.in_ok-script.ensures.ok))

pub returns-in_err-bytes-clause-loads : goal.returns-in_err-bytes-clause-loads
returns-in_err-bytes-clause-loads g c = names_script (g.D.Depot.files c.args.depot.now) c.args.name.now (g.D.Depot.loaded c.args.depot.now) (g.D.Depot.loaded c.load_file.new.depot) c.load_file.ensures.loads

pub returns-in_err-script-clause-loads : goal.returns-in_err-script-clause-loads
returns-in_err-script-clause-loads g c = names_script (g.D.Depot.files c.args.depot.now) c.args.name.now (g.D.Depot.loaded c.args.depot.now) (g.D.Depot.loaded c.load_file.new.depot) c.load_file.ensures.loads

pub returns-in_err-files-clause-loads : goal.returns-in_err-files-clause-loads
returns-in_err-files-clause-loads g c =
    names_lines (g.D.Depot.files c.args.depot.now) (g.D.Depot.files c.load_file.new.depot) c.args.name.now c.in_ok-bytes.bytes c.in_ok-script.script (g.D.Depot.loaded c.args.depot.now) (g.D.Depot.loaded c.load_file.new.depot) (g.D.Depot.loaded c.load_payloads.new.depot)
    c.load_file.ensures.files c.in_ok-bytes.ensures.ok (ap script_of (sym c.as_slice.ensures) ∙ c.in_ok-script.ensures.ok) c.load_file.ensures.loads
    (subst (λ (xs : List Payload). LoadsOnly (Reaches (g.D.Depot.files c.load_file.new.depot) xs) (g.D.Depot.loaded c.load_file.new.depot) (g.D.Depot.loaded c.load_payloads.new.depot)) c.as_slice-2.ensures c.load_payloads.ensures.loads)

pub returns-clause-loads : goal.returns-clause-loads
returns-clause-loads g c =
    names_lines (g.D.Depot.files c.args.depot.now) (g.D.Depot.files c.load_file.new.depot) c.args.name.now c.in_ok-bytes.bytes c.in_ok-script.script (g.D.Depot.loaded c.args.depot.now) (g.D.Depot.loaded c.load_file.new.depot) (g.D.Depot.loaded c.load_payloads.new.depot)
    c.load_file.ensures.files c.in_ok-bytes.ensures.ok (ap script_of (sym c.as_slice.ensures) ∙ c.in_ok-script.ensures.ok) c.load_file.ensures.loads
    (subst (λ (xs : List Payload). LoadsOnly (Reaches (g.D.Depot.files c.load_file.new.depot) xs) (g.D.Depot.loaded c.load_file.new.depot) (g.D.Depot.loaded c.load_payloads.new.depot)) c.as_slice-2.ensures c.load_payloads.ensures.loads)
