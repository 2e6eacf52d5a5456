use Rattle.fab_record.proofs.record.Record.note.Given as goal

abbrev pub ghosts-turn : goal.ghosts-turn
ghosts-turn g a = record { next = g.M.Change.after a.about.now }
