use Rattle.fabric_uses.proofs.completing.echo.Goals as goal

pub returns-in-Some : goal.returns-in-Some
returns-in-Some g c = λ t. (g.E.Sees.seen c.next_entry.new.endpoint, c.in-Some.entry, c.in-Some.ensures, c.answer_to.ensures t)
