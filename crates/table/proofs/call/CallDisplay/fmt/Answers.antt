use Rattle.table.proofs.call.CallDisplay.fmt.Goals as goal

pub returns-in-Draw-clause-writes : goal.returns-in-Draw-clause-writes
returns-in-Draw-clause-writes g c = rw c.in-Draw.is c.write-in-Draw.ensures.writes
