use Rattle.worked.proofs.Examples.{worked}
use Rattle.worked.proofs.worked_examples_hold.Goals as goal

pub returns : goal.returns
returns c = worked
