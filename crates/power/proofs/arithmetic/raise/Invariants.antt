use Rattle.power.proofs.Squaring.{Reached}
use Rattle.power.proofs.arithmetic.raise.Given as goal

abbrev pub invariant-loop-left : goal.invariant-loop-left
invariant-loop-left g l = Reached (g.F.Field.meaning l.field) l.x l.k l.result l.square l.left

abbrev pub decreases-loop-left : goal.decreases-loop-left
decreases-loop-left g l = l.left
