use Rattle.power.specs.Euclid.{Reached}
use Rattle.power.proofs.arithmetic.invert.Given as goal

abbrev pub invariant-loop-low : goal.invariant-loop-low
invariant-loop-low l = Reached l.k l.n l.positive l.high l.low l.s l.t

abbrev pub decreases-loop-low : goal.decreases-loop-low
decreases-loop-low l = l.low
