use Rattle.std.proofs.Common.{arith, rules}
use Rattle.std.proofs.lemmas.Bool.Decides.{nat_tests}
use Rattle.power.specs.Euclid.{step, none_answer, some_answer}
use Rattle.power.proofs.arithmetic.invert.Goals as goal
use Rattle.power.proofs.arithmetic.invert.Goals.{then-positive, else-positive}

pub loop-low-preserved : goal.loop-low-preserved
loop-low-preserved c = search (rules, step)

pub returns : goal.returns
returns c =
    let none = none_answer _ _ _ _ _ _ _ c.loop-low-test.false c.loop-low.invariant in
    let some = some_answer _ _ _ _ _ _ _ c.loop-low-test.false c.loop-low.invariant c.requires.two in
    elim c.if-positive.branch [ then-positive w ↦ grind (arith, nat_tests) | else-positive w ↦ grind (arith, nat_tests) ]
