use Rattle.std.proofs.Common.{◌∙◌}
use Rattle.power.proofs.Squaring.{start, turn_even, turn_odd, finish}
use Rattle.power.proofs.arithmetic.raise.Goals as goal
use Rattle.power.proofs.arithmetic.raise.Goals.{then-left-eq1, else-left-eq1}

pub loop-left-init : goal.loop-left-init
loop-left-init g c = start _ (g.met.F.Field.lawful _) _ _ c.requires

pub loop-left-preserved : goal.loop-left-preserved
loop-left-preserved g c =
    elim c.if-left-eq1.branch [
      | then-left-eq1 w ↦
          turn_odd _ (g.met.F.Field.lawful _) _ _ _ _ _ _ _ c.times-square.ensures c.loop-left.invariant w.if-left-eq1.true (w.result-is ∙ w.times-result.ensures)
      | else-left-eq1 w ↦
          turn_even _ (g.met.F.Field.lawful _) _ _ _ _ _ _ _ c.times-square.ensures c.loop-left.invariant w.if-left-eq1.false w.result-is
    ]

pub returns : goal.returns
returns g c = finish _ (g.met.F.Field.lawful _) _ _ _ _ _ c.loop-left-test.false c.loop-left.invariant
