use Rattle.std.proofs.Common.{◌≡◌, ◌-◌, length}
use Rattle.seat.specs.Generator.{shuffled}
use Rattle.seat.proofs.seats.draws.shuffle.Given as goal

abbrev pub invariant-loop-i : goal.invariant-loop-i
invariant-loop-i l = shuffled (l.i - 1) l.z l.order ≡ shuffled (length l.initial.order - 1) l.initial.z l.initial.order
