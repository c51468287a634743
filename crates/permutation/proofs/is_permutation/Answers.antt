-- A number out of range or seen before refutes the order, and the marks of all numbers prove it.
use Rattle.std.proofs.Common.{arith, rules}
use Rattle.permutation.proofs.Marks.{marked_none, marked_again, marked_all}
use Rattle.permutation.proofs.Permutations.{permutes_true, permutes_false, permutation_within, permutation_from_counts}
use Rattle.permutation.proofs.is_permutation.Goals as goal
use Rattle.permutation.proofs.is_permutation.Goals.{then-place-order-via-then-place-order, then-place-order-via-else-place-order+then-seen-place}

pub loop-x-init : goal.loop-x-init
loop-x-init c = search (rules, marked_none)

pub returns-then-place-order : goal.returns-then-place-order
returns-then-place-order c = permutes_false c.args.order.now (λ p. elim c.then-place-order.branch [
  | then-place-order-via-then-place-order w ↦ omega (arith, permutation_within c.args.order.now p c.loop-x.x-index (omega arith))
  | then-place-order-via-else-place-order+then-seen-place w ↦
      omega (arith, p c.from-place.result (omega arith), marked_again c.loop-x.seen c.args.order.now c.loop-x.x-index c.from-place.result (omega arith) c.from-place.ensures w.if-seen-place.true c.loop-x.invariant.2)
])

pub returns : goal.returns
returns c =
    permutes_true c.args.order.now
    (permutation_from_counts c.args.order.now (λ i h. c.loop-x.invariant.1 i (omega arith))
    (marked_all c.loop-x.seen c.args.order.now c.loop-x.x-index (omega arith) c.loop-x.invariant.2))
