-- The remainder of the product is unique.
use Rattle.std.proofs.Common.{ℕ, subst, arith}
use Rattle.binary.specs.Carryless.{carryless, Remainder}
use Rattle.binary.specs.Remainders.{remainder_unique, remainder_times}
use Rattle.binary.proofs.BinaryFieldField.times.Goals as goal

pub returns : goal.returns
returns c =
    let found : Remainder (carryless c.args.a c.args.b) c.remainder.result =
    subst (λ (m : ℕ). Remainder m c.remainder.result) c.product.ensures c.remainder.ensures in
    record { meant = remainder_unique _ _ _ found (remainder_times c.args.a c.args.b (omega arith)); remainder = found }
