-- An order that is accepted keeps within the list.
use Rattle.std.proofs.Common.{length, arith, rules}
use Rattle.permutation.proofs.Permutations.{permutation_within}
use Rattle.permutation.proofs.Rearranging.{accepted}
use Rattle.permutation.proofs.rearrange.Goals as goal

pub gather-requires : goal.gather-requires
gather-requires g c =
    let a = accepted (length c.args.list.now) (length c.args.target.now) c.args.order.now (search rules) in
    record { lengths = a.1; within = λ i h. omega (arith, permutation_within c.args.order.now a.2 i h) }
