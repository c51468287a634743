-- The places before the loop's hold their elements.
use Rattle.std.proofs.Common.{◌≡◌, take}
use Rattle.permutation.specs.Permutation.{rearranged}
use Rattle.permutation.proofs.gather.Given as goal

abbrev pub invariant-loop-i : goal.invariant-loop-i
invariant-loop-i g l = (d : g.row.T.Denot) → take l.i l.target ≡ rearranged d l.list (take l.i l.order)
