-- Two folds give the remainder.
use Rattle.std.proofs.Common.{sym, ap, ◌∙◌, subst, arith}
use Rattle.binary.specs.Carryless.{Remainder}
use Rattle.binary.specs.Binary.{folded}
use Rattle.binary.specs.Remainders.{remainder_twice}
use Rattle.binary.proofs.remainder.Goals as goal

two_folds : (c : goal.After-fold-2) → Remainder c.args.m c.fold-2.result
two_folds c = subst (Remainder c.args.m) (sym (c.fold-2.ensures ∙ ap folded c.fold.ensures)) (remainder_twice c.args.m (omega arith))

pub overflow_cast-result : goal.overflow_cast-result
overflow_cast-result c = omega (arith, (two_folds c).small)

pub returns : goal.returns
returns c = two_folds c
