-- The laws of the binary field.
use Rattle.std.specs.Prelude.{◌≡◌, ℕ, true, refl}
use Rattle.std.proofs.Common.{arith}
use Rattle.field.specs.Field.{FieldLaws}
use Rattle.field.proofs.Distinct.{all_differ, powers_differ, powers_not_zero}
use Rattle.binary.specs.Carryless.{horner}
use Rattle.binary.specs.Binary.{folded, times_x, binary_times, binary_field}
use Rattle.binary.specs.Additive.{at_zero}
use Rattle.binary.specs.Products.{times_additive, monoid}
use Rattle.binary.specs.Frobenius.{power_itself}

powers_apart : all_differ binary_times 2 ≡ true
unfolding binary_times horner times_x folded
powers_apart = refl

pub binary_laws : FieldLaws binary_field
binary_laws = record {
  last_fits = omega arith;
  order_fits = omega arith;
  mark_fits = omega arith;
  order_least = omega arith;
  base_number = omega arith;
  monoid = monoid;
  absorbing = λ a h. at_zero (λ (x : ℕ). binary_times x a) (times_additive a);
  periodic = λ a h. power_itself a (omega arith);
  powers_differ = powers_differ binary_times 2 powers_apart;
  powers_not_zero = powers_not_zero binary_times 2 powers_apart;
}
