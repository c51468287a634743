-- The laws of the prime field.
use Rattle.std.proofs.Common.{◌∙◌, arith, mul_assoc, mul_comm, mod-eq_of_lt}
use Rattle.std.specs.Prelude.{ℕ, ◌*◌, refl}
use Rattle.field.proofs.Modulo.{mod_times, times_mod}
use Rattle.field.specs.Field.{FieldLaws}
use Rattle.field.proofs.Distinct.{powers_differ, powers_not_zero}
use Rattle.prime.specs.Prime.{prime_times, prime_field}
use Rattle.prime.specs.Primality.{prime_2147483647}
use Rattle.prime.specs.Fermat.{fermat}
use Rattle.prime.specs.Powers.{power_mod}

pub prime_laws : FieldLaws prime_field
prime_laws =
    let p : ℕ = 2147483647 in
    record {
      last_fits = omega arith;
      order_fits = omega arith;
      mark_fits = omega arith;
      order_least = omega arith;
      base_number = omega arith;
      monoid = record {
        one_number = omega arith;
        closed = λ a b _ _. omega arith;
        associative = λ a b c _ _ _. cc (mod_times (a * b) c p, mul_assoc a b c, times_mod a (b * c) p);
        commutative = λ a b _ _. cc (mul_comm a b);
        neutral = λ a h. omega arith;
      };
      absorbing = λ a h. omega arith;
      periodic = λ a h. power_mod p a p prime_2147483647.above_one ∙ fermat 2147483646 prime_2147483647 a ∙ mod-eq_of_lt (omega arith);
      powers_differ = powers_differ prime_times 49 refl;
      powers_not_zero = powers_not_zero prime_times 49 refl;
    }
