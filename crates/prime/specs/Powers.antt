-- Powers under the product modulo p are remainders of powers.
use Rattle.std.specs.Prelude.{◌≡◌, ℕ, zero, suc, ◌*◌, ◌%◌, ◌^◌, ◌<◌}
use Rattle.std.proofs.Common.{mod-eq_of_lt}
use Rattle.std.proofs.Math.Nat.{pow-succ', pow-zero}
use Rattle.field.specs.Power.{power}
use Rattle.field.proofs.Modulo.{times_mod}

pub power_mod : (p a k : ℕ) → 1 < p → power (λ x y. x * y % p) a k ≡ a ^ k % p
unfolding power
power_mod p a zero h = cc (pow-zero a, mod-eq_of_lt h)
power_mod p a (suc k) h = cc (power_mod p a k h, times_mod a (a ^ k) p, pow-succ' a k)
