-- Multiples of x^31 + x^3 + 1: each but 0 has more than 31 bits.
use Rattle.std.specs.Prelude.{◌≡◌, ℕ, zero, suc, ◌*◌, ◌/◌, ◌%◌, ◌^◌, ◌<◌, bit_xor, refl}
use Rattle.std.proofs.Common.{sym, ap, ap₂, subst, ◌∙◌, zero-mul, one-mul, mul-one, mul_assoc, pow-suc, arith}
use Rattle.std.specs.Int.Bits.{xor_zero_r}
use Rattle.std.proofs.lemmas.Nat.{xor_shr, xor_lt, shl-shr}
use Rattle.binary.specs.Carryless.{horner, double, carryless, modulus}
use Rattle.binary.specs.Xor.{xor_equal, xor_shl}
use Rattle.binary.specs.Additive.{Additive, at_zero, passes, horner_left, horner_right}

pub double_additive : Additive double
double_additive a b = xor_shl a b 1

pub multiples_additive : Additive (carryless modulus)
unfolding carryless
multiples_additive = horner_right double double_additive 32 modulus

pub multiple_zero : carryless modulus 0 ≡ 0
multiple_zero = at_zero (carryless modulus) multiples_additive

pub multiple_double : (q : ℕ) → double (carryless modulus q) ≡ carryless modulus (double q)
unfolding carryless
multiple_double q = passes double double double_additive (λ a. refl) 32 modulus q

-- the product with x^k
times_power : (n k b : ℕ) → k < n → horner double n (2 ^ k) b ≡ b * 2 ^ k
unfolding horner
times_power zero k b h = omega arith
times_power (suc n) zero b h =
    rw (at_zero (λ (a : ℕ). horner double n a b) (horner_left double double_additive n b), one-mul, mul-one)
times_power (suc n) (suc k) b h =
    let half : 2 ^ suc k / 2 ≡ 2 ^ k = omega (arith, pow-suc 2 k) in
    let even : 2 ^ suc k % 2 ≡ 0 = omega (arith, pow-suc 2 k) in
    rw (half, even, zero-mul, xor_zero_r)
    (ap double (times_power n k b (omega arith)) ∙ mul_assoc b (2 ^ k) 2 ∙ ap (λ (x : ℕ). b * x) (sym (pow-suc 2 k)))

pub multiple : (q : ℕ) → carryless modulus q ≡ bit_xor (q * 2 ^ 31) (bit_xor (q * 8) q)
unfolding carryless
multiple q =
    let sum : Additive (λ a. horner double 32 a q) = horner_left double double_additive 32 q in
    sum (2 ^ 31) 9
    ∙ ap₂ bit_xor (times_power 32 31 q (omega arith))
    (sum 8 1 ∙ ap₂ bit_xor (times_power 32 3 q (omega arith)) (times_power 32 0 q (omega arith) ∙ mul-one q))

-- the bits of a short multiple from 31 up say that q is a sum of numbers shorter than q
short_multiple : (n q : ℕ) → q < 2 ^ n → carryless modulus q < 2 ^ 31 → q ≡ 0
short_multiple zero q fits short = omega arith
short_multiple (suc n) q fits short =
    let none : carryless modulus q / 2 ^ 31 ≡ 0 = omega arith in
    let top : bit_xor q (bit_xor (q * 8 / 2 ^ 31) (q / 2 ^ 31)) ≡ 0 =
    cc (multiple q, xor_shr (q * 2 ^ 31) (bit_xor (q * 8) q) 31, xor_shr (q * 8) q 31, shl-shr q 31) in
    let less : bit_xor (q * 8 / 2 ^ 31) (q / 2 ^ 31) < 2 ^ n =
    xor_lt n (q * 8 / 2 ^ 31) (q / 2 ^ 31) (omega (arith, pow-suc 2 n)) (omega (arith, pow-suc 2 n)) in
    short_multiple n q (subst (λ (x : ℕ). x < 2 ^ n) (sym (xor_equal q _ top)) less) short

below_power : (n : ℕ) → n < 2 ^ n
below_power zero = omega arith
below_power (suc n) = omega (arith, pow-suc 2 n, below_power n)

pub only_zero : (q : ℕ) → carryless modulus q < 2 ^ 31 → q ≡ 0
only_zero q = short_multiple q q (below_power q)
