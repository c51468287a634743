-- Remainders by x^31 + x^3 + 1: they are unique, sums and steps respect them, and folds find them.
use Rattle.std.specs.Prelude.{◌≡◌, ℕ, zero, suc, ◌*◌, ◌/◌, ◌%◌, ◌^◌, ◌<◌, bit_xor}
use Rattle.std.proofs.Common.{sym, ap, ap₂, subst, ◌∙◌, mul-one, pow-suc, arith}
use Rattle.std.specs.Int.Bits.{xor_assoc, xor_self, xor_zero_r, xor_shifted}
use Rattle.std.proofs.lemmas.Nat.{xor_lt}
use Rattle.std.proofs.Math.Pow.{split}
use Rattle.binary.specs.Carryless.{horner, double, carryless, modulus, Remainder}
use Rattle.binary.specs.Binary.{folded, times_x, scaled, binary_times}
use Rattle.binary.specs.Xor.{xor_medial, xor_equal}
use Rattle.binary.specs.Additive.{related}
use Rattle.binary.specs.Multiples.{double_additive, multiples_additive, multiple_zero, multiple_double, multiple, only_zero}

pub remainder_unique : (m r s : ℕ) → Remainder m r → Remainder m s → r ≡ s
remainder_unique m r s p q =
    let d : ℕ = bit_xor p.quotient q.quotient in
    let differ : bit_xor (carryless modulus d) (bit_xor r s) ≡ 0 =
    cc (
      multiples_additive p.quotient q.quotient,
      xor_medial (carryless modulus p.quotient) (carryless modulus q.quotient) r s,
      p.whole,
      q.whole,
      xor_self m,
    ) in
    let same : carryless modulus d ≡ bit_xor r s = xor_equal _ _ differ in
    let none : d ≡ 0 = only_zero d (subst (λ (x : ℕ). x < 2 ^ 31) (sym same) (xor_lt 31 r s p.small q.small)) in
    xor_equal r s (cc (ap (carryless modulus) none, multiple_zero))

pub remainder_self : (r : ℕ) → r < 2 ^ 31 → Remainder r r
remainder_self r h = record { quotient = 0; small = h; whole = sym (ap (λ (x : ℕ). bit_xor x r) multiple_zero) }

remainder_sum : (a b r s : ℕ) → Remainder a r → Remainder b s → Remainder (bit_xor a b) (bit_xor r s)
remainder_sum a b r s p q = record {
  quotient = bit_xor p.quotient q.quotient;
  small = xor_lt 31 r s p.small q.small;
  whole = cc (
    p.whole,
    q.whole,
    multiples_additive p.quotient q.quotient,
    xor_medial (carryless modulus p.quotient) r (carryless modulus q.quotient) s,
  );
}

add_multiple : (q a r : ℕ) → Remainder a r → Remainder (bit_xor (carryless modulus q) a) r
add_multiple q a r p = record {
  quotient = bit_xor q p.quotient;
  small = p.small;
  whole = cc (p.whole, multiples_additive q p.quotient, xor_assoc (carryless modulus q) (carryless modulus p.quotient) r);
}

fold_whole : (m : ℕ) → bit_xor (carryless modulus (m / 2 ^ 31)) (folded m) ≡ m
unfolding folded
fold_whole m =
    let h : ℕ = m / 2 ^ 31 in
    ap (λ (x : ℕ). bit_xor x (folded m)) (multiple h)
    ∙ xor_medial (h * 2 ^ 31) (bit_xor (h * 8) h) (m % 2 ^ 31) (bit_xor (h * 8) h)
    ∙ ap₂ bit_xor (xor_shifted h 31 (m % 2 ^ 31) (omega arith)) (xor_self (bit_xor (h * 8) h))
    ∙ xor_zero_r _ ∙ split m 31

fold_lt : (k m : ℕ) → m % 2 ^ 31 < 2 ^ k → m / 2 ^ 31 * 8 < 2 ^ k → folded m < 2 ^ k
unfolding folded
fold_lt k m low high = xor_lt k _ _ low (xor_lt k _ _ high (omega arith))

remainder_fold : (m r : ℕ) → Remainder (folded m) r → Remainder m r
remainder_fold m r p = subst (λ (x : ℕ). Remainder x r) (fold_whole m) (add_multiple (m / 2 ^ 31) (folded m) r p)

-- of 36 bits a fold leaves 31
remainder_once : (m : ℕ) → m < 2 ^ 36 → Remainder m (folded m)
remainder_once m h = remainder_fold m (folded m) (remainder_self (folded m) (fold_lt 31 m (omega arith) (omega arith)))

-- of 64 bits a fold leaves 36
pub remainder_twice : (m : ℕ) → m < 2 ^ 64 → Remainder m (folded (folded m))
remainder_twice m h = remainder_fold m _ (remainder_once (folded m) (fold_lt 36 m (omega arith) (omega arith)))

remainder_step : (m r : ℕ) → Remainder m r → Remainder (double m) (times_x r)
unfolding times_x
remainder_step m r p =
    let q : ℕ = p.quotient in
    let whole : double m ≡ bit_xor (carryless modulus (double q)) (double r) =
    ap double p.whole ∙ double_additive (carryless modulus q) r ∙ ap (λ (x : ℕ). bit_xor x (double r)) (multiple_double q) in
    let small : double r < 2 ^ 36 = omega (arith, p.small) in
    subst (λ (x : ℕ). Remainder x (times_x r)) (sym whole) (add_multiple (double q) (double r) (times_x r) (remainder_once (double r) small))

pub remainder_scaled : (a m r : ℕ) → Remainder m r → Remainder (carryless a m) (scaled a r)
unfolding carryless
remainder_scaled a = related Remainder (remainder_self 0 (omega arith)) remainder_sum double times_x remainder_step 32 a

-- a polynomial is the product of itself and 1
horner_one : (n a : ℕ) → a < 2 ^ n → horner double n a 1 ≡ a
unfolding horner
horner_one zero a h = omega arith
horner_one (suc n) a h =
    rw (horner_one n (a / 2) (omega (arith, pow-suc 2 n)), mul-one) (xor_shifted (a / 2) 1 (a % 2) (omega arith) ∙ split a 1)

remainder_one : (a : ℕ) → a < 2 ^ 32 → Remainder a (scaled a 1)
unfolding carryless
remainder_one a h = subst (λ (x : ℕ). Remainder x (scaled a 1)) (horner_one 32 a h) (remainder_scaled a 1 1 (remainder_self 1 (omega arith)))

pub remainder_times : (a b : ℕ) → b < 2 ^ 32 → Remainder (carryless a b) (binary_times a b)
unfolding binary_times
remainder_times a b h = remainder_scaled a b (scaled b 1) (remainder_one b h)

pub scaled_one : (a : ℕ) → a < 2 ^ 31 → scaled a 1 ≡ a
scaled_one a h = remainder_unique a (scaled a 1) a (remainder_one a (omega arith)) (remainder_self a h)
