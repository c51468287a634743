-- Sums by exclusive or: regrouping, cancelling, shifting, and single bits as factors.
use Rattle.std.specs.Prelude.{◌≡◌, ℕ, zero, suc, ◌*◌, ◌^◌, ◌<◌, bit_xor}
use Rattle.std.proofs.Common.{sym, ap, ap₂, ◌∙◌, zero-mul, one-mul, add-zero, arith, pow_pos}
use Rattle.std.specs.Int.Bits.{xor_assoc, xor_self, xor_zero_r}
use Rattle.std.proofs.lemmas.Nat.{xor_comm, xor_block}

pub xor_medial : (a b c d : ℕ) → bit_xor (bit_xor a b) (bit_xor c d) ≡ bit_xor (bit_xor a c) (bit_xor b d)
xor_medial a b c d =
    xor_assoc a b (bit_xor c d)
    ∙ ap (bit_xor a) (sym (xor_assoc b c d) ∙ ap (λ (x : ℕ). bit_xor x d) (xor_comm b c) ∙ xor_assoc c b d)
    ∙ sym (xor_assoc a c (bit_xor b d))

xor_twice : (a b : ℕ) → bit_xor (bit_xor a b) b ≡ a
xor_twice a b = xor_assoc a b b ∙ ap (bit_xor a) (xor_self b) ∙ xor_zero_r a

pub xor_equal : (a b : ℕ) → bit_xor a b ≡ 0 → a ≡ b
xor_equal a b e = sym (xor_twice a b) ∙ ap (λ (x : ℕ). bit_xor x b) e

pub xor_shl : (a b k : ℕ) → bit_xor a b * 2 ^ k ≡ bit_xor (a * 2 ^ k) (b * 2 ^ k)
xor_shl a b k =
    sym (ap₂ bit_xor (sym (add-zero (a * 2 ^ k))) (sym (add-zero (b * 2 ^ k)))
    ∙ xor_block k a b 0 0 (pow_pos k) (pow_pos k) ∙ add-zero (bit_xor a b * 2 ^ k))

pub bits_times : (c d b : ℕ) → c < 2 → d < 2 → bit_xor c d * b ≡ bit_xor (c * b) (d * b)
bits_times zero d b hc hd = rw zero-mul
bits_times (suc zero) zero b hc hd = simp (zero-mul, xor_zero_r)
bits_times (suc zero) (suc zero) b hc hd = zero-mul b ∙ sym (xor_self (1 * b))
bits_times (suc zero) (suc (suc d)) b hc hd = omega arith
bits_times (suc (suc c)) d b hc hd = omega arith

pub bit_times : (c a b : ℕ) → c < 2 → c * bit_xor a b ≡ bit_xor (c * a) (c * b)
bit_times zero a b h = simp zero-mul
bit_times (suc zero) a b h = simp one-mul
bit_times (suc (suc c)) a b h = omega arith
