-- Horner's rule is additive in both factors, and what is additive passes through it.
use Rattle.std.specs.Prelude.{◌≡◌, ℕ, zero, suc, ◌*◌, ◌/◌, ◌%◌, ◌<◌, bit_xor}
use Rattle.std.proofs.Math.Path.{refl}
use Rattle.std.proofs.Common.{sym, ap, ap₂, ◌∙◌, zero-mul, one-mul, arith}
use Rattle.std.specs.Int.Bits.{xor_self, xor_shr, xor_mod}
use Rattle.binary.specs.Carryless.{horner}
use Rattle.binary.specs.Xor.{xor_medial, bits_times, bit_times}

abbrev pub Additive : (ℕ → ℕ) → Type 0
Additive f = (a b : ℕ) → f (bit_xor a b) ≡ bit_xor (f a) (f b)

pub at_zero : (f : ℕ → ℕ) → Additive f → f 0 ≡ 0
at_zero f additive = ap f (sym (xor_self 0)) ∙ additive 0 0 ∙ xor_self (f 0)

-- a relation that sums and steps respect holds between two values by Horner's rule
module _ (R : ℕ → ℕ → Type 0) (zeros : R 0 0)
    (sums : (a b c d : ℕ) → R a c → R b d → R (bit_xor a b) (bit_xor c d))
    (s t : ℕ → ℕ) (steps : (a b : ℕ) → R a b → R (s a) (t b)) where
  picked : (d b c : ℕ) → d < 2 → R b c → R (d * b) (d * c)
  picked zero b c h r = simp zero-mul zeros
  picked (suc zero) b c h r = simp one-mul r
  picked (suc (suc d)) b c h r = absurd (omega arith)

  pub related : (n a b c : ℕ) → R b c → R (horner s n a b) (horner t n a c)
  unfolding horner
  related zero a b c r = zeros
  related (suc n) a b c r = sums _ _ _ _ (steps _ _ (related n (a / 2) b c r)) (picked (a % 2) b c (omega arith) r)

-- what is additive and commutes with the step passes through to the second factor
pub passes : (f s : ℕ → ℕ) → Additive f → ((a : ℕ) → f (s a) ≡ s (f a)) → (n a b : ℕ) → f (horner s n a b) ≡ horner s n a (f b)
passes f s additive commutes n a b =
    related (λ x y. f x ≡ y) (at_zero f additive) (λ x y z w p q. additive x y ∙ ap₂ bit_xor p q)
    s s (λ x y p. commutes x ∙ ap s p) n a b (f b) refl

module _ (s : ℕ → ℕ) (additive : Additive s) where
  pub horner_left : (n b : ℕ) → Additive (λ a. horner s n a b)
  unfolding horner
  horner_left zero b a c = refl
  horner_left (suc n) b a c =
      cc (
        xor_shr a c 1,
        horner_left n b (a / 2) (c / 2),
        additive (horner s n (a / 2) b) (horner s n (c / 2) b),
        xor_mod a c 1,
        bits_times (a % 2) (c % 2) b (omega arith) (omega arith),
        xor_medial (s (horner s n (a / 2) b)) (s (horner s n (c / 2) b)) (a % 2 * b) (c % 2 * b),
      )

  pub horner_right : (n a : ℕ) → Additive (horner s n a)
  unfolding horner
  horner_right zero a b c = refl
  horner_right (suc n) a b c =
      cc (
        horner_right n (a / 2) b c,
        additive (horner s n (a / 2) b) (horner s n (a / 2) c),
        bit_times (a % 2) b c (omega arith),
        xor_medial (s (horner s n (a / 2) b)) (s (horner s n (a / 2) c)) (a % 2 * b) (a % 2 * c),
      )
