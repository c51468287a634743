-- Euclid's lemma, for a first factor below the prime: a prime that divides the product divides the second factor.
use Rattle.std.specs.Prelude.{◌≡◌, ℕ, zero, suc, ◌+◌, ◌*◌, ◌/◌, ◌%◌, ◌<◌, ◌≤◌}
use Rattle.std.proofs.Common.{inl, inr, arith, one-mul, mul_assoc, add-mul, div-add-mod', mod-lt}
use Rattle.std.specs.Int.{◌∣◌}
use Rattle.std.proofs.Math.Nat.{emod_pos_of_not-dvd, dvd-add_iff_right, dvd-mul_left_of_dvd, dvd-mul_right}
use Rattle.std.proofs.lemmas.Bool.{cases_lt}
use Rattle.prime.specs.Primality.{Prime}

-- a multiple of p, by the division of p by k
divided : (p k c : ℕ) → p / k * (k * c) + p % k * c ≡ p * c
divided p k c = cc (mul_assoc (p / k) k c, add-mul (p / k * k) (p % k) c, div-add-mod' p k)

module _ {p : ℕ} (prime : Prime p) where
  -- the first factor k gives way to the smaller p % k; n bounds the number of steps
  descend : (n k c : ℕ) → k ≤ n → 0 < k → k < p → p ∣ k * c → p ∣ c
  descend zero k c l g h d = absurd (omega arith)
  descend (suc n) k c l g h d =
      elim (cases_lt 1 k) [
        | inl more ↦
            let less : p % k < k = mod-lt p g in
            descend n (p % k) c (omega arith) (emod_pos_of_not-dvd k (prime.undivided k more h)) (omega arith)
            ((dvd-add_iff_right p (dvd-mul_left_of_dvd p d (p / k))).1 (rw divided (dvd-mul_right p c)))
        | inr s ↦ let one : k ≡ 1 = omega arith in rw (one, one-mul) at d
      ]

  pub euclid : (k c : ℕ) → 0 < k → k < p → p ∣ k * c → p ∣ c
  euclid k c = descend k k c (omega arith)
