-- Prime numbers, and trial division that shows a number to be prime.
use Rattle.std.specs.Prelude.{◌≡◌, ℕ, zero, suc, ◌+◌, ◌*◌, ◌/◌, ◌%◌, ◌^◌, ◌<◌, ◌≤◌, Bool, true, not, ◌&&◌, ◌==◌, ◌≢◌, refl}
use Rattle.std.proofs.Common.{subst, inl, inr, arith, mul-le-mul, mul-le-mul_left, mul-one}
use Rattle.std.specs.Int.{◌∣◌}
use Rattle.std.proofs.Math.Nat.{two-pow-succ, mod-eq-zero_of_dvd, mul-div_cancel', dvd-mul_left}
use Rattle.std.proofs.lemmas.Bool.{and_parts, not-true, eqb-false, cases_lt}

pub record Prime (p : ℕ) : Type 0 where
  pub above_one : 1 < p
  pub undivided : (d : ℕ) → 1 < d → d < p → d ∣ p → ⊥

-- the test: none of the 2 ^ n numbers from d on divides p
abbrev none_divides : ℕ → ℕ → ℕ → Bool
none_divides p zero d = not (p % d == 0)
none_divides p (suc n) d = none_divides p n d && none_divides p n (d + 2 ^ n)

-- what the test says of each of these numbers
none_at : (p n d e : ℕ) → none_divides p n d ≡ true → d ≤ e → e < d + 2 ^ n → e ∣ p → ⊥
none_at p zero d e t l h v = let same : e ≡ d = omega arith in eqb-false (p % d) 0 (not-true _ t) (mod-eq-zero_of_dvd d (rw same at v))
none_at p (suc n) d e t l h v =
    elim (cases_lt e (d + 2 ^ n)) [
      | inl s ↦ none_at p n d e (and_parts _ _ t).0 l s v
      | inr s ↦ none_at p n (d + 2 ^ n) e (and_parts _ _ t).1 s (omega (arith, two-pow-succ n)) v
    ]

module _ (p n : ℕ) (test : none_divides p n 2 ≡ true) (root : p < (2 + 2 ^ n) * (2 + 2 ^ n)) where
  -- the smaller of two factors is among the numbers tried
  no_factors : (d e : ℕ) → 1 < d → 1 < e → d ∣ p → e ∣ p → d * e ≢ p
  no_factors d e hd he vd ve m =
      elim (cases_lt d (2 + 2 ^ n)) [
        | inl s ↦ none_at p n 2 d test hd s vd
        | inr g ↦ elim (cases_lt e (2 + 2 ^ n)) [ inl s ↦ none_at p n 2 e test he s ve | inr l ↦ omega (arith, mul-le-mul g l) ]
      ]

  no_divisor : (d : ℕ) → 1 < d → d < p → d ∣ p → ⊥
  no_divisor d g l v =
      let e = p / d in
      let whole : d * e ≡ p = mul-div_cancel' d v in
      let more : 1 < e = elim (cases_lt 1 e) [ inl s ↦ s | inr s ↦ omega (arith, mul-le-mul_left d s, mul-one d) ] in
      no_factors d e g more v (subst (λ (x : ℕ). e ∣ x) whole (dvd-mul_left e d)) whole

pub prime_2147483647 : Prime 2147483647
prime_2147483647 = record { above_one = omega arith; undivided = no_divisor 2147483647 16 refl (omega arith) }
