-- The largest number below n that passes a test.
use Rattle.std.specs.Prelude.{◌≡◌, ℕ, zero, suc, ◌<◌, ◌≤◌, Bool, true, ◌≢◌}
use Rattle.std.proofs.Common.{sym, ap, subst, ◌∙◌, inl, inr, arith}
use Rattle.std.proofs.lemmas.Bool.{cond-true, cond-false, cases_eq, cases_Bool, true≢false}
use Rattle.power.specs.Keys.{largest}

-- a number that passes is the largest where none above it does
pub largest_is : (test : ℕ → Bool) (n m : ℕ) → m < n → test m ≡ true → ((j : ℕ) → m < j → j < n → test j ≢ true) → largest test n ≡ m
unfolding largest
largest_is test zero m below passes above = omega arith
largest_is test (suc n) m below passes above =
    elim (cases_eq n m) [
      | inl same ↦ cond-true (test n) n (largest test n) (subst (λ (x : ℕ). test x ≡ true) (sym same) passes) ∙ same
      | inr other ↦
          elim (cases_Bool (test n)) [
            | inl yes_n ↦ absurd (above n (omega arith) (omega arith) yes_n)
            | inr no_n ↦
                cond-false (test n) n (largest test n) no_n
                ∙ largest_is test n m (omega arith) passes (λ j h l. above j h (omega arith))
          ]
    ]

pub largest_least : (test : ℕ → Bool) (n j : ℕ) → j < n → test j ≡ true → j ≤ largest test n
unfolding largest
largest_least test zero j below passes = omega arith
largest_least test (suc n) j below passes =
    elim (cases_Bool (test n)) [
      | inl yes_n ↦ let is = cond-true (test n) n (largest test n) yes_n in omega arith
      | inr no_n ↦
          let other : j ≡ n → ⊥ = λ same. true≢false (sym passes ∙ ap test same ∙ no_n) in
          let is = cond-false (test n) n (largest test n) no_n in
          let least = largest_least test n j (omega arith) passes in
          omega arith
    ]
