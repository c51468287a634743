-- Testing every number below a limit, from 0 on.
use Rattle.std.proofs.Common.{◌≡◌, ℕ, zero, suc, ◌<◌, Bool, true, false, length, sym, refl, ap, ◌∙◌, subst, inl, inr, zero-add, arith}
use Rattle.std.specs.Bool.{MatchBool}
use Rattle.std.specs.List.{AllWithin, HoldsAt, range_with_len}
use Rattle.std.proofs.lemmas.List.FromFn.{length-range_with_len, get_or-range_with_len}
use Rattle.std.proofs.lemmas.Bool.{and_from, and_left, and_right, cases_eq}
use Rattle.verdict.specs.Honesty.{all_below}

module _ (test : ℕ → Bool) where
  all_pass : (n : ℕ) → ((i : ℕ) → i < n → test i ≡ true) → all_below n test ≡ true
  all_pass zero h = refl
  all_pass (suc n) h = and_from (test n) (all_below n test) (h n (omega arith)) (all_pass n (λ i l. h i (omega arith)))

  pub one_fails : (n i : ℕ) → i < n → test i ≡ false → all_below n test ≡ false
  one_fails zero i below h = absurd (omega arith)
  one_fails (suc n) i below h =
      elim (cases_eq n i) [
        | inl e ↦ and_left (test n) (all_below n test) (ap test e ∙ h)
        | inr ne ↦ and_right (test n) (all_below n test) (one_fails n i (omega (arith, ne)) h)
      ]

  -- what a test that goes through the numbers found is the test of them all
  module _ (n : ℕ) where
    test_at : (b : Bool) (i : ℕ) → i < n → HoldsAt (λ k. test k ≡ b) (range_with_len 0 n) i → test i ≡ b
    test_at b i below h = subst (λ k. test k ≡ b) (get_or-range_with_len 0 n i 0 below ∙ zero-add i) (h 0)

    pub all_tested : (r : Bool) → MatchBool r
        (AllWithin (λ k. test k ≡ true) (range_with_len 0 n) 0 (length (range_with_len 0 n)))
        ((i : ℕ) × (i < length (range_with_len 0 n)) × HoldsAt (λ k. test k ≡ false) (range_with_len 0 n) i)
        → r ≡ all_below n test
    all_tested true h = sym (all_pass n (λ i below. test_at true i below (λ d. h i d (omega arith) (omega (arith, length-range_with_len 0 n)))))
    all_tested false h =
        let below : h.0 < n = omega (arith, h.1, length-range_with_len 0 n) in
        sym (one_fails n h.0 below (test_at false h.0 below h.2))
