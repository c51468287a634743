-- That the first 52 powers of a base differ, and are not 0, by one test that is computed.
use Rattle.std.proofs.Common.{◌≡◌, ℕ, zero, suc, ◌+◌, ◌<◌, Bool, true, not, ◌&&◌, eqb, List, [], ◌∷◌, length, get_or, sym, refl, ap, ◌∙◌, inl, inr, arith}
use Rattle.std.proofs.lemmas.Bool.{and_parts, not-true, eqb-false, cases_order}
use Rattle.field.specs.Power.{power}

-- x is none of xs
abbrev none_is : ℕ → List ℕ → Bool
none_is x [] = true
none_is x (y ∷ ys) = not (eqb x y) && none_is x ys

-- no two of xs are equal
abbrev distinct : List ℕ → Bool
distinct [] = true
distinct (x ∷ xs) = none_is x xs && distinct xs

none_at : (x : ℕ) (xs : List ℕ) → none_is x xs ≡ true → (j : ℕ) → j < length xs → x ≡ get_or xs j 0 → ⊥
none_at x [] t j h e = omega arith
none_at x (y ∷ ys) t zero h e = eqb-false x y (not-true (eqb x y) (and_parts _ _ t).0) e
none_at x (y ∷ ys) t (suc j) h e = none_at x ys (and_parts _ _ t).1 j (omega arith) e

distinct_at : (xs : List ℕ) → distinct xs ≡ true → (i j : ℕ) → i < j → j < length xs → get_or xs i 0 ≡ get_or xs j 0 → ⊥
distinct_at [] t i j l h e = omega arith
distinct_at (x ∷ xs) t i zero l h e = omega arith
distinct_at (x ∷ xs) t zero (suc j) l h e = none_at x xs (and_parts _ _ t).0 j (omega arith) e
distinct_at (x ∷ xs) t (suc i) (suc j) l h e = distinct_at xs (and_parts _ _ t).1 i j (omega arith) (omega arith) e

module _ (times : ℕ → ℕ → ℕ) (base : ℕ) where
  -- n powers in a row, x the first
  abbrev pub row : ℕ → ℕ → List ℕ
  row zero x = []
  row (suc n) x = x ∷ row n (times base x)

  row_length : (n x : ℕ) → length (row n x) ≡ n
  row_length zero x = refl
  row_length (suc n) x = ap suc (row_length n (times base x))

  row_at : (n k i : ℕ) → i < n → get_or (row n (power times base k)) i 0 ≡ power times base (i + k)
  unfolding power
  row_at zero k i h = omega arith
  row_at (suc n) k zero h = ap (power times base) (omega arith)
  row_at (suc n) k (suc i) h = row_at n (suc k) i (omega arith) ∙ ap (power times base) (omega arith)

  -- the test: 0 and the first 52 powers
  abbrev pub all_differ : Bool
  all_differ = distinct (0 ∷ row 52 (times base 1))

  module _ (test : all_differ ≡ true) where
    at_row : (i : ℕ) → i < 52 → get_or (row 52 (times base 1)) i 0 ≡ power times base (i + 1)
    unfolding power
    at_row i h = row_at 52 1 i h

    apart : (i j : ℕ) → i < j → j < 52 → power times base (i + 1) ≡ power times base (j + 1) → ⊥
    apart i j l h e =
        let fits : suc j < suc (length (row 52 (times base 1))) = omega (arith, row_length 52 (times base 1)) in
        distinct_at (0 ∷ row 52 (times base 1)) test (suc i) (suc j) (omega arith) fits (at_row i (omega arith) ∙ e ∙ sym (at_row j h))

    pub powers_differ : (i j : ℕ) → i < 52 → j < 52 → power times base (i + 1) ≡ power times base (j + 1) → i ≡ j
    powers_differ i j hi hj e =
        elim (cases_order i j) [ inl s ↦ s | inr o ↦ elim o [ inl l ↦ absurd (apart i j l hj e) | inr g ↦ absurd (apart j i g hi (sym e)) ] ]

    pub powers_not_zero : (i : ℕ) → i < 52 → power times base (i + 1) ≡ 0 → ⊥
    powers_not_zero i h e =
        let fits : suc i < suc (length (row 52 (times base 1))) = omega (arith, row_length 52 (times base 1)) in
        distinct_at (0 ∷ row 52 (times base 1)) test 0 (suc i) (omega arith) fits (sym (at_row i h ∙ e))
