-- A number is among others exactly where it is counted.
use Rattle.std.proofs.Common.{◌≡◌, ℕ, ◌≤◌, true, false, eqb, List, [], ◌∷◌, refl, inl, inr, arith}
use Rattle.std.proofs.lemmas.Bool.{false≢true, or_cases, or_parts, cases_Bool}
use Rattle.std.proofs.lemmas.Bool.Decides.{nat_tests}
use Rattle.permutation.specs.Permutation.{count}
use Rattle.permutation.proofs.Counting.{count_cons}
use Rattle.session.specs.Runs.{among}

pub among_count : (s : ℕ) (xs : List ℕ) → among s xs ≡ true → 1 ≤ count s xs
among_count s [] found = absurd (false≢true found)
among_count s (x ∷ xs) found = elim (or_cases (eqb x s) (among s xs) found) [
  | inl h ↦ grind (arith, nat_tests, count_cons s x xs)
  | inr h ↦ omega (arith, count_cons s x xs, among_count s xs h)
]

pub not_among_count : (s : ℕ) (xs : List ℕ) → among s xs ≡ false → count s xs ≡ 0
not_among_count s [] none = refl
not_among_count s (x ∷ xs) none =
    let parts = or_parts (eqb x s) (among s xs) none in
    let first = parts.0 in
    let rest = not_among_count s xs parts.1 in
    grind (arith, nat_tests, count_cons s x xs)

pub count_among : (s : ℕ) (xs : List ℕ) → 1 ≤ count s xs → among s xs ≡ true
count_among s xs counted = elim (cases_Bool (among s xs)) [
  | inl h ↦ h
  | inr h ↦ absurd (omega (arith, not_among_count s xs h))
]

pub count_not_among : (s : ℕ) (xs : List ℕ) → count s xs ≡ 0 → among s xs ≡ false
count_not_among s xs counted = elim (cases_Bool (among s xs)) [
  | inl h ↦ absurd (omega (arith, among_count s xs h))
  | inr h ↦ h
]
