-- How often a number stands in a list, where it stands, and how many different numbers a list can hold.
use Rattle.std.proofs.Common.{◌≡◌, ℕ, zero, suc, ◌+◌, ◌<◌, ◌≤◌, cond, eqb, ltb, List, [], ◌∷◌, length, get_or, count_by, sym, refl, ◌∙◌, inl, inr, arith}
use Rattle.std.proofs.lemmas.List.Sums.{sum_by-cons, get_or-le-sum_by, count_by-le-length}
use Rattle.std.proofs.lemmas.Bool.{cases_eq}
use Rattle.std.proofs.lemmas.Bool.Decides.{nat_tests, eqb_tells}
use Rattle.permutation.specs.Permutation.{count, Within}

-- different places of xs hold different numbers
abbrev pub Different : List ℕ → Type 0
Different xs = (i j : ℕ) → i < j → j < length xs → get_or xs i 0 ≡ get_or xs j 0 → ⊥

-- the first place of n in xs
abbrev pub place_of : ℕ → List ℕ → ℕ
place_of n [] = 0
place_of n (x ∷ xs) = cond (eqb x n) 0 (suc (place_of n xs))

-- how many numbers in xs are below n
abbrev pub lower : ℕ → List ℕ → ℕ
lower n xs = count_by (λ x. ltb x n) xs

pub count_cons : (n x : ℕ) (xs : List ℕ) → count n (x ∷ xs) ≡ cond (eqb x n) 1 0 + count n xs
count_cons n x xs = sum_by-cons (λ y. cond (eqb y n) 1 0) x xs

lower_cons : (n x : ℕ) (xs : List ℕ) → lower n (x ∷ xs) ≡ cond (ltb x n) 1 0 + lower n xs
lower_cons n x xs = sum_by-cons (λ y. cond (ltb y n) 1 0) x xs

pub counted : (n : ℕ) (xs : List ℕ) (i : ℕ) → i < length xs → get_or xs i 0 ≡ n → 1 ≤ count n xs
counted n xs i h e = grind (arith, nat_tests, get_or-le-sum_by (λ y. cond (eqb y n) 1 0) xs i 0 h)

pub counted_twice : (n : ℕ) (xs : List ℕ) (i j : ℕ) → i < j → j < length xs → get_or xs i 0 ≡ n → get_or xs j 0 ≡ n → 2 ≤ count n xs
counted_twice n [] i j l h e f = omega arith
counted_twice n (x ∷ xs) i zero l h e f = omega arith
counted_twice n (x ∷ xs) zero (suc j) l h e f =
    grind (arith, nat_tests, counted n xs j (omega arith) f, count_cons n x xs)
counted_twice n (x ∷ xs) (suc i) (suc j) l h e f =
    omega (arith, counted_twice n xs i j (omega arith) (omega arith) e f, count_cons n x xs)

pub placed : (n : ℕ) (xs : List ℕ) → 1 ≤ count n xs → (place_of n xs < length xs) × (get_or xs (place_of n xs) 0 ≡ n)
placed n [] h = omega arith
placed n (x ∷ xs) h = elim (eqb_tells x n) [
  | inl e ↦ rw e.0 (omega arith, e.1)
  | inr e ↦ let p = placed n xs (grind (arith, nat_tests, count_cons n x xs)) in rw e.0 (omega arith, p.1)
]

pub different_once : (xs : List ℕ) → Different xs → (n : ℕ) → count n xs ≤ 1
different_once [] d n = omega arith
different_once (x ∷ xs) d n =
    let rest = different_once xs (λ i j l h e. d (suc i) (suc j) (omega arith) (omega arith) e) n in
    let apart : x ≡ n → 1 ≤ count n xs → ⊥ = λ e c. let p = placed n xs c in d 0 (suc (place_of n xs)) (omega arith) (omega arith) (e ∙ sym p.1) in
    grind (arith, nat_tests, count_cons n x xs)

lower_none : (xs : List ℕ) → lower 0 xs ≡ 0
lower_none [] = refl
lower_none (x ∷ xs) = grind (arith, nat_tests, lower_none xs, lower_cons 0 x xs)

lower_more : (n : ℕ) (xs : List ℕ) → lower (suc n) xs ≡ count n xs + lower n xs
lower_more n [] = refl
lower_more n (x ∷ xs) =
    grind (arith, nat_tests, lower_more n xs, lower_cons (suc n) x xs, lower_cons n x xs, count_cons n x xs)

pub lower_all : (n : ℕ) (xs : List ℕ) → Within n xs → lower n xs ≡ length xs
lower_all n [] w = refl
lower_all n (x ∷ xs) w =
    grind (arith, nat_tests, lower_all n xs (λ i h. w (suc i) (omega arith)), w 0 (omega arith), lower_cons n x xs)

-- a number that is not below n is left out
pub lower_fewer : (n : ℕ) (xs : List ℕ) (i : ℕ) → i < length xs → n ≤ get_or xs i 0 → lower n xs < length xs
lower_fewer n [] i h l = omega arith
lower_fewer n (x ∷ xs) zero h l =
    grind (arith, nat_tests, lower_cons n x xs, count_by-le-length (λ y. ltb y n) xs)
lower_fewer n (x ∷ xs) (suc i) h l =
    grind (arith, nat_tests, lower_cons n x xs, lower_fewer n xs i (omega arith) l)

pub lower_from_held : (n : ℕ) (xs : List ℕ) → ((k : ℕ) → k < n → 1 ≤ count k xs) → n ≤ lower n xs
lower_from_held zero xs c = omega arith
lower_from_held (suc n) xs c =
    omega (arith, lower_more n xs, c n (omega arith), lower_from_held n xs (λ k h. c k (omega arith)))

lower_from_once : (n : ℕ) (xs : List ℕ) → ((k : ℕ) → count k xs ≤ 1) → lower n xs ≤ n
lower_from_once zero xs c = omega (arith, lower_none xs)
lower_from_once (suc n) xs c = omega (arith, lower_more n xs, c n, lower_from_once n xs c)

-- and one fewer where k does not stand in xs
pub lower_from_once_but : (n : ℕ) (xs : List ℕ) (k : ℕ) → ((m : ℕ) → count m xs ≤ 1) → k < n → lower n xs < n + count k xs
lower_from_once_but zero xs k c h = omega arith
lower_from_once_but (suc n) xs k c h = elim (cases_eq k n) [
  | inl e ↦ rw e (omega (arith, lower_more n xs, lower_from_once n xs c))
  | inr e ↦ omega (arith, lower_more n xs, c n, lower_from_once_but n xs k c (omega arith))
]

-- the pigeonhole principle
pub pigeonhole : (n : ℕ) (xs : List ℕ) → Within n xs → Different xs → length xs ≤ n
pigeonhole n xs w d = omega (arith, lower_all n xs w, lower_from_once n xs (different_once xs d))
