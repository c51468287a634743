-- Marks of the numbers seen so far, by which a number that comes again is found.
use Rattle.std.proofs.Common.{◌≡◌, ℕ, zero, suc, ◌+◌, ◌<◌, ◌≤◌, Bool, true, false, cond, eqb, List, [], length, get_or, take, replicate, refl, ap, arith}
use Rattle.std.proofs.lemmas.List.{take_all}
use Rattle.std.proofs.lemmas.List.Sums.{sum_by_more, sum_by-take-le}
use Rattle.std.proofs.lemmas.Bool.Decides.{nat_tests}
use Rattle.permutation.specs.Permutation.{count}

-- each number stands in xs once if it is marked, and otherwise not at all
abbrev pub Marked : List Bool → List ℕ → Type 0
Marked seen xs = (n : ℕ) → count n xs ≡ cond (get_or seen n false) 1 0

pub marked_none : (size : ℕ) → Marked (replicate size false) []
marked_none zero n = refl
marked_none (suc size) zero = refl
marked_none (suc size) (suc n) = marked_none size n

count_more : (n : ℕ) (xs : List ℕ) (i : ℕ) → i < length xs → count n (take (i + 1) xs) ≡ count n (take i xs) + cond (eqb (get_or xs i 0) n) 1 0
count_more n xs i h = sum_by_more (λ y. cond (eqb y n) 1 0) xs i 0 h

-- a number that is marked already stands in the list twice
pub marked_again : (seen : List Bool) (xs : List ℕ) (i x : ℕ) → i < length xs → x ≡ get_or xs i 0 → get_or seen x false ≡ true → Marked seen (take i xs) → 2 ≤ count x xs
marked_again seen xs i x h is old m =
    grind (arith, nat_tests, count_more x xs i h, m x, sum_by-take-le (λ y. cond (eqb y x) 1 0) xs (i + 1))

pub marked_all : (seen : List Bool) (xs : List ℕ) (i : ℕ) → length xs ≤ i → Marked seen (take i xs) → (n : ℕ) → count n xs ≤ 1
marked_all seen xs i h m n =
    let e : count n (take i xs) ≡ count n xs = ap (count n) (take_all i xs h) in
    grind (arith, m n)
