-- Orders of a list's places: what a permutation is, and what rearranging and composing by orders give.
use Rattle.std.specs.Prelude.{◌≡◌, ℕ, zero, suc, ◌<◌, Bool, true, ◌&&◌, List, [], ◌∷◌, map, length, count_by, ◌==◌, nat_eq, slice_index, slice_index_or}
use Rattle.std.specs.List.{range_with_len}

-- how often n stands in xs
abbrev pub count : ℕ → List ℕ → ℕ
count n xs = count_by (λ x. nat_eq x n) xs

-- each number below n stands in xs exactly once
abbrev pub each_once : List ℕ → ℕ → Bool
each_once xs zero = true
each_once xs (suc n) = count n xs == 1 && each_once xs n

-- each number below the length of xs stands in xs exactly once
abbrev pub permutes : List ℕ → Bool
permutes xs = each_once xs (length xs)

-- the same as a statement
abbrev pub Permutation : List ℕ → Type 0
Permutation xs = (n : ℕ) → n < length xs → count n xs ≡ 1

-- every number in xs is below n
abbrev pub Within : ℕ → List ℕ → Type 0
Within n xs = (i : ℕ) → i < length xs → slice_index xs i < n

-- at place i the element of xs at place o(i); d stands for what lies outside xs
abbrev pub rearranged : {A : Type 0} → A → List A → List ℕ → List A
rearranged d xs o = map (λ i. slice_index_or xs i d) o

-- the numbers 0, 1, … up to n - 1
abbrev pub upto : ℕ → List ℕ
upto n = range_with_len 0 n

-- the place that orders o₀, o₁, … oₖ lead to from i: o₀(o₁(… oₖ(i) …))
abbrev pub composed_at : List (List ℕ) → ℕ → ℕ
composed_at [] i = i
composed_at (o ∷ os) i = slice_index o (composed_at os i)

-- the orders as one order of size places
abbrev pub composed : ℕ → List (List ℕ) → List ℕ
composed size os = map (composed_at os) (upto size)
