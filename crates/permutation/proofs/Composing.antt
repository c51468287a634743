-- Composing orders, one after another, gives an order.
use Rattle.std.proofs.Common.{◌≡◌, ℕ, ◌<◌, List, [], ◌∷◌, length, get_or, map-id, arith}
use mathlib.Core.List.{map-map}
use Rattle.std.specs.List.{AllByRecursion as All}
use Rattle.std.proofs.lemmas.List.FromFn.{length-map-range_with_len, get_or-map-range_with_len}
use Rattle.permutation.specs.Permutation.{Permutation, rearranged, upto, composed, composed_at}
use Rattle.permutation.proofs.Permutations.{permutation_within, permutation_injective, permutation_from_function, upto_permutation}
use Rattle.permutation.proofs.Rearranging.{rearranged_length, rearranged_at}

-- permutations of size places
abbrev pub Orders : ℕ → List (List ℕ) → Type 0
Orders size os = All (λ o. (length o ≡ size) × Permutation o) os

pub rearranged_permutation : (o p : List ℕ) → length o ≡ length p → Permutation o → Permutation p → Permutation (rearranged 0 o p)
rearranged_permutation o p e f g =
    let low : (i : ℕ) → i < length p → get_or p i 0 < length o = λ i h. omega (arith, permutation_within p g i h) in
    permutation_from_function (length p) (λ i. get_or o (get_or p i 0) 0) (rearranged 0 o p) (rearranged_length 0 o p) (rearranged_at 0 0 o p)
    (λ i h. omega (arith, permutation_within o f (get_or p i 0) (low i h)))
    (λ i j h k q. permutation_injective p g i j h k (permutation_injective o f (get_or p i 0) (get_or p j 0) (low i h) (low j k) q))

pub composed_length : (size : ℕ) (os : List (List ℕ)) → length (composed size os) ≡ size
composed_length size os = length-map-range_with_len (composed_at os) 0 size

pub composed_get_or : (size : ℕ) (os : List (List ℕ)) (i : ℕ) → i < size → get_or (composed size os) i 0 ≡ composed_at os i
composed_get_or size os i h = get_or-map-range_with_len (composed_at os) 0 size i i 0 h (omega arith)

pub rearranged_composed : (size : ℕ) (o : List ℕ) (os : List (List ℕ)) → rearranged 0 o (composed size os) ≡ composed size (o ∷ os)
rearranged_composed size o os = map-map (λ i. get_or o i 0) (composed_at os) (upto size)

pub composed_permutation : (size : ℕ) (os : List (List ℕ)) → Orders size os → Permutation (composed size os)
composed_permutation size [] all = rw map-id (upto_permutation size)
composed_permutation size (o ∷ os) all =
    rw (← rearranged_composed size o os)
    (rearranged_permutation o (composed size os) (omega (arith, composed_length size os)) all.0.1 (composed_permutation size os all.1))

pub composed_at_below : (size : ℕ) (os : List (List ℕ)) → Orders size os → (i : ℕ) → i < size → composed_at os i < size
composed_at_below size os all i h =
    let n = composed_length size os in
    omega (arith, composed_get_or size os i h, permutation_within (composed size os) (composed_permutation size os all) i (omega arith))
