-- A permutation by its places: its numbers are below its length, and each stands at one place.
use Rattle.std.proofs.Common.{◌≡◌, ℕ, ◌<◌, ◌≤◌, true, false, cond, eqb, List, [], ◌∷◌, length, get_or, Decides, sym, refl, ◌∙◌, inl, inr, arith}
use Rattle.std.specs.List.Sorted.{IsPermutation}
use Rattle.std.specs.List.{swap}
use Rattle.std.proofs.lemmas.List.FromFn.{length-range_with_len, get_or-range_with_len}
use Rattle.std.proofs.lemmas.List.Sorted.{length_permutation, sum_by-IsPermutation}
use Rattle.std.proofs.lemmas.Bool.{cases_Bool, cases_lt}
use Rattle.std.proofs.lemmas.Bool.Decides.{Decides-below_and, Decides-eqb}
use Rattle.permutation.specs.Permutation.{count, each_once, permutes, Permutation, Within, upto}
use Rattle.permutation.proofs.Counting.{Different, place_of, placed, counted_twice, different_once, lower_all, lower_fewer, lower_from_held, lower_from_once_but}

pub permutes_decides : (o : List ℕ) → Decides (permutes o) (Permutation o)
permutes_decides o =
    Decides-below_and (λ n. eqb (count n o) 1) (λ n. count n o ≡ 1) (each_once o) (λ n. Decides-eqb (count n o) 1) refl (λ _. refl) (length o)

pub permutes_true : (o : List ℕ) → Permutation o → true ≡ permutes o
permutes_true o p = sym ((permutes_decides o).1 p)

pub permutes_false : (o : List ℕ) → (Permutation o → ⊥) → false ≡ permutes o
permutes_false o f = elim (cases_Bool (permutes o)) [ inl e ↦ absurd (f ((permutes_decides o).0 e)) | inr e ↦ sym e ]

pub permutation_within : (o : List ℕ) → Permutation o → Within (length o) o
permutation_within o p i h = elim (cases_lt (get_or o i 0) (length o)) [
  | inl l ↦ l
  | inr l ↦ omega (arith, lower_fewer (length o) o i h l, lower_from_held (length o) o (λ k b. omega (arith, p k b)))
]

pub permutation_different : (o : List ℕ) → Permutation o → Different o
permutation_different o p i j l h e =
    omega (arith, p (get_or o j 0) (permutation_within o p j h), counted_twice (get_or o j 0) o i j l h e refl)

pub permutation_injective : (o : List ℕ) → Permutation o → (i j : ℕ) → i < length o → j < length o → get_or o i 0 ≡ get_or o j 0 → i ≡ j
permutation_injective o p i j h k e =
    let before : i < j → ⊥ = λ l. permutation_different o p i j l k e in
    let after : j < i → ⊥ = λ l. permutation_different o p j i l h (sym e) in
    omega arith

pub permutation_placed : (o : List ℕ) → Permutation o → (n : ℕ) → n < length o → (place_of n o < length o) × (get_or o (place_of n o) 0 ≡ n)
permutation_placed o p n h = placed n o (omega (arith, p n h))

pub permutation_surjective : (o : List ℕ) → Permutation o → (n : ℕ) → n < length o → (i : ℕ) × (i < length o) × (get_or o i 0 ≡ n)
permutation_surjective o p n h = let q = permutation_placed o p n h in (place_of n o, q.0, q.1)

pub permutation_from_counts : (o : List ℕ) → Within (length o) o → ((n : ℕ) → count n o ≤ 1) → Permutation o
permutation_from_counts o w c n h =
    omega (arith, c n, lower_all (length o) o w, lower_from_once_but (length o) o n c h)

pub permutation_from_different : (o : List ℕ) → Within (length o) o → Different o → Permutation o
permutation_from_different o w d = permutation_from_counts o w (different_once o d)

-- the list of f 0, f 1, … up to f (n - 1), where f keeps below n and gives no number twice
pub permutation_from_function : (n : ℕ) (f : ℕ → ℕ) (o : List ℕ) → length o ≡ n → ((i : ℕ) → i < n → get_or o i 0 ≡ f i) → ((i : ℕ) → i < n → f i < n) → ((i j : ℕ) → i < n → j < n → f i ≡ f j → i ≡ j) → Permutation o
permutation_from_function n f o len at low same =
    permutation_from_different o
    (λ i h. omega (arith, at i (omega arith), low i (omega arith)))
    (λ i j l h e. omega (arith, same i j (omega arith) (omega arith) (sym (at i (omega arith)) ∙ e ∙ at j (omega arith))))

pub upto_permutation : (n : ℕ) → Permutation (upto n)
upto_permutation n =
    permutation_from_function n (λ i. i) (upto n) (length-range_with_len 0 n)
    (λ i h. omega (arith, get_or-range_with_len 0 n i 0 h)) (λ i h. h) (λ i j _ _ e. e)

pub shuffled_permutation : (o p : List ℕ) → IsPermutation o p → Permutation o → Permutation p
shuffled_permutation o p s f n h =
    sum_by-IsPermutation (λ x. cond (eqb x n) 1 0) o p s ∙ f n (omega (arith, length_permutation o p s))

pub exchanged_permutation : (o : List ℕ) (i j : ℕ) → i < length o → j < length o → Permutation o → Permutation (swap o i j)
exchanged_permutation o i j h k =
    shuffled_permutation o (swap o i j) (record { moves = (i, j) ∷ []; below = (h, k, tt); is = refl })
