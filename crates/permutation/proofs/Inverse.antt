-- The order that undoes an order: at n it holds the place of n.
use Rattle.std.proofs.Common.{◌≡◌, ℕ, ◌<◌, List, map, length, get_or, sym, ap, ◌∙◌, arith}
use Rattle.std.proofs.lemmas.List.FromFn.{length-map-range_with_len, get_or-map-range_with_len}
use Rattle.permutation.specs.Permutation.{Permutation, upto}
use Rattle.permutation.proofs.Counting.{place_of}
use Rattle.permutation.proofs.Permutations.{permutation_placed, permutation_within, permutation_injective, permutation_from_function}

abbrev pub inverse_of : List ℕ → List ℕ
inverse_of o = map (λ n. place_of n o) (upto (length o))

pub inverse_length : (o : List ℕ) → length (inverse_of o) ≡ length o
inverse_length o = length-map-range_with_len (λ n. place_of n o) 0 (length o)

pub inverse_at : (o : List ℕ) (n : ℕ) → n < length o → get_or (inverse_of o) n 0 ≡ place_of n o
inverse_at o n h = get_or-map-range_with_len (λ k. place_of k o) 0 (length o) n n 0 h (omega arith)

pub order_inverse : (o : List ℕ) → Permutation o → (n : ℕ) → n < length o → get_or o (get_or (inverse_of o) n 0) 0 ≡ n
order_inverse o p n h = rw inverse_at (permutation_placed o p n h).1

pub inverse_order : (o : List ℕ) → Permutation o → (i : ℕ) → i < length o → get_or (inverse_of o) (get_or o i 0) 0 ≡ i
inverse_order o p i h =
    let b = permutation_within o p i h in
    let s = permutation_placed o p (get_or o i 0) b in
    inverse_at o (get_or o i 0) b ∙ permutation_injective o p (place_of (get_or o i 0) o) i s.0 h s.1

pub inverse_permutation : (o : List ℕ) → Permutation o → Permutation (inverse_of o)
inverse_permutation o p =
    permutation_from_function (length o) (λ n. place_of n o) (inverse_of o) (inverse_length o) (inverse_at o)
    (λ n h. (permutation_placed o p n h).0)
    (λ m n h k e. sym (permutation_placed o p m h).1 ∙ ap (λ i. get_or o i 0) e ∙ (permutation_placed o p n k).1)
