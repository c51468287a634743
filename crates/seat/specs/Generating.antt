-- The generator seat: its key is lawful, and its order is an order.
use Rattle.std.specs.Prelude.{◌≡◌, ℕ, zero, suc, ◌+◌, ◌-◌, ◌%◌, ◌<◌, ◌≤◌, Bool, true, false, cond, List, length, Option, Some, None, MatchOption, nat_le, nat_lt, refl, unwrap_or}
use Rattle.std.proofs.Common.{sym, ap, ap₂, subst, ◌∙◌, inl, inr, mod-lt, arith}
use Rattle.std.specs.List.{swap}
use Rattle.std.proofs.lemmas.List.FromFn.{length-range_with_len}
use Rattle.std.proofs.lemmas.List.Edits.{length-swap}
use Rattle.std.proofs.lemmas.Bool.{cond-true, cond-false, cases_Bool, ltb-false, leb-true, and_parts, true≢false}
use Rattle.cipher.specs.Cipher.{CipherMeaning, CipherLaws, Lawful}
use Rattle.permutation.specs.Permutation.{Permutation, upto}
use Rattle.permutation.proofs.Permutations.{upto_permutation, exchanged_permutation, permutes_decides}
use Rattle.seat.specs.Seat.{SeatLaws}
use Rattle.seat.specs.Generator.{drawn, climbed, lawful_from, shuffled, generator_order, fit, generator_seat}

-- climbing stops at a number that passes
pub climbed_here : (test : ℕ → Bool) (n k : ℕ) → test k ≡ true → climbed test n k ≡ k
unfolding climbed
climbed_here test zero k t = refl
climbed_here test (suc n) k t = cond-true (test k) k _ t

-- and goes on from one that does not
pub climbed_on : (test : ℕ → Bool) (last k : ℕ) → k < last → test k ≡ false → climbed test (last - k) k ≡ climbed test (last - (k + 1)) (k + 1)
unfolding climbed
climbed_on test last k below t =
    let one_more : last - k ≡ suc (last - (k + 1)) = omega arith in
    let next : suc k ≡ k + 1 = omega arith in
    ap (λ (n : ℕ). climbed test n k) one_more ∙ cond-false (test k) k _ t ∙ ap (climbed test (last - (k + 1))) next

-- and past d of them
climbed_past : (test : ℕ → Bool) (d n k : ℕ) → ((j : ℕ) → k ≤ j → j < k + d → test j ≡ false) → climbed test (d + n) k ≡ climbed test n (k + d)
unfolding climbed
climbed_past test zero n k fail =
    let none_more : zero + n ≡ n = omega arith in
    let same : k ≡ k + zero = omega arith in
    ap₂ (climbed test) none_more same
climbed_past test (suc d) n k fail =
    let one_more : suc d + n ≡ suc (d + n) = omega arith in
    let same : suc k + d ≡ k + suc d = omega arith in
    ap (λ (x : ℕ). climbed test x k) one_more ∙ cond-false (test k) k _ (fail k (omega arith) (omega arith))
    ∙ climbed_past test d n (suc k) (λ j low high. fail j (omega arith) (omega arith)) ∙ ap (climbed test n) same

-- so it ends at the first number that passes, or else at the last
pub climbed_first : (test : ℕ → Bool) (k last : ℕ) (r : Option ℕ) → k ≤ last
    → MatchOption r ((j : ℕ) → k ≤ j → j < last → test j ≡ false) (λ i. (k ≤ i) × (i < last) × (test i ≡ true) × ((j : ℕ) → k ≤ j → j < i → test j ≡ false))
    → climbed test (last - k) k ≡ unwrap_or r last
unfolding climbed
climbed_first test k last None within none =
    ap (λ (n : ℕ). climbed test n k) (omega arith) ∙ climbed_past test (last - k) 0 k (λ j low high. none j low (omega arith)) ∙ omega arith
climbed_first test k last (Some i) within first =
    let whole : last - k ≡ i - k + (last - i) = omega arith in
    let there : k + (i - k) ≡ i = omega arith in
    ap (λ (n : ℕ). climbed test n k) whole ∙ climbed_past test (i - k) (last - i) k (λ j low high. first.3 j low (omega arith))
    ∙ ap (climbed test (last - i)) there ∙ climbed_here test (last - i) i first.2

climbed_passes : (test : ℕ → Bool) (n k : ℕ) → test (k + n) ≡ true → test (climbed test n k) ≡ true
unfolding climbed
climbed_passes test zero k t = let same : k + zero ≡ k = omega arith in subst (λ (x : ℕ). test x ≡ true) same t
climbed_passes test (suc n) k t =
    elim (cases_Bool (test k)) [
      | inl here ↦ subst (λ (x : ℕ). test x ≡ true) (sym (cond-true (test k) k _ here)) here
      | inr on ↦
          let same : k + suc n ≡ suc k + n = omega arith in
          subst (λ (x : ℕ). test x ≡ true) (sym (cond-false (test k) k _ on)) (climbed_passes test n (suc k) (subst (λ (x : ℕ). test x ≡ true) same t))
    ]

module _ (m : CipherMeaning) (laws : CipherLaws m) where
  -- where the climb starts
  pub start_most : (number : ℕ) → cond (nat_lt m.last_key number) 1 number ≤ m.last_key
  start_most number =
      elim (cases_Bool (nat_lt m.last_key number)) [
        | inl above ↦ subst (λ (x : ℕ). x ≤ m.last_key) (sym (cond-true _ 1 number above)) (laws.key_least m.last_key laws.last_lawful)
        | inr not_above ↦ subst (λ (x : ℕ). x ≤ m.last_key) (sym (cond-false _ 1 number not_above)) (ltb-false m.last_key number not_above)
      ]

  pub lawful_from_lawful : (number : ℕ) → Lawful m (lawful_from m number)
  lawful_from_lawful number =
      let first = cond (nat_lt m.last_key number) 1 number in
      let whole : first + (m.last_key - first) ≡ m.last_key = omega (arith, start_most number) in
      climbed_passes m.lawful (m.last_key - first) first (subst (λ (x : ℕ). Lawful m x) (sym whole) laws.last_lawful)

  -- short of the last key, a key that is not lawful is not the last
  pub below_last : (k : ℕ) → k ≤ m.last_key → m.lawful k ≡ false → k < m.last_key
  below_last k most t =
      let other : k ≡ m.last_key → ⊥ = λ same. true≢false (sym (subst (λ (x : ℕ). Lawful m x) (sym same) laws.last_lawful) ∙ t) in
      omega arith

shuffled_order : (n z : ℕ) (order : List ℕ) → n < length order → Permutation order → (length (shuffled n z order) ≡ length order) × Permutation (shuffled n z order)
unfolding shuffled
shuffled_order zero z order below perm = (refl, perm)
shuffled_order (suc n) z order below perm =
    let j = drawn z % suc (suc n) in
    let within : j < suc (suc n) = mod-lt (drawn z) (omega arith) in
    let moved = swap order (suc n) j in
    let same : length moved ≡ length order = length-swap order (suc n) j in
    let rest = shuffled_order n (drawn z) moved (omega arith) (exchanged_permutation order (suc n) j below (omega arith) perm) in
    (rest.0 ∙ same, rest.1)

pub generator_laws : (z size : ℕ) → fit z size ≡ true → SeatLaws (generator_seat z size)
generator_laws z size t =
    let a = and_parts (nat_le 1 z) _ t in
    let b = and_parts (nat_le z 2147483646) _ a.1 in
    let c = and_parts (nat_le 2 size) (nat_le size 52) b.1 in
    let two = leb-true 2 size c.0 in
    let long = length-range_with_len 0 size in
    let done = shuffled_order (size - 1) (drawn z) (upto size) (omega arith) (upto_permutation size) in
    record { few = leb-true size 52 c.1; sized = done.0 ∙ long; ordered = (permutes_decides (generator_order z size)).1 done.1 }

-- one turn of the shuffle, at the place below i
pub shuffled_turn : (i z : ℕ) (order : List ℕ) → 1 < i → shuffled (i - 1) z order ≡ shuffled (i - 1 - 1) (drawn z) (swap order (i - 1) (drawn z % (i - 1 + 1)))
unfolding shuffled
shuffled_turn i z order more =
    let k = i - 1 - 1 in
    let here : i - 1 ≡ suc k = omega arith in
    let past : suc (suc k) ≡ i - 1 + 1 = omega arith in
    ap (λ (n : ℕ). shuffled n z order) here
    ∙ ap₂ (λ (n p : ℕ). shuffled k (drawn z) (swap order n (drawn z % p))) (sym here) past

pub shuffled_none : (i z : ℕ) (order : List ℕ) → i ≤ 1 → shuffled (i - 1) z order ≡ order
unfolding shuffled
shuffled_none i z order most = let none : i - 1 ≡ zero = omega arith in ap (λ (n : ℕ). shuffled n z order) none
