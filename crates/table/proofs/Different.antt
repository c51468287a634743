-- Numbers below a limit that all differ: they stay so, and are at most as many as the limit.
use Rattle.std.proofs.Common.{◌≡◌, ℕ, zero, suc, ◌<◌, ◌≤◌, Bool, true, false, not, ◌||◌, eqb, ltb, List, [], ◌∷◌, ◌++◌, map, length, get_or, set, sym, refl, ap, ◌∙◌, subst, arith}
use lib.ListN.{length-map}
use Rattle.std.proofs.lemmas.Bool.{and_parts, and_from, not-true, not_from_false, ltb-true, lt-ltb, eqb-false, ne_eqb, or_parts, or_from}
use Rattle.permutation.specs.Permutation.{Within}
use Rattle.permutation.proofs.Counting.{Different, pigeonhole}
use Rattle.std.specs.List.{list_any}
use Rattle.table.specs.Sound.{different}

module _ {A : Type 0} (number : A → ℕ) (limit : ℕ) where
  -- some of xs has the number n
  abbrev held : List A → ℕ → Bool
  held xs n = list_any (λ y. eqb (number y) n) xs

  record First (x : A) (xs : List A) : Type 0 where
    below : number x < limit
    free : held xs (number x) ≡ false
    rest : different number limit xs ≡ true

  first : (x : A) (xs : List A) → different number limit (x ∷ xs) ≡ true → First x xs
  first x xs h =
      let a = and_parts (ltb (number x) limit) _ h in
      let b = and_parts (not (held xs (number x))) (different number limit xs) a.1 in
      record { below = ltb-true (number x) limit a.0; free = not-true (held xs (number x)) b.0; rest = b.1 }

  from_first : (x : A) (xs : List A) → First x xs → different number limit (x ∷ xs) ≡ true
  from_first x xs f =
      and_from (ltb (number x) limit) _ (lt-ltb (number x) limit f.below)
      (and_from (not (held xs (number x))) (different number limit xs) (not_from_false (held xs (number x)) f.free) f.rest)

  -- an element changed into another of the same number
  held_changed : (d : A) (xs : List A) (i n : ℕ) (x : A) → i < length xs → number x ≡ number (get_or xs i d) → held (set xs i x) n ≡ held xs n
  held_changed d [] i n x below same = refl
  held_changed d (y ∷ xs) zero n x below same = ap (λ (k : ℕ). eqb k n || held xs n) same
  held_changed d (y ∷ xs) (suc i) n x below same = ap (λ (b : Bool). eqb (number y) n || b) (held_changed d xs i n x (omega arith) same)

  pub different_changed : (d : A) (xs : List A) (i : ℕ) (x : A) → different number limit xs ≡ true → i < length xs → number x ≡ number (get_or xs i d)
      → different number limit (set xs i x) ≡ true
  different_changed d [] i x h below same = absurd (omega arith)
  different_changed d (y ∷ xs) zero x h below same =
      let f = first y xs h in
      from_first x xs (record { below = subst (λ (k : ℕ). k < limit) (sym same) f.below; free = ap (held xs) same ∙ f.free; rest = f.rest })
  different_changed d (y ∷ xs) (suc i) x h below same =
      let f = first y xs h in
      from_first y (set xs i x)
      (record { below = f.below; free = held_changed d xs i (number y) x (omega arith) same ∙ f.free; rest = different_changed d xs i x f.rest (omega arith) same })

  -- one more, of a number that is free
  held_added : (xs : List A) (n : ℕ) (x : A) → held xs n ≡ false → (number x ≡ n → ⊥) → held (xs ++ (x ∷ [])) n ≡ false
  held_added [] n x free other = or_from (eqb (number x) n) false (ne_eqb (number x) n other) refl
  held_added (y ∷ xs) n x free other =
      let parts = or_parts (eqb (number y) n) (held xs n) free in
      or_from (eqb (number y) n) _ parts.0 (held_added xs n x parts.1 other)

  pub different_added : (xs : List A) (x : A) → different number limit xs ≡ true → number x < limit → held xs (number x) ≡ false → different number limit (xs ++ (x ∷ [])) ≡ true
  different_added [] x h below free = from_first x [] (record { below = below; free = refl; rest = refl })
  different_added (y ∷ xs) x h below free =
      let f = first y xs h in
      let parts = or_parts (eqb (number y) (number x)) (held xs (number x)) free in
      from_first y (xs ++ (x ∷ [])) (record {
        below = f.below;
        free = held_added xs (number y) x f.free (λ same. eqb-false (number y) (number x) parts.0 (sym same));
        rest = different_added xs x f.rest below parts.1;
      })

  -- the numbers as a list
  numbers : List A → List ℕ
  numbers xs = map number xs

  numbers_within : (xs : List A) → different number limit xs ≡ true → Within limit (numbers xs)
  unfolding numbers
  numbers_within [] h i below = absurd (omega arith)
  numbers_within (x ∷ xs) h zero below = (first x xs h).below
  numbers_within (x ∷ xs) h (suc i) below = numbers_within xs (first x xs h).rest i (omega arith)

  not_held : (xs : List A) (n i : ℕ) → held xs n ≡ false → i < length (numbers xs) → get_or (numbers xs) i 0 ≡ n → ⊥
  unfolding numbers
  not_held [] n i free below same = omega arith
  not_held (x ∷ xs) n zero free below same = eqb-false (number x) n (or_parts (eqb (number x) n) (held xs n) free).0 same
  not_held (x ∷ xs) n (suc i) free below same = not_held xs n i (or_parts (eqb (number x) n) (held xs n) free).1 (omega arith) same

  numbers_differ : (xs : List A) → different number limit xs ≡ true → Different (numbers xs)
  unfolding numbers
  numbers_differ [] h i j l below same = omega arith
  numbers_differ (x ∷ xs) h i zero l below same = omega arith
  numbers_differ (x ∷ xs) h zero (suc j) l below same = not_held xs (number x) j (first x xs h).free (omega arith) (sym same)
  numbers_differ (x ∷ xs) h (suc i) (suc j) l below same = numbers_differ xs (first x xs h).rest i j (omega arith) (omega arith) same

  pub different_few : (xs : List A) → different number limit xs ≡ true → length xs ≤ limit
  unfolding numbers
  different_few xs h = omega (arith, length-map xs number, pigeonhole limit (numbers xs) (numbers_within xs h) (numbers_differ xs h))
