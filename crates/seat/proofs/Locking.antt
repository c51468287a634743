-- Locking the values of a deck one after the other.
use Rattle.std.proofs.Common.{◌≡◌, ℕ, ◌+◌, ◌-◌, ◌<◌, List, [], ◌∷◌, ◌++◌, map, length, get_or, take, drop, set, Ok, sym, refl, ap, ◌∙◌, subst, arith, length-take, get_or-drop}
use lib.ListN.{length-map}
use Rattle.std.proofs.lemmas.List.Edits.{map_over_more}
use Rattle.std.proofs.lemmas.List.{get_or-append_right, get_or_default}
use Rattle.std.specs.Result.{result_unwrap_or}
use Rattle.cipher.specs.Cipher.{CipherMeaning, Value, Lawful}
use Rattle.cipher.specs.Answers.{lock_answer}
use Rattle.cipher.specs.Decks.{deck_answer, locked_deck}
use Rattle.cipher.proofs.Answers.{lock_passes}
use Rattle.cipher.proofs.Decks.{values_all, all_values}
use Rattle.permutation.specs.Permutation.{Permutation, rearranged}
use Rattle.permutation.proofs.Permutations.{permutation_within}
use Rattle.permutation.proofs.Rearranging.{rearranged_length, rearranged_at}

-- the first i values of the deck are locked
abbrev pub locked_to : CipherMeaning → ℕ → List ℕ → ℕ → List ℕ
locked_to m key deck i = map (m.lock key) (take i deck) ++ drop i deck

module _ (m : CipherMeaning) (key : ℕ) (deck : List ℕ) (i : ℕ) where
  -- the next value is as it was
  next_value : i < length deck → get_or (locked_to m key deck i) i 0 ≡ get_or deck i 0
  next_value h =
      get_or-append_right (map (m.lock key) (take i deck)) (drop i deck) i i 0 (simp (length-map, length-take) (omega arith)) (omega arith)
      ∙ get_or-drop i deck (i - i) 0 ∙ ap (λ (k : ℕ). get_or deck k 0) (omega arith)

  pub lock_next : (ys : List ℕ) (v : ℕ) → Lawful m key → deck_answer m 0 deck ≡ Ok tt → i < length deck → length ys ≡ length deck → ys ≡ locked_to m key deck i
      → v ≡ result_unwrap_or (lock_answer m key (get_or ys i 0)) 0 → set ys i v ≡ locked_to m key deck (i + 1)
  lock_next ys v lawful values h same so_far locked =
      let read : get_or ys i 0 ≡ get_or deck i 0 = ap (λ (zs : List ℕ). get_or zs i 0) so_far ∙ next_value h in
      let passes = lock_passes m key (get_or deck i 0) lawful (values_all m 0 deck values i h) in
      let is : v ≡ m.lock key (get_or ys i 0) = locked ∙ ap (λ (x : ℕ). result_unwrap_or (lock_answer m key x) 0) read ∙ ap (λ r. result_unwrap_or r 0) passes ∙ ap (m.lock key) (sym read) in
      ap (set ys i) is ∙ map_over_more (m.lock key) deck ys i (get_or ys i 0) h so_far (get_or_default ys i 0 (get_or ys i 0) (omega arith))

-- rearranged by an order, values stay values
pub rearranged_values : (m : CipherMeaning) (deck order : List ℕ) → length order ≡ length deck → Permutation order → deck_answer m 0 deck ≡ Ok tt → deck_answer m 0 (rearranged 0 deck order) ≡ Ok tt
rearranged_values m deck order same perm values =
    all_values m 0 (rearranged 0 deck order)
    (λ i below.
    let place : i < length order = omega (arith, rearranged_length 0 deck order) in
    let inside = permutation_within order perm i place in
    subst (Value m) (sym (rearranged_at 0 0 deck order i place)) (values_all m 0 deck values (get_or order i 0) (omega arith)))

-- locking after rearranging is an honest lock
pub locked_rearranged : (m : CipherMeaning) (key : ℕ) (deck order : List ℕ) → map (m.lock key) (rearranged 0 deck order) ≡ locked_deck m key order deck
locked_rearranged m key deck [] = refl
locked_rearranged m key deck (o ∷ os) = ap (λ (xs : List ℕ). m.lock key (get_or deck o 0) ∷ xs) (locked_rearranged m key deck os)
