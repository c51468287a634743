-- What rearranging gives at each place, and what it is accepted for.
use Rattle.std.proofs.Common.{◌≡◌, ℕ, ◌<◌, true, List, length, get_or, Ok, sym, ◌∙◌, arith}
use Rattle.std.proofs.lemmas.List.{length-map, get_or-map, get_or_default, same_lists}
use Rattle.std.proofs.lemmas.Bool.Decides.{nat_tests}
use Rattle.permutation.specs.Answer.{rearrange_answer}
use Rattle.permutation.specs.Permutation.{permutes, Permutation, Within, rearranged}
use Rattle.permutation.proofs.Permutations.{permutes_decides}

module _ {A : Type 0} where
  pub rearranged_length : (d : A) (xs : List A) (o : List ℕ) → length (rearranged d xs o) ≡ length o
  rearranged_length d xs o = length-map o (λ i. get_or xs i d)

  pub rearranged_at : (d e : A) (xs : List A) (o : List ℕ) (i : ℕ) → i < length o → get_or (rearranged d xs o) i e ≡ get_or xs (get_or o i 0) d
  rearranged_at d e xs o i h = get_or-map (λ k. get_or xs k d) o i 0 e h

  -- what stands for the outside does not matter where the order keeps within the list
  pub rearranged_any : (d e : A) (xs : List A) (o : List ℕ) → Within (length xs) o → rearranged d xs o ≡ rearranged e xs o
  rearranged_any d e xs o w =
      same_lists (rearranged d xs o) (rearranged e xs o) (rearranged_length d xs o ∙ sym (rearranged_length e xs o))
      (λ i c h. let b : i < length o = omega (arith, rearranged_length d xs o) in
      rearranged_at d c xs o i b ∙ get_or_default xs (get_or o i 0) d e (w i b) ∙ sym (rearranged_at e c xs o i b))

pub accepted : (listed targeted : ℕ) (o : List ℕ) → Ok tt ≡ rearrange_answer listed o targeted → (listed ≡ length o) × (targeted ≡ length o) × Permutation o
accepted listed targeted o e =
    let p : permutes o ≡ true = grind (arith, nat_tests) in
    (grind (arith, nat_tests), grind (arith, nat_tests), (permutes_decides o).0 p)
