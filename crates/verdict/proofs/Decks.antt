-- Reading the deck that lies after a number of locks.
use Rattle.std.proofs.Common.{◌≡◌, ℕ, ◌-◌, ◌<◌, ◌≤◌, eqb, ltb, List, get_or, Ok, sym, ap, ◌∙◌, zero-add, arith}
use Rattle.std.proofs.lemmas.List.FromFn.{length-range_with_len, get_or-range_with_len}
use Rattle.std.proofs.lemmas.List.{get_or-map, get_or_past, length-map}
use Rattle.std.proofs.lemmas.Bool.{cond_both, cond-true, eq-eqb, lt-ltb}
use Rattle.cipher.specs.Cipher.{CipherMeaning}
use Rattle.cipher.specs.Answers.{code_answer}
use Rattle.permutation.specs.Permutation.{upto}
use Rattle.table.specs.State.{State}
use Rattle.verdict.specs.Honesty.{first_deck}
use Rattle.verdict.specs.Forward.{deck_after}
use Rattle.verdict.proofs.Parts.{part_past}

module _ (m : CipherMeaning) (D i : ℕ) where
  first_deck_at : i < D → get_or (first_deck m D) i 0 ≡ m.code i
  first_deck_at h = get_or-map m.code (upto D) i 0 0 (omega (arith, length-range_with_len 0 D)) ∙ ap m.code (get_or-range_with_len 0 D i 0 h ∙ zero-add i)

  first_deck_past : D ≤ i → get_or (first_deck m D) i 0 ≡ 0
  first_deck_past h = get_or_past (first_deck m D) i 0 (omega (arith, length-map (upto D) m.code, length-range_with_len 0 D))

module _ (m : CipherMeaning) (t : State) (n i : ℕ) where
  pub deck_past : t.cards ≤ i → get_or (deck_after m t n) i 0 ≡ 0
  deck_past h = cond_both (eqb n 0) _ _ (λ deck. get_or deck i 0 ≡ 0) (λ _. first_deck_past m t.cards i h) (λ _. part_past t.cards (n - 1) i t.decks 0 h)

  -- before the first lock each card has its code
  pub code_at : n ≡ 0 → i < t.cards → t.cards ≤ 52 → code_answer m i ≡ Ok (get_or (deck_after m t n) i 0)
  code_at none h few =
      cond-true (ltb i 52) _ _ (lt-ltb i 52 (omega arith))
      ∙ ap Ok (sym (ap (λ (deck : List ℕ). get_or deck i 0) (cond-true (eqb n 0) _ _ (eq-eqb n 0 none)) ∙ first_deck_at m t.cards i h))
