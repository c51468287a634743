-- The card that is found is the first whose code is the value, and where none is found no card's is.
use Rattle.std.proofs.Common.{rules, ◌≡◌, ℕ, ◌<◌, ◌≤◌, Bool, true, false, eqb, Ok, Some, None, Option, arith}
use Rattle.std.specs.Option.{MatchOption}
use Rattle.std.specs.Result.{result_eq}
use Rattle.std.proofs.lemmas.Bool.Decides.{nat_tests}
use Rattle.std.proofs.lemmas.Iterator.{first_from_Range}
use Rattle.cipher.specs.Cipher.{CipherMeaning}
use Rattle.cipher.specs.Answers.{code_answer, Reads}
use Rattle.cipher.specs.declared.fault.CipherFault.{CipherFault}
use Rattle.cipher.proofs.read_card.Goals as goal

module _ (m : CipherMeaning) (v : ℕ) where
  abbrev IsNot : ℕ → Type 0
  IsNot card = card < 52 → m.code card ≡ v → ⊥

  module _ (same : CipherFault → CipherFault → Bool) (card : ℕ) where
    is_code : true ≡ result_eq eqb same (code_answer m card) (Ok v) → m.code card ≡ v
    is_code h = grind (arith, nat_tests)

    is_no_code : false ≡ result_eq eqb same (code_answer m card) (Ok v) → IsNot card
    is_no_code h below e = grind (arith, nat_tests)

  reads : (r : Option ℕ)
      → MatchOption r ((k : ℕ) → 0 ≤ k → k < 52 → IsNot k) (λ card. (0 ≤ card) × (card < 52) × (m.code card ≡ v) × ((k : ℕ) → 0 ≤ k → k < card → IsNot k))
      → Reads m v r
  reads (Some card) h = (h.1, h.2)
  reads None h = λ card below. h card (omega arith) below below

pub returns : goal.returns
returns g c =
    let m = g.C.Cipher.meaning c.args.cipher.now in
    let v = c.args.value in
    reads m v c.find.result
    (first_from_Range (record { start = 0; end = 52 }) _ _ c.find.result (λ card. m.code card ≡ v) (IsNot m v) c.find.ensures.ran
    (λ x q k. search (rules, is_code)) (λ x q k. (search rules, search (rules, is_no_code))))
