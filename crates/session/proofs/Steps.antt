-- What an honest step of the cipher tells of its value.
use Rattle.std.proofs.Common.{◌≡◌, ℕ, zero, suc, ◌<◌, Bool, true, Ok, Err, Result, sym, refl, ap, ◌∙◌, subst, inl, inr, arith}
use Rattle.std.proofs.lemmas.Bool.{false≢true, eqb-true, and_parts, cases_eq}
use Rattle.cipher.specs.Cipher.{CipherMeaning}
use Rattle.cipher.specs.Answers.{lock_answer, undo_answer, code_answer, under_undo, unlock_answer}
use Rattle.cipher.specs.declared.fault.CipherFault.{CipherFault}
use Rattle.cipher.proofs.Answers.{lock_passed, undo_passed, code_passed}
use Rattle.verdict.specs.Honesty.{gives, all_below, is_code, honest_show}

-- a test that all numbers below n pass
pub below_passed : (n : ℕ) (test : ℕ → Bool) → all_below n test ≡ true → (i : ℕ) → i < n → test i ≡ true
below_passed zero test all i below = absurd (omega arith)
below_passed (suc n) test all i below =
    let parts = and_parts (test n) (all_below n test) all in
    elim (cases_eq i n) [
      | inl h ↦ ap test h ∙ parts.0
      | inr h ↦ below_passed n test parts.1 i (omega arith)
    ]

-- a step that gives v was not refused
gives_ok : (r : Result ℕ CipherFault) (v : ℕ) → gives r v ≡ true → Ok v ≡ r
gives_ok (Ok w) v given = ap Ok (sym (eqb-true w v given))
gives_ok (Err fault) v given = absurd (false≢true given)

module _ (m : CipherMeaning) where
  -- a lock put on
  pub lock_gives : (k v w : ℕ) → gives (lock_answer m k v) w ≡ true → w ≡ m.lock k v
  lock_gives k v w given = (lock_passed m k v w (gives_ok (lock_answer m k v) w given)).2

  unlock_by : (k v w : ℕ) (r : Result ℕ CipherFault) → r ≡ undo_answer m k
      → gives (under_undo m r v) w ≡ true → w ≡ m.lock (m.undo k) v
  unlock_by k v w (Ok u) is given = lock_gives u v w given ∙ ap (λ (j : ℕ). m.lock j v) (undo_passed m k u is).1
  unlock_by k v w (Err fault) is given = absurd (false≢true given)

  -- a lock taken off
  pub unlock_gives : (k v w : ℕ) → gives (unlock_answer m k v) w ≡ true → w ≡ m.lock (m.undo k) v
  unlock_gives k v w given = unlock_by k v w (undo_answer m k) refl given

  code_by : (c : ℕ) (r opened : Result ℕ CipherFault) → r ≡ code_answer m c
      → is_code m r opened ≡ true → gives opened (m.code c) ≡ true
  code_by c (Ok code) opened is given = subst (λ (v : ℕ). gives opened v ≡ true) (code_passed m c code is).1 given
  code_by c (Err fault) opened is given = absurd (false≢true given)

  -- a card shown: its code is the value with the lock taken off
  pub show_gives : (k v c : ℕ) → honest_show m k v c ≡ true → m.code c ≡ m.lock (m.undo k) v
  show_gives k v c given = unlock_gives k v (m.code c) (code_by c (code_answer m c) (unlock_answer m k v) refl given)
