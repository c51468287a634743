-- What an answer of a cipher tells of what was asked.
use Rattle.std.proofs.Common.{◌≡◌, ℕ, ◌<◌, false, Ok, Err, arith}
use Rattle.std.proofs.lemmas.Bool.Decides.{nat_tests}
use Rattle.cipher.specs.Cipher.{CipherMeaning, Value, Lawful}
use Rattle.cipher.specs.Answers.{lock_answer, undo_answer, code_answer}
use Rattle.cipher.specs.declared.fault.CipherFault.{CipherFault}
use Rattle.cipher.specs.declared.fault.CipherFault.TheVariants.{UnlawfulKey}

module _ (m : CipherMeaning) where
  pub lock_passed : (k v w : ℕ) → Ok w ≡ lock_answer m k v → Lawful m k × Value m v × (w ≡ m.lock k v)
  lock_passed k v w h = (grind arith, grind arith, grind arith)

  pub undo_passed : (k d : ℕ) → Ok d ≡ undo_answer m k → Lawful m k × (d ≡ m.undo k)
  undo_passed k d h = (grind arith, grind arith)

  pub code_passed : (c v : ℕ) → Ok v ≡ code_answer m c → (c < 52) × (v ≡ m.code c)
  code_passed c v h = (grind (arith, nat_tests), grind arith)

  -- a refusal of a value is that of its key
  pub lock_failed : (k v : ℕ) (e : CipherFault) → Err e ≡ lock_answer m k v → Value m v → (m.lawful k ≡ false) × (e ≡ UnlawfulKey k)
  lock_failed k v e h t = (grind arith, grind arith)

  pub lock_passes : (k v : ℕ) → Lawful m k → Value m v → lock_answer m k v ≡ Ok (m.lock k v)
  lock_passes k v l t = grind arith
