-- The worked examples, in one proposition.
use Rattle.std.specs.Prelude.{◌≡◌, ℕ, Ok, Err}
use Rattle.cipher.specs.Cipher.{CipherMeaning}
use Rattle.cipher.specs.Answers.{lock_answer, undo_answer, code_answer}
use Rattle.cipher.specs.declared.fault.CipherFault.TheVariants.{UnlawfulKey}
use Rattle.power.specs.PowerCipher.{power_cipher}
use Rattle.prime.specs.Prime.{prime_field}
use Rattle.binary.specs.Binary.{binary_field}
use Rattle.worked.specs.Hand.{WorkedHand}

abbrev pub prime_cipher : CipherMeaning
prime_cipher = power_cipher prime_field

abbrev pub binary_cipher : CipherMeaning
binary_cipher = power_cipher binary_field

pub record Worked : Type 0 where
  -- over the prime field: 49 under 5, and under 5 again; the undo key takes a lock off
  pub prime_lock : lock_answer prime_cipher 5 49 ≡ Ok 282475249
  pub prime_second_lock : lock_answer prime_cipher 5 282475249 ≡ Ok 2007237709
  pub prime_undo_key : undo_answer prime_cipher 5 ≡ Ok 1717986917
  pub prime_unlock : lock_answer prime_cipher 1717986917 282475249 ≡ Ok 49
  -- the inverse of 5 modulo the prime itself, and not its order, is no undo key
  pub prime_wrong_undo : undo_answer prime_cipher 5 ≡ Ok 858993459 → ⊥
  -- 7 divides the order, so it is no key
  pub prime_key_refused : (v : ℕ) → lock_answer prime_cipher 7 v ≡ Err (UnlawfulKey 7)
  pub prime_undo_refused : undo_answer prime_cipher 7 ≡ Err (UnlawfulKey 7)
  -- over the binary field
  pub binary_code : code_answer binary_cipher 30 ≡ Ok 9
  pub binary_undo_key : undo_answer binary_cipher 7 ≡ Ok 1840700269
  pub binary_lock : lock_answer binary_cipher 2 1073741824 ≡ Ok 536870930
  -- a whole hand
  pub prime_hand : WorkedHand prime_cipher
