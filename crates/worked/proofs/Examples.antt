-- Each worked example, by computation.
use Rattle.std.proofs.Common.{◌≡◌, ℕ, sym, refl, subst, arith}
use Rattle.power.proofs.Computing.{raised, undo_computed, lock_computed, undo_refused, lock_refused, code_computed, works_out}
use Rattle.power.specs.PowerCipher.{power_cipher}
use Rattle.prime.specs.Prime.{prime_field}
use Rattle.prime.specs.Laws.{prime_laws}
use Rattle.binary.specs.Carryless.{horner}
use Rattle.binary.specs.Binary.{binary_field, binary_times, times_x, folded}
use Rattle.binary.specs.Laws.{binary_laws}
use Rattle.worked.specs.Hand.{WorkedHand}
use Rattle.worked.specs.Worked.{Worked}

-- the hand, by the cipher worked out at the key 5
hand_holds : WorkedHand (power_cipher prime_field)
unfolding raised
hand_holds =
    subst WorkedHand (sym (works_out prime_field prime_laws 5 1717986917 refl refl))
    (record { first_lock = refl; second_lock = refl; composed_order = refl; clean = refl; not_clean = refl })

pub worked : Worked
unfolding raised binary_times horner times_x folded
worked = record {
  prime_lock = lock_computed prime_field prime_laws 5 1717986917 refl 49 refl;
  prime_second_lock = lock_computed prime_field prime_laws 5 1717986917 refl 282475249 refl;
  prime_undo_key = undo_computed prime_field prime_laws 5 1717986917 refl;
  prime_unlock = lock_computed prime_field prime_laws 1717986917 5 refl 282475249 refl;
  prime_wrong_undo = λ wrong. let same : ◌≡◌ {A = ℕ} 1717986917 858993459 = cc (undo_computed prime_field prime_laws 5 1717986917 refl) in omega arith;
  prime_key_refused = lock_refused prime_field prime_laws 7 7 (omega arith) (omega arith) refl;
  prime_undo_refused = undo_refused prime_field prime_laws 7 7 (omega arith) (omega arith) refl;
  binary_code = code_computed binary_field binary_laws 30 (omega arith);
  binary_undo_key = undo_computed binary_field binary_laws 7 1840700269 refl;
  binary_lock = lock_computed binary_field binary_laws 2 1073741824 refl 1073741824 refl;
  prime_hand = hand_holds;
}
