-- What a seat answers, with its refusals in their order, and what it leaves in a target.
use Rattle.std.specs.Prelude.{ℕ, cond, ◌&&◌, List, length, replicate, Ok, Err, Result, ◌==◌, nat_le}
use Rattle.cipher.specs.Cipher.{CipherMeaning}
use Rattle.cipher.specs.Decks.{deck_answer}
use Rattle.cipher.specs.declared.fault.CipherFault.{CipherFault}
use Rattle.cipher.specs.declared.fault.CipherFault.TheVariants.{NotValue, UnlawfulKey}
use Rattle.permutation.specs.Permutation.{permutes}
use Rattle.seat.specs.Seat.{SeatMeaning}
use Rattle.seat.specs.declared.fault.SeatFault.{SeatFault}
use Rattle.seat.specs.declared.fault.SeatFault.TheVariants.{WrongLength, NotOrder, Cipher}

-- a cipher's fault goes up whole
abbrev pub raised : {A : Type 0} → Result A CipherFault → Result A SeatFault
raised (Ok a) = Ok a
raised (Err e) = Err (Cipher e)

-- a target of another length than the seat's size is refused
abbrev pub order_answer : ℕ → ℕ → Result (Unit {0}) SeatFault
order_answer size target = cond (target == size) (Ok tt) (Err (WrongLength target))

-- accepted, a target holds what was asked for, and refused, blanks
abbrev pub filled : {E : Type 0} → Result (Unit {0}) E → List ℕ → ℕ → ℕ → List ℕ
filled (Ok a) wanted blank length = wanted
filled (Err e) wanted blank length = replicate length blank

-- the deck's length, the target's, the key, and then the values of the deck from place 0 on
abbrev pub lengths_then_key : CipherMeaning → ℕ → ℕ → List ℕ → ℕ → Result (Unit {0}) SeatFault
lengths_then_key m key size deck target =
    cond (length deck == size)
    (cond (target == size) (cond (m.lawful key) (raised (deck_answer m 0 deck)) (Err (Cipher (UnlawfulKey key)))) (Err (WrongLength target)))
    (Err (WrongLength (length deck)))

module _ (m : CipherMeaning) (s : SeatMeaning) where
  abbrev pub lock_answer : List ℕ → ℕ → Result (Unit {0}) SeatFault
  lock_answer deck target = lengths_then_key m (s.key m) s.size deck target

  -- the lock of the seat is taken off one value
  abbrev pub unlock_answer : ℕ → Result ℕ SeatFault
  unlock_answer v =
      cond (m.lawful (s.key m))
      (cond (m.value v) (Ok (m.lock (m.undo (s.key m)) v)) (Err (Cipher (NotValue 0 v))))
      (Err (Cipher (UnlawfulKey (s.key m))))

-- what a call that makes a seat made, by the seat's meaning
abbrev pub told : {S : Type 0} → (S → SeatMeaning) → Result S SeatFault → Result SeatMeaning SeatFault
told meaning (Ok s) = Ok (meaning s)
told meaning (Err e) = Err e

-- an order of 2 to 52 places, and any key
abbrev pub keyed_answer : ℕ → List ℕ → Result SeatMeaning SeatFault
keyed_answer key order =
    cond (nat_le 2 (length order) && nat_le (length order) 52)
    (cond (permutes order) (Ok (record { size = length order; order = order; key = λ _. key })) (Err NotOrder))
    (Err (WrongLength (length order)))
