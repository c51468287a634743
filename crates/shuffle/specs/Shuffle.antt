-- What two seats make of a deck of codes, and what is asked of them for that.
use Rattle.std.specs.Prelude.{◌≡◌, ℕ, cond, List, map, Ok, Err, Option, Result, IsOkAnd, MatchResult, ◌==◌}
use Rattle.cipher.specs.Answers.{Reads}
use Rattle.cipher.specs.Cipher.{CipherMeaning, Lawful}
use Rattle.cipher.specs.Decks.{locked_deck}
use Rattle.cipher.specs.declared.fault.CipherFault.TheVariants.{UnlawfulKey}
use Rattle.permutation.specs.Permutation.{upto}
use Rattle.seat.specs.Seat.{SeatMeaning}
use Rattle.seat.specs.Answers.{unlock_answer}
use Rattle.seat.specs.declared.fault.SeatFault.{SeatFault}
use Rattle.seat.specs.declared.fault.SeatFault.TheVariants.{WrongLength, Cipher}

-- the deck of codes after one seat
abbrev pub locked_once : CipherMeaning → SeatMeaning → ℕ → List ℕ
locked_once m s size = locked_deck m (s.key m) s.order (map m.code (upto size))

module _ (m : CipherMeaning) (s t : SeatMeaning) where
  -- and after two, first s and then t
  abbrev pub locked_twice : ℕ → List ℕ
  locked_twice size = locked_deck m (t.key m) t.order (locked_once m s size)

  -- both play with this many cards, under lawful keys
  pub record Ready (size : ℕ) : Type 0 where
    pub first_sized : size ≡ s.size
    pub first_lawful : Lawful m (s.key m)
    pub second_sized : size ≡ t.size
    pub second_lawful : Lawful m (t.key m)

  -- the first seat takes its lock off the value and then the second, and the card is read, or it is refused as the first refusal tells
  abbrev pub Opens : ℕ → Result (Option ℕ) SeatFault → Type 0
  Opens v r =
      MatchResult (unlock_answer m s v)
      (λ shared. MatchResult (unlock_answer m t shared) (λ code. IsOkAnd r (λ card. Reads m code card)) (λ fault. r ≡ Err fault))
      (λ fault. r ≡ Err fault)

  -- refused as the first seat refuses, and then as the second
  abbrev pub opened_answer : ℕ → Result (Unit {0}) SeatFault
  opened_answer size =
      cond (size == s.size)
      (cond (m.lawful (s.key m))
      (cond (size == t.size)
      (cond (m.lawful (t.key m)) (Ok tt) (Err (Cipher (UnlawfulKey (t.key m)))))
      (Err (WrongLength size)))
      (Err (Cipher (UnlawfulKey (s.key m)))))
      (Err (WrongLength size))
