-- The generator seat: key and order from one start, by Park and Miller's generator (1988).
use Rattle.std.specs.Prelude.{ℕ, zero, suc, ◌-◌, ◌*◌, ◌%◌, Bool, cond, ◌&&◌, List, Ok, Err, Result, nat_le, nat_lt}
use Rattle.std.specs.List.{swap}
use Rattle.cipher.specs.Cipher.{CipherMeaning}
use Rattle.permutation.specs.Permutation.{upto}
use Rattle.seat.specs.Seat.{SeatMeaning}
use Rattle.seat.specs.declared.fault.SeatFault.{SeatFault}
use Rattle.seat.specs.declared.fault.SeatFault.TheVariants.{UnfitGenerator}

-- the number drawn after z, which is the next z
abbrev pub drawn : ℕ → ℕ
drawn z = 16807 * z % 2147483647

-- the first number from k on that passes the test, n steps up at the most
unfoldable pub climbed : (ℕ → Bool) → ℕ → ℕ → ℕ
climbed test zero k = k
climbed test (suc n) k = cond (test k) k (climbed test n (suc k))

-- the next lawful key from a number on, or from 1 on if that is above the last key; the last key is lawful, so there is one
abbrev pub lawful_from : CipherMeaning → ℕ → ℕ
lawful_from m number = let first = cond (nat_lt m.last_key number) 1 number in climbed m.lawful (m.last_key - first) first

-- the key comes from the first number drawn
abbrev pub generator_key : ℕ → CipherMeaning → ℕ
generator_key z m = lawful_from m (drawn z)

-- for each place from i down to 1: it changes places with the one that the next number drawn, modulo the places up to it, tells
unfoldable pub shuffled : ℕ → ℕ → List ℕ → List ℕ
shuffled zero z order = order
shuffled (suc i) z order = shuffled i (drawn z) (swap order (suc i) (drawn z % suc (suc i)))

-- the numbers that follow the first one shuffle 0, 1, 2 and so on
abbrev pub generator_order : ℕ → ℕ → List ℕ
generator_order z size = shuffled (size - 1) (drawn z) (upto size)

-- a start from 1 to 2147483646 and a size from 2 to 52
abbrev pub fit : ℕ → ℕ → Bool
fit z size = nat_le 1 z && (nat_le z 2147483646 && (nat_le 2 size && nat_le size 52))

abbrev pub generator_seat : ℕ → ℕ → SeatMeaning
generator_seat z size = record { size = size; order = generator_order z size; key = generator_key z }

abbrev pub generator_answer : ℕ → ℕ → Result SeatMeaning SeatFault
generator_answer z size = cond (fit z size) (Ok (generator_seat z size)) (Err UnfitGenerator)
