-- What a shuffle of five cards shows: its two seats are the generator seats of start 1 and of start 2.
use Rattle.std.specs.Prelude.{[], ◌∷◌, map}
use Rattle.cipher.specs.Cipher.{CipherMeaning}
use Rattle.permutation.specs.Permutation.{composed, upto}
use Rattle.seat.specs.Seat.{SeatMeaning}
use Rattle.seat.specs.Generator.{generator_seat}
use Rattle.shuffle.specs.Shuffle.{locked_once, locked_twice}
use Rattle.shuffle.specs.declared.steps.Steps.{Steps}

abbrev pub first_seat : SeatMeaning
first_seat = generator_seat 1 5

abbrev pub second_seat : SeatMeaning
second_seat = generator_seat 2 5

abbrev pub steps_of : CipherMeaning → Steps
steps_of m =
    record {
      keys = (first_seat.key m, second_seat.key m);
      orders = (first_seat.order, second_seat.order);
      codes = map m.code (upto 5);
      once = locked_once m first_seat 5;
      twice = locked_twice m first_seat second_seat 5;
      cards = composed 5 (first_seat.order ∷ second_seat.order ∷ []);
      composed = composed 5 (first_seat.order ∷ second_seat.order ∷ []);
    }
