-- What each kind of seat means.
use Rattle.std.specs.Prelude.{vec_items, vec_len}
use Rattle.seat.specs.Seat.{SeatMeaning}
use Rattle.seat.specs.Generator.{generator_seat}
use Rattle.seat.specs.declared.keyed.KeyedSeat.{KeyedSeat}
use Rattle.seat.specs.declared.generator.GeneratorSeat.{GeneratorSeat}
use Rattle.seat.specs.declared.any.AnySeat.{AnySeat}
use Rattle.seat.specs.declared.any.AnySeat.TheVariants.{Keyed, Generator}

abbrev pub keyed_meaning : KeyedSeat → SeatMeaning
keyed_meaning s = record { size = vec_len s.order; order = vec_items s.order; key = λ _. s.key }

abbrev pub generator_meaning : GeneratorSeat → SeatMeaning
generator_meaning s = generator_seat s.start s.size

abbrev pub any_meaning : AnySeat → SeatMeaning
any_meaning (Keyed s) = keyed_meaning s
any_meaning (Generator s) = generator_meaning s
