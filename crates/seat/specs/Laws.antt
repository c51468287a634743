-- Why the seats of each kind keep the laws.
use Rattle.std.proofs.Common.{sym}
use Rattle.seat.specs.Seat.{SeatLaws}
use Rattle.seat.specs.Kinds.{keyed_meaning, generator_meaning, any_meaning}
use Rattle.seat.specs.Generating.{generator_laws}
use Rattle.seat.specs.declared.keyed.KeyedSeat.{KeyedSeat}
use Rattle.seat.specs.declared.generator.GeneratorSeat.{GeneratorSeat}
use Rattle.seat.specs.declared.any.AnySeat.{AnySeat}
use Rattle.seat.specs.declared.any.AnySeat.TheVariants.{Keyed, Generator}

pub keyed_laws : (s : KeyedSeat) → SeatLaws (keyed_meaning s)
keyed_laws s = record { few = s.few; sized = sym s.order.ok.0; ordered = s.ordered }

pub drawn_laws : (s : GeneratorSeat) → SeatLaws (generator_meaning s)
drawn_laws s = generator_laws s.start s.size s.fits

pub any_laws : (s : AnySeat) → SeatLaws (any_meaning s)
any_laws (Keyed s) = keyed_laws s
any_laws (Generator s) = drawn_laws s
