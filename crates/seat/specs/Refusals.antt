-- What a seat makes of the fault of an order, and the number of each refusal with what is returned with it.
use Rattle.refusal.specs.declared.Refusal.{Refusal}
use Rattle.refusal.specs.Refused.{refused, refused_with}
use Rattle.cipher.specs.Refusals as cipher
use Rattle.permutation.specs.declared.fault.OrderFault.{OrderFault}
use Rattle.permutation.specs.declared.fault.OrderFault.TheVariants as order
use Rattle.seat.specs.declared.fault.SeatFault.{SeatFault}
use Rattle.seat.specs.declared.fault.SeatFault.TheVariants.{WrongLength, NotOrder, UnfitGenerator, Cipher}

abbrev pub fault_of_order : OrderFault → SeatFault
fault_of_order (order.WrongLength length) = WrongLength length
fault_of_order order.NotOrder = NotOrder

abbrev pub refusal_of : SeatFault → Refusal
refusal_of (WrongLength length) = refused_with 4 length
refusal_of NotOrder = refused 17
refusal_of UnfitGenerator = refused_with 20 0
refusal_of (Cipher fault) = cipher.refusal_of fault
