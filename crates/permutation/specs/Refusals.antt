-- The number of each refusal of an order, and what is returned with it.
use Rattle.refusal.specs.declared.Refusal.{Refusal}
use Rattle.refusal.specs.Refused.{refused, refused_with}
use Rattle.permutation.specs.declared.fault.OrderFault.{OrderFault}
use Rattle.permutation.specs.declared.fault.OrderFault.TheVariants.{WrongLength, NotOrder}

abbrev pub refusal_of : OrderFault → Refusal
refusal_of (WrongLength length) = refused_with 4 length
refusal_of NotOrder = refused 17
