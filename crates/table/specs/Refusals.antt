-- The number of each refusal of a table, and what is returned with it.
use Rattle.refusal.specs.declared.Refusal.{Refusal}
use Rattle.refusal.specs.Refused.{refused, refused_with}
use Rattle.cipher.specs.Refusals as cipher
use Rattle.table.specs.Phases.{phase_number}
use Rattle.table.specs.declared.fault.TableFault.{TableFault}
use Rattle.table.specs.declared.fault.TableFault.TheVariants.{NoMemory, WrongPhase, NoSeat, OtherTurn, WrongLength, NoPlace, PlaceTaken, DrawRunning, NoDrawRunning, OwnShare, SecondShare, NotDealt, AlreadyShown, NoCard, AlreadyDisclosed, NotOrder, FewDisclosures, OutsideLimits, Cipher}

abbrev pub refusal_of : TableFault → Refusal
refusal_of NoMemory = refused 0
refusal_of (WrongPhase phase) = refused_with 1 (phase_number phase)
refusal_of (NoSeat seat) = refused_with 2 seat
refusal_of (OtherTurn due) = refused_with 3 due
refusal_of (WrongLength length) = refused_with 4 length
refusal_of (NoPlace place) = refused_with 6 place
refusal_of (PlaceTaken place) = refused_with 7 place
refusal_of (DrawRunning draw) = refused_with 8 draw
refusal_of NoDrawRunning = refused 9
refusal_of (OwnShare seat) = refused_with 10 seat
refusal_of (SecondShare seat) = refused_with 11 seat
refusal_of (NotDealt draw) = refused_with 12 draw
refusal_of (AlreadyShown draw) = refused_with 13 draw
refusal_of (NoCard card) = refused_with 14 card
refusal_of (AlreadyDisclosed seat) = refused_with 15 seat
refusal_of NotOrder = refused 17
refusal_of (FewDisclosures count) = refused_with 18 count
refusal_of OutsideLimits = refused 19
refusal_of (Cipher seat fault) = cipher.refusal_of fault
