-- Which moves are accepted after those that a view shows, and how the others are refused.
use Rattle.std.specs.Prelude.{ℕ, ◌-◌, Bool, true, false, cond, not, ◌&&◌, List, length, Ok, Err, Result, ◌==◌, nat_le, nat_lt}
use Rattle.cipher.specs.Cipher.{CipherMeaning}
use Rattle.cipher.specs.Decks.{deck_answer}
use Rattle.cipher.specs.declared.fault.CipherFault.{CipherFault}
use Rattle.cipher.specs.declared.fault.CipherFault.TheVariants.{NotValue, UnlawfulKey}
use Rattle.permutation.specs.Permutation.{permutes}
use Rattle.table.specs.Phases.{phase_number}
use Rattle.table.specs.State.{State, Move, lock, draw, share, abandon, close, show, disclose, is_running, is_dealt, phase_after, next}
use Rattle.table.specs.View.{View, view_of}
use Rattle.table.specs.declared.record.Phase.{Phase}
use Rattle.table.specs.declared.record.Phase.TheVariants.{Locking, Dealing, Showdown, Audit}
use Rattle.table.specs.declared.fault.TableFault.{TableFault}
use Rattle.table.specs.declared.fault.TableFault.TheVariants.{WrongPhase, NoSeat, OtherTurn, WrongLength, NoPlace, PlaceTaken, DrawRunning, NoDrawRunning, OwnShare, SecondShare, NotDealt, AlreadyShown, NoCard, AlreadyDisclosed, NotOrder, FewDisclosures, Cipher}

-- the answer to a move: the number of the entry that it makes, or of the phase that it begins
abbrev pub Answer : Type 0
Answer = Result ℕ TableFault

-- a check, the refusal where it fails, and what follows where it does not
abbrev pub check : Bool → TableFault → Answer → Answer
check passed fault then = cond passed then (Err fault)

-- a cipher's fault goes up whole, with the seat
abbrev pub seated : ℕ → Result (Unit {0}) CipherFault → Answer → Answer
seated seat (Ok tt) then = then
seated seat (Err fault) then = Err (Cipher seat fault)

-- the phases that a close ends
abbrev pub closable : Phase → Bool
closable Locking = false
closable Dealing = true
closable Showdown = true
closable Audit = false

-- the phases that a move belongs to
abbrev pub belongs : Move → Phase → Bool
belongs (lock s deck) phase = phase_number phase == 0
belongs (draw s p) phase = phase_number phase == 1
belongs (share s v) phase = phase_number phase == 1
belongs abandon phase = phase_number phase == 1
belongs close phase = closable phase
belongs (show d c) phase = phase_number phase == 2
belongs (disclose s k o) phase = phase_number phase == 3

-- the checks of each move in its phase, in their order
module _ (v : View) where
  -- the number of the last draw: no other can be running
  abbrev pub last : ℕ
  last = v.draws - 1

  abbrev pub runs : Bool
  runs = is_running (v.end last)

  abbrev pub entry : Answer
  entry = Ok v.entries

  abbrev pub lock_rules : CipherMeaning → ℕ → List ℕ → Answer
  lock_rules m s deck =
      check (nat_lt s v.seats) (NoSeat s)
      (check (s == v.locked) (OtherTurn v.locked)
      (check (length deck == v.cards) (WrongLength (length deck))
      (seated s (deck_answer m 0 deck) entry)))

  abbrev pub draw_rules : ℕ → ℕ → Answer
  draw_rules s p =
      check (not runs) (DrawRunning last)
      (check (nat_lt s v.seats) (NoSeat s)
      (check (nat_lt p v.cards) (NoPlace p)
      (check (not (v.taken p)) (PlaceTaken p) entry)))

  abbrev pub share_rules : CipherMeaning → ℕ → ℕ → Answer
  share_rules m s value =
      check runs NoDrawRunning
      (check (nat_lt s v.seats) (NoSeat s)
      (check (not (s == v.drawer last)) (OwnShare s)
      (check (not (v.has_shared last s)) (SecondShare s)
      (check (m.value value) (Cipher s (NotValue 0 value)) entry))))

  abbrev pub abandon_rules : Answer
  abandon_rules = check runs NoDrawRunning entry

  abbrev pub close_rules : Answer
  close_rules = check (not runs) (DrawRunning last) (Ok (phase_number (phase_after v.phase)))

  abbrev pub show_rules : ℕ → ℕ → Answer
  show_rules d c =
      check (is_dealt (v.end d)) (NotDealt d)
      (check (not (v.shown d)) (AlreadyShown d)
      (check (nat_lt c v.cards) (NoCard c) entry))

  abbrev pub disclose_rules : CipherMeaning → ℕ → ℕ → List ℕ → Answer
  disclose_rules m s k o =
      check (nat_lt s v.seats) (NoSeat s)
      (check (not (v.has_disclosed s)) (AlreadyDisclosed s)
      (check (m.lawful k) (Cipher s (UnlawfulKey k))
      (check (length o == v.cards) (WrongLength (length o))
      (check (permutes o) NotOrder entry))))

  -- an audit, a question in phase 3 when every seat has disclosed, has the answer given
  abbrev pub audit_rules : {A : Type 0} → A → Result A TableFault
  audit_rules verdict =
      cond (phase_number v.phase == 3)
      (cond (nat_le v.seats v.disclosures) (Ok verdict) (Err (FewDisclosures v.disclosures)))
      (Err (WrongPhase v.phase))

abbrev pub rules : CipherMeaning → View → Move → Answer
rules m v (lock s deck) = lock_rules v m s deck
rules m v (draw s p) = draw_rules v s p
rules m v (share s value) = share_rules v m s value
rules m v abandon = abandon_rules v
rules m v close = close_rules v
rules m v (show d c) = show_rules v d c
rules m v (disclose s k o) = disclose_rules v m s k o

-- a move outside its phases is refused before anything else is looked at
abbrev pub judged : CipherMeaning → View → Move → Answer
judged m v move = check (belongs move v.phase) (WrongPhase v.phase) (rules m v move)

-- a table is judged by what it shows
abbrev pub judge : CipherMeaning → State → Move → Answer
judge m t move = judged m (view_of t) move

-- an accepted move is made, and a refused one leaves the table as it was
abbrev pub after : Answer → State → Move → State
after (Ok n) t move = next t move
after (Err fault) t move = t

-- how many seats and cards a table can have
abbrev pub within_limits : ℕ → ℕ → Bool
within_limits seats cards = nat_le 2 seats && (nat_le seats 8 && (nat_le 2 cards && nat_le cards 52))
