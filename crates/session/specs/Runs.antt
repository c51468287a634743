-- A list of calls made on a new table, by the rules alone.
use Rattle.std.specs.Prelude.{ℕ, Bool, List, [], ◌∷◌, Ok, Err, Result, nat_eq}
use Rattle.std.specs.List.{list_any}
use Rattle.cipher.specs.Cipher.{CipherMeaning}
use Rattle.table.specs.State.{Move}
use Rattle.table.specs.View.{View}
use Rattle.table.specs.Rules.{Answer}
use Rattle.table.specs.Rules.{judged, audit_rules}
use Rattle.table.specs.declared.fault.TableFault.{TableFault}
use Rattle.verdict.specs.Log.{Log, locks, draws, disclosures, entries, phase_in, drawn, draws_place, shows_draw, discloses_seat}
use Rattle.verdict.specs.Honesty.{first_deck, told_by, verdict}
use Rattle.session.specs.declared.Reply.{Reply}
use Rattle.session.specs.declared.Reply.TheVariants.{Entered, Audited}

-- a call: a move to be made, or an audit
pub data Asked : Type 0 where
  move : Move → Asked
  audit : Asked

-- some seat of the list is this one
abbrev pub among : ℕ → List ℕ → Bool
among s seats = list_any (λ r. nat_eq r s) seats

-- what the rules look at, from the moves accepted so far
abbrev pub view : ℕ → ℕ → Log → View
view S D log = record {
  seats = S;
  cards = D;
  phase = phase_in S log;
  locked = locks log;
  disclosures = disclosures log;
  entries = entries log;
  draws = draws log;
  end = λ d. (drawn S d log).end;
  drawer = λ d. (drawn S d log).drawer;
  has_shared = λ d s. among s (drawn S d log).sharers;
  shown = λ d. list_any (shows_draw d) log;
  taken = λ p. list_any (draws_place p) log;
  has_disclosed = λ s. list_any (discloses_seat s) log;
}

-- the answer as one of a list
abbrev pub reply : {A : Type 0} → (A → Reply) → Result A TableFault → Result Reply TableFault
reply told (Ok a) = Ok (told a)
reply told (Err fault) = Err fault

-- an accepted move joins the log
abbrev pub joined : Answer → Move → Log → Log
joined (Ok n) x log = x ∷ log
joined (Err fault) x log = log

module _ (m : CipherMeaning) (S D : ℕ) where
  -- the answer to a call after the moves accepted so far
  abbrev pub answer : Log → Asked → Result Reply TableFault
  answer log (move x) = reply Entered (judged m (view S D log) x)
  answer log audit = reply Audited (audit_rules (view S D log) (verdict m D (told_by S (first_deck m D) log) log))

  -- the log after one more call
  abbrev pub with_call : Log → Asked → Log
  with_call log (move x) = joined (judged m (view S D log) x) x log
  with_call log audit = log

  -- the answers to a list of calls, one after the other
  abbrev pub answers : Log → List Asked → List (Result Reply TableFault)
  answers log [] = []
  answers log (c ∷ calls) = answer log c ∷ answers (with_call log c) calls

  -- the calls of a list that were accepted
  abbrev pub accepted : Log → List Asked → Log
  accepted log [] = log
  accepted log (c ∷ calls) = accepted (with_call log c) calls
