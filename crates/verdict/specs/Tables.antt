-- The log that a table holds, and what the table tells its audit.
use Rattle.std.specs.Prelude.{ℕ, ◌*◌, not, List, [], ◌∷◌, take, drop, Result, ◌==◌, slice_index_or}
use Rattle.std.specs.List.{prefix_len}
use Rattle.cipher.specs.Cipher.{CipherMeaning}
use Rattle.table.specs.State.{State, Move, lock, draw, share, abandon, close, show, disclose, draw_at}
use Rattle.table.specs.View.{view_of}
use Rattle.table.specs.Rules.{audit_rules}
use Rattle.table.specs.declared.record.Disclosure.{Disclosure}
use Rattle.table.specs.declared.record.Event.{Event}
use Rattle.table.specs.declared.record.Event.TheVariants as event
use Rattle.table.specs.declared.fault.TableFault.{TableFault}
use Rattle.verdict.specs.Log.{Log, locks, disclosures}
use Rattle.verdict.specs.Honesty.{Told, Verdict, verdict}

-- number n of the lists of this length that stand one after the other
abbrev pub part : {A : Type 0} → ℕ → ℕ → List A → List A
part long n xs = take long (drop (n * long) xs)

-- a move with its deck or order, which stand beside the list of moves
abbrev pub move_in : State → Log → Event → Move
move_in t log (event.Lock s) = lock s (part t.cards (locks log) t.decks)
move_in t log (event.Draw s p) = draw s p
move_in t log (event.Share s v) = share s v
move_in t log event.Abandon = abandon
move_in t log event.Close = close
move_in t log (event.Show d c) = show d c
move_in t log (event.Disclose s k) = disclose s k (part t.cards (disclosures log) t.orders)

-- a log with these moves entered
abbrev pub entered : State → Log → List Event → Log
entered t log [] = log
entered t log (e ∷ es) = entered t (move_in t log e ∷ log) es

abbrev pub log_of : State → Log
log_of t = entered t [] t.moves

-- which of the disclosures is the seat's
abbrev pub disclosure_of : State → ℕ → ℕ
disclosure_of t s = prefix_len (λ d. not (d.seat == s)) t.disclosures

-- what stands for a disclosure that there is not
abbrev pub no_disclosure : Disclosure
no_disclosure = record { seat = 0; key = 0 }

abbrev pub told_of : State → Told
told_of t = record {
  key = λ s. (slice_index_or t.disclosures (disclosure_of t s) no_disclosure).key;
  order = λ s. part t.cards (disclosure_of t s) t.orders;
  drawer = λ d. (draw_at t d).seat;
  value = λ d. (draw_at t d).value;
}

-- what an audit of a table answers
abbrev pub audit_answer : CipherMeaning → State → Result Verdict TableFault
audit_answer m t = audit_rules (view_of t) (verdict m t.cards (told_of t) (log_of t))
