-- The table that a log leads to, and how much of everything it holds.
use Rattle.std.proofs.Common.{◌≡◌, ℕ, suc, ◌+◌, ◌*◌, Bool, true, false, cond, eqb, List, [], ◌∷◌, ◌++◌, length, refl, ap, ◌∙◌, ap₂, suc-mul, arith, length-append, length-set}
use Rattle.std.proofs.lemmas.List.{length_push}
use Rattle.cipher.specs.Cipher.{CipherMeaning}
use Rattle.table.specs.State.{Move, lock, draw, share, abandon, close, show, disclose, State, empty_table, next, phase_after}
use Rattle.table.specs.Rules.{closable}
use Rattle.table.specs.View.{closes, entry_number}
use Rattle.table.specs.declared.record.Phase.{Phase}
use Rattle.table.specs.declared.record.Phase.TheVariants.{Locking, Dealing, Showdown, Audit}
use Rattle.verdict.specs.Log.{Log, locks, draws, disclosures, entries, phase_in}
use Rattle.session.proofs.Accepted.{Accepted}

pushed : {A : Type 0} (xs : List A) (x : A) → length (xs ++ (x ∷ [])) ≡ suc (length xs)
pushed xs x = omega (arith, length_push xs x)

module _ (S D : ℕ) where
  abbrev pub replay : Log → State
  replay [] = empty_table S D
  replay (x ∷ log) = next (replay log) x

  next_seats : (t : State) (x : Move) → (next t x).seats ≡ t.seats
  next_seats t (lock s deck) = refl
  next_seats t (draw s p) = refl
  next_seats t (share s v) = refl
  next_seats t abandon = refl
  next_seats t close = refl
  next_seats t (show d c) = refl
  next_seats t (disclose s k o) = refl

  next_cards : (t : State) (x : Move) → (next t x).cards ≡ t.cards
  next_cards t (lock s deck) = refl
  next_cards t (draw s p) = refl
  next_cards t (share s v) = refl
  next_cards t abandon = refl
  next_cards t close = refl
  next_cards t (show d c) = refl
  next_cards t (disclose s k o) = refl

  pub seats_kept : (log : Log) → (replay log).seats ≡ S
  seats_kept [] = refl
  seats_kept (x ∷ log) = next_seats (replay log) x ∙ seats_kept log

  pub cards_kept : (log : Log) → (replay log).cards ≡ D
  cards_kept [] = refl
  cards_kept (x ∷ log) = next_cards (replay log) x ∙ cards_kept log

  pub locked_kept : (log : Log) → (replay log).locked ≡ locks log
  locked_kept [] = refl
  locked_kept (lock s deck ∷ log) = omega (arith, locked_kept log)
  locked_kept (draw s p ∷ log) = locked_kept log
  locked_kept (share s v ∷ log) = locked_kept log
  locked_kept (abandon ∷ log) = locked_kept log
  locked_kept (close ∷ log) = locked_kept log
  locked_kept (show d c ∷ log) = locked_kept log
  locked_kept (disclose s k o ∷ log) = locked_kept log

  pub phase_kept : (log : Log) → (replay log).phase ≡ phase_in S log
  phase_kept [] = refl
  phase_kept (lock s deck ∷ log) = ap₂ (λ (n : ℕ) (m : ℕ). cond (eqb (n + 1) m) Dealing Locking) (locked_kept log) (seats_kept log)
  phase_kept (draw s p ∷ log) = phase_kept log
  phase_kept (share s v ∷ log) = phase_kept log
  phase_kept (abandon ∷ log) = phase_kept log
  phase_kept (close ∷ log) = ap phase_after (phase_kept log)
  phase_kept (show d c ∷ log) = phase_kept log
  phase_kept (disclose s k o ∷ log) = phase_kept log

  pub disclosures_kept : (log : Log) → length (replay log).disclosures ≡ disclosures log
  disclosures_kept [] = refl
  disclosures_kept (lock s deck ∷ log) = disclosures_kept log
  disclosures_kept (draw s p ∷ log) = disclosures_kept log
  disclosures_kept (share s v ∷ log) = disclosures_kept log
  disclosures_kept (abandon ∷ log) = disclosures_kept log
  disclosures_kept (close ∷ log) = disclosures_kept log
  disclosures_kept (show d c ∷ log) = disclosures_kept log
  disclosures_kept (disclose s k o ∷ log) = pushed (replay log).disclosures _ ∙ ap suc (disclosures_kept log)

  pub draws_kept : (log : Log) → length (replay log).draws ≡ draws log
  draws_kept [] = refl
  draws_kept (lock s deck ∷ log) = draws_kept log
  draws_kept (draw s p ∷ log) = pushed (replay log).draws _ ∙ ap suc (draws_kept log)
  draws_kept (share s v ∷ log) = length-set (replay log).draws _ _ ∙ draws_kept log
  draws_kept (abandon ∷ log) = length-set (replay log).draws _ _ ∙ draws_kept log
  draws_kept (close ∷ log) = draws_kept log
  draws_kept (show d c ∷ log) = length-set (replay log).draws _ _ ∙ draws_kept log
  draws_kept (disclose s k o ∷ log) = draws_kept log

  -- every move is noted
  next_moves : (t : State) (x : Move) → length (next t x).moves ≡ suc (length t.moves)
  next_moves t (lock s deck) = pushed t.moves _
  next_moves t (draw s p) = pushed t.moves _
  next_moves t (share s v) = pushed t.moves _
  next_moves t abandon = pushed t.moves _
  next_moves t close = pushed t.moves _
  next_moves t (show d c) = pushed t.moves _
  next_moves t (disclose s k o) = pushed t.moves _

  moves_kept : (log : Log) → length (replay log).moves ≡ length log
  moves_kept [] = refl
  moves_kept (x ∷ log) = next_moves (replay log) x ∙ ap suc (moves_kept log)

  closes_after : (p : Phase) → closable p ≡ true → closes (phase_after p) ≡ suc (closes p)
  closes_after Locking h = cc
  closes_after Dealing h = refl
  closes_after Showdown h = refl
  closes_after Audit h = cc

  closes_locking : (b : Bool) → closes (cond b Dealing Locking) ≡ 0
  closes_locking true = refl
  closes_locking false = refl

  -- every move but a close makes an entry
  entries_and_closes : (m : CipherMeaning) (log : Log) → Accepted m S D log → length log ≡ entries log + closes (phase_in S log)
  entries_and_closes m [] all = refl
  entries_and_closes m (lock s deck ∷ log) all =
      omega (arith, entries_and_closes m log all.1, ap closes all.0.phase, closes_locking (eqb (locks log + 1) S))
  entries_and_closes m (draw s p ∷ log) all = omega (arith, entries_and_closes m log all.1)
  entries_and_closes m (share s v ∷ log) all = omega (arith, entries_and_closes m log all.1)
  entries_and_closes m (abandon ∷ log) all = omega (arith, entries_and_closes m log all.1)
  entries_and_closes m (close ∷ log) all = omega (arith, entries_and_closes m log all.1, closes_after (phase_in S log) all.0.phase)
  entries_and_closes m (show d c ∷ log) all = omega (arith, entries_and_closes m log all.1)
  entries_and_closes m (disclose s k o ∷ log) all = omega (arith, entries_and_closes m log all.1)

  pub entries_kept : (m : CipherMeaning) (log : Log) → Accepted m S D log → entry_number (replay log) ≡ entries log
  entries_kept m log all = omega (arith, moves_kept log, ap closes (phase_kept log), entries_and_closes m log all)

module _ (m : CipherMeaning) (S D : ℕ) where
  pub decks_long : (log : Log) → Accepted m S D log → length (replay S D log).decks ≡ locks log * D
  decks_long [] all = omega arith
  decks_long (lock s deck ∷ log) all =
      length-append (replay S D log).decks deck ∙ omega (arith, decks_long log all.1, all.0.long, suc-mul (locks log) D)
  decks_long (draw s p ∷ log) all = decks_long log all.1
  decks_long (share s v ∷ log) all = decks_long log all.1
  decks_long (abandon ∷ log) all = decks_long log all.1
  decks_long (close ∷ log) all = decks_long log all.1
  decks_long (show d c ∷ log) all = decks_long log all.1
  decks_long (disclose s k o ∷ log) all = decks_long log all.1
