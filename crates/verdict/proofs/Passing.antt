-- Going forward through the moves finds what the log's verdict names.
use Rattle.std.proofs.Common.{◌≡◌, ℕ, suc, ◌-◌, cond, eqb, List, [], ◌∷◌, get_or, Some, None, refl, ap, ◌∙◌, add-one, arith}
use Rattle.std.proofs.lemmas.Bool.{cond-false, ne_eqb}
use Rattle.cipher.specs.Cipher.{CipherMeaning}
use Rattle.table.specs.State.{State}
use Rattle.table.specs.declared.record.Event.{Event}
use Rattle.table.specs.declared.record.Event.TheVariants as event
use Rattle.verdict.specs.Log.{Log, locks, entries}
use Rattle.verdict.specs.Honesty.{first_deck, last_deck, chain, honest_lock, Verdict, dishonest, earlier, finding, verdict}
use Rattle.verdict.specs.Tables.{part, move_in, entered, log_of, told_of}
use Rattle.verdict.specs.Forward.{start, deck_after, finding_after, progress_after, found_from}
use Rattle.verdict.specs.declared.progress.Progress.{Progress}
use Rattle.verdict.specs.declared.Kind.TheVariants as kind

earlier_none : (v : Verdict) → earlier v None ≡ v
earlier_none None = refl
earlier_none (Some found) = refl

earlier_assoc : (u v w : Verdict) → earlier u (earlier v w) ≡ earlier (earlier u v) w
earlier_assoc None v w = refl
earlier_assoc (Some found) v w = refl

module _ (m : CipherMeaning) (t : State) where
  abbrev first : List ℕ
  first = first_deck m t.cards

  -- what the next event needs to know of a log
  abbrev progress_of : Log → Progress
  progress_of log = record { entries = entries log; locks = locks log; value = chain first log }

  -- the deck that the last lock of the log entered is the one that the table holds
  abbrev DeckHeld : Log → Type 0
  DeckHeld log = deck_after m t (locks log) ≡ last_deck first log

  deck_entered : (n : ℕ) → deck_after m t (suc n) ≡ part t.cards n t.decks
  deck_entered n =
      let less : suc n - 1 ≡ n = omega arith in
      cond-false (eqb (suc n) 0) _ _ (ne_eqb (suc n) 0 (λ z. omega (arith, z))) ∙ ap (λ (i : ℕ). part t.cards i t.decks) less

  deck_held : (log : Log) (e : Event) → DeckHeld log → DeckHeld (move_in t log e ∷ log)
  deck_held log (event.Lock s) held = deck_entered (locks log)
  deck_held log (event.Draw s q) held = held
  deck_held log (event.Share s v) held = held
  deck_held log event.Abandon held = held
  deck_held log event.Close held = held
  deck_held log (event.Show d c) held = held
  deck_held log (event.Disclose s k) held = held

  progress_more : (log : Log) (e : Event) → DeckHeld log → progress_after m t (progress_of log) e ≡ progress_of (move_in t log e ∷ log)
  progress_more log (event.Lock s) held = λ i. record { entries = add-one (entries log) i; locks = add-one (locks log) i; value = chain first log }
  progress_more log (event.Draw s q) held = λ i. record { entries = add-one (entries log) i; locks = locks log; value = get_or (held i) q 0 }
  progress_more log (event.Share s v) held = λ i. record { entries = add-one (entries log) i; locks = locks log; value = v }
  progress_more log event.Abandon held = λ i. record { entries = add-one (entries log) i; locks = locks log; value = chain first log }
  progress_more log event.Close held = refl
  progress_more log (event.Show d c) held = λ i. record { entries = add-one (entries log) i; locks = locks log; value = chain first log }
  progress_more log (event.Disclose s k) held = λ i. record { entries = add-one (entries log) i; locks = locks log; value = chain first log }

  -- the same is found by its progress as by the log
  same_finding : (log : Log) (e : Event) → DeckHeld log → finding_after m t (progress_of log) e ≡ finding m t.cards (told_of t) log (move_in t log e)
  same_finding log (event.Lock s) held =
      ap
      (λ (before : List ℕ). cond (honest_lock m t.cards ((told_of t).key s) ((told_of t).order s) before (part t.cards (locks log) t.decks)) None (dishonest (entries log) s kind.Lock))
      held
  same_finding log (event.Draw s q) held = refl
  same_finding log (event.Share s v) held = refl
  same_finding log event.Abandon held = refl
  same_finding log event.Close held = refl
  same_finding log (event.Show d c) held = refl
  same_finding log (event.Disclose s k) held = refl

  -- what a log's verdict names, or else what is found first in the moves that follow
  forward : (log : Log) (es : List Event) → DeckHeld log
      → earlier (verdict m t.cards (told_of t) log) (found_from m t (progress_of log) es) ≡ verdict m t.cards (told_of t) (entered t log es)
  forward log [] held = earlier_none (verdict m t.cards (told_of t) log)
  forward log (e ∷ es) held =
      let before = verdict m t.cards (told_of t) log in
      let later = found_from m t (progress_after m t (progress_of log) e) es in
      earlier_assoc before (finding_after m t (progress_of log) e) later
      ∙ ap (λ (v : Verdict). earlier (earlier before v) later) (same_finding log e held)
      ∙ ap (λ (p : Progress). earlier (verdict m t.cards (told_of t) (move_in t log e ∷ log)) (found_from m t p es)) (progress_more log e held)
      ∙ forward (move_in t log e ∷ log) es (deck_held log e held)

  pub found_is_verdict : found_from m t start t.moves ≡ verdict m t.cards (told_of t) (log_of t)
  found_is_verdict = forward [] t.moves refl
