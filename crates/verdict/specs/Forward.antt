-- The audit of a table as it goes forward through the moves.
use Rattle.std.specs.Prelude.{ℕ, ◌+◌, ◌-◌, ◌≤◌, Bool, cond, List, [], ◌∷◌, vec_len, None, ◌==◌, slice_index}
use Rattle.cipher.specs.Cipher.{CipherMeaning}
use Rattle.table.specs.State.{State, draw_at}
use Rattle.table.specs.declared.record.Record.{Record}
use Rattle.table.specs.declared.record.Event.{Event}
use Rattle.table.specs.declared.record.Event.TheVariants as event
use Rattle.verdict.specs.Honesty.{first_deck, honest_place, honest_lock, honest_share, honest_show, Verdict, dishonest, earlier}
use Rattle.verdict.specs.Tables.{part, told_of}
use Rattle.verdict.specs.declared.progress.Progress.{Progress}
use Rattle.verdict.specs.declared.Kind.TheVariants as kind

-- how large a table's record can be: 2·8 + 52·9 + 2 moves at most
pub record Bounded (r : Record) : Type 0 where
  pub cards_most : r.cards ≤ 52
  pub disclosures_most : vec_len r.disclosures ≤ 8
  pub moves_most : vec_len r.moves ≤ 486

-- at the start of the moves
abbrev pub start : Progress
start = record { entries = 0; locks = 0; value = 0 }

module _ (m : CipherMeaning) (t : State) where
  -- the deck after n locks: the codes, or the deck that the last of them entered
  abbrev pub deck_after : ℕ → List ℕ
  deck_after n = cond (n == 0) (first_deck m t.cards) (part t.cards (n - 1) t.decks)

  -- a place of the deck that a lock under this key with n locks before it entered
  abbrev pub honest_place_after : ℕ → ℕ → ℕ → ℕ → Bool
  honest_place_after key n s = honest_place m key ((told_of t).order s) (deck_after n) (part t.cards n t.decks)

  -- a lock with n locks before it
  abbrev pub honest_lock_after : ℕ → ℕ → Bool
  honest_lock_after n s = honest_lock m t.cards ((told_of t).key s) ((told_of t).order s) (deck_after n) (part t.cards n t.decks)

  -- what is found at an event
  abbrev pub finding_after : Progress → Event → Verdict
  finding_after p (event.Lock s) = cond (honest_lock_after p.locks s) None (dishonest p.entries s kind.Lock)
  finding_after p (event.Draw s q) = None
  finding_after p (event.Share s v) = cond (honest_share m ((told_of t).key s) p.value v) None (dishonest p.entries s kind.Share)
  finding_after p event.Abandon = None
  finding_after p event.Close = None
  finding_after p (event.Show d c) = cond (honest_show m ((told_of t).key (draw_at t d).seat) (draw_at t d).value c) None (dishonest p.entries (draw_at t d).seat kind.Show)
  finding_after p (event.Disclose s k) = None

  -- every event but a close makes an entry
  abbrev pub progress_after : Progress → Event → Progress
  progress_after p (event.Lock s) = record { entries = p.entries + 1; locks = p.locks + 1; value = p.value }
  progress_after p (event.Draw s q) = record { entries = p.entries + 1; locks = p.locks; value = slice_index (deck_after p.locks) q }
  progress_after p (event.Share s v) = record { entries = p.entries + 1; locks = p.locks; value = v }
  progress_after p event.Abandon = record { entries = p.entries + 1; locks = p.locks; value = p.value }
  progress_after p event.Close = p
  progress_after p (event.Show d c) = record { entries = p.entries + 1; locks = p.locks; value = p.value }
  progress_after p (event.Disclose s k) = record { entries = p.entries + 1; locks = p.locks; value = p.value }

  -- what is found first in the moves that are left
  abbrev pub found_from : Progress → List Event → Verdict
  found_from p [] = None
  found_from p (e ∷ es) = earlier (finding_after p e) (found_from (progress_after p e) es)
