-- What the rules look at, and how a table shows it.
use Rattle.std.specs.Prelude.{ℕ, ◌-◌, Bool, false, List, length, nat_eq, slice_index_or}
use Rattle.std.specs.List.{list_any}
use Rattle.table.specs.State.{State, draw_at}
use Rattle.table.specs.declared.record.DrawRecord.{DrawRecord}
use Rattle.table.specs.declared.record.Disclosure.{Disclosure}
use Rattle.table.specs.declared.record.End.{End}
use Rattle.table.specs.declared.record.Phase.{Phase}
use Rattle.table.specs.declared.record.Phase.TheVariants.{Locking, Dealing, Showdown, Audit}

-- a draw, running or ended, took the place
abbrev pub taken : List DrawRecord → ℕ → Bool
taken draws p = list_any (λ d. nat_eq d.place p) draws

abbrev pub has_disclosed : List Disclosure → ℕ → Bool
has_disclosed disclosures s = list_any (λ d. nat_eq d.seat s) disclosures

-- how many closes there were
abbrev pub closes : Phase → ℕ
closes Locking = 0
closes Dealing = 0
closes Showdown = 1
closes Audit = 2

-- the number of the next entry: every move but a close makes one
abbrev pub entry_number : State → ℕ
entry_number t = length t.moves - closes t.phase

pub record View : Type 0 where
  pub seats : ℕ
  pub cards : ℕ
  pub phase : Phase
  -- how many seats have locked, and how many have disclosed
  pub locked : ℕ
  pub disclosures : ℕ
  -- how many entries there are, and how many draws
  pub entries : ℕ
  pub draws : ℕ
  -- of each draw, by its number: how far it has come, who drew, which seats have shared, whether it was shown
  pub end : ℕ → End
  pub drawer : ℕ → ℕ
  pub has_shared : ℕ → ℕ → Bool
  pub shown : ℕ → Bool
  -- which places are taken, and which seats have disclosed
  pub taken : ℕ → Bool
  pub has_disclosed : ℕ → Bool

abbrev pub view_of : State → View
view_of t = record {
  seats = t.seats;
  cards = t.cards;
  phase = t.phase;
  locked = t.locked;
  disclosures = length t.disclosures;
  entries = entry_number t;
  draws = length t.draws;
  end = λ d. (draw_at t d).end;
  drawer = λ d. (draw_at t d).seat;
  has_shared = λ d s. slice_index_or (draw_at t d).shared s false;
  shown = λ d. (draw_at t d).shown;
  taken = taken t.draws;
  has_disclosed = has_disclosed t.disclosures;
}
