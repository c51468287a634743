-- A table by what has been entered, and what each move makes of it.
use Rattle.std.specs.Prelude.{◌≡◌, ℕ, ◌+◌, ◌-◌, ◌*◌, ◌<◌, Bool, true, false, cond, List, [], ◌∷◌, ◌++◌, length, replicate, ◌==◌, slice_index, slice_index_or, slice_set}
pub use Rattle.table.specs.Phases.{phase_after}
use Rattle.table.specs.declared.record.DrawRecord.{DrawRecord}
use Rattle.table.specs.declared.record.Disclosure.{Disclosure}
use Rattle.table.specs.declared.record.Event.{Event}
use Rattle.table.specs.declared.record.Event.TheVariants as event
use Rattle.table.specs.declared.record.End.{End}
use Rattle.table.specs.declared.record.End.TheVariants.{Running, Dealt, Abandoned}
use Rattle.table.specs.declared.record.Phase.{Phase}
use Rattle.table.specs.declared.record.Phase.TheVariants.{Locking, Dealing}

pub data Move : Type 0 where
  -- seat and deck
  lock : ℕ → List ℕ → Move
  -- seat and place
  draw : ℕ → ℕ → Move
  -- seat and value
  share : ℕ → ℕ → Move
  abandon : Move
  close : Move
  -- draw number and card
  show : ℕ → ℕ → Move
  -- seat, key and order
  disclose : ℕ → ℕ → List ℕ → Move

pub record State : Type 0 where
  pub seats : ℕ
  pub cards : ℕ
  pub phase : Phase
  -- how many seats have locked, and their decks one after the other
  pub locked : ℕ
  pub decks : List ℕ
  pub draws : List DrawRecord
  -- the disclosures as they came, and their orders one after the other
  pub disclosures : List Disclosure
  pub orders : List ℕ
  -- the moves as they came
  pub moves : List Event

abbrev pub empty_table : ℕ → ℕ → State
empty_table seats cards = record {
  seats = seats;
  cards = cards;
  phase = Locking;
  locked = 0;
  decks = [];
  draws = [];
  disclosures = [];
  orders = [];
  moves = [];
}

-- a draw by a seat of a place, which holds the value given
abbrev pub begun : ℕ → ℕ → ℕ → DrawRecord
begun seat place value = record {
  seat = seat;
  place = place;
  shared = replicate 8 false;
  shares = 0;
  value = value;
  end = Running;
  shown = false;
}

-- what stands for a draw that there is not
abbrev pub no_draw : DrawRecord
no_draw = record {
  seat = 0;
  place = 0;
  shared = replicate 8 false;
  shares = 0;
  value = 0;
  end = Abandoned;
  shown = false;
}

abbrev pub draw_at : State → ℕ → DrawRecord
draw_at t d = slice_index_or t.draws d no_draw

-- the number of the last draw
abbrev pub last_draw : State → ℕ
last_draw t = length t.draws - 1

abbrev pub is_running : End → Bool
is_running Running = true
is_running Dealt = false
is_running Abandoned = false

abbrev pub is_dealt : End → Bool
is_dealt Running = false
is_dealt Dealt = true
is_dealt Abandoned = false

-- a draw runs until it is dealt or abandoned, and only the last can
abbrev pub running : State → Bool
running t = is_running (draw_at t (last_draw t)).end

-- draw number i is the one that runs
pub record Runs (t : State) (i : ℕ) : Type 0 where
  pub runs : running t ≡ true
  pub last : i ≡ last_draw t
  pub within : i < length t.draws

-- one share more: share number S - 1 makes the draw dealt
abbrev pub shared_by : ℕ → ℕ → ℕ → DrawRecord → DrawRecord
shared_by seats seat value d = record {
  seat = d.seat;
  place = d.place;
  shared = slice_set d.shared seat true;
  shares = d.shares + 1;
  value = value;
  end = cond (d.shares + 2 == seats) Dealt Running;
  shown = d.shown;
}

abbrev pub abandoned : DrawRecord → DrawRecord
abandoned d = record {
  seat = d.seat;
  place = d.place;
  shared = d.shared;
  shares = d.shares;
  value = d.value;
  end = Abandoned;
  shown = d.shown;
}

abbrev pub revealed : DrawRecord → DrawRecord
revealed d = record {
  seat = d.seat;
  place = d.place;
  shared = d.shared;
  shares = d.shares;
  value = d.value;
  end = d.end;
  shown = true;
}

-- the table with one draw changed, and the move noted
abbrev pub with_draw : State → ℕ → DrawRecord → Event → State
with_draw t number changed move = record {
  seats = t.seats;
  cards = t.cards;
  phase = t.phase;
  locked = t.locked;
  decks = t.decks;
  draws = slice_set t.draws number changed;
  disclosures = t.disclosures;
  orders = t.orders;
  moves = t.moves ++ (move ∷ []);
}

-- the table with the move made
abbrev pub next : State → Move → State
next t (lock s deck) = record {
  seats = t.seats;
  cards = t.cards;
  phase = cond (t.locked + 1 == t.seats) Dealing Locking;
  locked = t.locked + 1;
  decks = t.decks ++ deck;
  draws = t.draws;
  disclosures = t.disclosures;
  orders = t.orders;
  moves = t.moves ++ (event.Lock s ∷ []);
}
next t (draw s p) = record {
  seats = t.seats;
  cards = t.cards;
  phase = t.phase;
  locked = t.locked;
  decks = t.decks;
  draws = t.draws ++ (begun s p (slice_index t.decks ((t.seats - 1) * t.cards + p)) ∷ []);
  disclosures = t.disclosures;
  orders = t.orders;
  moves = t.moves ++ (event.Draw s p ∷ []);
}
next t (share s v) = with_draw t (last_draw t) (shared_by t.seats s v (draw_at t (last_draw t))) (event.Share s v)
next t abandon = with_draw t (last_draw t) (abandoned (draw_at t (last_draw t))) event.Abandon
next t close = record {
  seats = t.seats;
  cards = t.cards;
  phase = phase_after t.phase;
  locked = t.locked;
  decks = t.decks;
  draws = t.draws;
  disclosures = t.disclosures;
  orders = t.orders;
  moves = t.moves ++ (event.Close ∷ []);
}
next t (show d c) = with_draw t d (revealed (draw_at t d)) (event.Show d c)
next t (disclose s k o) = record {
  seats = t.seats;
  cards = t.cards;
  phase = t.phase;
  locked = t.locked;
  decks = t.decks;
  draws = t.draws;
  disclosures = t.disclosures ++ (record { seat = s; key = k } ∷ []);
  orders = t.orders ++ o;
  moves = t.moves ++ (event.Disclose s k ∷ []);
}
