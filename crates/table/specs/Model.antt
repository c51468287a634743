-- A table's record as a state.
use Rattle.std.specs.Prelude.{vec_items}
use Rattle.table.specs.State.{State}
use Rattle.table.specs.declared.record.Record.{Record}
use Rattle.table.specs.declared.table.Table.{Table}

abbrev pub state_of_record : Record → State
state_of_record r = record {
  seats = r.seats;
  cards = r.cards;
  phase = r.phase;
  locked = r.locked;
  decks = vec_items r.decks;
  draws = vec_items r.draws;
  disclosures = vec_items r.disclosures;
  orders = vec_items r.orders;
  moves = vec_items r.moves;
}

abbrev pub state_of : Table → State
state_of t = state_of_record t.held
