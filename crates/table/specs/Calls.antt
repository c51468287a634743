-- The move that a call asks for.
use Rattle.std.specs.Prelude.{vec_items}
use Rattle.table.specs.State.{Move, lock, draw, share, abandon, close, show, disclose}
use Rattle.table.specs.declared.call.Call.{Call}
use Rattle.table.specs.declared.call.Call.TheVariants.{Lock, Draw, Share, Abandon, Close, Show, Disclose}

abbrev pub move_of : Call → Move
move_of (Lock seat deck) = lock seat (vec_items deck)
move_of (Draw seat place) = draw seat place
move_of (Share seat value) = share seat value
move_of Abandon = abandon
move_of Close = close
move_of (Show number card) = show number card
move_of (Disclose seat key order) = disclose seat key (vec_items order)
