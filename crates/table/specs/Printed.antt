-- How a call is printed.
use Rattle.std.specs.Prelude.{ℕ, List, Option, Some, codes, decimal, vec_items}
use Rattle.std.specs.Fmt.{◌++?◌, debug_list}
use Rattle.table.specs.declared.call.Call.{Call}
use Rattle.table.specs.declared.call.Call.TheVariants.{Lock, Draw, Share, Abandon, Close, Show, Disclose}

-- words as they stand, and a number by its digits
abbrev words : List ℕ → Option (List ℕ)
words text = Some text

abbrev number : ℕ → Option (List ℕ)
number n = Some (decimal n)

abbrev pub printed : Call → Option (List ℕ)
printed (Lock seat deck) = words (codes "Seat ") ++? number seat ++? words (codes " locks ") ++? debug_list number (vec_items deck)
printed (Draw seat place) = words (codes "Seat ") ++? number seat ++? words (codes " draws place ") ++? number place
printed (Share seat value) = words (codes "Seat ") ++? number seat ++? words (codes " shares ") ++? number value
printed Abandon = words (codes "Abandon")
printed Close = words (codes "Close")
printed (Show draw card) = words (codes "Draw ") ++? number draw ++? words (codes " is shown as card ") ++? number card
printed (Disclose seat key order) =
    words (codes "Seat ") ++? number seat ++? words (codes " discloses key ") ++? number key ++? words (codes " and order ")
    ++? debug_list number (vec_items order)
