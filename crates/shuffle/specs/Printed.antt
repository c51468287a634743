-- How the steps of a shuffle are printed.
use Rattle.std.specs.Prelude.{ℕ, List, Option, Some, nat_eq, if◌then◌else◌, codes, decimal}
use Rattle.std.specs.Fmt.{◌++?◌, debug_list}
use Rattle.std.specs.Cmp.Lexicographic.{pointwise}
use Rattle.shuffle.specs.declared.steps.Steps.{Steps}

-- numbers in brackets, as `{:?}` prints them
abbrev pub listed : List ℕ → Option (List ℕ)
listed ns = debug_list (λ n. Some (decimal n)) ns

abbrev pub printed_seat : ℕ → ℕ → List ℕ → Option (List ℕ)
printed_seat seat key order =
    Some (codes "  Seat ") ++? Some (decimal seat) ++? Some (codes " has key ") ++? Some (decimal key) ++? Some (codes " and order ") ++? listed order ++? Some (codes ".\n")

abbrev pub printed_codes : List ℕ → Option (List ℕ)
printed_codes deck = Some (codes "  The codes of cards 0 to ") ++? Some (decimal 4) ++? Some (codes " are ") ++? listed deck ++? Some (codes ".\n")

abbrev pub printed_locks : Steps → Option (List ℕ)
printed_locks s =
    Some (codes "  Seat 0 puts them in its order and locks them: ") ++? listed s.once ++? Some (codes ".\n")
    ++? Some (codes "  Seat 1 does so with that deck: ") ++? listed s.twice ++? Some (codes ".\n")

abbrev pub alike : Steps → List ℕ
alike s = if pointwise nat_eq s.cards s.composed then codes "the same" else codes "not the same"

abbrev pub printed_cards : Steps → Option (List ℕ)
printed_cards s =
    Some (codes "  At every place seat 0 takes its lock off, and then seat 1 does.\n")
    ++? Some (codes "  The cards that are read there are ") ++? listed s.cards ++? Some (codes ".\n")
    ++? Some (codes "  Seat 0's order, rearranged by seat 1's, is ") ++? listed s.composed ++? Some (codes ": ") ++? Some (alike s) ++? Some (codes ".")

abbrev pub printed : Steps → Option (List ℕ)
printed s = printed_seat 0 s.keys.0 s.orders.0 ++? printed_seat 1 s.keys.1 s.orders.1 ++? printed_codes s.codes ++? printed_locks s ++? printed_cards s
