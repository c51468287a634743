-- How a refusal is printed.
use Rattle.std.specs.Prelude.{ℕ, List, [], ◌++◌, Option, Some, None, codes, decimal}
use Rattle.refusal.specs.declared.Refusal.{Refusal}

-- a value that is returned, after the word that leads to it
abbrev pub printed_value : List ℕ → Option ℕ → List ℕ
printed_value word (Some value) = word ++ decimal value
printed_value word None = []

abbrev pub printed : Refusal → List ℕ
printed r = codes "refused by " ++ (decimal r.number ++ (printed_value (codes " with ") r.first ++ printed_value (codes " and ") r.second))
