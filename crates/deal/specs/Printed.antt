-- How the steps of a deal are printed, each on a line of its own.
use Rattle.std.specs.Prelude.{ℕ, List, ◌++◌, Option, Some, None, codes, decimal}
use Rattle.deal.specs.declared.steps.DealtCard.{DealtCard}

abbrev pub line : List ℕ → List ℕ
line text = text ++ codes "\n"

-- both locks come on
unfoldable pub printed_locking : DealtCard → List ℕ
printed_locking d =
    line (codes "  Seat 0 locks it under key " ++ (decimal d.keys.0 ++ (codes ": " ++ (decimal d.once ++ codes "."))))
    ++ line (codes "  Seat 1 locks that under key " ++ (decimal d.keys.1 ++ (codes ": " ++ (decimal d.twice ++ codes "."))))

-- in either order, and the first comes off again
unfoldable pub printed_sharing : DealtCard → List ℕ
printed_sharing d =
    line (codes "  Locked by seat 1 first and then by seat 0 it is " ++ (decimal d.swapped ++ codes " too."))
    ++ (line (codes "  The undo keys are " ++ (decimal d.undo.0 ++ (codes " and " ++ (decimal d.undo.1 ++ codes "."))))
    ++ line (codes "  Seat 0 shares, its own lock taken off: " ++ (decimal d.share ++ codes ".")))

-- the card that was read, if any
abbrev pub printed_card : Option ℕ → List ℕ
printed_card (Some card) = line (codes "  That is the code of card " ++ (decimal card ++ codes "."))
printed_card None = line (codes "  That is the code of no card.")

-- the second comes off, and the card is read
unfoldable pub printed_opening : DealtCard → List ℕ
printed_opening d = line (codes "  Seat 1 takes its own lock off: " ++ (decimal d.opened ++ codes ".")) ++ printed_card d.card

abbrev pub printed : DealtCard → List ℕ
printed d =
    line (codes "  The card's code is " ++ (decimal d.code ++ codes "."))
    ++ (printed_locking d ++ (printed_sharing d ++ printed_opening d))
