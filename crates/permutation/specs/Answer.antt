-- The answer of rearranging, by the lengths of the list and the target and by the order.
use Rattle.std.specs.Prelude.{ℕ, Bool, cond, ◌&&◌, List, length, Ok, Err, Result, ◌==◌, nat_le}
use Rattle.permutation.specs.Permutation.{permutes}
use Rattle.permutation.specs.declared.fault.OrderFault.{OrderFault}
use Rattle.permutation.specs.declared.fault.OrderFault.TheVariants.{WrongLength, NotOrder}

-- the three lengths are one, and no deck has more than 52 cards
abbrev pub lengths_fit : ℕ → ℕ → ℕ → Bool
lengths_fit listed ordered targeted = listed == ordered && targeted == ordered && nat_le ordered 52

abbrev pub rearrange_answer : ℕ → List ℕ → ℕ → Result (Unit {0}) OrderFault
rearrange_answer listed order targeted =
    cond (lengths_fit listed (length order) targeted)
    (cond (permutes order) (Ok tt) (Err NotOrder))
    (Err (WrongLength (length order)))
