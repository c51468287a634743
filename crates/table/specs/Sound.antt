-- What holds of every table's record, and the room that it has for a whole hand.
use Rattle.std.specs.Prelude.{◌≡◌, ℕ, ◌+◌, ◌*◌, Bool, true, cond, not, ◌&&◌, List, [], ◌∷◌, ◌==◌, nat_eq, nat_lt}
use Rattle.std.specs.List.{list_all, list_any, sum_by}
use Rattle.table.specs.State.{is_running, is_dealt}
use Rattle.table.specs.declared.record.DrawRecord.{DrawRecord}
use Rattle.table.specs.declared.record.End.{End}
use Rattle.table.specs.declared.record.End.TheVariants.{Running, Dealt, Abandoned}
use Rattle.table.specs.declared.record.Phase.{Phase}
use Rattle.table.specs.declared.record.Phase.TheVariants.{Locking, Dealing, Showdown, Audit}

-- the table is in phase 0 until every seat has locked
abbrev pub in_step : Phase → ℕ → ℕ → Bool
in_step Locking locked seats = nat_lt locked seats
in_step Dealing locked seats = locked == seats
in_step Showdown locked seats = locked == seats
in_step Audit locked seats = locked == seats

-- a dealt draw has S - 1 shares, and any other has fewer and is not shown
abbrev pub fair_end : End → ℕ → ℕ → Bool → Bool
fair_end Running seats shares shown = nat_lt (shares + 1) seats && not shown
fair_end Dealt seats shares shown = shares + 1 == seats
fair_end Abandoned seats shares shown = nat_lt (shares + 1) seats && not shown

abbrev pub fair : ℕ → List DrawRecord → Bool
fair seats ds = list_all (λ d. fair_end d.end seats d.shares d.shown) ds

-- numbers below a limit that all differ
abbrev pub different : {A : Type 0} → (A → ℕ) → ℕ → List A → Bool
different number limit [] = true
different number limit (x ∷ xs) = nat_lt (number x) limit && (not (list_any (λ y. nat_eq (number y) (number x)) xs) && different number limit xs)

-- the moves that belong to a draw: itself, its shares, and that it was abandoned or shown
abbrev pub moves_of : DrawRecord → ℕ
moves_of d = 1 + d.shares + cond (is_running d.end) 0 (cond (is_dealt d.end) 0 1) + cond d.shown 1 0

abbrev pub draw_moves : List DrawRecord → ℕ
draw_moves ds = sum_by moves_of ds

-- what a draw may become by one move more: its place stays
pub record Continues (seats : ℕ) (before after : DrawRecord) : Type 0 where
  pub place : after.place ≡ before.place
  pub fair : fair_end after.end seats after.shares after.shown ≡ true
  pub more : moves_of after ≡ moves_of before + 1

-- as many moves as a hand can have
abbrev pub most_moves : ℕ → ℕ → ℕ
most_moves seats cards = 2 * seats + (cards * (seats + 1) + 2)
