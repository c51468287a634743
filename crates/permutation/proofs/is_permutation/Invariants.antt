-- The numbers so far are below the length and all different, and exactly they are marked.
use Rattle.std.proofs.Common.{◌≡◌, ℕ, ◌<◌, length, get_or, take}
use Rattle.permutation.proofs.Marks.{Marked}
use Rattle.permutation.proofs.is_permutation.Given as goal

abbrev pub invariant-loop-x : goal.invariant-loop-x
invariant-loop-x l =
    (length l.seen ≡ 256) × ((k : ℕ) → k < l.x-index → get_or l.order k 0 < length l.order) × Marked l.seen (take l.x-index l.order)
