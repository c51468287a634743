-- The places before the loop's hold their cards.
use Rattle.std.proofs.Common.{◌≡◌, ℕ, ◌<◌, [], ◌∷◌, get_or}
use Rattle.permutation.specs.Permutation.{composed_at}
use Rattle.shuffle.proofs.opening.Pair.read_cards.Given as goal

abbrev pub invariant-loop-place : goal.invariant-loop-place
invariant-loop-place g l =
    (k : ℕ) → k < l.place → get_or l.cards k 0 ≡ composed_at ((g.S.Seat.meaning l.self.first.now).order ∷ (g.T.Seat.meaning l.self.second.now).order ∷ []) k
