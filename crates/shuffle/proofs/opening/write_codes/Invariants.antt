-- The places before the loop's hold their codes.
use Rattle.std.proofs.Common.{◌≡◌, ℕ, ◌<◌, get_or}
use Rattle.shuffle.proofs.opening.write_codes.Given as goal

abbrev pub invariant-loop-card : goal.invariant-loop-card
invariant-loop-card g l = (k : ℕ) → k < l.card → get_or l.deck k 0 ≡ (g.C.Cipher.meaning l.cipher).code k
