use Rattle.std.proofs.Common.{◌≡◌, ◌≤◌, true, map, length, take, vec_items, vec_len, vec_capacity}
use Rattle.table.specs.Rules.{within_limits}
use Rattle.table.specs.Model.{state_of}
use Rattle.session.specs.Steps.{asked_by}
use Rattle.session.proofs.Running.{Ran}
use Rattle.session.proofs.played.Given as goal

abbrev pub invariant-loop-step : goal.invariant-loop-step
invariant-loop-step g l =
    (within_limits l.script.seats l.script.cards ≡ true)
    × Ran (g.C.Cipher.meaning l.cipher) l.script.seats l.script.cards (map asked_by (take l.step-index l.step-items)) (vec_items l.replies) (state_of l.table)
    × (vec_len l.replies ≡ l.step-index)
    × (length l.step-items ≤ vec_capacity l.replies)
