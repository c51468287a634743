use Rattle.std.proofs.Common.{◌≡◌, ◌≤◌, drop}
use Rattle.table.specs.Model.{state_of_record}
use Rattle.verdict.specs.Honesty.{verdict}
use Rattle.verdict.specs.Tables.{told_of, log_of}
use Rattle.verdict.specs.Forward.{found_from}
use Rattle.verdict.proofs.hearing.Hearing.first_finding.Given as goal

-- what the audit names is found first in the moves that are left
abbrev pub invariant-loop-event : goal.invariant-loop-event
invariant-loop-event g l =
    let m = g.C.Cipher.meaning l.self.cipher.now in
    let t = state_of_record l.self.record.now in
    (found_from m t l.so_far (drop l.event-index l.event-items) ≡ verdict m t.cards (told_of t) (log_of t))
    × (l.so_far.entries ≤ l.event-index)
    × (l.so_far.locks ≤ l.event-index)
