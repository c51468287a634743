use Rattle.std.proofs.Common.{rules}
use Rattle.table.specs.Model.{state_of_record}
use Rattle.verdict.proofs.Passing.{found_is_verdict}
use Rattle.verdict.proofs.hearing.Hearing.first_finding.Goals as goal

pub loop-event-init : goal.loop-event-init
loop-event-init g c =
    let whole = found_is_verdict (g.C.Cipher.meaning c.args.self.now.cipher.now) (state_of_record c.args.self.now.record.now) in
    search rules
