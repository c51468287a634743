-- How the answer to a call is printed.
use Rattle.std.specs.Prelude.{ℕ, List, ◌++◌, Some, None, Ok, Err, Result, codes, decimal}
use Rattle.refusal.specs.Printed.{printed}
use Rattle.table.specs.Refusals.{refusal_of}
use Rattle.table.specs.declared.call.Call.TheVariants as call
use Rattle.table.specs.declared.fault.TableFault.{TableFault}
use Rattle.verdict.specs.Printed.{finding_printed}
use Rattle.session.specs.declared.Step.{Step}
use Rattle.session.specs.declared.Step.TheVariants as step
use Rattle.session.specs.declared.Reply.{Reply}
use Rattle.session.specs.declared.Reply.TheVariants.{Entered, Audited}

-- a close answers with a phase, and every other move with an entry
abbrev pub number_of : Step → List ℕ
number_of (step.Move call.Close) = codes "phase "
number_of (step.Move (call.Lock seat deck)) = codes "entry "
number_of (step.Move (call.Draw seat place)) = codes "entry "
number_of (step.Move (call.Share seat value)) = codes "entry "
number_of (step.Move call.Abandon) = codes "entry "
number_of (step.Move (call.Show draw card)) = codes "entry "
number_of (step.Move (call.Disclose seat key order)) = codes "entry "
number_of step.Audit = codes "entry "

abbrev pub reply_printed : Step → Result Reply TableFault → List ℕ
reply_printed made (Err fault) = printed (refusal_of fault)
reply_printed made (Ok (Entered number)) = number_of made ++ decimal number
reply_printed made (Ok (Audited None)) = codes "clean"
reply_printed made (Ok (Audited (Some finding))) = finding_printed finding
