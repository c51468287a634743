-- How a step is printed.
use Rattle.std.specs.Prelude.{ℕ, List, Option, Some, codes}
use Rattle.table.specs.Printed as call
use Rattle.session.specs.declared.Step.{Step}
use Rattle.session.specs.declared.Step.TheVariants.{Move, Audit}

abbrev pub printed : Step → Option (List ℕ)
printed (Move asked) = call.printed asked
printed Audit = Some (codes "Audit")
