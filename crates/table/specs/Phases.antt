-- The phases: their numbers, and which follows which.
use Rattle.std.specs.Prelude.{ℕ}
use Rattle.table.specs.declared.record.Phase.{Phase}
use Rattle.table.specs.declared.record.Phase.TheVariants.{Locking, Dealing, Showdown, Audit}

abbrev pub phase_number : Phase → ℕ
phase_number Locking = 0
phase_number Dealing = 1
phase_number Showdown = 2
phase_number Audit = 3

-- the phase that a close begins
abbrev pub phase_after : Phase → Phase
phase_after Locking = Dealing
phase_after Dealing = Showdown
phase_after Showdown = Audit
phase_after Audit = Audit
