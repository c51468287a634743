-- Refusals by their number and by how much they return.
use Rattle.std.specs.Prelude.{ℕ, Some, None}
use Rattle.refusal.specs.declared.Refusal.{Refusal}

abbrev pub refused : ℕ → Refusal
refused n = record { number = n; first = None; second = None }

abbrev pub refused_with : ℕ → ℕ → Refusal
refused_with n a = record { number = n; first = Some a; second = None }

abbrev pub refused_with_both : ℕ → ℕ → ℕ → Refusal
refused_with_both n a b = record { number = n; first = Some a; second = Some b }
