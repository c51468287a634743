-- Powers under any product of numbers.
use Rattle.std.specs.Prelude.{ℕ, zero, suc}

-- x to the power k: the product of k factors x, and 1 where k is 0
unfoldable pub power : (ℕ → ℕ → ℕ) → ℕ → ℕ → ℕ
power times x zero = 1
power times x (suc k) = times x (power times x k)
