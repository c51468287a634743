-- Divisors and inverses modulo n, by which keys are lawful and are undone.
use Rattle.std.specs.Prelude.{ℕ, zero, suc, ◌*◌, ◌%◌, Bool, cond, ◌&&◌, ◌==◌, nat_eq}

-- the largest number below n that passes the test, and 0 where none does
unfoldable pub largest : (ℕ → Bool) → ℕ → ℕ
largest test zero = 0
largest test (suc m) = cond (test m) m (largest test m)

abbrev pub divides : ℕ → ℕ → Bool
divides d m = m % d == 0

-- the greatest common divisor of k and n, where n is not 0
abbrev pub gcd : ℕ → ℕ → ℕ
gcd k n = largest (λ d. divides d k && divides d n) (suc n)

-- the number below n whose product with k leaves 1 modulo n, and 0 where there is none
abbrev pub inverse : ℕ → ℕ → ℕ
inverse k n = largest (λ d. nat_eq (k * d % n) 1) n
