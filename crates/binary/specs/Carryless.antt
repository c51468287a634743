-- Polynomials over two elements: bit i of a number is the coefficient of x^i, and bit_xor is the sum.
use Rattle.std.specs.Prelude.{◌≡◌, ℕ, zero, suc, ◌*◌, ◌/◌, ◌%◌, ◌^◌, ◌<◌, bit_xor}

-- Horner's rule over the n low bits of a: the sum of b stepped i times, for each bit i that is set
unfoldable pub horner : (ℕ → ℕ) → ℕ → ℕ → ℕ → ℕ
horner step zero a b = 0
horner step (suc n) a b = bit_xor (step (horner step n (a / 2) b)) (a % 2 * b)

-- times x
abbrev pub double : ℕ → ℕ
double a = a * 2

-- the product without carries, of an a of 32 bits and any b
unfoldable pub carryless : ℕ → ℕ → ℕ
carryless = horner double 32

-- x^31 + x^3 + 1
abbrev pub modulus : ℕ
modulus = 2147483657

-- r is the remainder of m by the modulus
pub record Remainder (m r : ℕ) : Type 0 where
  pub quotient : ℕ
  pub small : r < 2 ^ 31
  pub whole : m ≡ bit_xor (carryless modulus quotient) r
