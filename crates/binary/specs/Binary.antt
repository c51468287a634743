-- The field of 2^31 elements: polynomials over two elements modulo x^31 + x^3 + 1.
use Rattle.std.specs.Prelude.{ℕ, ◌*◌, ◌/◌, ◌%◌, ◌^◌, bit_xor}
use Rattle.field.specs.Field.{FieldMeaning}
use Rattle.binary.specs.Carryless.{horner, double}

-- m with x^3 + 1 in place of x^31
unfoldable pub folded : ℕ → ℕ
folded m = bit_xor (m % 2 ^ 31) (bit_xor (m / 2 ^ 31 * 8) (m / 2 ^ 31))

-- times x modulo x^31 + x^3 + 1
unfoldable pub times_x : ℕ → ℕ
times_x a = folded (double a)

-- a times b modulo x^31 + x^3 + 1, for an a of 32 bits and a b of 31
abbrev pub scaled : ℕ → ℕ → ℕ
scaled = horner times_x 32

-- the product, where scaled b 1 is the remainder of b
unfoldable pub binary_times : ℕ → ℕ → ℕ
binary_times a b = scaled a (scaled b 1)

abbrev pub binary_field : FieldMeaning
binary_field = record { last = 2147483647; times = binary_times; order = 2147483647; base = 2; mark = 2 }
