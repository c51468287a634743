-- The prime field: the numbers below the prime 2147483647.
use Rattle.std.specs.Prelude.{ℕ, ◌*◌, ◌%◌}
use Rattle.field.specs.Field.{FieldMeaning}

-- the product modulo the prime
abbrev pub prime_times : ℕ → ℕ → ℕ
prime_times a b = a * b % 2147483647

-- the field with that product; its order is the count of the numbers other than 0
abbrev pub prime_field : FieldMeaning
prime_field = record { last = 2147483646; times = prime_times; order = 2147483646; base = 49; mark = 1 }
