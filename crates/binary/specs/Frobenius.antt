-- Squaring is additive and multiplicative, and 31 squarings leave a number as it is.
use Rattle.std.specs.Prelude.{◌≡◌, ℕ, zero, suc, ◌^◌, ◌<◌, bit_xor, refl}
use Rattle.std.proofs.Math.Path.{ap}
use Rattle.std.proofs.Common.{ap₂, subst, ◌∙◌, arith}
use Rattle.std.proofs.Math.Nat.{pow-suc}
use Rattle.std.proofs.lemmas.Nat.{xor_comm, xor_lt}
use Rattle.std.specs.Int.Bits.{xor_self, xor_zero_r}
use Rattle.field.specs.Power.{power}
use Rattle.field.proofs.Powers.{power_one, power_add}
use Rattle.binary.specs.Carryless.{horner}
use Rattle.binary.specs.Binary.{folded, times_x, binary_times}
use Rattle.binary.specs.Xor.{xor_medial}
use Rattle.binary.specs.Additive.{Additive, at_zero, related}
use Rattle.binary.specs.Remainders.{scaled_one}
use Rattle.binary.specs.Products.{times_lt, times_comm, times_additive, times_assoc, times_two, monoid}

abbrev square : ℕ → ℕ
square a = binary_times a a

square_additive : Additive square
square_additive a b =
    let s : ℕ = bit_xor a b in
    let ab : ℕ = binary_times a b in
    cc (
      times_additive s a b,
      times_comm a s,
      times_comm b s,
      times_additive a a b,
      times_additive b a b,
      times_comm b a,
      xor_comm ab (square b),
      xor_medial (square a) ab (square b) ab,
      xor_self ab,
      xor_zero_r (bit_xor (square a) (square b)),
    )

square_times : (a b : ℕ) → square (binary_times a b) ≡ binary_times (square a) (square b)
square_times a b =
    cc (times_assoc a b (binary_times a b), times_assoc b a b, times_comm b a, times_assoc a b b, times_assoc a a (square b))

-- a squared n times
squares : ℕ → ℕ → ℕ
squares zero a = a
squares (suc n) a = square (squares n a)

squares_additive : (n : ℕ) → Additive (squares n)
unfolding squares
squares_additive zero a b = refl
squares_additive (suc n) a b = ap square (squares_additive n a b) ∙ square_additive (squares n a) (squares n b)

squares_times : (n a b : ℕ) → squares n (binary_times a b) ≡ binary_times (squares n a) (squares n b)
unfolding squares
squares_times zero a b = refl
squares_times (suc n) a b = ap square (squares_times n a b) ∙ square_times (squares n a) (squares n b)

-- a number that 31 squarings leave as it is: sums and products of such numbers are such, and so all numbers
record Fixed (a : ℕ) : Type 0 where
  number : a < 2 ^ 31
  fixed : squares 31 a ≡ a

fixed_sum : (a b : ℕ) → Fixed a → Fixed b → Fixed (bit_xor a b)
fixed_sum a b p q =
    record { number = xor_lt 31 a b p.number q.number; fixed = squares_additive 31 a b ∙ ap₂ bit_xor p.fixed q.fixed }

fixed_two : squares 31 2 ≡ 2
unfolding squares binary_times horner times_x folded
fixed_two = refl

fixed_step : (a : ℕ) → Fixed a → Fixed (times_x a)
fixed_step a p =
    subst Fixed (times_two a p.number)
    (record { number = times_lt a 2; fixed = squares_times 31 a 2 ∙ ap₂ binary_times p.fixed fixed_two })

fixed_one : Fixed 1
unfolding squares binary_times horner times_x folded
fixed_one = record { number = omega arith; fixed = refl }

fixed_all : (a : ℕ) → a < 2 ^ 31 → Fixed a
fixed_all a h =
    let zeros : Fixed 0 = record { number = omega arith; fixed = at_zero (squares 31) (squares_additive 31) } in
    subst Fixed (scaled_one a h)
    (related (λ x y. Fixed x) zeros (λ x y z w. fixed_sum x y) times_x times_x (λ x y. fixed_step x) 32 a 1 1 fixed_one)

module _ (a : ℕ) (h : a < 2 ^ 31) where
  power_squares : (n : ℕ) → power binary_times a (2 ^ n) ≡ squares n a
  unfolding squares
  power_squares zero = power_one monoid a (omega arith)
  power_squares (suc n) =
      ap (power binary_times a) (omega (arith, pow-suc 2 n)) ∙ power_add monoid a (omega arith) (2 ^ n) (2 ^ n) ∙ ap square (power_squares n)

  pub power_itself : power binary_times a (2 ^ 31) ≡ a
  power_itself = power_squares 31 ∙ (fixed_all a h).fixed
