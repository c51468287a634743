-- Laws of powers: under any product of a commutative monoid, and in a field.
use Rattle.std.proofs.Common.{◌≡◌, ℕ, zero, suc, ◌+◌, ◌*◌, ◌<◌, ◌≤◌, sym, ap, ◌∙◌, ap₂, mul_comm, mul-suc, arith}
use Rattle.field.specs.Power.{power}
use Rattle.field.specs.Field.{CommutativeMonoid, FieldMeaning, FieldLaws, Number}

module _ {last : ℕ} {times : ℕ → ℕ → ℕ} (m : CommutativeMonoid last times) (x : ℕ) (h : x ≤ last) where
  pub power_number : (k : ℕ) → power times x k ≤ last
  unfolding power
  power_number zero = m.one_number
  power_number (suc k) = m.closed x (power times x k) h (power_number k)

  pub power_one : power times x 1 ≡ x
  unfolding power
  power_one = m.commutative x 1 h m.one_number ∙ m.neutral x h

  pub power_add : (j k : ℕ) → power times x (j + k) ≡ times (power times x j) (power times x k)
  unfolding power
  power_add zero k =
      let sum : zero + k ≡ k = omega arith in
      ap (power times x) sum ∙ sym (m.neutral (power times x k) (power_number k))
  power_add (suc j) k =
      let sum : suc j + k ≡ suc (j + k) = omega arith in
      ap (power times x) sum ∙ ap (times x) (power_add j k)
      ∙ sym (m.associative x (power times x j) (power times x k) h (power_number j) (power_number k))

  pub power_power : (j k : ℕ) → power times (power times x j) k ≡ power times x (j * k)
  unfolding power
  power_power j zero =
      let product : zero ≡ j * zero = omega arith in
      ap (power times x) product
  power_power j (suc k) =
      let product : j * suc k ≡ j + j * k = omega (arith, mul-suc j k) in
      ap (times (power times x j)) (power_power j k) ∙ sym (power_add j (j * k)) ∙ sym (ap (power times x) product)

  pub power_commutes : (j k : ℕ) → power times (power times x j) k ≡ power times (power times x k) j
  power_commutes j k = power_power j k ∙ ap (power times x) (mul_comm j k) ∙ sym (power_power k j)

  -- the square of x raised to k
  pub power_of_square : (k : ℕ) → power times (times x x) k ≡ power times x (2 * k)
  power_of_square k =
      let square : times x x ≡ power times x 2 = ap₂ times (sym power_one) (sym power_one) ∙ sym (power_add 1 1) in
      ap (λ (y : ℕ). power times y k) square ∙ power_power 2 k

module _ (f : FieldMeaning) (laws : FieldLaws f) where
  -- a power that leaves 1 modulo the order changes nothing
  pub power_around : (x m : ℕ) → Number f x → power f.times x (1 + f.order * m) ≡ x
  power_around x zero h =
      let once : 1 + f.order * zero ≡ 1 = omega arith in
      ap (power f.times x) once ∙ power_one laws.monoid x h
  power_around x (suc m) h =
      let split : 1 + f.order * suc m ≡ (1 + f.order * m) + f.order = omega (arith, mul-suc f.order m) in
      let turn : 1 + f.order ≡ f.order + 1 = omega arith in
      ap (power f.times x) split ∙ power_add laws.monoid x h (1 + f.order * m) f.order
      ∙ ap (λ (y : ℕ). f.times y (power f.times x f.order)) (power_around x m h ∙ sym (power_one laws.monoid x h))
      ∙ sym (power_add laws.monoid x h 1 f.order) ∙ ap (power f.times x) turn ∙ laws.periodic x h

  pub power_of_zero : (k : ℕ) → 0 < k → power f.times 0 k ≡ 0
  unfolding power
  power_of_zero zero h = omega arith
  power_of_zero (suc k) h = laws.absorbing (power f.times 0 k) (power_number laws.monoid 0 (omega arith) k)
