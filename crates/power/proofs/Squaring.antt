-- Square and multiply: result times a power of the square stays the power that is sought.
use Rattle.std.proofs.Common.{◌≡◌, ℕ, zero, suc, ◌*◌, ◌/◌, ◌%◌, ◌≤◌, sym, ap, ◌∙◌, subst, ap₂, arith}
use Rattle.field.specs.Power.{power}
use Rattle.field.specs.Field.{FieldMeaning, FieldLaws, Number}
use Rattle.field.proofs.Powers.{power_number, power_of_square}

-- x to the power k is sought, and this much of it is left
pub record Reached (f : FieldMeaning) (x k result square left : ℕ) : Type 0 where
  pub result_number : Number f result
  pub square_number : Number f square
  pub product : f.times result (power f.times square left) ≡ power f.times x k

module _ (f : FieldMeaning) (laws : FieldLaws f) (x k : ℕ) where
  pub start : Number f x → Reached f x k 1 x k
  start h = record {
    result_number = laws.monoid.one_number;
    square_number = h;
    product = laws.monoid.neutral (power f.times x k) (power_number laws.monoid x h k);
  }

  module _ (result square left result' square' : ℕ) (now_square : square' ≡ f.times square square) (r : Reached f x k result square left) where
    squared : Number f square'
    squared = subst (Number f) (sym now_square) (laws.monoid.closed square square r.square_number r.square_number)

    halved : power f.times square' (left / 2) ≡ power f.times square (2 * (left / 2))
    halved = ap (λ (y : ℕ). power f.times y (left / 2)) now_square ∙ power_of_square laws.monoid square r.square_number (left / 2)

    pub turn_even : (left % 2 ≡ 1 → ⊥) → result' ≡ result → Reached f x k result' square' (left / 2)
    turn_even even same =
        let twice : 2 * (left / 2) ≡ left = omega arith in
        record {
          result_number = subst (Number f) (sym same) r.result_number;
          square_number = squared;
          product = ap₂ f.times same (halved ∙ ap (power f.times square) twice) ∙ r.product;
        }

    pub turn_odd : left % 2 ≡ 1 → result' ≡ f.times result square → Reached f x k result' square' (left / 2)
    unfolding power
    turn_odd odd multiplied =
        let rest = power f.times square (2 * (left / 2)) in
        let twice : suc (2 * (left / 2)) ≡ left = omega arith in
        record {
          result_number = subst (Number f) (sym multiplied) (laws.monoid.closed result square r.result_number r.square_number);
          square_number = squared;
          product =
              ap₂ f.times multiplied halved
              ∙ laws.monoid.associative result square rest r.result_number r.square_number (power_number laws.monoid square r.square_number (2 * (left / 2)))
              ∙ ap (λ (e : ℕ). f.times result (power f.times square e)) twice ∙ r.product;
        }

  pub finish : (result square left : ℕ) → left ≤ 0 → Reached f x k result square left → result ≡ power f.times x k
  unfolding power
  finish result square left none r =
      let nothing : zero ≡ left = omega arith in
      sym (laws.monoid.neutral result r.result_number) ∙ laws.monoid.commutative 1 result laws.monoid.one_number r.result_number
      ∙ ap (λ (e : ℕ). f.times result (power f.times square e)) nothing ∙ r.product
