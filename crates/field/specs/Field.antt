-- What a field is to the ciphers: numbers from 0 to a last one, with a product.
use Rattle.std.specs.Prelude.{◌≡◌, ℕ, ◌+◌, ◌^◌, ◌<◌, ◌≤◌, ◌≢◌}
use Rattle.field.specs.Power.{power}

pub record FieldMeaning : Type 0 where
  -- the numbers are those from 0 to last
  pub last : ℕ
  pub times : ℕ → ℕ → ℕ
  -- each number to the power order + 1 is that number again
  pub order : ℕ
  -- card c is coded by the base to the power c + 1
  pub base : ℕ
  -- the byte by which a file names the field
  pub mark : ℕ

-- the product of numbers up to last is one of them, whatever the order and the brackets, and 1 changes nothing
pub record CommutativeMonoid (last : ℕ) (times : ℕ → ℕ → ℕ) : Type 0 where
  pub one_number : 1 ≤ last
  pub closed : (a b : ℕ) → a ≤ last → b ≤ last → times a b ≤ last
  pub associative : (a b c : ℕ) → a ≤ last → b ≤ last → c ≤ last → times (times a b) c ≡ times a (times b c)
  pub commutative : (a b : ℕ) → a ≤ last → b ≤ last → times a b ≡ times b a
  pub neutral : (a : ℕ) → a ≤ last → times 1 a ≡ a

module _ (f : FieldMeaning) where
  abbrev pub Number : ℕ → Type 0
  Number a = a ≤ f.last

  pub record FieldLaws : Type 0 where
    pub last_fits : f.last < 2 ^ 32
    pub order_fits : f.order < 2 ^ 32
    pub mark_fits : f.mark < 2 ^ 8
    pub order_least : 3 ≤ f.order
    pub base_number : Number f.base
    pub monoid : CommutativeMonoid f.last f.times
    pub absorbing : (a : ℕ) → Number a → f.times 0 a ≡ 0
    pub periodic : (a : ℕ) → Number a → power f.times a (f.order + 1) ≡ a
    pub powers_differ : (i j : ℕ) → i < 52 → j < 52 → power f.times f.base (i + 1) ≡ power f.times f.base (j + 1) → i ≡ j
    pub powers_not_zero : (i : ℕ) → i < 52 → power f.times f.base (i + 1) ≢ 0
