-- The laws of the product modulo x^31 + x^3 + 1.
use Rattle.std.specs.Prelude.{◌≡◌, ℕ, ◌*◌, ◌/◌, ◌%◌, ◌^◌, ◌<◌, bit_xor, refl}
use Rattle.std.proofs.Common.{sym, ap, ◌∙◌, arith}
use Rattle.std.proofs.lemmas.Nat.{xor_mod, xor_shr}
use Rattle.field.specs.Field.{CommutativeMonoid}
use Rattle.binary.specs.Carryless.{double}
use Rattle.binary.specs.Binary.{folded, times_x, scaled, binary_times}
use Rattle.binary.specs.Xor.{xor_medial, xor_shl}
use Rattle.binary.specs.Additive.{Additive, passes, horner_left, horner_right}
use Rattle.binary.specs.Multiples.{double_additive}
use Rattle.binary.specs.Remainders.{remainder_self, remainder_scaled, scaled_one}

fold_additive : Additive folded
unfolding folded
fold_additive a b =
    let h : ℕ = a / 2 ^ 31 in
    let k : ℕ = b / 2 ^ 31 in
    cc (
      xor_mod a b 31,
      xor_shr a b 31,
      xor_shl h k 3,
      xor_medial (h * 8) (k * 8) h k,
      xor_medial (a % 2 ^ 31) (b % 2 ^ 31) (bit_xor (h * 8) h) (bit_xor (k * 8) k),
    )

times_x_additive : Additive times_x
unfolding times_x
times_x_additive a b = ap folded (double_additive a b) ∙ fold_additive (double a) (double b)

scaled_times_x : (a b : ℕ) → scaled a (times_x b) ≡ times_x (scaled a b)
scaled_times_x a b = sym (passes times_x times_x times_x_additive (λ x. refl) 32 a b)

scaled_swap : (a b c : ℕ) → scaled a (scaled b c) ≡ scaled b (scaled a c)
scaled_swap a b c = passes (scaled a) times_x (horner_right times_x times_x_additive 32 a) (scaled_times_x a) 32 b c

scaled_lt : (a b : ℕ) → b < 2 ^ 31 → scaled a b < 2 ^ 31
scaled_lt a b h = (remainder_scaled a b b (remainder_self b h)).small

pub times_lt : (a b : ℕ) → binary_times a b < 2 ^ 31
unfolding binary_times
times_lt a b = scaled_lt a (scaled b 1) (scaled_lt b 1 (omega arith))

pub times_comm : (a b : ℕ) → binary_times a b ≡ binary_times b a
unfolding binary_times
times_comm a b = scaled_swap a b 1

pub times_additive : (b : ℕ) → Additive (λ a. binary_times a b)
unfolding binary_times
times_additive b = horner_left times_x times_x_additive 32 (scaled b 1)

-- a number as the second factor
times_number : (a b : ℕ) → b < 2 ^ 31 → binary_times a b ≡ scaled a b
unfolding binary_times
times_number a b h = ap (scaled a) (scaled_one b h)

pub times_assoc : (a b c : ℕ) → binary_times (binary_times a b) c ≡ binary_times a (binary_times b c)
unfolding binary_times
times_assoc a b c =
    times_comm (binary_times a b) c ∙ times_number c (binary_times a b) (times_lt a b) ∙ scaled_swap c a (scaled b 1)
    ∙ sym (times_number a (binary_times c b) (times_lt c b)) ∙ ap (binary_times a) (times_comm c b)

pub times_one : (a : ℕ) → a < 2 ^ 31 → binary_times a 1 ≡ a
times_one a h = times_number a 1 (omega arith) ∙ scaled_one a h

pub times_two : (a : ℕ) → a < 2 ^ 31 → binary_times a 2 ≡ times_x a
unfolding times_x folded
times_two a h = times_number a 2 (omega arith) ∙ scaled_times_x a 1 ∙ ap times_x (scaled_one a h)

pub monoid : CommutativeMonoid 2147483647 binary_times
monoid = record {
  one_number = omega arith;
  closed = λ a b ha hb. omega (arith, times_lt a b);
  associative = λ a b c ha hb hc. times_assoc a b c;
  commutative = λ a b ha hb. times_comm a b;
  neutral = λ a h. times_comm 1 a ∙ times_one a (omega arith);
}
