-- The parts are summed bit by bit: each turn moves the lowest bit of those that are left into the sum.
use Rattle.std.proofs.Common.{rules, ◌≡◌, ℕ, zero, suc, ◌+◌, ◌*◌, ◌/◌, ◌%◌, ◌^◌, ◌<◌, map, refl, sym, ap, ◌∙◌, mul_assoc, mul-one, mul_right_comm, div-one, arith, pow-add, shr-shr}
use lib.Bits.{bit_and, bit_xor, xor_assoc, xor_comm, xor_zero_r, and_high}
use Rattle.std.specs.List.{fold, range_with_len}
use Rattle.std.proofs.lemmas.Nat.{one_shl}
use Rattle.std.proofs.lemmas.Iterator.{YieldsList-from_range, YieldsList-from_map}
use Rattle.std.proofs.lemmas.Iterator.Consumers.{fold_from_yields_List}
use Rattle.binary.specs.Carryless.{horner, double, carryless}
use Rattle.binary.specs.Xor.{xor_shl}
use Rattle.binary.proofs.product.Goals as goal

-- b times bit i of a, as it is computed
abbrev part : ℕ → ℕ → ℕ → ℕ
part a b i = bit_and a (1 * 2 ^ i % 2 ^ 32) * b

bit_is : (a i : ℕ) → i < 32 → bit_and a (1 * 2 ^ i % 2 ^ 32) ≡ a / 2 ^ i % 2 * 2 ^ i
bit_is a i h = ap (bit_and a) (omega (arith, one_shl i 32 h, pow-add 2 1 i)) ∙ and_high a 1 i

turn : (n i a b sum : ℕ)
    → bit_xor (horner double n (a / 2 ^ (i + 1)) b * 2 ^ (i + 1)) (bit_xor sum (a / 2 ^ i % 2 * 2 ^ i * b))
    ≡ bit_xor (horner double (suc n) (a / 2 ^ i) b * 2 ^ i) sum
unfolding horner
turn n i a b sum =
    let rest : ℕ = horner double n (a / 2 ^ i / 2) b in
    let term : ℕ = a / 2 ^ i % 2 * 2 ^ i * b in
    let power : 2 * 2 ^ i ≡ 2 ^ (i + 1) = omega (arith, pow-add 2 i 1) in
    cc (
      xor_shl (double rest) (a / 2 ^ i % 2 * b) i,
      mul_assoc rest 2 (2 ^ i),
      mul_right_comm (a / 2 ^ i % 2) b (2 ^ i),
      shr-shr a i 1,
      xor_comm sum term,
      xor_assoc (rest * 2 ^ (i + 1)) term sum,
    )

summed : (n i a b sum : ℕ) → n + i ≡ 32
    → fold bit_xor sum (map (part a b) (range_with_len i n)) ≡ bit_xor (horner double n (a / 2 ^ i) b * 2 ^ i) sum
unfolding horner
summed zero i a b sum h =
    let none : 0 ≡ 0 * 2 ^ i = omega arith in
    sym (xor_zero_r sum) ∙ xor_comm sum 0 ∙ ap (λ (x : ℕ). bit_xor x sum) none
summed (suc n) i a b sum h =
    summed n (i + 1) a b (bit_xor sum (part a b i)) (omega arith)
    ∙ ap (λ (x : ℕ). bit_xor (horner double n (a / 2 ^ (i + 1)) b * 2 ^ (i + 1)) (bit_xor sum (x * b))) (bit_is a i (omega arith))
    ∙ turn n i a b sum

pub returns : goal.returns
unfolding carryless
returns c =
    let total : c.fold.result ≡ fold bit_xor 0 (map (part c.args.a c.args.b) (range_with_len 0 32)) =
    fold_from_yields_List _ bit_xor 0 _ c.fold.ensures.ran
    (YieldsList-from_map _ (part c.args.a c.args.b) (YieldsList-from_range 0 32 32 c.map.ensures.source refl) c.map.ensures.closure (λ x r f k. search rules))
    (λ x y r f k. search rules) in
    total ∙ summed 32 0 c.args.a c.args.b 0 refl ∙ simp (xor_zero_r, mul-one, div-one)
