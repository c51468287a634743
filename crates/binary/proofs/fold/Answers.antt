-- The mask keeps 31 bits, and the shift by 3 loses none.
use Rattle.std.proofs.Common.{◌≡◌, ℕ, ◌*◌, ◌/◌, ◌%◌, ◌^◌, ap₂, arith}
use lib.Bits.{bit_xor, and_mask}
use Rattle.binary.specs.Binary.{folded}
use Rattle.binary.proofs.fold.Goals as goal

pub returns : goal.returns
unfolding folded
returns c =
    let high : ℕ = c.args.m / 2 ^ 31 in
    let shifted : high * 8 % 2 ^ 64 ≡ high * 8 = omega arith in
    ap₂ (λ (x y : ℕ). bit_xor x (bit_xor y high)) (and_mask c.args.m 31) shifted
