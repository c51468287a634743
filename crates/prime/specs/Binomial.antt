-- Binomial coefficients, and the binomial theorem for the powers of x + 1.
use Rattle.std.specs.Prelude.{◌≡◌, ℕ, zero, suc, ◌+◌, ◌*◌, ◌^◌, ◌<◌, refl}
use Rattle.std.proofs.Common.{arith, zero-mul, mul-add, add-mul, suc-mul, mul_left_comm}
use Rattle.std.proofs.Math.Nat.{pow-zero, pow-succ'}

-- the number of ways to choose k of n things, by Pascal's rule
abbrev pub choose : ℕ → ℕ → ℕ
choose n zero = 1
choose zero (suc k) = 0
choose (suc n) (suc k) = choose n k + choose n (suc k)

choose_above : (n k : ℕ) → n < k → choose n k ≡ 0
choose_above n zero h = omega arith
choose_above zero (suc k) h = refl
choose_above (suc n) (suc k) h = omega (arith, choose_above n k (omega arith), choose_above n (suc k) (omega arith))

pub choose_all : (n : ℕ) → choose n n ≡ 1
choose_all zero = refl
choose_all (suc n) = omega (arith, choose_all n, choose_above n (suc n) (omega arith))

-- the absorption identity
pub absorb : (n k : ℕ) → suc k * choose (suc n) (suc k) ≡ suc n * choose n k
absorb zero zero = refl
absorb zero (suc k) = omega arith
absorb (suc n) zero = omega (arith, absorb n zero)
absorb (suc n) (suc k) =
    let a = choose (suc n) (suc k) in
    let b = choose (suc n) (suc (suc k)) in
    omega (
      arith,
      absorb n k,
      absorb n (suc k),
      mul-add (suc (suc k)) a b,
      suc-mul (suc k) a,
      suc-mul (suc n) a,
      mul-add (suc n) (choose n k) (choose n (suc k)),
    )

-- the sum of the first m terms of (x + 1) to the power n
abbrev pub terms : ℕ → ℕ → ℕ → ℕ
terms x n zero = 0
terms x n (suc m) = terms x n m + choose n m * x ^ m

-- one factor x + 1 more
terms_next : (x n m : ℕ) → terms x (suc n) (suc m) ≡ terms x n (suc m) + x * terms x n m
terms_next x n zero = omega arith
terms_next x n (suc m) =
    let raised : x * (choose n m * x ^ m) ≡ choose n m * x ^ suc m = cc (mul_left_comm x (choose n m) (x ^ m), pow-succ' x m) in
    omega (arith, raised, terms_next x n m, add-mul (choose n m) (choose n (suc m)) (x ^ suc m), mul-add x (terms x n m) (choose n m * x ^ m))

pub binomial : (x n : ℕ) → suc x ^ n ≡ terms x n (suc n)
binomial x zero = omega (arith, pow-zero (suc x), pow-zero x)
binomial x (suc n) =
    let all = terms x n (suc n) in
    let none : choose n (suc n) * x ^ suc n ≡ 0 = cc (choose_above n (suc n) (omega arith), zero-mul (x ^ suc n)) in
    let raised : suc x ^ suc n ≡ x * all + all = cc (pow-succ' (suc x) n, binomial x n, suc-mul x all) in
    omega (arith, none, raised, terms_next x n (suc n))
