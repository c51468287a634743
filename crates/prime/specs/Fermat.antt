-- Fermat's little theorem.
use Rattle.std.specs.Prelude.{◌≡◌, ℕ, zero, suc, ◌+◌, ◌*◌, ◌/◌, ◌%◌, ◌^◌, ◌<◌}
use Rattle.std.proofs.Common.{◌∙◌, arith, one-add, zero-add, one-mul, mul-zero, pow-suc}
use Rattle.std.specs.Int.{◌∣◌}
use Rattle.std.proofs.Math.Nat.{pow-zero, add-mod, add-mul-mod_self_left, mul-div_cancel', dvd-mul_right, dvd-mul_right_of_dvd}
use Rattle.prime.specs.Primality.{Prime}
use Rattle.prime.specs.Euclid.{euclid}
use Rattle.prime.specs.Binomial.{choose, choose_all, absorb, terms, binomial}

add_multiple : (a b p : ℕ) → p ∣ b → (a + b) % p ≡ a % p
add_multiple a b p d = cc (mul-div_cancel' p d, add-mul-mod_self_left a p (b / p))

module _ (n : ℕ) (prime : Prime (suc n)) where
  divides_choose : (k : ℕ) → k < n → suc n ∣ choose (suc n) (suc k)
  divides_choose k h = euclid prime (suc k) (choose (suc n) (suc k)) (omega arith) (omega arith) (rw absorb (dvd-mul_right (suc n) (choose n k)))

  -- before the last term of (x + 1) to the power of the prime, only the first is no multiple of the prime
  terms_but_last : (x m : ℕ) → m < suc n → terms x (suc n) (suc m) % suc n ≡ 1 % suc n
  terms_but_last x zero h = cc (zero-add (1 * x ^ 0), one-mul (x ^ 0), pow-zero x)
  terms_but_last x (suc m) h =
      add_multiple (terms x (suc n) (suc m)) _ (suc n) (dvd-mul_right_of_dvd (suc n) (divides_choose m (omega arith)) (x ^ suc m)) ∙
      terms_but_last x m (omega arith)

  pub fermat : (x : ℕ) → x ^ suc n % suc n ≡ x % suc n
  fermat zero = cc (pow-suc 0 n, mul-zero (0 ^ n))
  fermat (suc x) =
      let first = terms x (suc n) (suc n) in
      let whole : suc x ^ suc n ≡ first + x ^ suc n = cc (binomial x (suc n), choose_all (suc n), one-mul (x ^ suc n)) in
      cc (whole, add-mod first (x ^ suc n) (suc n), terms_but_last x n (omega arith), fermat x, add-mod 1 x (suc n), one-add x)
