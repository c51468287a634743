-- Inverses modulo n: there is at most one below n, and only where there is no common divisor.
use Rattle.std.specs.Prelude.{◌≡◌, ℕ, suc, ◌+◌, ◌*◌, ◌/◌, ◌%◌, ◌<◌, ◌≤◌, ◌&&◌, nat_eq}
use Rattle.std.proofs.Common.{sym, ap, subst, ◌∙◌, mul_comm, mul_assoc, mul-one, mod-eq_of_lt, arith}
use Rattle.std.specs.Int.{◌∣◌}
use Rattle.std.proofs.Math.Nat.{mod-one, div-add-mod, dvd-add_iff_right, dvd-mul_right_of_dvd, dvd_of_mod-eq-zero, mod-eq-zero_of_dvd, eq-one_of_dvd-one, le_of_dvd}
use Rattle.std.proofs.lemmas.Bool.{and_parts, and_from, eqb-true, eq-eqb}
use Rattle.field.proofs.Modulo.{mod_times, times_mod}
use Rattle.power.specs.Keys.{divides, gcd, inverse}
use Rattle.power.specs.Largest.{largest_is}

-- g is the greatest of the common divisors
pub gcd_is : (k n g : ℕ) → 0 < n → g ∣ k → g ∣ n → ((d : ℕ) → d ∣ k → d ∣ n → d ≤ g) → gcd k n ≡ g
gcd_is k n g positive gk gn greatest =
    let below = le_of_dvd positive gn in
    let passes = and_from (divides g k) (divides g n) (eq-eqb _ 0 (mod-eq-zero_of_dvd g gk)) (eq-eqb _ 0 (mod-eq-zero_of_dvd g gn)) in
    largest_is (λ d. divides d k && divides d n) (suc n) g (omega arith) passes
    (λ j above _ t.
    let both = and_parts (divides j k) (divides j n) t in
    let most = greatest j (dvd_of_mod-eq-zero j (eqb-true _ 0 both.0)) (dvd_of_mod-eq-zero j (eqb-true _ 0 both.1)) in
    omega arith)

module _ (k n : ℕ) (two : 2 ≤ n) where
  -- two inverses below n are the same: each is the other times k times itself
  unique : (d e : ℕ) → d < n → e < n → k * d % n ≡ 1 → k * e % n ≡ 1 → d ≡ e
  unique d e below_d below_e inverse_d inverse_e =
      let left : k * d * e % n ≡ e =
      sym (mod_times (k * d) e n) ∙ ap (λ (x : ℕ). x * e % n) inverse_d ∙ ap (λ (x : ℕ). x % n) (mul_comm 1 e ∙ mul-one e) ∙ mod-eq_of_lt below_e in
      let right : d * (k * e) % n ≡ d =
      sym (times_mod d (k * e) n) ∙ ap (λ (x : ℕ). d * x % n) inverse_e ∙ ap (λ (x : ℕ). x % n) (mul-one d) ∙ mod-eq_of_lt below_d in
      let same : d * (k * e) ≡ k * d * e = sym (mul_assoc d k e) ∙ ap (λ (x : ℕ). x * e) (mul_comm d k) in
      sym right ∙ ap (λ (x : ℕ). x % n) same ∙ left

  pub inverse_is : (d : ℕ) → d < n → k * d % n ≡ 1 → inverse k n ≡ d
  inverse_is d below leaves =
      largest_is (λ e. nat_eq (k * e % n) 1) n d below (eq-eqb (k * d % n) 1 leaves)
      (λ e above below_e t. let same = unique d e below below_e leaves (eqb-true (k * e % n) 1 t) in omega arith)

  -- a number with an inverse shares no divisor above 1 with n
  pub inverse_coprime : (d : ℕ) → k * d % n ≡ 1 → gcd k n ≡ 1
  inverse_coprime d leaves =
      gcd_is k n 1 (omega arith) (dvd_of_mod-eq-zero 1 (mod-one k)) (dvd_of_mod-eq-zero 1 (mod-one n))
      (λ e ek en.
      let whole : n * (k * d / n) + 1 ≡ k * d = ap (λ (x : ℕ). n * (k * d / n) + x) (sym leaves) ∙ div-add-mod (k * d) n in
      let divided = subst (λ (x : ℕ). e ∣ x) (sym whole) (dvd-mul_right_of_dvd e ek d) in
      let one = eq-one_of_dvd-one ((dvd-add_iff_right e (dvd-mul_right_of_dvd e en (k * d / n))).1 divided) in
      omega arith)
