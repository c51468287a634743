-- Euclid's steps on n and k, with the factors of both remainders.
use Rattle.std.specs.Prelude.{◌≡◌, ℕ, zero, suc, ◌+◌, ◌-◌, ◌*◌, ◌/◌, ◌%◌, ◌<◌, ◌≤◌, Bool, true, false, cond, not, Some, None, Option, ◌==◌, ◌≢◌}
use Rattle.std.proofs.Common.{sym, ap, subst, ◌∙◌, mul-suc, mul_comm, mul_assoc, mul_left_comm, mul-add, add-mul, mul-le-mul_right, mod-lt, mod-eq_of_lt, arith}
use Rattle.std.specs.Int.{◌∣◌}
use Rattle.std.proofs.Math.Nat.{div-add-mod, mul-add-mod_self_left, dvd_refl, dvd-zero, dvd-mod_iff, dvd-add_iff_left, dvd-mul_right_of_dvd, le_of_dvd}
use Rattle.std.proofs.lemmas.Bool.{cond-true, cond-false, ne_eqb, eq-eqb}
use Rattle.power.specs.Keys.{gcd, inverse}
use Rattle.power.specs.Inverses.{gcd_is, inverse_is}

-- h is -s times k modulo n, and l is t times k: u and v are the factors of n
pub record Factors (k n s u h t v l : ℕ) : Type 0 where
  pub of_high : h + k * s ≡ n * u
  pub of_low : l + n * v ≡ k * t

-- the signs change at each step, so that k and n change places
factors_step : (k n s u h t v l q r : ℕ) → l * q + r ≡ h → Factors k n s u h t v l → Factors n k v t l (u + q * v) (s + q * t) r
factors_step k n s u h t v l q r whole f =
    let times_q : l * q + q * (n * v) ≡ q * (k * t) = omega (arith, ap (λ (x : ℕ). q * x) f.of_low, mul-add q l (n * v), mul_comm q l) in
    record {
      of_high = f.of_low;
      of_low = omega (arith, f.of_high, whole, times_q, mul-add k s (q * t), mul-add n u (q * v), mul_left_comm k q t, mul_left_comm n q v);
    }

abbrev Signed : Bool → ℕ → ℕ → ℕ → ℕ → ℕ → ℕ → ℕ → ℕ → Type 0
Signed false k n s u h t v l = Factors k n s u h t v l
Signed true k n s u h t v l = Factors n k u s h v t l

signed_step : (b : Bool) (k n s u h t v l q r : ℕ) → l * q + r ≡ h → Signed b k n s u h t v l → Signed (not b) k n t v l (s + q * t) (u + q * v) r
signed_step false k n s u h t v l q r whole f = factors_step k n s u h t v l q r whole f
signed_step true k n s u h t v l q r whole f = factors_step n k u s h v t l q r whole f

-- a common divisor of k and n divides each remainder
signed_divides : (b : Bool) (k n s u h t v l d : ℕ) → d ∣ k → d ∣ n → Signed b k n s u h t v l → d ∣ h
signed_divides false k n s u h t v l d dk dn f =
    (dvd-add_iff_left d (dvd-mul_right_of_dvd d dk s)).1 (subst (λ (x : ℕ). d ∣ x) (sym f.of_high) (dvd-mul_right_of_dvd d dn u))
signed_divides true k n s u h t v l d dk dn f =
    (dvd-add_iff_left d (dvd-mul_right_of_dvd d dn u)).1 (subst (λ (x : ℕ). d ∣ x) (sym f.of_high) (dvd-mul_right_of_dvd d dk s))

-- where Euclid's steps have come to
pub record Reached (k n : ℕ) (positive : Bool) (high low s t : ℕ) : Type 0 where
  pub u : ℕ
  pub v : ℕ
  pub signed : Signed positive k n s u high t v low
  pub common : (d : ℕ) → d ∣ high → d ∣ low → (d ∣ k) × (d ∣ n)
  pub whole : high * t + low * s ≡ n
  pub falls : low < high
  pub small : s < n

module _ (k n : ℕ) where
  pub start : k < n → Reached k n false n k 0 1
  start below = record {
    u = 1;
    v = 0;
    signed = record { of_high = omega arith; of_low = omega arith };
    common = λ d dn dk. (dk, dn);
    whole = omega arith;
    falls = below;
    small = omega arith;
  }

  module _ (positive : Bool) (high low s t : ℕ) (more : 0 < low) (r : Reached k n positive high low s t) where
    division : low * (high / low) + high % low ≡ high
    division = div-add-mod high low

    whole_again : low * (s + high / low * t) + high % low * t ≡ n
    whole_again =
        omega (arith, r.whole, ap (λ (x : ℕ). x * t) division, add-mul (low * (high / low)) (high % low) t, mul_assoc low (high / low) t, mul-add low s (high / low * t))

    -- the next factor is no larger than n
    pub next_fits : s + high / low * t ≤ n
    next_fits =
        omega (arith, whole_again, mul-le-mul_right (s + high / low * t) more)

    pub step : Reached k n (not positive) low (high % low) t (s + high / low * t)
    step = record {
      u = r.v;
      v = r.u + high / low * r.v;
      signed = signed_step positive k n s r.u high t r.v low (high / low) (high % low) division r.signed;
      common = λ d dl dr. r.common d ((dvd-mod_iff d dl).0 dr) dl;
      whole = whole_again;
      falls = mod-lt high more;
      small = let two : 2 ≤ high = omega (arith, r.falls) in omega (arith, r.whole, r.falls, mul-le-mul_right t two, r.small);
    }

  module _ (positive : Bool) (high s t : ℕ) (r : Reached k n positive high 0 s t) where
    pub gcd_reached : gcd k n ≡ high
    gcd_reached =
        let divides = r.common high (dvd_refl high) (dvd-zero high) in
        gcd_is k n high (omega (arith, r.small)) divides.0 divides.1
        (λ d dk dn. le_of_dvd r.falls (signed_divides positive k n s r.u high t r.v 0 d dk dn r.signed))

  module _ (two : 2 ≤ n) where
    pub leaves_one : (x i j : ℕ) → n * i + x ≡ n * j + 1 → x % n ≡ 1
    leaves_one x i j e =
        sym (mul-add-mod_self_left n i x) ∙ ap (λ (y : ℕ). y % n) e ∙ mul-add-mod_self_left n j 1 ∙ mod-eq_of_lt two

    not_one : (i : ℕ) → 1 ≢ n * i
    not_one zero e = omega arith
    not_one (suc i) e = omega (arith, mul-suc n i)

    -- the last factor, with its sign, is an inverse of k
    factor_end : (positive : Bool) (s t : ℕ) → Reached k n positive 1 0 s t → (cond positive s (n - s) < n) × (k * cond positive s (n - s) % n ≡ 1)
    factor_end true s t r = (r.small, leaves_one (k * s) 0 r.u (omega (arith, r.signed.of_high)))
    factor_end false zero t r = absurd (not_one r.u (omega (arith, r.signed.of_high)))
    factor_end false (suc s) t r =
        let parts : k * (n - suc s) + k * suc s ≡ k * n = sym (mul-add k (n - suc s) (suc s)) ∙ ap (λ (x : ℕ). k * x) (omega (arith, r.small)) in
        (omega (arith, r.small), leaves_one (k * (n - suc s)) r.u k (omega (arith, parts, r.signed.of_high, mul_comm k n)))

    pub inverse_end : (positive : Bool) (s t : ℕ) → Reached k n positive 1 0 s t → inverse k n ≡ cond positive s (n - s)
    inverse_end positive s t r = let f = factor_end positive s t r in inverse_is k n two (cond positive s (n - s)) f.0 f.1

    ends : (turns : ℕ) (positive : Bool) (high low s t : ℕ) → low ≤ turns → Reached k n positive high low s t → gcd k n ≡ 1
        → (inverse k n < n) × (k * inverse k n % n ≡ 1)
    ends turns positive high zero s t enough r coprime =
        let one : high ≡ 1 = sym (gcd_reached positive high s t r) ∙ coprime in
        let last = subst (λ (h : ℕ). Reached k n positive h 0 s t) one r in
        subst (λ (d : ℕ). (d < n) × (k * d % n ≡ 1)) (sym (inverse_end positive s t last)) (factor_end positive s t last)
    ends zero positive high (suc l) s t enough r coprime = omega arith
    ends (suc turns) positive high (suc l) s t enough r coprime =
        let next = step positive high (suc l) s t (omega arith) r in
        ends turns (not positive) (suc l) (high % suc l) t (s + high / suc l * t) (omega (arith, next.falls)) next coprime

    -- a number that shares no divisor above 1 with n has an inverse
    pub coprime_inverse : k < n → gcd k n ≡ 1 → (inverse k n < n) × (k * inverse k n % n ≡ 1)
    coprime_inverse below coprime = ends k false n k 0 1 (omega arith) (start below) coprime

  -- what is answered where the steps end
  module _ (positive : Bool) (high low s t : ℕ) (ended : low ≤ 0) (r : Reached k n positive high low s t) where
    at_end : Reached k n positive high 0 s t
    at_end = let none : low ≡ 0 = omega arith in subst (λ (l : ℕ). Reached k n positive high l s t) none r

    pub none_answer : 1 < high → ◌≡◌ {A = Option ℕ} None (cond (gcd k n == 1) (Some (inverse k n)) None)
    none_answer above =
        sym (cond-false _ (Some (inverse k n)) None (ne_eqb (gcd k n) 1 (λ e. omega (arith, gcd_reached positive high s t at_end))))

    pub some_answer : 2 ≤ n → high ≤ 1 → Some (cond positive s (n - s)) ≡ cond (gcd k n == 1) (Some (inverse k n)) None
    some_answer two least =
        let one : high ≡ 1 = omega (arith, r.falls) in
        let last = subst (λ (h : ℕ). Reached k n positive h 0 s t) one at_end in
        sym (cond-true _ (Some (inverse k n)) None (eq-eqb (gcd k n) 1 (gcd_reached positive high s t at_end ∙ one)) ∙ ap Some (inverse_end two positive s t last))
