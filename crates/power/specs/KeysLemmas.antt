-- Lawful keys: from 1 to n - 1, sharing no divisor above 1 with n.
use Rattle.std.specs.Prelude.{◌≡◌, ℕ, zero, suc, ◌+◌, ◌-◌, ◌*◌, ◌%◌, ◌<◌, ◌≤◌, Bool, true, cond, ◌&&◌, Some, None, ◌==◌, nat_lt}
use Rattle.std.proofs.Common.{sym, ap, ap₂, subst, ◌∙◌, mul_comm, mul-suc, suc-mul, mul-zero, mod-eq_of_lt, arith}
use Rattle.std.proofs.Math.Nat.{dvd_refl, dvd-zero, le_of_dvd}
use Rattle.std.proofs.lemmas.Bool.{and_parts, and_from, ltb-true, lt-ltb, eqb-true, eq-eqb, ne_eqb}
use Rattle.power.specs.Keys.{gcd, inverse}
use Rattle.power.specs.Inverses.{gcd_is, inverse_coprime}
use Rattle.power.specs.Euclid.{coprime_inverse, leaves_one}

abbrev lawful : ℕ → ℕ → Bool
lawful n k = nat_lt 0 k && (nat_lt k n && gcd k n == 1)

-- a lawful key with its undo key
pub record Key (n k : ℕ) : Type 0 where
  pub least : 0 < k
  pub below : k < n
  pub coprime : gcd k n ≡ 1
  pub undo_least : 0 < inverse k n
  pub undo_below : inverse k n < n
  pub undo_leaves : k * inverse k n % n ≡ 1

module _ (n : ℕ) (three : 3 ≤ n) where
  two : 2 ≤ n
  two = omega arith

  -- 0 is not lawful, since n divides it
  lawful_below : (k : ℕ) → k < n → (gcd k n == 1) ≡ lawful n k
  lawful_below zero below =
      let divided = gcd_is 0 n n (omega arith) (dvd-zero n) (dvd_refl n) (λ d _ dn. le_of_dvd (omega arith) dn) in
      ne_eqb (gcd 0 n) 1 (λ one. omega arith)
  lawful_below (suc k) below = sym (ap₂ ◌&&◌ (lt-ltb 0 (suc k) (omega arith)) (ap (λ (b : Bool). b && gcd (suc k) n == 1) (lt-ltb (suc k) n below)))

  pub undo_answer : (order k : ℕ) → order ≡ n → k < order
      → cond (gcd k order == 1) (Some (inverse k order)) None ≡ cond (lawful n k) (Some (inverse k n)) None
  undo_answer order k same below =
      ap (λ (x : ℕ). cond (gcd k x == 1) (Some (inverse k x)) None) same
      ∙ ap (λ (b : Bool). cond b (Some (inverse k n)) None) (lawful_below k (subst (λ (x : ℕ). k < x) same below))

  pub key_from : (k : ℕ) → 0 < k → k < n → gcd k n ≡ 1 → lawful n k ≡ true
  key_from k least below coprime =
      and_from (nat_lt 0 k) (nat_lt k n && gcd k n == 1) (lt-ltb 0 k least)
      (and_from (nat_lt k n) (gcd k n == 1) (lt-ltb k n below) (eq-eqb (gcd k n) 1 coprime))

  pub key_parts : (k : ℕ) → lawful n k ≡ true → Key n k
  key_parts k t =
      let outer = and_parts (nat_lt 0 k) (nat_lt k n && gcd k n == 1) t in
      let inner = and_parts (nat_lt k n) (gcd k n == 1) outer.1 in
      let below = ltb-true k n inner.0 in
      let coprime = eqb-true (gcd k n) 1 inner.1 in
      let undo = coprime_inverse k n two below coprime in
      record {
        least = ltb-true 0 k outer.0;
        below = below;
        coprime = coprime;
        undo_least = positive (inverse k n) undo.1;
        undo_below = undo.0;
        undo_leaves = undo.1;
      }
    where
      positive : (d : ℕ) → k * d % n ≡ 1 → 0 < d
      positive zero leaves =
          let any : 0 < n = omega arith in
          omega (arith, sym (mod-eq_of_lt any) ∙ sym (ap (λ (x : ℕ). x % n) (mul-zero k)) ∙ leaves)
      positive (suc d) leaves = omega arith

  pub undo_lawful : (k : ℕ) → Key n k → lawful n (inverse k n) ≡ true
  undo_lawful k key =
      key_from (inverse k n) key.undo_least key.undo_below
      (inverse_coprime (inverse k n) n two k (ap (λ (x : ℕ). x % n) (mul_comm (inverse k n) k) ∙ key.undo_leaves))

-- n - 1 is its own inverse
pub last_lawful : (n : ℕ) → 3 ≤ n → lawful n (n - 1) ≡ true
last_lawful zero three = absurd (omega arith)
last_lawful (suc zero) three = absurd (omega arith)
last_lawful (suc (suc l)) three =
    let n = suc (suc l) in
    let last : n - 1 ≡ suc l = omega arith in
    let product : n * 0 + suc l * suc l ≡ n * l + 1 = omega (arith, mul-suc (suc l) l, suc-mul l l, suc-mul (suc l) l) in
    ap (lawful n) last
    ∙ key_from n three (suc l) (omega arith) (omega arith)
    (inverse_coprime (suc l) n (omega arith) (suc l) (leaves_one (suc l) n (omega arith) (suc l * suc l) 0 l product))
