-- Answers of the power cipher at given numbers, by computation: a witness is computed with, and the laws say that it is the one.
use Rattle.std.proofs.Common.{◌≡◌, ℕ, zero, suc, ◌+◌, ◌*◌, ◌/◌, ◌%◌, ◌^◌, ◌<◌, ◌≤◌, Bool, true, false, cond, ◌&&◌, ◌||◌, eqb, ltb, leb, Ok, Err, sym, ap, ◌∙◌, inl, inr, pow-suc, arith}
use Rattle.std.proofs.lemmas.Bool.{and_parts, ltb-true, eqb-true, eqb-false, cond-true, cond-false, cases_Bool, ne_eqb, and_right, or_cases, lt-ltb, leb-true}
use Rattle.field.specs.Power.{power}
use Rattle.field.specs.Field.{CommutativeMonoid, FieldMeaning, FieldLaws}
use Rattle.field.proofs.Powers.{power_of_square}
use Rattle.cipher.specs.Cipher.{CipherMeaning, Value, Lawful}
use Rattle.cipher.specs.Answers.{lock_answer, undo_answer, code_answer}
use Rattle.cipher.specs.declared.fault.CipherFault.TheVariants.{UnlawfulKey}
use Rattle.power.specs.Keys.{divides, gcd, inverse}
use Rattle.power.specs.PowerCipher.{power_cipher}
use Rattle.power.specs.Largest.{largest_least}
use Rattle.power.specs.Inverses.{inverse_is, inverse_coprime}
use Rattle.power.specs.KeysLemmas.{key_from}

-- x to the power k by squaring, where k has n bits
unfoldable pub raised : (ℕ → ℕ → ℕ) → ℕ → ℕ → ℕ → ℕ
raised times zero x k = 1
raised times (suc n) x k = let rest = raised times n (times x x) (k / 2) in cond (eqb (k % 2) 1) (times x rest) rest

raised_power : {last : ℕ} {times : ℕ → ℕ → ℕ} (m : CommutativeMonoid last times) (n x k : ℕ) → x ≤ last → k < 2 ^ n → raised times n x k ≡ power times x k
unfolding raised power
raised_power {times = times} m zero x k h below =
    let none : zero ≡ k = omega arith in
    ap (power times x) none
raised_power {times = times} m (suc n) x k h below =
    let rest = raised times n (times x x) (k / 2) in
    let squares : rest ≡ power times x (2 * (k / 2)) =
    raised_power m n (times x x) (k / 2) (m.closed x x h h) (omega (arith, pow-suc 2 n)) ∙ power_of_square m x h (k / 2) in
    elim (cases_Bool (eqb (k % 2) 1)) [
      | inl odd ↦
          let one = eqb-true (k % 2) 1 odd in
          let whole : suc (2 * (k / 2)) ≡ k = omega arith in
          cond-true (eqb (k % 2) 1) (times x rest) rest odd ∙ ap (times x) squares ∙ ap (power times x) whole
      | inr even ↦
          let none = eqb-false (k % 2) 1 even in
          let whole : 2 * (k / 2) ≡ k = omega arith in
          cond-false (eqb (k % 2) 1) (times x rest) rest even ∙ squares ∙ ap (power times x) whole
    ]

module _ (f : FieldMeaning) (laws : FieldLaws f) where
  -- d is an inverse of k
  abbrev pub inverts : ℕ → ℕ → Bool
  inverts k d = ltb 0 k && (ltb k f.order && (ltb d f.order && eqb (k * d % f.order) 1))

  module _ (k d : ℕ) (test : inverts k d ≡ true) where
    parts : (0 < k) × (k < f.order) × (d < f.order) × (k * d % f.order ≡ 1)
    parts =
        let a = and_parts (ltb 0 k) _ test in
        let b = and_parts (ltb k f.order) _ a.1 in
        let c = and_parts (ltb d f.order) (eqb (k * d % f.order) 1) b.1 in
        (ltb-true 0 k a.0, ltb-true k f.order b.0, ltb-true d f.order c.0, eqb-true _ 1 c.1)

    two : 2 ≤ f.order
    two = omega (arith, laws.order_least)

    lawful : Lawful (power_cipher f) k
    lawful = key_from f.order laws.order_least k parts.0 parts.1 (inverse_coprime k f.order two d parts.3)

    pub undo_computed : undo_answer (power_cipher f) k ≡ Ok d
    undo_computed =
        cond-true ((power_cipher f).lawful k) (Ok (inverse k f.order)) _ lawful ∙ ap Ok (inverse_is k f.order two d parts.2 parts.3)

    pub lock_computed : (v : ℕ) → Value (power_cipher f) v → lock_answer (power_cipher f) k v ≡ Ok (raised f.times 32 v k)
    lock_computed v value =
        let number : v ≤ f.last = leb-true v f.last (and_parts (ltb 0 v) (leb v f.last) value).1 in
        cond-true ((power_cipher f).lawful k) _ _ lawful ∙ cond-true ((power_cipher f).value v) _ _ value
        ∙ ap Ok (sym (raised_power laws.monoid 32 v k number (omega (arith, laws.order_fits, parts.1))))

  -- a key that shares the divisor d with the order
  module _ (k d : ℕ) (above : 1 < d) (most : d ≤ f.order) (shared : (divides d k && divides d f.order) ≡ true) where
    unlawful : (power_cipher f).lawful k ≡ false
    unlawful =
        let least = largest_least (λ e. divides e k && divides e f.order) (suc f.order) d (omega arith) shared in
        and_right (ltb 0 k) _ (and_right (ltb k f.order) _ (ne_eqb (gcd k f.order) 1 (λ one. omega arith)))

    pub undo_refused : undo_answer (power_cipher f) k ≡ Err (UnlawfulKey k)
    undo_refused = cond-false ((power_cipher f).lawful k) (Ok (inverse k f.order)) _ unlawful

    pub lock_refused : (v : ℕ) → lock_answer (power_cipher f) k v ≡ Err (UnlawfulKey k)
    lock_refused v = cond-false ((power_cipher f).lawful k) _ _ unlawful

  pub code_computed : (c : ℕ) → c < 52 → code_answer (power_cipher f) c ≡ Ok (raised f.times 32 f.base (c + 1))
  code_computed c h =
      cond-true (ltb c 52) _ _ (lt-ltb c 52 h) ∙ ap Ok (sym (raised_power laws.monoid 32 f.base (c + 1) laws.base_number (omega arith)))

  -- the cipher, with what it gives at a key k and its inverse d worked out, and all else as it is
  module _ (k d : ℕ) (test : inverts k d ≡ true) (back : inverts d k ≡ true) where
    abbrev pub worked_out : CipherMeaning
    worked_out = record {
      value = (power_cipher f).value;
      lawful = λ j. cond (eqb j k || eqb j d) true ((power_cipher f).lawful j);
      last_key = (power_cipher f).last_key;
      lock = λ j v. cond (ltb j f.order && leb v f.last) (raised f.times 32 v j) ((power_cipher f).lock j v);
      undo = λ j. cond (eqb j k) d ((power_cipher f).undo j);
      code = λ c. cond (ltb c 52) (raised f.times 32 f.base (c + 1)) ((power_cipher f).code c);
      mark = (power_cipher f).mark;
    }

    lawful_out : (j : ℕ) → (power_cipher f).lawful j ≡ worked_out.lawful j
    lawful_out j =
        elim (cases_Bool (eqb j k || eqb j d)) [
          | inl is ↦
              elim (or_cases (eqb j k) (eqb j d) is) [
                | inl first ↦ ap (power_cipher f).lawful (eqb-true j k first) ∙ lawful k d test
                | inr second ↦ ap (power_cipher f).lawful (eqb-true j d second) ∙ lawful d k back
              ]
              ∙ sym (cond-true _ _ _ is)
          | inr other ↦ sym (cond-false _ _ _ other)
        ]

    lock_out : (j v : ℕ) → (power_cipher f).lock j v ≡ worked_out.lock j v
    lock_out j v =
        elim (cases_Bool (ltb j f.order && leb v f.last)) [
          | inl is ↦
              let p = and_parts (ltb j f.order) (leb v f.last) is in
              sym (cond-true _ _ _ is ∙ raised_power laws.monoid 32 v j (leb-true v f.last p.1) (omega (arith, laws.order_fits, ltb-true j f.order p.0)))
          | inr other ↦ sym (cond-false _ _ _ other)
        ]

    undo_out : (j : ℕ) → (power_cipher f).undo j ≡ worked_out.undo j
    undo_out j =
        elim (cases_Bool (eqb j k)) [
          | inl is ↦
              let p = parts k d test in
              ap (power_cipher f).undo (eqb-true j k is) ∙ inverse_is k f.order (two k d test) d p.2 p.3 ∙ sym (cond-true _ _ _ is)
          | inr other ↦ sym (cond-false _ _ _ other)
        ]

    code_out : (c : ℕ) → (power_cipher f).code c ≡ worked_out.code c
    code_out c =
        elim (cases_Bool (ltb c 52)) [
          | inl is ↦ sym (cond-true _ _ _ is ∙ raised_power laws.monoid 32 f.base (c + 1) laws.base_number (omega (arith, ltb-true c 52 is)))
          | inr other ↦ sym (cond-false _ _ _ other)
        ]

    pub works_out : power_cipher f ≡ worked_out
    works_out = λ i. record {
      value = (power_cipher f).value;
      lawful = λ j. lawful_out j i;
      last_key = (power_cipher f).last_key;
      lock = λ j v. lock_out j v i;
      undo = λ j. undo_out j i;
      code = λ c. code_out c i;
      mark = (power_cipher f).mark;
    }
