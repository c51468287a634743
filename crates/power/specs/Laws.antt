-- The power cipher over a lawful field keeps the laws of a cipher.
use Rattle.std.specs.Prelude.{◌≡◌, ℕ, ◌+◌, ◌*◌, ◌/◌, ◌<◌, ◌≢◌, nat_le, nat_lt}
use Rattle.std.proofs.Common.{sym, ap, ◌∙◌, arith}
use Rattle.std.proofs.Math.Nat.{div-add-mod}
use Rattle.std.proofs.lemmas.Bool.{and_parts, and_from, ltb-true, lt-ltb, leb-true, le-leb}
use Rattle.field.specs.Power.{power}
use Rattle.field.specs.Field.{FieldMeaning, FieldLaws, Number}
use Rattle.field.proofs.Powers.{power_number, power_power, power_commutes, power_around, power_of_zero}
use Rattle.cipher.specs.Cipher.{CipherLaws, Value, Lawful}
use Rattle.power.specs.PowerCipher.{power_cipher}
use Rattle.power.specs.Keys.{inverse}
use Rattle.power.specs.KeysLemmas.{Key, key_parts, undo_lawful, last_lawful}

module _ (f : FieldMeaning) (laws : FieldLaws f) where
  value_number : (v : ℕ) → Value (power_cipher f) v → (0 < v) × Number f v
  value_number v t = let parts = and_parts (nat_lt 0 v) (nat_le v f.last) t in (ltb-true 0 v parts.0, leb-true v f.last parts.1)

  number_value : (v : ℕ) → (v ≢ 0) → Number f v → Value (power_cipher f) v
  number_value v nonzero h = and_from (nat_lt 0 v) (nat_le v f.last) (lt-ltb 0 v (omega arith)) (le-leb v f.last h)

  key : (k : ℕ) → Lawful (power_cipher f) k → Key f.order k
  key k t = key_parts f.order laws.order_least k t

  -- a key and its undo key together make a power that changes nothing
  undo : (k v : ℕ) → Key f.order k → Number f v → power f.times (power f.times v k) (inverse k f.order) ≡ v
  undo k v lawful h =
      let d = inverse k f.order in
      let whole : k * d ≡ 1 + f.order * (k * d / f.order) = omega (arith, div-add-mod (k * d) f.order, lawful.undo_leaves) in
      power_power laws.monoid v h k d ∙ ap (power f.times v) whole ∙ power_around f laws v (k * d / f.order) h

  -- a power of a value is not 0, since the undo key gives the value back
  not_zero : (k v : ℕ) → Key f.order k → Number f v → 0 < v → power f.times v k ≢ 0
  not_zero k v lawful h positive none =
      let d = inverse k f.order in
      omega (arith, sym (undo k v lawful h) ∙ ap (λ (x : ℕ). power f.times x d) none ∙ power_of_zero f laws d lawful.undo_least)

  pub power_laws : CipherLaws (power_cipher f)
  power_laws = record {
    value_fits = λ v t. omega (arith, (value_number v t).1, laws.last_fits);
    key_least = λ k t. (key k t).least;
    key_most = λ k t. omega (arith, (key k t).below);
    last_fits = omega (arith, laws.order_fits);
    last_lawful = last_lawful f.order laws.order_least;
    mark_fits = laws.mark_fits;
    locked = λ k v tk tv. let n = value_number v tv in number_value (power f.times v k) (not_zero k v (key k tk) n.1 n.0) (power_number laws.monoid v n.1 k);
    undo_lawful = λ k t. undo_lawful f.order laws.order_least k (key k t);
    undone = λ k v tk tv. undo k v (key k tk) (value_number v tv).1;
    commute = λ j k v tj tk tv. power_commutes laws.monoid v (value_number v tv).1 k j;
    coded = λ c h. number_value (power f.times f.base (c + 1)) (laws.powers_not_zero c h) (power_number laws.monoid f.base laws.base_number (c + 1));
    codes_differ = laws.powers_differ;
  }
