-- The power cipher over a field: a value is locked by raising it to the key.
use Rattle.std.specs.Prelude.{◌+◌, ◌-◌, ◌&&◌, ◌==◌, nat_le, nat_lt}
use Rattle.field.specs.Power.{power}
use Rattle.field.specs.Field.{FieldMeaning}
use Rattle.cipher.specs.Cipher.{CipherMeaning}
use Rattle.power.specs.Keys.{gcd, inverse}

abbrev pub power_cipher : FieldMeaning → CipherMeaning
power_cipher f = record {
  -- the numbers except 0
  value = λ v. nat_lt 0 v && nat_le v f.last;
  -- from 1 to n - 1, sharing no divisor above 1 with n
  lawful = λ k. nat_lt 0 k && (nat_lt k f.order && gcd k f.order == 1);
  last_key = f.order - 1;
  lock = λ k v. power f.times v k;
  undo = λ k. inverse k f.order;
  code = λ c. power f.times f.base (c + 1);
  mark = f.mark;
}
