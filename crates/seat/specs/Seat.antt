-- What a seat means, and the laws of every seat.
use Rattle.std.specs.Prelude.{◌≡◌, ℕ, ◌≤◌, true, List, length}
use Rattle.cipher.specs.Cipher.{CipherMeaning}
use Rattle.permutation.specs.Permutation.{permutes}

pub record SeatMeaning : Type 0 where
  -- how many cards it plays with
  pub size : ℕ
  -- the permutation by which it shuffles
  pub order : List ℕ
  -- the key by which it locks, under each cipher
  pub key : CipherMeaning → ℕ

pub record SeatLaws (s : SeatMeaning) : Type 0 where
  pub few : s.size ≤ 52
  pub sized : length s.order ≡ s.size
  pub ordered : permutes s.order ≡ true
