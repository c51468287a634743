-- What a cipher means, and the laws of a commutative one.
use Rattle.std.specs.Prelude.{◌≡◌, ℕ, ◌^◌, ◌<◌, ◌≤◌, Bool, true}

pub record CipherMeaning : Type 0 where
  -- which numbers are values
  pub value : ℕ → Bool
  -- which numbers are lawful keys
  pub lawful : ℕ → Bool
  pub last_key : ℕ
  -- lock k v: the value v under the lock of key k
  pub lock : ℕ → ℕ → ℕ
  -- the key whose lock takes the lock of a key off
  pub undo : ℕ → ℕ
  -- the value that stands for a card
  pub code : ℕ → ℕ
  pub mark : ℕ

module _ (m : CipherMeaning) where
  abbrev pub Value : ℕ → Type 0
  Value v = m.value v ≡ true

  abbrev pub Lawful : ℕ → Type 0
  Lawful k = m.lawful k ≡ true

  pub record CipherLaws : Type 0 where
    pub value_fits : (v : ℕ) → Value v → v < 2 ^ 32
    pub key_least : (k : ℕ) → Lawful k → 1 ≤ k
    pub key_most : (k : ℕ) → Lawful k → k ≤ m.last_key
    pub last_fits : m.last_key < 2 ^ 32
    pub last_lawful : Lawful m.last_key
    pub mark_fits : m.mark < 2 ^ 8
    pub locked : (k v : ℕ) → Lawful k → Value v → Value (m.lock k v)
    pub undo_lawful : (k : ℕ) → Lawful k → Lawful (m.undo k)
    pub undone : (k v : ℕ) → Lawful k → Value v → m.lock (m.undo k) (m.lock k v) ≡ v
    pub commute : (j k v : ℕ) → Lawful j → Lawful k → Value v → m.lock j (m.lock k v) ≡ m.lock k (m.lock j v)
    pub coded : (c : ℕ) → c < 52 → Value (m.code c)
    pub codes_differ : (c d : ℕ) → c < 52 → d < 52 → m.code c ≡ m.code d → c ≡ d
