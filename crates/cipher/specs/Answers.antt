-- What a cipher answers, with its refusals in their order.
use Rattle.std.specs.Prelude.{◌≡◌, ℕ, ◌<◌, cond, Some, None, Ok, Err, Option, Result, ◌≢◌, nat_lt}
use Rattle.cipher.specs.Cipher.{CipherMeaning}
use Rattle.cipher.specs.declared.fault.CipherFault.{CipherFault}
use Rattle.cipher.specs.declared.fault.CipherFault.TheVariants.{NotValue, NoCard, UnlawfulKey}

-- first the key is looked at, then the value
abbrev pub lock_answer : CipherMeaning → ℕ → ℕ → Result ℕ CipherFault
lock_answer m k v = cond (m.lawful k) (cond (m.value v) (Ok (m.lock k v)) (Err (NotValue 0 v))) (Err (UnlawfulKey k))

abbrev pub undo_answer : CipherMeaning → ℕ → Result ℕ CipherFault
undo_answer m k = cond (m.lawful k) (Ok (m.undo k)) (Err (UnlawfulKey k))

-- a lock taken off: the lock under the key's undo key
abbrev pub under_undo : CipherMeaning → Result ℕ CipherFault → ℕ → Result ℕ CipherFault
under_undo m (Ok undo) v = lock_answer m undo v
under_undo m (Err fault) v = Err fault

abbrev pub unlock_answer : CipherMeaning → ℕ → ℕ → Result ℕ CipherFault
unlock_answer m k v = under_undo m (undo_answer m k) v

abbrev pub code_answer : CipherMeaning → ℕ → Result ℕ CipherFault
code_answer m c = cond (nat_lt c 52) (Ok (m.code c)) (Err (NoCard c))

-- the card read from a value: the one that it is the code of, or none where it is no card's
abbrev pub Reads : CipherMeaning → ℕ → Option ℕ → Type 0
Reads m v (Some c) = (c < 52) × (m.code c ≡ v)
Reads m v None = (c : ℕ) → c < 52 → m.code c ≢ v
