-- Whole decks: which are refused, and how one is locked.
use Rattle.std.specs.Prelude.{ℕ, suc, cond, List, [], ◌∷◌, map, Ok, Err, Result, slice_index}
use Rattle.cipher.specs.Cipher.{CipherMeaning}
use Rattle.cipher.specs.declared.fault.CipherFault.{CipherFault}
use Rattle.cipher.specs.declared.fault.CipherFault.TheVariants.{NotValue}

-- a deck whose first value stands at the given place: the first that is no value is refused
abbrev pub deck_answer : CipherMeaning → ℕ → List ℕ → Result (Unit {0}) CipherFault
deck_answer m place [] = Ok tt
deck_answer m place (v ∷ vs) = cond (m.value v) (deck_answer m (suc place) vs) (Err (NotValue place v))

-- an honest lock: at place i the value at place order(i) of the deck, locked under the key
abbrev pub locked_deck : CipherMeaning → ℕ → List ℕ → List ℕ → List ℕ
locked_deck m key order deck = map (λ i. m.lock key (slice_index deck i)) order
