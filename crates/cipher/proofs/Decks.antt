-- Going through a deck value by value.
use Rattle.std.proofs.Common.{◌≡◌, ℕ, zero, suc, ◌<◌, List, [], ◌∷◌, length, get_or, Ok, refl, arith}
use Rattle.cipher.specs.Cipher.{CipherMeaning, Value}
use Rattle.cipher.specs.Decks.{deck_answer}

-- every value of a deck that is not refused is one
pub values_all : (m : CipherMeaning) (place : ℕ) (deck : List ℕ) → deck_answer m place deck ≡ Ok tt → (i : ℕ) → i < length deck → Value m (get_or deck i 0)
values_all m place [] h i below = absurd (omega arith)
values_all m place (v ∷ vs) h zero below = grind arith
values_all m place (v ∷ vs) h (suc i) below = values_all m (suc place) vs (grind arith) i (omega arith)

pub all_values : (m : CipherMeaning) (place : ℕ) (deck : List ℕ) → ((i : ℕ) → i < length deck → Value m (get_or deck i 0)) → deck_answer m place deck ≡ Ok tt
all_values m place [] h = refl
all_values m place (v ∷ vs) h = grind (arith, h 0 (omega arith), all_values m (suc place) vs (λ i below. h (suc i) (omega arith)))
