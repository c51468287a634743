-- Honest decks by the keys and orders disclosed: each value is a card's code under the locks of the seats that have locked.
use Rattle.std.proofs.Common.{◌≡◌, ℕ, zero, suc, ◌+◌, ◌<◌, ◌≤◌, List, [], ◌∷◌, ◌++◌, map, get_or, refl, ap, ◌∙◌, arith}
use Rattle.std.proofs.lemmas.List.FromFn.{get_or-map-range_with_len, map-range_with_len_more}
use Rattle.cipher.specs.Cipher.{CipherMeaning}
use Rattle.permutation.specs.Permutation.{upto, composed_at}
use Rattle.permutation.proofs.Permutations.{permutation_within}
use Rattle.table.specs.State.{lock, draw, share, abandon, close, show, disclose}
use Rattle.verdict.specs.Log.{Log, locks}
use Rattle.verdict.specs.Honesty.{Told, first_deck, last_deck}
use Rattle.session.specs.Law.{AllHonest}
use Rattle.session.proofs.Accepted.{Accepted}
use Rattle.session.proofs.Entries.{newest_honest, rest_honest}
use Rattle.session.proofs.Layers.{under}
use Rattle.session.proofs.Secrets.{Sound}
use Rattle.session.proofs.Steps.{below_passed, lock_gives}

-- one order more at the end
composed_push : (os : List (List ℕ)) (o : List ℕ) (i : ℕ) → composed_at (os ++ (o ∷ [])) i ≡ composed_at os (get_or o i 0)
composed_push [] o i = refl
composed_push (p ∷ os) o i = ap (λ (j : ℕ). get_or p j 0) (composed_push os o i)

-- the card at place i once the seats below n have rearranged the deck
abbrev pub card_after : (ℕ → List ℕ) → ℕ → ℕ → ℕ
card_after order n i = composed_at (map order (upto n)) i

-- one seat more
card_more : (order : ℕ → List ℕ) (n i : ℕ) → card_after order (suc n) i ≡ card_after order n (get_or (order n) i 0)
card_more order n i =
    let next : suc n ≡ n + 1 = omega arith in
    ap (λ (k : ℕ). card_after order k i) next
    ∙ ap (λ (os : List (List ℕ)). composed_at os i) (map-range_with_len_more order 0 n n (omega arith))
    ∙ composed_push (map order (upto n)) (order n) i

module _ (m : CipherMeaning) (S D : ℕ) (told : Told) (sound : (s : ℕ) → s < S → Sound m D (told.key s) (told.order s)) where
  -- places and cards stay below D
  order_below : (s i : ℕ) → s < S → i < D → get_or (told.order s) i 0 < D
  order_below s i seat below =
      let order = sound s seat in
      omega (arith, permutation_within (told.order s) order.permutation i (omega arith))

  pub card_below : (n i : ℕ) → n ≤ S → i < D → card_after told.order n i < D
  card_below zero i seats below = below
  card_below (suc n) i seats below =
      rw (card_more told.order n i) (card_below n (get_or (told.order n) i 0) (omega arith) (order_below n i (omega arith) below))

  -- a deck that n seats have locked, by its values
  abbrev DeckUnder : ℕ → List ℕ → Type 0
  DeckUnder n deck = (i : ℕ) → i < D → get_or deck i 0 ≡ under m told.key (m.code (card_after told.order n i)) [] n

  -- the last deck
  pub deck_under : (log : Log) → Accepted m S D log → AllHonest m D told log → DeckUnder (locks log) (last_deck (first_deck m D) log)
  deck_under [] all fair i below = get_or-map-range_with_len m.code 0 D i i 0 below (omega arith)
  deck_under (lock s deck ∷ log) all fair i below =
      let j = get_or (told.order s) i 0 in
      let before = deck_under log all.1 (rest_honest m D told (lock s deck) log fair) j (order_below s i all.0.seat below) in
      let honest = below_passed D _ (newest_honest m D told (lock s deck) log fair) i below in
      let step = lock_gives m (told.key s) (get_or (last_deck (first_deck m D) log) j 0) (get_or deck i 0) honest in
      let due = all.0.due in
      let more = card_more told.order (locks log) i in
      cc
  deck_under (draw s p ∷ log) all fair i below = deck_under log all.1 (rest_honest m D told (draw s p) log fair) i below
  deck_under (share s v ∷ log) all fair i below = deck_under log all.1 (rest_honest m D told (share s v) log fair) i below
  deck_under (abandon ∷ log) all fair i below = deck_under log all.1 (rest_honest m D told abandon log fair) i below
  deck_under (close ∷ log) all fair i below = deck_under log all.1 (rest_honest m D told close log fair) i below
  deck_under (show d c ∷ log) all fair i below = deck_under log all.1 (rest_honest m D told (show d c) log fair) i below
  deck_under (disclose s k o ∷ log) all fair i below = deck_under log all.1 (rest_honest m D told (disclose s k o) log fair) i below
