-- Honest chain values by the keys and orders disclosed: each is a card's code under the locks of the seats that have not shared.
use Rattle.std.proofs.Common.{◌≡◌, ℕ, ◌<◌, ◌≤◌, false, [], ◌∷◌, subst, arith}
use Rattle.cipher.specs.Cipher.{CipherMeaning, CipherLaws, Value}
use Rattle.table.specs.State.{lock, draw, share, abandon, close, show, disclose}
use Rattle.verdict.specs.Log.{Log, Drawn, draws, latest}
use Rattle.verdict.specs.Honesty.{Told, first_deck, chain}
use Rattle.session.specs.Law.{AllHonest}
use Rattle.session.specs.Runs.{among}
use Rattle.session.proofs.Accepted.{Accepted}
use Rattle.session.proofs.Decks.{card_after, card_below, deck_under}
use Rattle.session.proofs.Entries.{newest_honest, rest_honest}
use Rattle.session.proofs.Layers.{under, under_off}
use Rattle.session.proofs.Parts.{running_last}
use Rattle.session.proofs.Phases.{dealing_locked}
use Rattle.session.proofs.Places.{latest_below}
use Rattle.session.proofs.Secrets.{Sound}
use Rattle.session.proofs.Steps.{unlock_gives}

-- the code of the card at a place of the deck that all seats have rearranged
abbrev pub code_at : CipherMeaning → ℕ → Told → ℕ → ℕ
code_at m S told place = m.code (card_after told.order S place)

module _ (m : CipherMeaning) (laws : CipherLaws m) (S D : ℕ) (few : D ≤ 52) (told : Told)
    (sound : (s : ℕ) → s < S → Sound m D (told.key s) (told.order s)) where
  -- it is a value of the cipher
  code_value : (place : ℕ) → place < D → Value m (code_at m S told place)
  code_value place below =
      laws.coded (card_after told.order S place) (omega (arith, card_below m S D told sound S place (omega arith) below))

  -- the chain value of a draw, by its place and sharers
  abbrev ChainUnder : Drawn → ℕ → Type 0
  ChainUnder d value = value ≡ under m told.key (code_at m S told d.place) d.sharers S

  -- one more seat takes its lock off
  pub chain_opened : (s v before : ℕ) (d : Drawn) → d.place < D → s < S → among s d.sharers ≡ false
      → v ≡ m.lock (m.undo (told.key s)) before → ChainUnder d before
      → v ≡ under m told.key (code_at m S told d.place) (s ∷ d.sharers) S
  chain_opened s v before d below seat first step rest =
      let lawful = λ (r : ℕ) (h : r < S). (sound r h).lawful in
      let code = code_at m S told d.place in
      let off = under_off m laws told.key code (code_value d.place below) s d.sharers S lawful seat first in
      cc

  -- the chain value of the last draw
  pub chain_under : (log : Log) → Accepted m S D log → AllHonest m D told log → 1 ≤ draws log
      → ChainUnder (latest S log) (chain (first_deck m D) log)
  chain_under [] all fair one = absurd (omega arith)
  chain_under (lock s deck ∷ log) all fair one = chain_under log all.1 (rest_honest m D told (lock s deck) log fair) one
  chain_under (draw s p ∷ log) all fair one =
      let locked = dealing_locked m S D log all.1 all.0.phase in
      let deck = deck_under m S D told sound log all.1 (rest_honest m D told (draw s p) log fair) p all.0.place in
      cc
  chain_under (share s v ∷ log) all fair one =
      let last = running_last S log all.0.running in
      let first = subst (λ (d : Drawn). among s d.sharers ≡ false) last all.0.first in
      let step = unlock_gives m (told.key s) (chain (first_deck m D) log) v (newest_honest m D told (share s v) log fair) in
      let rest = chain_under log all.1 (rest_honest m D told (share s v) log fair) one in
      let place = latest_below m S D log all.1 one in
      chain_opened s v (chain (first_deck m D) log) (latest S log) place all.0.seat first step rest
  chain_under (abandon ∷ log) all fair one = chain_under log all.1 (rest_honest m D told abandon log fair) one
  chain_under (close ∷ log) all fair one = chain_under log all.1 (rest_honest m D told close log fair) one
  chain_under (show d c ∷ log) all fair one = chain_under log all.1 (rest_honest m D told (show d c) log fair) one
  chain_under (disclose s k o ∷ log) all fair one = chain_under log all.1 (rest_honest m D told (disclose s k o) log fair) one
