use Rattle.std.proofs.Common.{◌≡◌, drop}
use Rattle.cipher.specs.Decks.{deck_answer}
use Rattle.cipher.proofs.check_deck.Given as goal

-- the answer is that for what is left of the deck
abbrev pub invariant-loop-place : goal.invariant-loop-place
invariant-loop-place g l =
    let m = g.C.Cipher.meaning l.cipher in
    deck_answer m l.place (drop l.place l.deck) ≡ deck_answer m 0 l.deck
