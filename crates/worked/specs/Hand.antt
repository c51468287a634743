-- A worked hand of two seats and three cards over the prime field: both keys are 5, the orders 1 2 0 and 0 2 1.
use Rattle.std.specs.Prelude.{◌≡◌, ℕ, List, [], ◌∷◌, Ok, None, Result}
use Rattle.cipher.specs.Cipher.{CipherMeaning}
use Rattle.cipher.specs.Decks.{locked_deck}
use Rattle.permutation.specs.Permutation.{composed}
use Rattle.table.specs.State.{lock, draw, share, close, show, disclose}
use Rattle.table.specs.declared.fault.TableFault.{TableFault}
use Rattle.verdict.specs.Honesty.{first_deck, Verdict, dishonest}
use Rattle.verdict.specs.declared.Kind.TheVariants as kind
use Rattle.session.specs.Runs.{Asked, move, audit, answers}
use Rattle.session.specs.declared.Reply.{Reply}
use Rattle.session.specs.declared.Reply.TheVariants.{Entered, Audited}

abbrev orders : List (List ℕ)
orders = (1 ∷ 2 ∷ 0 ∷ []) ∷ (0 ∷ 2 ∷ 1 ∷ []) ∷ []

abbrev once : List ℕ
once = 984943658 ∷ 470211272 ∷ 282475249 ∷ []

abbrev twice : List ℕ
twice = 143542612 ∷ 2007237709 ∷ 1505795335 ∷ []

-- the calls of the hand, by what the seats lock and disclose and by the card that is shown first
abbrev pub played : List ℕ → List ℕ → List ℕ → List ℕ → ℕ → List Asked
played deck deck' order order' card =
    move (lock 0 deck) ∷ move (lock 1 deck')
    ∷ move (draw 1 1) ∷ move (share 0 282475249)
    ∷ move (draw 0 0) ∷ move (share 1 984943658)
    ∷ move close ∷ move (show 0 card) ∷ move (show 1 1)
    ∷ move close ∷ move (disclose 0 5 order) ∷ move (disclose 1 5 order')
    ∷ audit ∷ []

abbrev pub hand : ℕ → List Asked
hand card = played once twice (1 ∷ 2 ∷ 0 ∷ []) (0 ∷ 2 ∷ 1 ∷ []) card

-- every call is accepted, and the audit finds this
abbrev replies : Verdict → List (Result Reply TableFault)
replies verdict =
    Ok (Entered 0) ∷ Ok (Entered 1)
    ∷ Ok (Entered 2) ∷ Ok (Entered 3)
    ∷ Ok (Entered 4) ∷ Ok (Entered 5)
    ∷ Ok (Entered 2) ∷ Ok (Entered 6) ∷ Ok (Entered 7)
    ∷ Ok (Entered 3) ∷ Ok (Entered 8) ∷ Ok (Entered 9)
    ∷ Ok (Audited verdict) ∷ []

pub record WorkedHand (m : CipherMeaning) : Type 0 where
  pub first_lock : locked_deck m 5 (1 ∷ 2 ∷ 0 ∷ []) (first_deck m 3) ≡ once
  pub second_lock : locked_deck m 5 (0 ∷ 2 ∷ 1 ∷ []) once ≡ twice
  pub composed_order : composed 3 orders ≡ 1 ∷ 0 ∷ 2 ∷ []
  pub clean : answers m 2 3 [] (hand 0) ≡ replies None
  -- card 2 shown first, by the drawer of draw 0
  pub not_clean : answers m 2 3 [] (hand 2) ≡ replies (dishonest 6 1 kind.Show)
