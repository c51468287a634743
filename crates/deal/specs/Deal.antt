-- What dealing one card between two seats gives.
use Rattle.std.specs.Prelude.{ℕ, cond, Some, Ok, Err, Result, nat_lt}
use Rattle.cipher.specs.Cipher.{CipherMeaning}
use Rattle.cipher.specs.declared.fault.CipherFault.{CipherFault}
use Rattle.cipher.specs.declared.fault.CipherFault.TheVariants.{NoCard, UnlawfulKey}
use Rattle.deal.specs.declared.steps.DealtCard.{DealtCard}

module _ (m : CipherMeaning) where
  -- seat 0 holds key j, seat 1 holds key k and owns the card c
  abbrev pub dealt : ℕ → ℕ → ℕ → DealtCard
  dealt c j k = record {
    keys = (j, k);
    code = m.code c;
    once = m.lock j (m.code c);
    twice = m.lock k (m.lock j (m.code c));
    -- the other order of the two locks comes to the same
    swapped = m.lock k (m.lock j (m.code c));
    undo = (m.undo j, m.undo k);
    -- with the lock of seat 0 off, the owner's alone is left
    share = m.lock k (m.code c);
    opened = m.code c;
    card = Some c;
  }

  abbrev pub deal_answer : ℕ → ℕ → ℕ → Result DealtCard CipherFault
  deal_answer c j k = cond (nat_lt c 52) (cond (m.lawful j) (cond (m.lawful k) (Ok (dealt c j k)) (Err (UnlawfulKey k))) (Err (UnlawfulKey j))) (Err (NoCard c))
