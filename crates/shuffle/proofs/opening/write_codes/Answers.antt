-- The places that were written hold their codes, and those are all of them.
use Rattle.std.proofs.Common.{length, arith}
use Rattle.std.proofs.lemmas.List.FromFn.{fill_by_all}
use Rattle.shuffle.proofs.opening.write_codes.Goals as goal

pub returns : goal.returns
returns g c =
    fill_by_all (g.C.Cipher.meaning c.args.cipher.now).code c.loop-card.deck (length c.args.deck.now) 0 c.loop-card.auto.deck (λ k h. c.loop-card.invariant k (omega arith))
