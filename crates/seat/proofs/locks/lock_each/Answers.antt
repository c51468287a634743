use Rattle.std.proofs.Common.{ap, ◌∙◌}
use Rattle.std.specs.Result.{result_unwrap_or}
use Rattle.seat.proofs.Locking.{lock_next}
use Rattle.seat.proofs.locks.lock_each.Goals as goal

pub loop-value-preserved : goal.loop-value-preserved
loop-value-preserved g c =
    lock_next (g.C.Cipher.meaning c.args.cipher.now) c.args.key c.args.deck.now c.loop-value.value-index c.loop-value.deck c.unwrap_or.result
    c.requires.lawful c.requires.values c.loop-value-test.true c.loop-value.auto.deck c.loop-value.invariant
    (c.unwrap_or.ensures ∙ ap (λ r. result_unwrap_or r 0) c.lock.ensures)
