use Rattle.std.proofs.Common.{◌≡◌, ◌++◌, map, take, drop}
use Rattle.seat.proofs.locks.lock_each.Given as goal

abbrev pub invariant-loop-value : goal.invariant-loop-value
invariant-loop-value g l =
    let m = g.C.Cipher.meaning l.cipher in
    l.deck ≡ map (m.lock l.key) (take l.value-index l.initial.deck) ++ drop l.value-index l.initial.deck
