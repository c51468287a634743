use Rattle.std.proofs.Common.{◌≡◌, Ok, map, length, ap, ◌∙◌, rules}
use Rattle.cipher.specs.Decks.{deck_answer}
use Rattle.permutation.proofs.Permutations.{permutes_decides}
use Rattle.seat.proofs.Locking.{rearranged_values, locked_rearranged}
use Rattle.seat.proofs.locks.lock_deck.Goals as goal

pub lock_each-requires-clause-values : goal.lock_each-requires-clause-values
lock_each-requires-clause-values g c =
    let m = g.C.Cipher.meaning c.args.cipher.now in
    let sized : length c.args.order.now ≡ length c.args.deck.now = search rules in
    let values : deck_answer m 0 c.args.deck.now ≡ Ok tt = search rules in
    ap (deck_answer m 0) (c.in_ok-rearrange.ensures.written 0)
    ∙ rearranged_values m c.args.deck.now c.args.order.now sized ((permutes_decides c.args.order.now).0 c.requires.ordered) values

pub returns-clause-written : goal.returns-clause-written
returns-clause-written g c =
    let m = g.C.Cipher.meaning c.args.cipher.now in
    c.lock_each.ensures ∙ ap (map (m.lock c.args.key)) (c.in_ok-rearrange.ensures.written 0) ∙ locked_rearranged m c.args.key c.args.deck.now c.args.order.now
