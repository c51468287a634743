-- No step is refused, and each of them leaves what is shown.
use Rattle.std.proofs.Common.{Ok, ap}
use Rattle.seat.specs.Kinds.{generator_meaning}
use Rattle.shuffle.specs.Steps.{first_seat, second_seat}
use Rattle.shuffle.proofs.Stepping.{seat_made, first_never_refuses, second_never_refuses, rearranges, once_made, twice_made, composed_made, key_told, order_told, cards_opened, all_steps}
use Rattle.shuffle.proofs.steps.shuffle_twice.Goals as goal

pub returns-in_err-lock : goal.returns-in_err-lock
returns-in_err-lock g c =
    let first = generator_meaning c.in_ok-first.first in
    absurd (first_never_refuses _ (g.met.C.Cipher.lawful c.args.cipher.now) first c.write_codes.new.deck _ (seat_made first first_seat c.in_ok-first.ensures) c.write_codes.ensures c.in_err-lock.ensures.answer)

pub returns-in_err-lock-2 : goal.returns-in_err-lock-2
returns-in_err-lock-2 g c =
    let m = g.C.Cipher.meaning c.args.cipher.now in
    let first = generator_meaning c.in_ok-first.first in
    let second = generator_meaning c.in_ok-second.second in
    let once = once_made m first c.write_codes.new.deck c.lock.new.target (seat_made first first_seat c.in_ok-first.ensures) c.write_codes.ensures c.in_ok-lock.ensures.written in
    absurd (second_never_refuses m (g.met.C.Cipher.lawful c.args.cipher.now) second c.lock.new.target _ (seat_made second second_seat c.in_ok-second.ensures) once c.in_err-lock-2.ensures.answer)

pub returns-in_err-rearrange : goal.returns-in_err-rearrange
returns-in_err-rearrange g c =
    let first = generator_meaning c.in_ok-first.first in
    let second = generator_meaning c.in_ok-second.second in
    let told = order_told first first_seat c.order.new.target (seat_made first first_seat c.in_ok-first.ensures) c.in_ok-order.ensures.written in
    let told' = order_told second second_seat c.order-2.new.target (seat_made second second_seat c.in_ok-second.ensures) c.in_ok-order-2.ensures.written in
    let ok = rearranges c.order.new.target c.order-2.new.target told told' in
    let was = c.in_err-rearrange.was in
    cc

pub returns : goal.returns
returns g c =
    let m = g.C.Cipher.meaning c.args.cipher.now in
    let first = generator_meaning c.in_ok-first.first in
    let second = generator_meaning c.in_ok-second.second in
    let is = seat_made first first_seat c.in_ok-first.ensures in
    let is' = seat_made second second_seat c.in_ok-second.ensures in
    let told = order_told first first_seat c.order.new.target is c.in_ok-order.ensures.written in
    let told' = order_told second second_seat c.order-2.new.target is' c.in_ok-order-2.ensures.written in
    let key = key_told m first first_seat c.key.result is c.key.ensures in
    let key' = key_told m second second_seat c.key-2.result is' c.key-2.ensures in
    let codes = c.write_codes.ensures in
    let once = once_made m first c.write_codes.new.deck c.lock.new.target is codes c.in_ok-lock.ensures.written in
    let twice = twice_made m second c.lock.new.target c.lock-2.new.target is' once c.in_ok-lock-2.ensures.written in
    let cards = cards_opened first second c.opened_cards.new.cards is is' c.in_ok-opened_cards.ensures.written in
    let composed = composed_made c.order.new.target c.order-2.new.target told told' c.rearrange.result c.rearrange.new.target c.rearrange.ensures.answer c.rearrange.ensures.written in
    ap Ok (all_steps m key key' told told' codes once twice cards composed)
