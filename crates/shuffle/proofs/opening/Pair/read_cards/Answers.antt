-- Each turn writes one more card, and no place is refused.
use Rattle.std.proofs.Common.{◌≡◌, [], ◌∷◌, length, ap, arith}
use Rattle.std.proofs.lemmas.List.FromFn.{fill_by_all}
use Rattle.std.proofs.lemmas.List.Edits.{fill_by_more}
use Rattle.permutation.specs.Permutation.{composed_at}
use Rattle.shuffle.proofs.Cards.{twice_length, opens_at}
use Rattle.shuffle.proofs.opening.Pair.read_cards.Goals as goal

pub bounds-deck-place : goal.bounds-deck-place
bounds-deck-place g c =
    omega (arith, ap length c.requires.locked, twice_length _ (g.met.C.Cipher.lawful c.args.self.now.cipher.now) _ _ (g.met.S.Seat.seated c.args.self.now.first.now) (g.met.T.Seat.seated c.args.self.now.second.now) _ c.requires.ready)

pub returns-in_err-open_card : goal.returns-in_err-open_card
returns-in_err-open_card g c =
    let opened = opens_at _ (g.met.C.Cipher.lawful c.args.self.now.cipher.now) _ _ (g.met.S.Seat.seated c.args.self.now.first.now) (g.met.T.Seat.seated c.args.self.now.second.now) _ c.args.deck.now c.loop-place.place c.open_card.result
    c.requires.ready c.requires.locked c.loop-place-test.true c.open_card.ensures in
    let was = c.in_err-open_card.was in
    cc

pub loop-place-preserved : goal.loop-place-preserved
loop-place-preserved g c =
    let opened = opens_at _ (g.met.C.Cipher.lawful c.args.self.now.cipher.now) _ _ (g.met.S.Seat.seated c.args.self.now.first.now) (g.met.T.Seat.seated c.args.self.now.second.now) _ c.args.deck.now c.loop-place.place c.open_card.result
    c.requires.ready c.requires.locked c.loop-place-test.true c.open_card.ensures in
    let was = c.in_ok-open_card.was in
    let card_at = composed_at ((g.S.Seat.meaning c.args.self.now.first.now).order ∷ (g.T.Seat.meaning c.args.self.now.second.now).order ∷ []) in
    let is : c.unwrap_or.result ≡ card_at c.loop-place.place = cc in
    let more = fill_by_more card_at c.loop-place.cards c.loop-place.place 0 (omega arith) c.loop-place.invariant in
    rw is more

pub returns-clause-written : goal.returns-clause-written
returns-clause-written g c =
    fill_by_all (composed_at ((g.S.Seat.meaning c.args.self.now.first.now).order ∷ (g.T.Seat.meaning c.args.self.now.second.now).order ∷ [])) c.loop-place.cards (length c.args.cards.now) 0
    c.loop-place.auto.cards (λ k h. c.loop-place.invariant k (omega arith))
