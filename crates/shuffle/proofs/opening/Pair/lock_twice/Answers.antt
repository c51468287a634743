-- The first seat answers for the codes, and the second for what the first made of them.
use Rattle.std.proofs.Common.{length, ap, arith, length-take}
use Rattle.std.proofs.lemmas.Result.{err_from_is_err_and}
use Rattle.seat.specs.Answers.{lock_answer}
use Rattle.shuffle.proofs.Cards.{first_refuses, second_after_first}
use Rattle.shuffle.proofs.opening.Pair.lock_twice.Goals as goal

pub returns-in_err-lock-clause-answer : goal.returns-in_err-lock-clause-answer
returns-in_err-lock-clause-answer g c =
    let p = err_from_is_err_and c.from_residual.result c.from_residual.ensures.1 in
    let refused = first_refuses _ (g.met.C.Cipher.lawful c.args.self.now.cipher.now) _ (g.T.Seat.meaning c.args.self.now.second.now) (g.met.S.Seat.seated c.args.self.now.first.now) (g.met.T.Seat.seated c.args.self.now.second.now) (length c.args.deck.now)
    c.write_codes.new.deck _ c.requires c.write_codes.ensures (simp length-take (omega arith)) _ c.in_err-lock.ensures.answer in
    cc

pub returns-clause-answer : goal.returns-clause-answer
returns-clause-answer g c =
    let m = g.C.Cipher.meaning c.args.self.now.cipher.now in
    let s = g.S.Seat.meaning c.args.self.now.first.now in
    let t = g.T.Seat.meaning c.args.self.now.second.now in
    let answers = second_after_first m (g.met.C.Cipher.lawful c.args.self.now.cipher.now) s t (g.met.S.Seat.seated c.args.self.now.first.now) (g.met.T.Seat.seated c.args.self.now.second.now) (length c.args.deck.now)
    c.write_codes.new.deck _ c.requires c.write_codes.ensures (simp length-take (omega arith)) c.lock.new.target c.in_ok-lock.ensures.answer c.in_ok-lock.ensures.written in
    let same = ap (lock_answer m t c.lock.new.target) c.write_codes.auto.deck in
    cc
