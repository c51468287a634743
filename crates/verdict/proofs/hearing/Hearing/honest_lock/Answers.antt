use Rattle.std.proofs.Common.{◌≡◌, true, false, refl, rules, arith}
use Rattle.std.proofs.lemmas.Iterator.{cases_from_all, YieldsList-from_range}
use Rattle.table.specs.Model.{state_of_record}
use Rattle.verdict.specs.Forward.{honest_place_after}
use Rattle.verdict.proofs.Below.{all_tested}
use Rattle.verdict.proofs.hearing.Hearing.honest_lock.Goals as goal

pub returns : goal.returns
returns g c =
    let h = c.args.self.now in
    let test = honest_place_after (g.C.Cipher.meaning h.cipher.now) (state_of_record h.record.now) c.key_of-key.result c.args.locks c.args.seat in
    let numbers = YieldsList-from_range 0 h.record.now.cards h.record.now.cards refl (omega arith) in
    let tested = all_tested test h.record.now.cards c.all.result
    (cases_from_all _ _ _ (λ i. test i ≡ true) (λ i. test i ≡ false) c.all.ensures.ran numbers (λ i f k. search rules) (λ i f k. search rules)) in
    let disclosed = c.key_of-key.ensures in
    cc
