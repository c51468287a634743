use Rattle.std.proofs.Common.{◌≡◌, ◌-◌, ◌∙◌, true, false, cond, nat_lt, sym, ap₂, rules, tests, arith}
use Rattle.std.proofs.lemmas.Iterator.{first_from_Range}
use Rattle.seat.specs.Generator.{climbed}
use Rattle.seat.specs.Generating.{climbed_first, start_most}
use Rattle.seat.proofs.seats.draws.next_lawful.Goals as goal

pub returns-clause-meant : goal.returns-clause-meant
returns-clause-meant g c =
    let m = g.C.Cipher.meaning c.args.cipher.now in
    let first = c.if-first-last.first in
    let start : first ≡ cond (nat_lt m.last_key c.args.first) 1 c.args.first = grind (arith, tests) in
    let found =
    first_from_Range _ _ _ c.find.result (λ i. m.lawful i ≡ true) (λ i. m.lawful i ≡ false) c.find.ensures.ran
    (λ x q k. search rules)
    (λ x q k. (search rules, search rules)) in
    c.unwrap_or.ensures
    ∙ sym (climbed_first m.lawful first c.last_key-last.result c.find.result (omega (arith, start_most m (g.met.C.Cipher.lawful c.args.cipher.now) c.args.first)) found)
    ∙ ap₂ (λ k last. climbed m.lawful (last - k) k) start c.last_key-last.ensures
