use Rattle.std.proofs.Common.{ℕ, Result, sym, ap, ◌∙◌}
use Rattle.std.specs.Result.{result_unwrap_or}
use Rattle.cipher.specs.declared.fault.CipherFault.{CipherFault}
use Rattle.table.specs.Model.{state_of_record}
use Rattle.verdict.proofs.Decks.{deck_past, code_at}
use Rattle.verdict.proofs.hearing.Hearing.deck_value.Goals as goal

pub returns-then-place-self : goal.returns-then-place-self
returns-then-place-self g c =
    let h = c.args.self.now in
    sym (deck_past (g.C.Cipher.meaning h.cipher.now) (state_of_record h.record.now) c.args.locks c.args.place c.if-place-self.true)

pub returns-then-locks-eq0 : goal.returns-then-locks-eq0
returns-then-locks-eq0 g c =
    let h = c.args.self.now in
    let coded =
    code_at (g.C.Cipher.meaning h.cipher.now) (state_of_record h.record.now) c.args.locks c.args.place c.if-locks-eq0.true c.if-place-self.false
    h.bounded.cards_most
    in
    c.unwrap_or.ensures ∙ ap (λ (r : Result ℕ CipherFault). result_unwrap_or r 0) (c.code.ensures ∙ coded)
