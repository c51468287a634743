use Rattle.std.proofs.Common.{vec_len, sym, ap, subst, arith}
use Rattle.table.specs.declared.record.Record.{Record}
use Rattle.verdict.specs.Forward.{Bounded}
use Rattle.verdict.proofs.Bounds.{bounded}
use Rattle.verdict.proofs.audit.Goals as goal

pub overflow_cast-disclosed : goal.overflow_cast-disclosed
overflow_cast-disclosed g c = omega (arith, c.len-disclosed.ensures, ap (λ (r : Record). vec_len r.disclosures) c.record-record.ensures, (bounded c.args.table.now).disclosures_most)

pub invariant_of-first_finding : goal.invariant_of-first_finding
invariant_of-first_finding g c = record { bounded = subst Bounded (sym c.record-record.ensures) (bounded c.args.table.now) }
