use Rattle.std.proofs.Common.{arith}
use Rattle.table.proofs.Soundness.{draws_count}
use Rattle.table.proofs.table.Table.running.Goals as goal

pub overflow_cast-len : goal.overflow_cast-len
overflow_cast-len c = omega (arith, c.len.ensures, draws_count c.args.self.now)
