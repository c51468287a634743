use Rattle.std.proofs.Common.{arith}
use Rattle.verdict.proofs.Bounds.{order_start}
use Rattle.verdict.proofs.hearing.Hearing.order_value.Goals as goal

pub part_item-requires : goal.part_item-requires
part_item-requires g c =
    simp c.disclosure_or_end-order.ensures (omega (arith, order_start c.args.self.now.record.now c.args.self.now.bounded c.args.seat))
