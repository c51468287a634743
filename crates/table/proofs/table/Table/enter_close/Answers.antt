use Rattle.table.proofs.Soundness.{room_to_close}
use Rattle.table.proofs.table.Table.enter_close.Goals as goal

pub push_reserved-requires : goal.push_reserved-requires
push_reserved-requires c = room_to_close c.args.self.now c.requires
