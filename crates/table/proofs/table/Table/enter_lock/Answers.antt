use Rattle.table.proofs.Soundness.{room_to_lock}
use Rattle.table.proofs.table.Table.enter_lock.Goals as goal

pub push_reserved-requires : goal.push_reserved-requires
push_reserved-requires g c = room_to_lock c.args.self.now c.requires
