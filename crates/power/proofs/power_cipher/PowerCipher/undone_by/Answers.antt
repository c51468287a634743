use Rattle.std.proofs.Common.{◌∙◌}
use Rattle.power.specs.KeysLemmas.{undo_answer}
use Rattle.power.proofs.power_cipher.PowerCipher.undone_by.Goals as goal

pub returns : goal.returns
returns g c =
    let three = (g.met.F.Field.lawful c.args.self.now.field).order_least in
    c.invert.ensures ∙ undo_answer _ three _ c.args.key c.order-order.ensures c.if-key-order.false
