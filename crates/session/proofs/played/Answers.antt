use Rattle.std.proofs.Common.{vec_items, arith}
use Rattle.table.specs.Model.{state_of}
use Rattle.session.proofs.Running.{ran_next, ran_whole}
use Rattle.session.proofs.played.Goals as goal

pub loop-step-preserved : goal.loop-step-preserved
loop-step-preserved g c =
    let inv = c.loop-step.invariant in
    let pushed = c.push_reserved.ensures in
    let script = c.args.script.now in
    let ran =
    ran_next (g.C.Cipher.meaning c.args.cipher.now) script.seats script.cards inv.0 c.deref-step-items.result.now c.loop-step.step-index c.step-item.result (vec_items c.loop-step.replies) (vec_items c.push_reserved.new.self)
    (state_of c.loop-step.table) (state_of c.answer.new.table) c.answer.result c.loop-step-test.true c.step-item.is inv.1 c.answer.ensures.answer c.answer.ensures.made pushed.items in
    (inv.0, ran, omega (arith, pushed.len, inv.2), omega (arith, pushed.capacity, inv.3))

pub returns : goal.returns
returns g c =
    let inv = c.loop-step.invariant in
    let script = c.args.script.now in
    let done =
    ran_whole (g.C.Cipher.meaning c.args.cipher.now) script.seats script.cards inv.0 (vec_items script.steps) c.deref-step-items.result.now c.deref-step-items.ensures.value
    c.loop-step.step-index (vec_items c.loop-step.replies) (state_of c.loop-step.table) c.loop-step-test.false inv.1
    in
    (inv.0, done.0, done.1)
