use Rattle.std.proofs.Common.{sym, refl, arith}
use Rattle.table.specs.State.{begun}
use Rattle.table.proofs.Soundness.{added_fair, added_different, added_moves, room_for_draw, room_for_its_move, begun_fair}
use Rattle.table.proofs.table.Table.enter_draw.Goals as goal

pub push_reserved-requires : goal.push_reserved-requires
push_reserved-requires c =
    let t = c.args.self.now in
    room_for_draw t (begun c.args.seat c.args.place c.index-value.result.now) c.if-place-self.false (sym c.if-is_taken.ensures) (begun_fair t) refl

pub push_reserved-requires-2 : goal.push_reserved-requires-2
push_reserved-requires-2 c =
    let t = c.args.self.now in
    room_for_its_move t (begun c.args.seat c.args.place c.index-value.result.now) c.if-place-self.false (sym c.if-is_taken.ensures) (begun_fair t) refl

pub invariant_of-self-clause-draws_fair : goal.invariant_of-self-clause-draws_fair
invariant_of-self-clause-draws_fair c =
    let t = c.args.self.now in
    rw (c.push_reserved.ensures.items, c.begin.ensures)
    (added_fair t (begun c.args.seat c.args.place c.index-value.result.now) c.if-place-self.false (sym c.if-is_taken.ensures) (begun_fair t) refl)

pub invariant_of-self-clause-places_different : goal.invariant_of-self-clause-places_different
invariant_of-self-clause-places_different c =
    let t = c.args.self.now in
    rw (c.push_reserved.ensures.items, c.begin.ensures)
    (added_different t (begun c.args.seat c.args.place c.index-value.result.now) c.if-place-self.false (sym c.if-is_taken.ensures) (begun_fair t) refl)

pub invariant_of-self-clause-moves_long : goal.invariant_of-self-clause-moves_long
invariant_of-self-clause-moves_long c =
    let t = c.args.self.now in
    let more = added_moves t (begun c.args.seat c.args.place c.index-value.result.now) c.if-place-self.false (sym c.if-is_taken.ensures) (begun_fair t) refl in
    rw (c.push_reserved.ensures.items, c.begin.ensures) (omega (arith, more, c.push_reserved-2.ensures.len, t.moves_long))
