use Rattle.std.proofs.Common.{refl, arith}
use Rattle.table.proofs.Soundness.{still_fair, still_different, one_more, room_for_one, is_draw}
use Rattle.table.proofs.table.Table.change_draw.Goals as goal

pub push_reserved-requires : goal.push_reserved-requires
push_reserved-requires g c =
    let is = is_draw c.args.self.now c.args.number c.requires.within c.index_mut.result.now c.index_mut.ensures.value in
    room_for_one c.args.self.now c.args.number c.change.new.arg2 c.requires.within
    (c.requires.fits c.change.new.arg2 (record { shown = c.index_mut.result; shows = is; left = _; met = c.change.ensures; leaves = refl }))

pub invariant_of-self-clause-draws_fair : goal.invariant_of-self-clause-draws_fair
invariant_of-self-clause-draws_fair g c =
    let is = is_draw c.args.self.now c.args.number c.requires.within c.index_mut.result.now c.index_mut.ensures.value in
    still_fair c.args.self.now c.args.number c.change.new.arg2 c.requires.within
    (c.requires.fits c.change.new.arg2 (record { shown = c.index_mut.result; shows = is; left = _; met = c.change.ensures; leaves = refl }))

pub invariant_of-self-clause-places_different : goal.invariant_of-self-clause-places_different
invariant_of-self-clause-places_different g c =
    let is = is_draw c.args.self.now c.args.number c.requires.within c.index_mut.result.now c.index_mut.ensures.value in
    still_different c.args.self.now c.args.number c.change.new.arg2 c.requires.within
    (c.requires.fits c.change.new.arg2 (record { shown = c.index_mut.result; shows = is; left = _; met = c.change.ensures; leaves = refl }))

pub invariant_of-self-clause-moves_long : goal.invariant_of-self-clause-moves_long
invariant_of-self-clause-moves_long g c =
    let is = is_draw c.args.self.now c.args.number c.requires.within c.index_mut.result.now c.index_mut.ensures.value in
    let more =
    one_more c.args.self.now c.args.number c.change.new.arg2 c.requires.within
    (c.requires.fits c.change.new.arg2 (record { shown = c.index_mut.result; shows = is; left = _; met = c.change.ensures; leaves = refl }))
    in
    omega (arith, more, c.push_reserved.ensures.len, c.args.self.now.moves_long)

pub returns-clause-made : goal.returns-clause-made
returns-clause-made g c =
    let is = is_draw c.args.self.now c.args.number c.requires.within c.index_mut.result.now c.index_mut.ensures.value in (
      c.change.new.arg2,
      record { shown = c.index_mut.result; shows = is; left = _; met = c.change.ensures; leaves = refl },
      rw c.push_reserved.ensures.items refl,
    )
