-- The sizes of a table's record.
use Rattle.std.proofs.Common.{ℕ, ◌+◌, ◌*◌, ◌≤◌, not, eqb, vec_items, vec_len, mul-le-mul_right, arith}
use Rattle.std.proofs.lemmas.List.Sums.{prefix_len-le-length}
use Rattle.table.specs.Model.{state_of_record}
use Rattle.table.specs.Sound.{most_moves}
use Rattle.table.specs.declared.record.Disclosure.{Disclosure}
use Rattle.table.specs.declared.record.Record.{Record}
use Rattle.table.specs.declared.table.Table.{Table}
use Rattle.table.proofs.Soundness.{disclosures_few, draws_few, moves_fit}
use Rattle.verdict.specs.Tables.{disclosure_of}
use Rattle.verdict.specs.Forward.{Bounded}

most_moves_few : (seats cards : ℕ) → seats ≤ 8 → cards ≤ 52 → most_moves seats cards ≤ 486
most_moves_few seats cards s c = omega (arith, mul-le-mul_right (seats + 1) c)

-- every table's record is of a bounded size
pub bounded : (t : Table) → Bounded t.held
bounded t =
    let r = t.held in
    let moves_few =
    moves_fit r.seats r.cards r.locked (vec_len r.disclosures) (vec_items r.draws) r.phase t.seats_least t.step (disclosures_few t) t.draws_fair (draws_few t)
    in
    record {
      cards_most = t.cards_most;
      disclosures_most = omega (arith, t.seats_most, disclosures_few t);
      moves_most = omega (arith, t.moves_long, moves_few, most_moves_few r.seats r.cards t.seats_most t.cards_most);
    }

-- where the order that a seat disclosed begins
pub order_start : (r : Record) → Bounded r → (seat : ℕ) → disclosure_of (state_of_record r) seat * r.cards ≤ 416
order_start r b seat =
    let few : disclosure_of (state_of_record r) seat ≤ 8 =
    omega (arith, b.disclosures_most, r.disclosures.ok.0, prefix_len-le-length (λ (d : Disclosure). not (eqb d.seat seat)) (vec_items r.disclosures))
    in
    omega (arith, mul-le-mul_right r.cards few, b.cards_most)
