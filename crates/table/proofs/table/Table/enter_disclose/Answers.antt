use Rattle.std.proofs.Common.{◌≡◌, ◌+◌, ◌*◌, ◌≤◌, length, vec_len, vec_capacity, sym, ap, ◌∙◌, suc-mul, arith}
use Rattle.std.specs.Result.{is_ok}
use Rattle.std.proofs.lemmas.Bool.{cond-true, true≢false}
use Rattle.table.specs.Sound.{different}
use Rattle.table.specs.declared.record.Disclosure.{Disclosure}
use Rattle.table.proofs.Soundness.{disclosed_different, room_for_disclosure, room_for_order, room_to_disclose}
use Rattle.table.proofs.table.Table.enter_disclose.Goals as goal

pub push_reserved-requires : goal.push_reserved-requires
push_reserved-requires g c =
    let t = c.args.self.now in
    let d : Disclosure = record { seat = c.args.seat; key = c.args.key } in
    room_for_disclosure t d c.if-seat-self.false (sym c.if-has_disclosed.ensures)

pub push_reserved-requires-2 : goal.push_reserved-requires-2
push_reserved-requires-2 g c =
    let t = c.args.self.now in
    let d : Disclosure = record { seat = c.args.seat; key = c.args.key } in
    room_to_disclose t d c.if-seat-self.false (sym c.if-has_disclosed.ensures)

pub invariant_of-self-2-clause-disclosures_different : goal.invariant_of-self-2-clause-disclosures_different
invariant_of-self-2-clause-disclosures_different g c =
    let h = c.args.self.now.held in
    let d : Disclosure = record { seat = c.args.seat; key = c.args.key } in
    ap (different (λ e. e.seat) h.seats) c.push_reserved.ensures.items
    ∙ disclosed_different c.args.self.now d c.if-seat-self.false (sym c.if-has_disclosed.ensures)

pub invariant_of-self-2-clause-orders_long : goal.invariant_of-self-2-clause-orders_long
invariant_of-self-2-clause-orders_long g c =
    let h = c.args.self.now.held in
    let s = c.args.self.now in
    let d : Disclosure = record { seat = c.args.seat; key = c.args.key } in
    let same : length c.args.order.now ≡ h.cards = c.if-order-from.false ∙ c.from.ensures in
    let fits : vec_len h.orders + length c.args.order.now ≤ vec_capacity h.orders =
    omega (arith, same, room_for_order s d c.if-seat-self.false (sym c.if-has_disclosed.ensures))
    in
    let long = c.extend_from_slice.ensures.len ∙ cond-true _ _ _ (c.extend_from_slice.ensures.succeeds fits) in
    omega (arith, long, c.push_reserved.ensures.len, suc-mul (vec_len h.disclosures) h.cards, ap (λ n. n * h.cards) c.push_reserved.ensures.len, s.orders_long)

pub returns-in_err-extend_from_slice-clause-answer : goal.returns-in_err-extend_from_slice-clause-answer
returns-in_err-extend_from_slice-clause-answer g c =
    let h = c.args.self.now.held in
    let d : Disclosure = record { seat = c.args.seat; key = c.args.key } in
    let same : length c.args.order.now ≡ h.cards = c.if-order-from.false ∙ c.from.ensures in
    let fits : vec_len h.orders + length c.args.order.now ≤ vec_capacity h.orders =
    omega (arith, same, room_for_order c.args.self.now d c.if-seat-self.false (sym c.if-has_disclosed.ensures))
    in
    absurd (true≢false (sym (c.extend_from_slice.ensures.succeeds fits) ∙ ap is_ok c.in_err-extend_from_slice.was))
