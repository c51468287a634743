use Rattle.std.proofs.Common.{ℕ, ◌+◌, ◌-◌, ◌%◌, List, sym, ap, ◌∙◌, ap₂}
use Rattle.std.specs.List.{swap}
use Rattle.seat.specs.Generator.{shuffled}
use Rattle.seat.specs.Generating.{shuffled_turn, shuffled_none}
use Rattle.seat.proofs.seats.draws.shuffle.Goals as goal

pub loop-i-preserved : goal.loop-i-preserved
loop-i-preserved c =
    let i = c.loop-i.i in
    ap (shuffled (i - 1 - 1) c.drawn_after-z.result) c.swap.ensures.after
    ∙ ap (λ (z : ℕ). shuffled (i - 1 - 1) z (swap c.loop-i.order (i - 1) (z % (i - 1 + 1)))) c.drawn_after-z.ensures
    ∙ sym (shuffled_turn i c.loop-i.z c.loop-i.order c.loop-i-test.true) ∙ c.loop-i.invariant

pub returns : goal.returns
returns c = sym (shuffled_none c.loop-i.i c.loop-i.z c.loop-i.order c.loop-i-test.false) ∙ c.loop-i.invariant
    ∙ ap₂ (λ (n : ℕ) (xs : List ℕ). shuffled (n - 1) c.args.z xs) c.number_places.auto.order c.number_places.ensures
