use Rattle.std.proofs.Common.{ℕ, length, ◌∙◌, arith}
use Rattle.std.proofs.lemmas.List.FromFn.{fill_by_all}
use Rattle.std.proofs.lemmas.List.{map-id}
use Rattle.seat.proofs.seats.draws.number_places.Goals as goal

pub returns : goal.returns
returns c = fill_by_all (λ (k : ℕ). k) c.loop-i.order (length c.args.order.now) 0 c.loop-i.auto.order (λ k h. c.loop-i.invariant k (omega arith)) ∙ map-id _
