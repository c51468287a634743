use Rattle.std.proofs.Common.{vec_items}
use Rattle.std.specs.Bool.{◌==◌}
use Rattle.verdict.proofs.Positions.{position_or_end}
use Rattle.verdict.proofs.hearing.Hearing.disclosure_or_end.Goals as goal

pub returns : goal.returns
returns g c = let ended = position_or_end (λ d. d.seat == c.args.seat) (vec_items c.args.self.now.record.now.disclosures) in cc
