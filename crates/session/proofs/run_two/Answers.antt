use Rattle.session.specs.Steps.{calls_of}
use Rattle.session.proofs.Lawful.{runs_law}
use Rattle.session.proofs.run_two.Goals as goal

pub returns-clause-law : goal.returns-clause-law
returns-clause-law g c =
    let one = c.args.first.1.now in
    let two = c.args.second.1.now in
    runs_law (g.A.Cipher.meaning c.args.first.0.now) (g.met.A.Cipher.lawful c.args.first.0.now) one.seats one.cards (calls_of one)
    (g.B.Cipher.meaning c.args.second.0.now) (g.met.B.Cipher.lawful c.args.second.0.now) two.seats two.cards (calls_of two)
