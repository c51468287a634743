use Rattle.session.specs.Steps.{calls_of}
use Rattle.session.proofs.Lawful.{run_law}
use Rattle.session.proofs.run_and_audit.Goals as goal

pub returns-in_err-table-clause-law : goal.returns-in_err-table-clause-law
returns-in_err-table-clause-law g c =
    let script = c.args.script.now in
    run_law (g.C.Cipher.meaning c.args.cipher.now) (g.met.C.Cipher.lawful c.args.cipher.now) script.seats script.cards (calls_of script)

pub returns-clause-law : goal.returns-clause-law
returns-clause-law g c =
    let script = c.args.script.now in
    run_law (g.C.Cipher.meaning c.args.cipher.now) (g.met.C.Cipher.lawful c.args.cipher.now) script.seats script.cards (calls_of script)
