use Rattle.std.proofs.Common.{sym}
use Rattle.wire.specs.Statements.{message_of}
use Rattle.replica.specs.Store.{store}
use Rattle.replica.specs.Claims.{claim_of}
use Rattle.intake.proofs.Admitted.{admitted}
use Rattle.intake.proofs.hears.judge.Goals as goal

pub vacant-requires-clause-ranged : goal.vacant-requires-clause-ranged
vacant-requires-clause-ranged g c =
    let k = g.K.Entry in
    let lent = c.args.lent.now in
    (admitted k.valid lent.replica.now (store k.bytes lent.tables.now) c.args.sender (message_of c.in_ok-statement.statement) (claim_of k.bytes c.in_ok-claim.claim) (sym c.in_ok-claim.ensures)).0
