use Rattle.std.proofs.Common.{rules}
use Rattle.replica.specs.Store.{store}
use Rattle.replica.specs.Claims.{claim_of}
use Rattle.replica.proofs.Accepting.{accepted}
use Rattle.intake.proofs.Judged.{judged}
use Rattle.intake.proofs.Heard.{hears_by}
use Rattle.intake.proofs.hears.hear.Goals as goal

pub hold-requires-clause-ranged : goal.hold-requires-clause-ranged
hold-requires-clause-ranged g c =
    let k = g.K.Entry in
    let given = (accepted k.bytes c.args.replica.now c.args.tables.now _ c.in_ok-lent.ensures).0 in
    (judged k.WIDTH k.valid c.args.replica.now (store k.bytes c.args.tables.now) c.args.sender c.args.s.now (claim_of k.bytes c.in_ok-claim.claim) (search (given, rules))).ranged

pub returns-in_err-claim-clause-hears : goal.returns-in_err-claim-clause-hears
returns-in_err-claim-clause-hears g c =
    let k = g.K.Entry in
    let given = (accepted k.bytes c.args.replica.now c.args.tables.now _ c.in_ok-lent.ensures).0 in
    hears_by k.WIDTH k.valid c.args.replica.now (store k.bytes c.args.tables.now) c.args.sender c.args.s.now _ _ _ (search (given, rules))

pub returns-clause-hears : goal.returns-clause-hears
returns-clause-hears g c =
    let k = g.K.Entry in
    let given = (accepted k.bytes c.args.replica.now c.args.tables.now _ c.in_ok-lent.ensures).0 in
    hears_by k.WIDTH k.valid c.args.replica.now (store k.bytes c.args.tables.now) c.args.sender c.args.s.now _ _ _ (search (given, rules))
