use Rattle.std.proofs.Common.{◌≡◌, ℕ, true, List, subst, rules}
use Rattle.theory.specs.Statement.{Stmt}
use Rattle.theory.specs.Calls.{ranged}
use Rattle.replica.specs.Store.{store}
use Rattle.replica.specs.View.{plan, box}
use Rattle.replica.specs.Claims.{claim_of}
use Rattle.replica.proofs.Accepting.{accepted}
use Rattle.intake.proofs.Submitted.{offers, send_ranged, submits_by}
use Rattle.intake.proofs.submits.submit.Goals as goal

pub hold-requires-clause-ranged : goal.hold-requires-clause-ranged
hold-requires-clause-ranged g c =
    let k = g.K.Entry in
    let m = c.args.replica.now in
    let t = store k.bytes c.args.tables.now in
    let given = (accepted k.bytes m c.args.tables.now _ c.in_ok-lent.ensures).0 in
    let f = offers k.WIDTH k.valid m t c.args.s.now (claim_of k.bytes c.in_ok-claim.claim) (search (given, rules)) in
    subst (λ (x : Stmt (List ℕ)). ranged (plan m) (box m t) x ≡ true) f.2 (send_ranged k.WIDTH k.valid m t c.args.s.now f.0 f.1)

pub returns-in_err-claim-clause-submits : goal.returns-in_err-claim-clause-submits
returns-in_err-claim-clause-submits g c =
    let k = g.K.Entry in
    let given = (accepted k.bytes c.args.replica.now c.args.tables.now _ c.in_ok-lent.ensures).0 in
    submits_by k.WIDTH k.valid c.args.replica.now (store k.bytes c.args.tables.now) c.args.s.now g.met.K.Entry.wide _ _ _ (search (given, rules))

pub returns-clause-submits : goal.returns-clause-submits
returns-clause-submits g c =
    let k = g.K.Entry in
    let given = (accepted k.bytes c.args.replica.now c.args.tables.now _ c.in_ok-lent.ensures).0 in
    submits_by k.WIDTH k.valid c.args.replica.now (store k.bytes c.args.tables.now) c.args.s.now g.met.K.Entry.wide _ _ _ (search (given, rules))
