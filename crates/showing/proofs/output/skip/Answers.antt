use Rattle.std.proofs.Common.{arith}
use Rattle.replica.specs.Claims.{claim_of}
use Rattle.showing.proofs.Skipping.{passed_more, passed_all}
use Rattle.showing.proofs.output.skip.Goals as goal

pub loop-preserved : goal.loop-preserved
loop-preserved g c = passed_more _ _ _ _ (claim_of g.K.Entry.bytes c.in_ok-next.field-0) c.loop.invariant c.in_ok-next.ensures.steps

pub returns-in_err-next : goal.returns-in_err-next
returns-in_err-next g c =
    let all = passed_all _ _ _ c.loop.invariant c.in_err-next.ensures.steps.0 in
    rw c.from_residual.ensures (omega (arith, all, c.loop-test.true))
