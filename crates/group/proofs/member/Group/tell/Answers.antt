use Rattle.std.proofs.Common.{◌∙◌}
use Rattle.promises.specs.Runs.{kind_of}
use Rattle.group.specs.Weeks.{heard_at}
use Rattle.group.proofs.Steps.{one_more}
use Rattle.group.proofs.member.Group.tell.Goals as goal

pub loop-at-preserved : goal.loop-at-preserved
loop-at-preserved g c =
    let i = c.loop-at.invariant in (
      one_more (λ coin. heard_at (kind_of g.K.Entry.WIDTH g.K.Entry.valid) coin c.args.sender c.args.bytes.now) _ _ _ _ _ c.loop-at.at i.0 i.1 c.hear_at.ensures.value,
      c.hear_at.ensures.coin ∙ i.1,
    )
