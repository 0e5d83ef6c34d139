use Rattle.std.proofs.Common.{◌∙◌}
use Rattle.promises.specs.Runs.{kind_of}
use Rattle.group.specs.Weeks.{rested}
use Rattle.group.proofs.Steps.{one_more}
use Rattle.group.proofs.member.Group.rest_all.Goals as goal

pub loop-at-preserved : goal.loop-at-preserved
loop-at-preserved g c =
    let i = c.loop-at.invariant in (
      one_more (rested (kind_of g.K.Entry.WIDTH g.K.Entry.valid)) _ _ _ _ _ c.loop-at.at i.0 i.1 c.rest.ensures.value,
      c.rest.ensures.coin ∙ i.1,
    )
