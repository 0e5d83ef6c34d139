use Rattle.std.proofs.Common.{◌∙◌}
use Rattle.promises.specs.Runs.{kind_of}
use Rattle.group.specs.Weeks.{aired}
use Rattle.group.proofs.Steps.{one_more}
use Rattle.group.proofs.member.Group.exchange.Goals as goal

pub loop-at-preserved : goal.loop-at-preserved
loop-at-preserved g c =
    let i = c.loop-at.invariant in
    record {
      so_far = one_more (aired (kind_of g.K.Entry.WIDTH g.K.Entry.valid)) _ _ _ _ _ c.loop-at.at i.so_far i.coin c.air.ensures.value;
      coin = c.air.ensures.coin ∙ i.coin;
      size = c.air.ensures.size ∙ i.size;
    }
