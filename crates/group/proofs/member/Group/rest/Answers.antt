use Rattle.std.proofs.Common.{◌∙◌}
use Rattle.promises.specs.Runs.{kind_of}
use Rattle.group.specs.Weeks.{acted, turns_most}
use Rattle.group.proofs.Steps.{again_more, again_stop, again_end}
use Rattle.group.proofs.member.Group.rest.Goals as goal

pub returns-then-not-act-clause-value : goal.returns-then-not-act-clause-value
returns-then-not-act-clause-value g c =
    let i = c.loop.invariant in
    again_stop (λ coin. acted (kind_of g.K.Entry.WIDTH g.K.Entry.valid) coin c.args.at) turns_most c.loop.counter _ _ _ _ _ c.loop-test.true i.0 i.1 c.if-not-act.ensures.value

pub loop-preserved : goal.loop-preserved
loop-preserved g c =
    let i = c.loop.invariant in (
      again_more (λ coin. acted (kind_of g.K.Entry.WIDTH g.K.Entry.valid) coin c.args.at) turns_most c.loop.counter _ _ _ _ _ c.loop-test.true i.0 i.1 c.if-not-act.ensures.value,
      c.if-not-act.ensures.coin ∙ i.1,
    )

pub returns-clause-value : goal.returns-clause-value
returns-clause-value g c =
    let i = c.loop.invariant in
    again_end (acted (kind_of g.K.Entry.WIDTH g.K.Entry.valid) (g.C.Coin.meaning c.args.self.now.coin) c.args.at) turns_most c.loop.counter _ _ c.loop-test.false i.0
