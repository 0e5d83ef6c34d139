use Rattle.std.proofs.Common.{Bool, length, ap, ◌∙◌, arith}
use Rattle.promises.specs.Runs.{kind_of}
use Rattle.group.specs.Groups.{Group, group_of}
use Rattle.group.specs.Weeks.{pass, passes_most}
use Rattle.group.proofs.Steps.{again_more, again_stop, again_end}
use Rattle.group.proofs.Keeping.{pass_long}
use Rattle.group.proofs.member.Group.settle.Goals as goal

pub returns-then-not-pass-clause-value : goal.returns-then-not-pass-clause-value
returns-then-not-pass-clause-value g c =
    let i = c.loop.invariant in
    again_stop (pass (kind_of g.K.Entry.WIDTH g.K.Entry.valid)) passes_most c.loop.counter _ _ _ _ _ c.loop-test.true i.left i.coin c.if-not-pass.ensures.value

pub loop-preserved : goal.loop-preserved
loop-preserved g c =
    let e = g.K.Entry in
    let kind = kind_of e.WIDTH e.valid in
    let i = c.loop.invariant in
    let p = c.if-not-pass.ensures in
    let same = ap (λ (q : Bool × Group). length q.1) p.value ∙ pass_long kind (g.C.Coin.meaning c.loop.self.coin) (group_of e.bytes c.loop.self) in
    record {
      left = again_more (pass kind) passes_most c.loop.counter _ _ _ _ _ c.loop-test.true i.left i.coin p.value;
      coin = p.coin ∙ i.coin;
      few = omega (arith, same, i.few);
      size = p.size ∙ i.size;
    }

pub returns-clause-value : goal.returns-clause-value
returns-clause-value g c =
    again_end (pass (kind_of g.K.Entry.WIDTH g.K.Entry.valid) (g.C.Coin.meaning c.args.self.now.coin)) passes_most c.loop.counter _ _ c.loop-test.false c.loop.invariant.left
