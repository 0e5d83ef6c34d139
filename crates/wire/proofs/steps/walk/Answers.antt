use Rattle.wire.proofs.Stepping.{walked}
use Rattle.wire.proofs.steps.walk.Goals as goal

pub returns-clause-walked : goal.returns-clause-walked
returns-clause-walked g c = walked g.K.Entry.WIDTH c.args.frame.now
