use Rattle.replica.specs.Store.{store}
use Rattle.moves.proofs.Trying.{opening_is}
use Rattle.moves.proofs.turning.opening.Goals as goal

pub returns-in-Unopened : goal.returns-in-Unopened
returns-in-Unopened g c = opening_is c.args.lent.now.replica.now (store g.K.Entry.bytes c.args.lent.now.tables.now) c.in-Unopened.is c.if-lent-ge-EPOCHS.false _ c.candidate.ensures _ c.is_some.ensures
