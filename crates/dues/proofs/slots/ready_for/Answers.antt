use Rattle.std.proofs.Common.{ap, ◌∙◌}
use Rattle.std.specs.Option.{option_map}
use Rattle.theory.specs.Statement.{ready}
use Rattle.replica.specs.Store.{store}
use Rattle.replica.proofs.Vacating.{carried}
use Rattle.dues.proofs.Slotting.{ready_is}
use Rattle.dues.proofs.slots.ready_for.Goals as goal

pub returns : goal.returns
returns g c =
    let b = g.K.Entry.bytes in
    let m = c.args.lent.now.replica.now in
    let t = c.args.lent.now.tables.now in
    carried b (ready c.args.queue c.args.slot) c.vouched.result
    ∙ ap (option_map (ready c.args.queue c.args.slot)) c.vouched.ensures
    ∙ ready_is m (store b t) c.args.queue c.args.slot c.requires.low c.requires.inside c.args.lent.now.long _ c.from-enough.ensures
