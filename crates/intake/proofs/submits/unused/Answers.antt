use Rattle.std.proofs.Common.{◌∙◌}
use Rattle.intake.proofs.Unused.{unused_is}
use Rattle.intake.proofs.submits.unused.Goals as goal

pub returns-in_err-slot : goal.returns-in_err-slot
returns-in_err-slot g c =
    let l = c.args.lent.now in
    c.from_residual.ensures ∙ c.in_err-slot.ensures
    ∙ unused_is g.K.Entry.bytes l.replica.now l.tables.now c.row.result.now _ _ c.row.ensures (rw c.grid.ensures at c.slot_place-own.ensures.value) c.from.ensures l.replica.now.set.own l.long

pub returns : goal.returns
returns g c =
    let l = c.args.lent.now in
    c.in_ok-slot.ensures
    ∙ unused_is g.K.Entry.bytes l.replica.now l.tables.now c.row.result.now _ _ c.row.ensures (rw c.grid.ensures at c.slot_place-own.ensures.value) c.from.ensures l.replica.now.set.own l.long
