use Rattle.std.proofs.Common.{◌∙◌, sym, ap, None, get_or}
use Rattle.std.specs.Option.{option_map}
use Rattle.theory.specs.Statement.{echo}
use Rattle.cells.proofs.Cellrows.{map_read}
use Rattle.replica.specs.Store.{store}
use Rattle.replica.proofs.Vacating.{carried}
use Rattle.dues.proofs.Slotting.{cell_free, cell_taken, echo_stated, echo_is}
use Rattle.dues.proofs.slots.echo_for.Goals as goal

pub returns-then-is_some : goal.returns-then-is_some
returns-then-is_some g c =
    let b = g.K.Entry.bytes in
    let m = c.args.lent.now.replica.now in
    let t = c.args.lent.now.tables.now in
    echo_stated m (store b t) c.args.queue c.args.slot c.requires.low c.requires.inside (cell_taken b t.echoes.cells.now c.place.result _ c.get.result c.get.ensures (rw c.grid-grid.ensures at c.place.ensures.value) (sym c.is_some.ensures ∙ c.if-is_some.true))

pub returns : goal.returns
returns g c =
    let b = g.K.Entry.bytes in
    let m = c.args.lent.now.replica.now in
    let t = c.args.lent.now.tables.now in
    let at = rw c.grid-grid.ensures at c.slot_place.ensures.value in
    carried b (echo c.args.queue c.args.slot) c.get-2.result
    ∙ ap (option_map (echo c.args.queue c.args.slot)) (ap (option_map b) c.get-2.ensures ∙ sym (map_read b t.sends.cells.now c.slot_place.result) ∙ ap (λ k. get_or (store b t).sends k None) at)
    ∙ echo_is m (store b t) c.args.queue c.args.slot c.requires.low c.requires.inside (cell_free b t.echoes.cells.now c.place.result _ c.get.result c.get.ensures (rw c.grid-grid.ensures at c.place.ensures.value) (sym c.is_some.ensures ∙ c.if-is_some.false))
