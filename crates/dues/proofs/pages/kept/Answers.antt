use Rattle.std.proofs.Common.{None, get_or, sym, ap, ◌∙◌}
use Rattle.std.specs.Option.{option_map}
use Rattle.cells.proofs.Cellrows.{map_read}
use Rattle.replica.specs.Store.{store}
use Rattle.dues.proofs.Slotting.{kept_is}
use Rattle.dues.proofs.pages.kept.Goals as goal

pub returns : goal.returns
returns g c =
    let b = g.K.Entry.bytes in
    let t = c.args.lent.now.tables.now in
    ap (option_map b) c.get.ensures ∙ sym (map_read b t.haves.cells.now c.place-at.result) ∙ ap (λ k. get_or (store b t).haves k None) (rw c.grid.ensures at c.place-at.ensures.value)
    ∙ kept_is c.args.lent.now.replica.now (store b t) c.args.queue c.args.slot c.requires.low c.requires.inside
