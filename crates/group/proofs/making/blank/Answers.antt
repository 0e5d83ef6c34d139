use Rattle.std.proofs.Common.{◌∙◌}
use Rattle.group.proofs.Blanking.{blank_store}
use Rattle.group.proofs.making.blank.Goals as goal

pub returns : goal.returns
returns g c =
    let x = c.lend.ensures in
    blank_store g.K.Entry.bytes c.lend.result c.args.n c.args.w _ _ c.slots-slots.ensures c.row_cells-rows.ensures
    (x.sends ∙ c.in_ok-cells.ensures) (x.echoes ∙ c.in_ok-cells-2.ensures) (x.readies ∙ c.in_ok-cells-3.ensures) (x.haves ∙ c.in_ok-cells-4.ensures) (x.pages ∙ c.in_ok-cells-5.ensures)
