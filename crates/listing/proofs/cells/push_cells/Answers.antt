use Rattle.std.proofs.Common.{◌++◌, vec_items, sym, ap, ◌∙◌}
use Rattle.listing.proofs.Growing.{then_more, following_more}
use Rattle.listing.proofs.cells.push_cells.Goals as goal

pub loop-cell-preserved : goal.loop-cell-preserved
loop-cell-preserved c =
    then_more (vec_items c.args.out.now) _ _ c.loop-cell.invariant c.in_ok-push_cell.ensures
    ∙ ap (λ l. vec_items c.args.out.now ++ l) (sym (following_more c.args.cells.now c.loop-cell.cell-index c.loop-cell-test.true))
