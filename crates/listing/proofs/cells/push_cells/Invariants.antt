use Rattle.std.proofs.Common.{◌≡◌, ◌++◌, map, take, vec_items}
use Rattle.listing.specs.Rows.{text_of, following}
use Rattle.listing.proofs.cells.push_cells.Given as goal

abbrev pub invariant-loop-cell : goal.invariant-loop-cell
invariant-loop-cell l = vec_items l.out ≡ vec_items l.initial.out ++ following (map text_of (take l.cell-index l.cells))
