use Rattle.printing.proofs.Putting.{then}
use Rattle.printing.proofs.lines.put_line.Goals as goal

pub returns : goal.returns
returns g c =
    let j = g.met.S.Sink.joined in
    let epoch = rw c.from.ensures at c.put_decimal.ensures in
    let queue = rw c.from-2.ensures at c.put_cell.ensures in
    let slot = rw c.from-3.ensures at c.put_cell-2.ensures in
    then j epoch (then j (then j queue (then j slot c.put_columns.ensures)) c.put.ensures)
