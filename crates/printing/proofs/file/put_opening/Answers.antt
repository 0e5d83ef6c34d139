use Rattle.printing.proofs.Putting.{then}
use Rattle.printing.proofs.file.put_opening.Goals as goal

pub returns : goal.returns
returns g c =
    let j = g.met.S.Sink.joined in
    let n = rw c.from.ensures at c.put_cell.ensures in
    then j c.put.ensures (then j (then j n (then j c.put_cell-2.ensures (g.met.S.Sink.nothing _))) c.put-2.ensures)
