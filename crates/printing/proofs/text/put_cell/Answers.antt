use Rattle.printing.proofs.Putting.{then}
use Rattle.printing.proofs.text.put_cell.Goals as goal

pub returns : goal.returns
returns g c = then g.met.S.Sink.joined c.put.ensures c.put_decimal.ensures
