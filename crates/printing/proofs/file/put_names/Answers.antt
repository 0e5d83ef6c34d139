use Rattle.printing.proofs.Putting.{then}
use Rattle.printing.proofs.file.put_names.Goals as goal

pub returns : goal.returns
returns g c =
    let j = g.met.S.Sink.joined in
    rw (← c.names.ensures) (then j c.put.ensures (then j c.put-2.ensures c.put-3.ensures))
