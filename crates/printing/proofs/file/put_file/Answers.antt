use Rattle.printing.specs.Files.{file_of}
use Rattle.printing.proofs.Putting.{then}
use Rattle.printing.proofs.file.put_file.Goals as goal

pub returns : goal.returns
unfolding file_of
returns g c =
    let j = g.met.S.Sink.joined in
    rw (← c.filled.ensures) (then j c.put_opening.ensures (then j c.put_names.ensures c.put_lines.ensures))
