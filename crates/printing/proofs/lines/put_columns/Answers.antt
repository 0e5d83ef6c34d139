use Rattle.std.proofs.Common.{◌≡◌, ◌+◌, ◌∷◌, drop, ap, ◌∙◌, arith}
use Rattle.std.specs.List.{slice_get}
use Rattle.printing.specs.Files.{cells_of}
use Rattle.printing.proofs.Putting.{on, over}
use Rattle.printing.proofs.Columns.{next, none}
use Rattle.printing.proofs.lines.put_columns.Goals as goal

pub returns-in_default : goal.returns-in_default
returns-in_default g c =
    let ns = g.K.Entry.columns (g.K.Entry.bytes c.args.x.now) in
    let end = none ns c.loop-i.i-iterator.start (c.in_default.ensures ∙ ap (slice_get ns) c.in-Some.ensures.steps.0) in
    over g.met.S.Sink.nothing (ap cells_of end) c.loop-i.invariant

pub loop-i-preserved : goal.loop-i-preserved
loop-i-preserved g c =
    let ns = g.K.Entry.columns (g.K.Entry.bytes c.args.x.now) in
    let n = c.in-Some-column.n in
    let i = c.loop-i.i-iterator.start in
    let further : i + 1 ≡ c.next.new.self.start = omega (arith, c.in-Some.ensures.steps) in
    let more = next ns i n (c.in-Some-column.ensures ∙ ap (slice_get ns) c.in-Some.ensures.steps.0) ∙ ap (λ k. n ∷ drop k ns) further in
    on g.met.S.Sink.joined (ap cells_of more) c.loop-i.invariant (rw c.from.ensures at c.put_cell.ensures)
