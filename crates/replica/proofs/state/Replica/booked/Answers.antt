use Rattle.std.proofs.Common.{ap, ◌∙◌}
use Rattle.theory.specs.Book.{stands_in_book}
use Rattle.replica.specs.View.{same_bytes}
use Rattle.replica.proofs.Leading.{book_is}
use Rattle.replica.proofs.state.Replica.booked.Goals as goal

pub returns : goal.returns
returns g c =
    let b = g.K.Entry.bytes in
    c.in_book.ensures ∙ ap (λ l. stands_in_book same_bytes l (b c.args.x.now)) (book_is b c.args.self.now c.args.tables.now c.book_cells.result.now c.book_cells.ensures)
