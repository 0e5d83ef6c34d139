use Rattle.std.proofs.Common.{◌≡◌, map}
use Rattle.std.specs.Option.{option_map}
use Rattle.theory.specs.Book.{stands_in_book}
use Rattle.replica.specs.Store.{paged}
use Rattle.replica.specs.View.{leading, same_bytes}
use Rattle.replica.proofs.Leading.{left}
use Rattle.replica.proofs.book.in_book.Given as goal

-- whether it is on the pages that are left is whether it is in the book
abbrev pub invariant-loop-cell : goal.invariant-loop-cell
invariant-loop-cell g l =
    let b = g.K.Entry.bytes in
    left b l.pages (b l.x) l.cell-index ≡ stands_in_book same_bytes (leading (map (option_map (paged b)) l.pages)) (b l.x)
