use Rattle.std.proofs.Common.{◌≡◌, ◌%◌}
use Rattle.theory.specs.Plan.{sameness}
use Rattle.theory.specs.Book.{stands_in_book}
use Rattle.theory.specs.Turns.{kept_at, writes}
use Rattle.replica.specs.Store.{store}
use Rattle.replica.specs.View.{plan, box, book_of}
use Rattle.dues.proofs.Paging.{From}
use Rattle.dues.proofs.pages.candidate.Given as goal

-- what is found is what is found from this slot on
abbrev pub invariant-loop-slot : goal.invariant-loop-slot
invariant-loop-slot g l =
    let m = l.fn.lent.replica.now in
    let t = store g.K.Entry.bytes l.fn.lent.tables.now in
    writes (plan m) (box m t) ≡ From (stands_in_book (sameness (plan m)) (book_of m t)) (kept_at (plan m) (box m t) (m.epoch % m.set.n)) m.set.w l.slot
