-- A page of the book.
use Rattle.std.specs.Prelude.{◌≡◌, ℕ, true, cond, not, List, length, Some, None, Ok, Option, Result, nat_le, slice_index_or}
use Rattle.std.specs.List.{slice_get}
use Rattle.common.specs.Refusals.{declined}
use Rattle.common.specs.declared.refusal.Refusal.TheVariants as refusal
use Rattle.theory.specs.Book.{Page}
use Rattle.replica.specs.declared.state.Replica.{Replica}
use Rattle.replica.specs.Store.{Store, fits}
use Rattle.replica.specs.View.{book_of}

abbrev pub found : Option (Page (List ℕ)) → Result (Page (List ℕ)) ℕ
found None = declined refusal.Page
found (Some p) = Ok p

unfoldable pub page_of : Replica → Store → ℕ → Result (Page (List ℕ)) ℕ
page_of m t place =
    cond (not (fits m.set.n m.set.w t)) (declined refusal.Table)
    (cond (nat_le m.pages place) (declined refusal.Page)
    (found (slice_index_or t.pages place None)))

-- A book is what page answers at 0, 1, and so on, until it answers that there is no such page.
pub record Reads (m : Replica) (t : Store) : Type 0 where
  pub each : fits m.set.n m.set.w t ≡ true → (k : ℕ) (p : Page (List ℕ)) → slice_get (book_of m t) k ≡ Some p → page_of m t k ≡ Ok p
  pub ends : fits m.set.n m.set.w t ≡ true → page_of m t (length (book_of m t)) ≡ declined refusal.Page
