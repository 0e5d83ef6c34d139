-- The file of a book.
use Rattle.std.specs.Prelude.{ℕ, cond, not, List, [], ◌∷◌, ◌++◌, length, drop, Ok, codes, decimal, Result, nat_lt}
use Rattle.common.specs.Refusals.{declined}
use Rattle.common.specs.declared.refusal.Refusal.TheVariants as refusal
use Rattle.theory.specs.Book.{Page}
use Rattle.replica.specs.declared.state.Replica.{Replica}
use Rattle.replica.specs.Store.{Store, fits}
use Rattle.replica.specs.View.{book_of}
use Rattle.printing.specs.Texts.{cell_of}

-- numbers, each behind a semicolon
abbrev pub cells_of : List ℕ → List ℕ
cells_of [] = []
cells_of (n ∷ ns) = cell_of n ++ cells_of ns

-- a page's epoch, box and slot, and its entry's columns
abbrev pub line_of : (List ℕ → List ℕ) → Page (List ℕ) → List ℕ
line_of columns p = decimal p.epoch ++ (cells_of (p.queue ∷ p.slot ∷ columns p.entry) ++ codes "\n")

abbrev pub lines_of : (List ℕ → List ℕ) → List (Page (List ℕ)) → List ℕ
lines_of columns [] = []
lines_of columns (p ∷ ps) = line_of columns p ++ lines_of columns ps

-- the first line: how many replicas and pages there are
abbrev pub opening_of : ℕ → ℕ → List ℕ
opening_of n pages = codes "book" ++ (cells_of (n ∷ pages ∷ []) ++ codes "\n")

-- the second line: the names of the columns
abbrev pub names_of : List ℕ → List ℕ
names_of heading = codes "epoch;box;slot;" ++ (heading ++ codes "\n")

-- the file of a book of n replicas
unfoldable pub file_of : List ℕ → (List ℕ → List ℕ) → ℕ → List (Page (List ℕ)) → List ℕ
file_of heading columns n book = opening_of n (length book) ++ (names_of heading ++ lines_of columns book)

-- a file put to the front of a buffer, if it fits
abbrev pub placed_of : List ℕ → List ℕ → Result ℕ ℕ × List ℕ
placed_of file out = cond (nat_lt (length out) (length file)) (declined refusal.File, out) (Ok (length file), file ++ drop (length file) out)

-- what print answers, and the buffer after it
unfoldable pub print_of : List ℕ → (List ℕ → List ℕ) → Replica → Store → List ℕ → Result ℕ ℕ × List ℕ
print_of heading columns m t out =
    cond (not (fits m.set.n m.set.w t)) (declined refusal.Table, out)
    (placed_of (file_of heading columns m.set.n (book_of m t)) out)
