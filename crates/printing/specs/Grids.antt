-- A text as a reader of tables takes it.
use Rattle.std.specs.Prelude.{ℕ, cond, List, [], ◌∷◌, ◌++◌, map, length, codes, decimal, ◌==◌}
use Rattle.theory.specs.Book.{Page}
use Rattle.printing.specs.Files.{names_of}

-- a byte in front of the first part
abbrev pub push : ℕ → List (List ℕ) → List (List ℕ)
push b [] = (b ∷ []) ∷ []
push b (t ∷ ts) = (b ∷ t) ∷ ts

-- the parts of a text that end at each byte d, and at its end
abbrev pub cut : ℕ → List ℕ → List (List ℕ)
cut d [] = []
cut d (b ∷ bs) = cond (b == d) ([] ∷ cut d bs) (push b (cut d bs))

-- its lines, and the cells between the semicolons of each
abbrev pub grid_in : List ℕ → List (List (List ℕ))
grid_in text = map (cut 59) (cut 10 text)

-- the numbers of a page
abbrev pub row_of : (List ℕ → List ℕ) → Page (List ℕ) → List (List ℕ)
row_of columns p = map decimal (p.epoch ∷ p.queue ∷ p.slot ∷ columns p.entry)

-- what a reader is to find: the word and its two numbers, the names, and a row for each page in the book's order
abbrev pub grid_of : List ℕ → (List ℕ → List ℕ) → ℕ → List (Page (List ℕ)) → List (List (List ℕ))
grid_of heading columns n book = (codes "book" ∷ decimal n ∷ decimal (length book) ∷ []) ∷ (grid_in (names_of heading) ++ map (row_of columns) book)
