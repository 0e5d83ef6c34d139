-- The file as a reader of tables takes it.
use Rattle.std.proofs.Common.{◌≡◌, ℕ, ◌<◌, List, [], ◌∷◌, ◌++◌, map, length, codes, decimal, refl, ap, ◌∙◌, append_assoc, append-nil, arith}
use Rattle.std.proofs.lemmas.List.{map-append}
use Rattle.std.proofs.lemmas.Bool.Decides.{nat_tests}
use Rattle.theory.specs.Book.{Page}
use Rattle.printing.specs.Files.{cells_of, lines_of, names_of, file_of}
use Rattle.printing.specs.Grids.{cut, grid_in, row_of, grid_of}
use Rattle.printing.proofs.Cutting.{Free, free_append, cut_one, cut_last, cut_ended, decimal_free, decimal_some}

no_end : (n : ℕ) → Free 10 (decimal n)
no_end n = decimal_free 10 (λ k h. grind (arith, nat_tests)) n

no_mark : (n : ℕ) → Free 59 (decimal n)
no_mark n = decimal_free 59 (λ k h. grind (arith, nat_tests)) n

cells_free : (ns : List ℕ) → Free 10 (cells_of ns)
cells_free [] = tt
cells_free (n ∷ ns) = (refl, free_append 10 (decimal n) (cells_of ns) (no_end n) (cells_free ns))

two : (a b c d : List ℕ) → (a ++ (b ++ c)) ++ d ≡ (a ++ b) ++ (c ++ d)
two a b c d = simp append_assoc

-- a first cell, and numbers behind it
cells : (t : List ℕ) (ns : List ℕ) → 0 < length t → Free 59 t → cut 59 (t ++ cells_of ns) ≡ t ∷ map decimal ns
cells t [] h f = ap (cut 59) (append-nil t) ∙ cut_last 59 t h f
cells t (n ∷ ns) h f = cut_one 59 t (decimal n ++ cells_of ns) f ∙ ap (λ l. t ∷ l) (cells (decimal n) ns (decimal_some n) (no_mark n))

-- a line of cells, and a text behind it
line : (t : List ℕ) (ns rest : List ℕ) → 0 < length t → Free 10 t → Free 59 t → grid_in ((t ++ (cells_of ns ++ codes "\n")) ++ rest) ≡ (t ∷ map decimal ns) ∷ grid_in rest
line t ns rest h f g =
    ap grid_in (two t (cells_of ns) (codes "\n") rest)
    ∙ ap (map (cut 59)) (cut_one 10 (t ++ cells_of ns) rest (free_append 10 t (cells_of ns) f (cells_free ns)))
    ∙ ap (λ l. l ∷ grid_in rest) (cells t ns h g)

lines : (columns : List ℕ → List ℕ) (book : List (Page (List ℕ))) → grid_in (lines_of columns book) ≡ map (row_of columns) book
lines columns [] = refl
lines columns (p ∷ ps) =
    line (decimal p.epoch) (p.queue ∷ p.slot ∷ columns p.entry) (lines_of columns ps) (decimal_some p.epoch) (no_end p.epoch) (no_mark p.epoch)
    ∙ ap (λ l. row_of columns p ∷ l) (lines columns ps)

-- the names, and a text behind them
names : (heading rest : List ℕ) → grid_in (names_of heading ++ rest) ≡ grid_in (names_of heading) ++ grid_in rest
names heading rest =
    let place = codes "epoch;box;slot;" in
    ap grid_in (two place heading (codes "\n") rest)
    ∙ ap (map (cut 59)) (cut_ended 10 (place ++ heading) rest ∙ ap (λ l. cut 10 l ++ cut 10 rest) (append_assoc place heading (codes "\n")))
    ∙ map-append (cut 59) (cut 10 (names_of heading)) (cut 10 rest)

pub grid : (heading : List ℕ) (columns : List ℕ → List ℕ) (n : ℕ) (book : List (Page (List ℕ))) → grid_in (file_of heading columns n book) ≡ grid_of heading columns n book
unfolding file_of
grid heading columns n book =
    line (codes "book") (n ∷ length book ∷ []) (names_of heading ++ lines_of columns book) (omega arith) (refl, (refl, (refl, (refl, tt)))) (refl, (refl, (refl, (refl, tt))))
    ∙ ap (λ l. (codes "book" ∷ decimal n ∷ decimal (length book) ∷ []) ∷ l) (names heading (lines_of columns book) ∙ ap (λ l. grid_in (names_of heading) ++ l) (lines columns book))
