-- The book: the pages up to the first empty cell.
use Rattle.std.proofs.Common.{◌≡◌, ℕ, zero, suc, ◌<◌, ◌≤◌, Bool, true, ◌⊎◌, List, [], ◌∷◌, map, length, get_or, take, drop, Some, None, Option, sym, refl, ap, ◌∙◌, inl, inr, arith}
use Rattle.std.specs.List.{slice_get}
use Rattle.std.proofs.lemmas.Bool.{cases_lt}
use Rattle.std.specs.Option.{option_map}
use Rattle.std.proofs.lemmas.List.{get_or-take, get_or_past, length-take, take-map}
use Rattle.replica.specs.declared.lent.Page as declared
use Rattle.replica.specs.declared.lent.Tables.{Tables}
use Rattle.theory.specs.Book.{stands_in_book}
use Rattle.replica.specs.declared.state.Replica.{Replica}
use Rattle.replica.specs.Store.{Store, fits, paged, store}
use Rattle.replica.specs.View.{same_bytes, leading, book_of}
use Rattle.replica.specs.Paging.{found, page_of, Reads}
use Rattle.replica.proofs.Answering.{page_found, page_past}

-- what stands at a place of the book stands in that cell
lead_nth : {A : Type 0} (ps : List (Option A)) (k : ℕ) (p : A) → slice_get (leading ps) k ≡ Some p → get_or ps k None ≡ Some p
lead_nth [] k p e = absurd (let z : ◌≡◌ {A = ℕ} 0 1 = cc in omega arith)
lead_nth (None ∷ ps) k p e = absurd (let z : ◌≡◌ {A = ℕ} 0 1 = cc in omega arith)
lead_nth (Some q ∷ ps) zero p e = e
lead_nth (Some q ∷ ps) (suc k) p e = lead_nth ps k p e

-- and behind the book is an empty cell, or none
lead_end : {A : Type 0} (ps : List (Option A)) → get_or ps (length (leading ps)) None ≡ None
lead_end [] = refl
lead_end (None ∷ ps) = refl
lead_end (Some q ∷ ps) = lead_end ps

-- whether an entry is on the pages from cell i on
module _ {K : Type 0} (b : K → List ℕ) (cells : List (Option (declared.Page K))) (x : List ℕ) where
  abbrev pub left : ℕ → Bool
  left i = stands_in_book same_bytes (leading (map (option_map (paged b)) (drop i cells))) x

-- the book, in the cells that the replica counts
pub book_is : {K : Type 0} (b : K → List ℕ) (m : Replica) (t : Tables K) (cells : List (Option (declared.Page K))) → cells ≡ take m.pages t.pages.cells.now → leading (map (option_map (paged b)) cells) ≡ book_of m (store b t)
book_is b m t cells e = ap (λ l. leading (map (option_map (paged b)) l)) e ∙ ap leading (sym (take-map (option_map (paged b)) m.pages t.pages.cells.now))

module _ (m : Replica) (t : Store) where
  leaf_at : fits m.set.n m.set.w t ≡ true → (k : ℕ) → found (get_or (take m.pages t.pages) k None) ≡ page_of m t k
  leaf_at long k = at (cases_lt k m.pages)
    where
      at : (k < m.pages) ⊎ (m.pages ≤ k) → found (get_or (take m.pages t.pages) k None) ≡ page_of m t k
      at (inl l) = page_found m t k (sym long) l _ (get_or-take m.pages t.pages k None l)
      at (inr l) = ap found (get_or_past (take m.pages t.pages) k None (omega (arith, length-take m.pages t.pages))) ∙ page_past m t k (sym long) l

  pub reads : Reads m t
  reads = record {
    each = λ long k p e. sym (leaf_at long k) ∙ ap found (lead_nth (take m.pages t.pages) k p e);
    ends = λ long. sym (leaf_at long (length (book_of m t))) ∙ ap found (lead_end (take m.pages t.pages));
  }
