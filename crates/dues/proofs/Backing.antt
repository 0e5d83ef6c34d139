-- The lowest sender's entry that enough have stated, at a row of cells.
use Rattle.std.proofs.Common.{◌≡◌, ℕ, zero, suc, ◌-◌, ◌*◌, ◌<◌, ◌≤◌, Bool, true, false, leb, List, length, get_or, drop, Some, None, Option, sym, refl, ap, ◌∙◌, ap₂, arith, length-drop}
use Rattle.std.specs.Option.{option_map}
use Rattle.std.proofs.lemmas.List.{get_or-take, get_or-drop, length-take-le}
use Rattle.theory.specs.Count.{count}
use Rattle.theory.specs.Statement.{Stmt, StmtEq, Cell, cell, entry_stated}
use Rattle.theory.specs.Search.{or_else, first, bind, guard, entry}
use Rattle.theory.specs.Turns.{is, told, tally, many, backed}
use Rattle.votes.proofs.Bitwise.{count_same}
use Rattle.cells.specs.Rows.{Cells, place_of, row_of, part, holds, standing, lowest_in}
use Rattle.std.specs.Str.{bytes_eq}
use Rattle.std.proofs.lemmas.Slice.Eq.{bytes_eq-Decides}
use Rattle.cells.proofs.Cellrows.{place_within}
use Rattle.replica.specs.declared.state.Replica.{Replica}
use Rattle.replica.specs.Store.{Store}
use Rattle.replica.specs.View.{view, plan, box, bytes_same}
use Rattle.replica.proofs.Vacating.{decided_by}

first_same : {A : Type 0} (n : ℕ) (g h : ℕ → Option A) → ((i : ℕ) → i < n → g i ≡ h i) → first n g ≡ first n h
unfolding first
first_same zero g h e = refl
first_same (suc n) g h e = ap₂ or_else (first_same n g h (λ i l. e i (omega arith))) (e n (omega arith))

pub mapped_else : {A B : Type 0} (f : A → B) (o u : Option A) → option_map f (or_else o u) ≡ or_else (option_map f o) (option_map f u)
unfolding or_else
mapped_else f None u = refl
mapped_else f (Some a) u = refl

mapped_first : {A B : Type 0} (f : A → B) (n : ℕ) (g : ℕ → Option A) → option_map f (first n g) ≡ first n (λ i. option_map f (g i))
unfolding first
mapped_first f zero g = refl
mapped_first f (suc n) g = mapped_else f (first n g) (g n) ∙ ap (λ o. or_else o (option_map f (g n))) (mapped_first f n g)

mapped_guard : {X A B : Type 0} (f : A → B) (o : Option X) (t : X → Bool) (a : X → A) → option_map f (bind o (λ x. guard (t x) (a x))) ≡ bind o (λ x. guard (t x) (f (a x)))
unfolding bind guard
mapped_guard f None t a = refl
mapped_guard f (Some x) t a = at (t x)
  where
    at : (v : Bool) → option_map f (guard v (a x)) ≡ guard v (f (a x))
    at true = refl
    at false = refl

bind_same : {X A : Type 0} (o : Option X) (g h : X → Option A) → ((x : X) → g x ≡ h x) → bind o g ≡ bind o h
unfolding bind
bind_same None g h e = refl
bind_same (Some x) g h e = e x

-- an entry in a cell
pub entry_in : (st : List ℕ → Stmt (List ℕ)) → ((x : List ℕ) → entry_stated (st x) ≡ Some x) → (o : Option (List ℕ)) → entry (option_map st o) ≡ o
unfolding entry
entry_in st h None = refl
entry_in st h (Some x) = h x

-- whether a cell is told as an entry
is_held : (f : List ℕ → Stmt (List ℕ)) → ((x y : List ℕ) → f x ≡ f y → x ≡ y) → (o : Option (List ℕ)) (x : List ℕ) → is (StmtEq bytes_same) (option_map f o) (f x) ≡ holds x o
is_held f inj None x = refl
is_held f inj (Some y) x = sym (decided_by (bytes_eq y x) (StmtEq bytes_same (f y) (f x)) (λ e. ap f ((bytes_eq-Decides y x).0 e), λ e. (bytes_eq-Decides y x).1 (inj y x e)))

-- what the senders hold in a cell is what a row holds, as f states it
module _ (m : Replica) (t : Store) (f : List ℕ → Stmt (List ℕ)) (c : Cell) (row : Cells)
    (inj : (x y : List ℕ) → f x ≡ f y → x ≡ y) (what : (x : List ℕ) → entry_stated (f x) ≡ Some x) (stands : (x : List ℕ) → cell (f x) ≡ c)
    (size : length row ≡ m.set.n) (reads : (j : ℕ) → j < m.set.n → view m t j c ≡ option_map f (get_or row j None)) where
  tally_row : (x : List ℕ) → tally (plan m) (box m t) (f x) ≡ standing row x
  unfolding standing
  tally_row x =
      count_same m.set.n (λ j. told (plan m) (box m t) j (f x)) (λ j. holds x (get_or row j None))
      (λ j l. ap (λ d. is (StmtEq bytes_same) (view m t j d) (f x)) (stands x) ∙ ap (λ o. is (StmtEq bytes_same) o (f x)) (reads j l) ∙ is_held f inj (get_or row j None) x)
      ∙ ap (λ k. count k (λ j. holds x (get_or row j None))) (sym size)

  pub backed_row : (k : ℕ) (st : List ℕ → Stmt (List ℕ)) → option_map st (lowest_in k row) ≡ backed (plan m) (box m t) k c f st
  unfolding backed lowest_in
  backed_row k st =
      mapped_first st (length row) _
      ∙ first_same (length row) _ _ (λ i l. mapped_guard st (get_or row i None) (λ x. leb k (standing row x)) (λ x. x))
      ∙ ap (λ j. first j (λ i. bind (get_or row i None) (λ x. guard (leb k (standing row x)) (st x)))) size
      ∙ first_same m.set.n _ _ (λ i l.
      bind_same (get_or row i None) _ _ (λ x. ap (λ a. guard (leb k a) (st x)) (sym (tally_row x)))
      ∙ ap (λ o. bind o (λ x. guard (many (plan m) (box m t) k (f x)) (st x))) (sym (ap entry (reads i l) ∙ entry_in f what (get_or row i None))))

-- the row of a queue's slot
pub row_at : (n w : ℕ) (cells : Cells) (q s j : ℕ) → j < n → get_or (part (row_of n w q s) n cells) j None ≡ get_or cells (place_of n w q s j) None
row_at n w cells q s j l = get_or-take n (drop (row_of n w q s) cells) j None l ∙ get_or-drop (row_of n w q s) cells j None

pub row_size : (n w : ℕ) (cells : Cells) (q s : ℕ) → q < n → s < w → 1 ≤ n → n * w * n ≤ length cells → length (part (row_of n w q s) n cells) ≡ n
row_size n w cells q s lq ls some room =
    let within = place_within n w q s (n - 1) lq ls (omega (arith, some)) in
    length-take-le n (drop (row_of n w q s) cells) (omega (arith, within, some, room, length-drop (row_of n w q s) cells))
