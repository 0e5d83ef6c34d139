-- Empty tables, seen by the bytes of what they hold.
use Rattle.std.proofs.Common.{◌≡◌, ℕ, zero, suc, ◌*◌, List, ◌∷◌, map, replicate, None, Option, refl, ap, ◌∙◌}
use Rattle.std.specs.Option.{option_map}
use Rattle.replica.specs.declared.lent.Tables.{Tables}
use Rattle.replica.specs.Store.{store, paged}
use Rattle.group.specs.Makings.{blank}

none_mapped : {A B : Type 0} (f : A → B) (k : ℕ) → map (option_map f) (replicate k None) ≡ replicate k None
none_mapped f zero = refl
none_mapped f (suc k) = ap (λ l. None ∷ l) (none_mapped f k)

-- cells that are all empty
empty : {A B : Type 0} (f : A → B) (xs : List (Option A)) (k j : ℕ) → xs ≡ replicate k None → k ≡ j → map (option_map f) xs ≡ replicate j None
empty f xs k j is same = ap (map (option_map f)) is ∙ none_mapped f k ∙ ap (λ i. replicate i None) same

pub blank_store :
    {K : Type 0} (bytes : K → List ℕ) (t : Tables K) (n w slots rows : ℕ) → slots ≡ n * w → rows ≡ n * w * n
    → t.sends.cells.now ≡ replicate slots None → t.echoes.cells.now ≡ replicate rows None → t.readies.cells.now ≡ replicate rows None → t.haves.cells.now ≡ replicate rows None → t.pages.cells.now ≡ replicate slots None
    → store bytes t ≡ blank n w
blank_store bytes t n w slots rows s r a b c d e =
    λ i. record {
      sends = empty bytes t.sends.cells.now slots (n * w) a s i;
      echoes = empty bytes t.echoes.cells.now rows (n * w * n) b r i;
      readies = empty bytes t.readies.cells.now rows (n * w * n) c r i;
      haves = empty bytes t.haves.cells.now rows (n * w * n) d r i;
      pages = empty (paged bytes) t.pages.cells.now slots (n * w) e s i;
    }
