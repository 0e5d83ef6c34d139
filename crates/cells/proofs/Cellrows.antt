-- One slot's row of cells.
use Rattle.std.proofs.Common.{◌≡◌, ℕ, zero, suc, ◌+◌, ◌*◌, ◌<◌, leb, List, ◌∷◌, ◌++◌, map, get_or, take, drop, replicate, Some, None, Option, MatchOption, Bool, true, false, if◌then◌else◌, sym, refl, ap, ◌∙◌, arith}
use mathlib.Core.List.{map-append}
use Rattle.std.specs.Option.{option_map}
use Rattle.std.proofs.Math.ListN as ListN
use Rattle.std.proofs.lemmas.List.{take-map, drop-map}
use Rattle.std.proofs.lemmas.Nat.{mul-add-lt}
use Rattle.theory.specs.Search.{bind, guard}
use Rattle.cells.specs.Rows.{Cells, place_of, part, emptied, standing}

-- what a cell holds, if enough hold it
abbrev pub backed : ℕ → Cells → Option (List ℕ) → Option (List ℕ)
backed k row o = bind o (λ x. guard (leb k (standing row x)) x)

-- what was kept of a cell, if enough hold it
pub backed_kept : {K : Type 0} (b : K → List ℕ) (k : ℕ) (row : Cells) (o r : Option K)
    → MatchOption o (r ≡ None) (λ y. (t : Bool) × (t ≡ leb k (standing row (b y))) × (r ≡ (if t then Some y else None)))
    → option_map b r ≡ backed k row (option_map b o)
unfolding bind guard
backed_kept b k row None r e = rw e
backed_kept b k row (Some y) r (t, told, e) = ap (option_map b) e ∙ at t ∙ ap (λ v. guard v (b y)) told
  where
    at : (t : Bool) → option_map b (if t then Some y else None) ≡ guard t (b y)
    at true = refl
    at false = refl

pub place_within : (n w q s j : ℕ) → q < n → s < w → j < n → place_of n w q s j < n * w * n
place_within n w q s j a b c = omega (arith, mul-add-lt (q * w + s) n j (w * n) (mul-add-lt q w s n a b) c)

pub map_part : {A B : Type 0} (f : A → B) (xs : List A) (i n : ℕ) → map f (part i n xs) ≡ part i n (map f xs)
map_part f xs i n = sym (take-map f n (drop i xs)) ∙ ap (take n) (sym (drop-map f i xs))

map_none : {A B : Type 0} (f : A → B) (n : ℕ) → map (option_map f) (replicate n None) ≡ replicate n None
map_none f zero = refl
map_none f (suc n) = ap (λ cells. None ∷ cells) (map_none f n)

pub map_emptied : {A B : Type 0} (f : A → B) (n : ℕ) (cells : List (Option A)) → map (option_map f) (emptied n cells) ≡ emptied n (map (option_map f) cells)
map_emptied f n cells = map-append (option_map f) (replicate n None) (drop n cells) ∙ (λ i. map_none f n i ++ sym (drop-map (option_map f) n cells) i)

-- a cell of the bytes is the bytes of the cell, also past the end
pub map_read : {A B : Type 0} (f : A → B) (cells : List (Option A)) (i : ℕ) → get_or (map (option_map f) cells) i None ≡ option_map f (get_or cells i None)
map_read f cells i = ListN.get_or-map (option_map f) cells i None
