-- The pages that lead cells.
use Rattle.std.proofs.Common.{◌≡◌, ℕ, ◌+◌, ◌<◌, List, [], ◌∷◌, map, length, get_or, drop, is_some, Some, None, Option, sym, refl, ap, ◌∙◌, arith}
use Rattle.std.specs.Option.{option_map}
use Rattle.std.specs.List.{prefix_len}
use Rattle.std.proofs.lemmas.List.{drop_more}
use Rattle.replica.specs.View.{leading}

module _ {A B : Type 0} (f : A → B) where
  -- as many as there are cells with a page before the first without
  pub leading_long : (cells : List (Option A)) → prefix_len is_some cells ≡ length (leading (map (option_map f) cells))
  leading_long [] = refl
  leading_long (None ∷ cells) = refl
  leading_long (Some p ∷ cells) = omega (arith, leading_long cells)

  -- the pages from the cell i on
  pub at_page : (cells : List (Option A)) (i : ℕ) (cell : Option A) (p : A) → i < length cells → cell ≡ get_or cells i cell → cell ≡ Some p → leading (map (option_map f) (drop i cells)) ≡ f p ∷ leading (map (option_map f) (drop (i + 1) cells))
  at_page cells i cell p h e is = ap (λ l. leading (map (option_map f) l)) (drop_more cells i cell h ∙ ap (λ x. x ∷ drop (i + 1) cells) (sym e ∙ is))
