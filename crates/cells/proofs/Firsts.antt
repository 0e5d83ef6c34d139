-- Searches from the lowest place up: step by step, and through a slice.
use Rattle.std.proofs.Common.{◌≡◌, ℕ, ◌<◌, ◌+◌, List, length, get_or, Some, None, Option, MatchOption, IfSome, IsTrue, Iter, sym, refl, ap, ◌∙◌, subst, add-one, arith}
use denote.Ref.{Bor}
use denote.Param.Members.{Mut, Called}
use Rattle.std.specs.Option.{option_map, IsSomeAnd}
use Rattle.std.specs.Slice.Iter.{iter_rest, iter_steps}
use Rattle.std.specs.Iterator.Runs.{SomeRun, Run, AllItemsGive, IsFirstToGive, CallKeepsClosure, ItemsMapTo}
use Rattle.std.proofs.iter.runs.Sources.{iter_runs}
use Rattle.theory.specs.Search.{or_else, first}
use Rattle.theory.proofs.Books.{none≢some}
use Rattle.theory.proofs.Searching.{first_empty, first_none, first_hit}

module _ {A : Type 0} (g : ℕ → Option A) where
  pub first_start : first 0 g ≡ None
  unfolding first
  first_start = refl

  pub first_on : (i : ℕ) → first i g ≡ None → g i ≡ None → first (i + 1) g ≡ None
  unfolding first or_else
  first_on i e h = rw (add-one, e, h)

  pub first_here : (n i : ℕ) (a : A) → i < n → first i g ≡ None → g i ≡ Some a → first n g ≡ Some a
  first_here n i a l e h = first_hit n g a i l (h, first_none i g e)

module _ {X : Type 0} (P : Bor X → Type 0) where
  if_item : (o : Option (Bor X)) (y : X) → option_map (λ x. x.now) o ≡ Some y → IfSome o P → (x : Bor X) × (x.now ≡ y) × P x
  if_item None y e h = absurd (none≢some e)
  if_item (Some x) y e h = (x, cc, h)

  and_item : (o : Option (Bor X)) (y : X) → option_map (λ x. x.now) o ≡ Some y → IsSomeAnd o P → (x : Bor X) × (x.now ≡ y) × P x
  and_item None y e h = absurd (none≢some e)
  and_item (Some x) y e h = (x, cc, h)

module _ {X F R A : Type 0} (g : Mut F (Bor X × Unit {0}) (Option R)) (f : F) (v : R → A) (pick : X → Option A) (keeps : CallKeepsClosure g f) (says : (x : Bor X) (r : Option R) → Called g f (x, tt) r f → option_map v r ≡ pick x.now) where
  told : (y : X) (r : Option R) → (x : Bor X) × (x.now ≡ y) × Called g f (x, tt) r f → pick y ≡ option_map v r
  told y r (x, e, h) = ap pick (sym e) ∙ sym (says x r h)

  module _ (xs : List X) (d : X) where
    found_run :
        (r : Option R) (p : Run iter_steps) → ItemsMapTo p (λ x. x.now) xs
        → MatchOption r (IsTrue p.whole × AllItemsGive p g f None) (λ y. (i : ℕ) × (i < p.len) × (p.len ≡ i + 1) × IsFirstToGive p g f (Some y) None i)
        → option_map v r ≡ first (length xs) (λ j. pick (get_or xs j d))
    found_run None p runs h =
        sym (first_empty (length xs) _ (λ j l. told _ None (if_item _ (p.at j) _ (runs.2 j d (omega (arith, runs.1 h.0))) (h.1 keeps j))))
    found_run (Some y) p runs (i, low, long, h) =
        let there = h keeps in
        sym (first_hit (length xs) _ (v y) i (omega (arith, runs.0)) (
          told _ (Some y) (and_item _ (p.at i) _ (runs.2 i d low) there.0),
          λ j l. told _ None (and_item _ (p.at j) _ (runs.2 j d (omega arith)) (there.1 j l)),
        ))

    -- what the function gives at the first element where it gives anything
    pub found :
        (s : Iter X) (r : Option R) → iter_rest s ≡ xs
        → SomeRun iter_steps s (λ p. MatchOption r (IsTrue p.whole × AllItemsGive p g f None) (λ y. (i : ℕ) × (i < p.len) × (p.len ≡ i + 1) × IsFirstToGive p g f (Some y) None i))
        → option_map v r ≡ first (length xs) (λ j. pick (get_or xs j d))
    found s r rest (p, from, h) = found_run r p (subst (ItemsMapTo p (λ x. x.now)) (ap iter_rest from ∙ rest) (iter_runs p p.seen)) h
