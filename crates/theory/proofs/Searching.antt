-- What the searches find, and what is true when they find nothing.
use Rattle.std.proofs.Common.{◌≡◌, ℕ, zero, suc, ◌<◌, Bool, true, false, ◌⊎◌, Some, None, Option, sym, refl, ap, ◌∙◌, inl, inr, ⊎_elim, arith}
use mathlib.Core.Bool.{false≢true}
use Rattle.std.proofs.lemmas.Bool.{cases_order}
use Rattle.theory.specs.Search.{or_else, first, bits, only_if, guard, unless, given, bind, map, absent}
use Rattle.theory.proofs.Books.{none≢some}

module _ {A : Type 0} where
  pub cases_option : (o : Option A) → (o ≡ None) ⊎ ((a : A) × (o ≡ Some a))
  cases_option None = inl refl
  cases_option (Some a) = inr (a, refl)

  pub or_else_some : (o u : Option A) (a : A) → or_else o u ≡ Some a → (o ≡ Some a) ⊎ ((o ≡ None) × (u ≡ Some a))
  unfolding or_else
  or_else_some None u a e = inr (refl, e)
  or_else_some (Some c) u a e = inl e

  pub or_else_none : (o u : Option A) → or_else o u ≡ None → (o ≡ None) × (u ≡ None)
  unfolding or_else
  or_else_none None u e = (refl, e)
  or_else_none (Some c) u e = absurd (none≢some (sym e))

  pub or_else_left : (o u : Option A) (a : A) → o ≡ Some a → or_else o u ≡ Some a
  unfolding or_else
  or_else_left None u a e = absurd (none≢some e)
  or_else_left (Some c) u a e = e

  pub or_else_right : (o u : Option A) → o ≡ None → or_else o u ≡ u
  unfolding or_else
  or_else_right None u e = refl
  or_else_right (Some c) u e = absurd (none≢some (sym e))

  pub first_none : (n : ℕ) (g : ℕ → Option A) → first n g ≡ None → (i : ℕ) → i < n → g i ≡ None
  unfolding first
  first_none zero g e i l = absurd (omega arith)
  first_none (suc n) g e i l = at (cases_order i n) (first_none n g (or_else_none _ _ e).0 i)
    where
      at : (i ≡ n) ⊎ ((i < n) ⊎ (n < i)) → (i < n → g i ≡ None) → g i ≡ None
      at (inl eq) ih = rw eq (or_else_none _ _ e).1
      at (inr (inl less)) ih = ih less
      at (inr (inr more)) ih = absurd (omega arith)

  -- g i is what is found, and nothing before it
  abbrev pub FirstAt : (ℕ → Option A) → A → ℕ → Type 0
  FirstAt g a i = (g i ≡ Some a) × ((j : ℕ) → j < i → g j ≡ None)

  pub first_some : (n : ℕ) (g : ℕ → Option A) (a : A) → first n g ≡ Some a → (i : ℕ) × (i < n) × FirstAt g a i
  unfolding first
  first_some zero g a e = absurd (none≢some e)
  first_some (suc n) g a e =
      ⊎_elim
      (λ o. let r = first_some n g a o in (r.0, omega (arith, r.1), r.2))
      (λ o. (n, omega arith, (o.1, first_none n g o.0)))
      (or_else_some (first n g) (g n) a e)

  pub first_empty : (n : ℕ) (g : ℕ → Option A) → ((j : ℕ) → j < n → g j ≡ None) → first n g ≡ None
  unfolding first
  first_empty zero g e = refl
  first_empty (suc n) g e = or_else_right _ _ (first_empty n g (λ j l. e j (omega arith))) ∙ e n (omega arith)

  pub first_hit : (n : ℕ) (g : ℕ → Option A) (a : A) (i : ℕ) → i < n → FirstAt g a i → first n g ≡ Some a
  unfolding first
  first_hit zero g a i l h = absurd (omega arith)
  first_hit (suc n) g a i l h = at (cases_order i n) (λ k. first_hit n g a i k h)
    where
      at : (i ≡ n) ⊎ ((i < n) ⊎ (n < i)) → (i < n → first n g ≡ Some a) → first (suc n) g ≡ Some a
      at (inl eq) ih = or_else_right _ _ (first_empty n g (λ j l. h.1 j (omega arith))) ∙ rw eq at h.0
      at (inr (inl less)) ih = or_else_left _ _ a (ih less)
      at (inr (inr more)) ih = absurd (omega arith)

  pub guard_none : (v : Bool) (a : A) → guard v a ≡ None → v ≡ false
  unfolding guard
  guard_none true a e = absurd (none≢some (sym e))
  guard_none false a e = refl

  pub guard_some : (v : Bool) (a c : A) → guard v a ≡ Some c → (v ≡ true) × (a ≡ c)
  unfolding guard
  guard_some true a c e = (refl, cc)
  guard_some false a c e = absurd (none≢some e)

  pub guard_true : (v : Bool) (a : A) → v ≡ true → guard v a ≡ Some a
  unfolding guard
  guard_true true a e = refl
  guard_true false a e = absurd (false≢true e)

  pub bits_none : (g : Bool → Option A) → bits g ≡ None → (v : Bool) → g v ≡ None
  unfolding bits
  bits_none g e v = let n = or_else_none (g false) (g true) e in elim v as (λ w. g w ≡ None) [ true ↦ n.1 | false ↦ n.0 ]

  -- bit v is found, and not bit 0 before it
  abbrev pub BitAt : (Bool → Option A) → A → Bool → Type 0
  BitAt g a v = (g v ≡ Some a) × (v ≡ true → g false ≡ None)

  pub bits_some : (g : Bool → Option A) (a : A) → bits g ≡ Some a → (v : Bool) × BitAt g a v
  unfolding bits
  bits_some g a e = ⊎_elim (λ o. (false, (o, λ z. absurd (false≢true z)))) (λ o. (true, (o.1, λ z. o.0))) (or_else_some (g false) (g true) a e)

  pub bits_hit : (g : Bool → Option A) (a : A) (v : Bool) → BitAt g a v → bits g ≡ Some a
  unfolding bits
  bits_hit g a true h = or_else_right _ _ (h.1 refl) ∙ h.0
  bits_hit g a false h = or_else_left _ _ a h.0

  pub only_if_some : (v : Bool) (o : Option A) (a : A) → only_if v o ≡ Some a → (v ≡ true) × (o ≡ Some a)
  unfolding only_if
  only_if_some true o a e = (refl, e)
  only_if_some false o a e = absurd (none≢some e)

  pub only_if_true : (v : Bool) (o : Option A) → v ≡ true → only_if v o ≡ o
  unfolding only_if
  only_if_true true o e = refl
  only_if_true false o e = absurd (false≢true e)

  pub absent_none : (o : Option A) → absent o ≡ true → o ≡ None
  absent_none None e = refl
  absent_none (Some t) e = absurd (false≢true e)

  pub none_absent : (o : Option A) → o ≡ None → absent o ≡ true
  none_absent None e = refl
  none_absent (Some t) e = absurd (none≢some (sym e))

  pub not_absent : (o : Option A) → absent o ≡ false → (t : A) × (o ≡ Some t)
  not_absent None e = absurd (false≢true (sym e))
  not_absent (Some t) e = (t, refl)

module _ {X A : Type 0} where
  pub unless_some : (t : Option X) (o : Option A) (a : A) → unless t o ≡ Some a → (t ≡ None) × (o ≡ Some a)
  unfolding unless
  unless_some None o a e = (refl, e)
  unless_some (Some t) o a e = absurd (none≢some e)

  pub unless_none : (t : Option X) (o : Option A) → unless t o ≡ None → ((u : X) × (t ≡ Some u)) ⊎ (o ≡ None)
  unfolding unless
  unless_none None o e = inr e
  unless_none (Some t) o e = inl (t, refl)

  pub unless_empty : (t : Option X) (o : Option A) → t ≡ None → unless t o ≡ o
  unfolding unless
  unless_empty None o e = refl
  unless_empty (Some t) o e = absurd (none≢some (sym e))

  pub given_some : (t : Option X) (o : Option A) (a : A) → given t o ≡ Some a → ((u : X) × (t ≡ Some u)) × (o ≡ Some a)
  unfolding given
  given_some None o a e = absurd (none≢some e)
  given_some (Some t) o a e = ((t, refl), e)

  pub given_full : (t : Option X) (o : Option A) (u : X) → t ≡ Some u → given t o ≡ o
  unfolding given
  given_full None o u e = absurd (none≢some e)
  given_full (Some t) o u e = refl

  pub bind_none : (o : Option X) (g : X → Option A) (x : X) → bind o g ≡ None → o ≡ Some x → g x ≡ None
  unfolding bind
  bind_none None g x e h = absurd (none≢some h)
  bind_none (Some y) g x e h = let w : y ≡ x = cc in rw w at e

  pub bind_some : (o : Option X) (g : X → Option A) (a : A) → bind o g ≡ Some a → (x : X) × (o ≡ Some x) × (g x ≡ Some a)
  unfolding bind
  bind_some None g a e = absurd (none≢some e)
  bind_some (Some x) g a e = (x, refl, e)

  pub bind_full : (o : Option X) (g : X → Option A) (x : X) → o ≡ Some x → bind o g ≡ g x
  unfolding bind
  bind_full None g x e = absurd (none≢some e)
  bind_full (Some y) g x e = let w : y ≡ x = cc in ap g w

  pub bind_empty : (o : Option X) (g : X → Option A) → ((x : X) → o ≡ Some x → g x ≡ None) → bind o g ≡ None
  unfolding bind
  bind_empty None g h = refl
  bind_empty (Some y) g h = h y refl

  pub map_some : (f : X → A) (o : Option X) (a : A) → map f o ≡ Some a → (x : X) × (o ≡ Some x) × (f x ≡ a)
  unfolding map
  map_some f None a e = absurd (none≢some e)
  map_some f (Some x) a e = (x, refl, cc)

  pub map_none : (f : X → A) (o : Option X) → map f o ≡ None → o ≡ None
  unfolding map
  map_none f None e = refl
  map_none f (Some x) e = absurd (none≢some (sym e))

  pub map_full : (f : X → A) (o : Option X) (x : X) → o ≡ Some x → map f o ≡ Some (f x)
  unfolding map
  map_full f None x e = absurd (none≢some e)
  map_full f (Some y) x e = let w : y ≡ x = cc in ap (λ (z : X). Some (f z)) w

  pub map_empty : (f : X → A) (o : Option X) → o ≡ None → map f o ≡ None
  unfolding map
  map_empty f None e = refl
  map_empty f (Some x) e = absurd (none≢some (sym e))
