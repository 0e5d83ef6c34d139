-- The lowest unused slot is the first free cell of the own row of sends.
use Rattle.std.proofs.Common.{◌≡◌, ℕ, ◌+◌, ◌<◌, ◌≤◌, Bool, true, false, ◌&&◌, ltb, cond, List, length, drop, get_or, is_none, Some, None, Option, MatchOption, sym, refl, ap, ◌∙◌, arith, subst, length-drop, length-take-le, mul-le-mul_right}
use mathlib.Core.Bool.{false≢true}
use Rattle.std.specs.List.{position, position_or_len}
use Rattle.std.specs.Option.{option_map}
use Rattle.std.proofs.lemmas.Bool.{lt-ltb, ltb-true, ltb-false, and_from}
use Rattle.std.proofs.lemmas.List.{length-map}
use Rattle.std.proofs.lemmas.List.Sums.{fails_before_first, passes_at_first}
use Rattle.std.proofs.lemmas.List.{get_or-take, get_or-drop}
use Rattle.theory.specs.Statement.{at_send, sends}
use Rattle.theory.specs.Search.{absent, first, unless}
use Rattle.theory.proofs.Searching.{first_empty, first_hit, absent_none, unless_empty}
use Rattle.cells.specs.Rows.{part, slot_of}
use Rattle.cells.proofs.Cellrows.{map_read}
use Rattle.replica.specs.declared.state.Replica.{Replica}
use Rattle.replica.specs.declared.lent.Tables.{Tables}
use Rattle.replica.specs.Store.{store, fits}
use Rattle.replica.proofs.Putting.{lengths}
use Rattle.replica.specs.View.{view}
use Rattle.intake.specs.Submitting.{unused_of}

-- the first place that is free
abbrev FreeAt : (ℕ → Bool) → ℕ → Option ℕ → Type 0
FreeAt free n r = MatchOption r ((k : ℕ) → k < n → free k ≡ false) (λ i. (i < n) × (free i ≡ true) × ((k : ℕ) → k < i → free k ≡ false))

module _ {X : Type 0} where
  used_at : (o : Option X) (s : ℕ) → absent o ≡ false → unless o (Some s) ≡ None
  unfolding unless
  used_at None s e = absurd (false≢true (sym e))
  used_at (Some x) s e = refl

  -- the first slot that was found absent is the first that the rule answers
  found : (o : ℕ → Option X) (n : ℕ) (r : Option ℕ) → FreeAt (λ k. absent (o k)) n r → r ≡ first n (λ s. unless (o s) (Some s))
  found o n None h = sym (first_empty n (λ s. unless (o s) (Some s)) (λ k l. used_at (o k) k (h k l)))
  found o n (Some i) h = sym (first_hit n (λ s. unless (o s) (Some s)) i i h.0 (unless_empty (o i) (Some i) (absent_none (o i) h.1), λ k l. used_at (o k) k (h.2 k l)))

-- what `position` finds
placed : {A : Type 0} (p : A → Bool) (xs : List A) (d : A) → FreeAt (λ k. p (get_or xs k d)) (length xs) (position p xs)
placed p xs d = by (ltb (position_or_len p xs) (length xs)) refl
  where
    by : (b : Bool) → ltb (position_or_len p xs) (length xs) ≡ b → FreeAt (λ k. p (get_or xs k d)) (length xs) (cond b (Some (position_or_len p xs)) None)
    by true e = let l = ltb-true _ _ e in (l, passes_at_first p xs d l, λ k h. fails_before_first p xs k d h)
    by false e = λ k h. fails_before_first p xs k d (omega (arith, ltb-false _ _ e))

same_free : (f g : ℕ → Bool) (n : ℕ) (r : Option ℕ) → ((k : ℕ) → k < n → f k ≡ g k) → FreeAt g n r → FreeAt f n r
same_free f g n None e h = λ k l. e k l ∙ h k l
same_free f g n (Some i) e h = (h.0, e i h.0 ∙ h.1, λ k l. e k (omega (arith, h.0)) ∙ h.2 k l)

module _ {K : Type 0} (b : K → List ℕ) (m : Replica) (t : Tables K) where
  abbrev own : ℕ → Option K
  own k = get_or t.sends.cells.now (slot_of m.set.w m.set.me k) None

  abbrev row : List (Option K)
  row = part (slot_of m.set.w m.set.me 0) m.set.w t.sends.cells.now

  pub stands : (k : ℕ) → m.set.me < m.set.n → k < m.set.w → absent (view m (store b t) m.set.me (at_send k)) ≡ is_none (own k)
  stands k low lt =
      (λ i. absent (cond (test i) (option_map (sends k) (map_read b t.sends.cells.now (slot_of m.set.w m.set.me k) i)) None)) ∙ of (own k)
    where
      test : (ltb m.set.me m.set.n && ltb k m.set.w) ≡ true
      test = and_from _ _ (lt-ltb _ _ low) (lt-ltb _ _ lt)

      of : (o : Option K) → absent (option_map (sends k) (option_map b o)) ≡ is_none o
      of None = refl
      of (Some x) = refl

  in_row : (k : ℕ) → k < m.set.w → get_or row k None ≡ own k
  in_row k lt =
      get_or-take m.set.w (drop (slot_of m.set.w m.set.me 0) t.sends.cells.now) k None lt
      ∙ get_or-drop (slot_of m.set.w m.set.me 0) t.sends.cells.now k None ∙ ap (λ i. get_or t.sends.cells.now i None) (omega arith)

  lowest : m.set.me < m.set.n → slot_of m.set.w m.set.me 0 + m.set.w ≤ length t.sends.cells.now → position is_none row ≡ unused_of m (store b t)
  lowest low room =
      found (λ k. view m (store b t) m.set.me (at_send k)) m.set.w (position is_none row)
      (same_free (λ k. absent (view m (store b t) m.set.me (at_send k))) (λ k. is_none (get_or row k None)) m.set.w (position is_none row)
      (λ k l. stands k low l ∙ ap is_none (sym (in_row k l)))
      (subst (λ n. FreeAt (λ k. is_none (get_or row k None)) n (position is_none row)) long (placed is_none row None)))
    where
      long : length row ≡ m.set.w
      long = length-take-le m.set.w (drop (slot_of m.set.w m.set.me 0) t.sends.cells.now) (omega (arith, length-drop (slot_of m.set.w m.set.me 0) t.sends.cells.now))

  -- the row that was read, by what was read of it
  pub unused_is : (cells : List (Option K)) (from n : ℕ) → cells ≡ part from n t.sends.cells.now → from ≡ slot_of m.set.w m.set.me 0 → n ≡ m.set.w
      → m.set.me < m.set.n → fits m.set.n m.set.w (store b t) ≡ true → position is_none cells ≡ unused_of m (store b t)
  unused_is cells from n is e w low h =
      ap (position is_none) (is ∙ (λ i. part (e i) (w i) t.sends.cells.now))
      ∙ lowest low (omega (arith, (lengths m.set.n m.set.w (store b t) h).sends, length-map t.sends.cells.now (option_map b), mul-le-mul_right {m = m.set.me + 1} {n = m.set.n} m.set.w (omega arith)))
