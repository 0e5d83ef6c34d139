-- What a box holds after a small step.
use Rattle.std.proofs.Common.{◌≡◌, ℕ, suc, ◌<◌, ◌≤◌, true, ◌&&◌, eqb, ◌⊎◌, Some, None, sym, refl, ap, ◌∙◌, inl, inr, arith}
use mathlib.Core.Bool.{false≢true}
use Rattle.std.proofs.lemmas.Bool.{and_parts, eqb-true, eq-eqb, ne_eqb, and_left, cond_both}
use Rattle.theory.specs.Statement.{Stmt, Cell, at_send, at_echo, at_ready, at_have, at_value, at_seen, at_confirm, at_finish, CellDiscrete, cell, decided}
use Rattle.theory.specs.Machine.{same_cell, Mem, put, lasts, drop}
use Rattle.theory.proofs.Books.{none≢some}

pub decided_true : {A : Type 0} (d : Dec A) → decided d ≡ true → A
decided_true (yes a) e = a
decided_true (no n) e = absurd (false≢true e)

pub decided_yes : {A : Type 0} (d : Dec A) → A → decided d ≡ true
decided_yes (yes a) x = refl
decided_yes (no n) x = absurd (n x)

module _ {X : Type 0} (i : ℕ) (t : Stmt X) (mem : Mem X) where
  hit : (j : ℕ) (c : Cell) → (eqb j i && same_cell c (cell t)) ≡ true → (j ≡ i) × (c ≡ cell t)
  hit j c e =
      let p = and_parts (eqb j i) (same_cell c (cell t)) e in
      (eqb-true j i p.0, decided_true (CellDiscrete c (cell t)) p.1)

  pub put_cases : (j : ℕ) (s : Stmt X) → put i t mem j (cell s) ≡ Some s → (mem j (cell s) ≡ Some s) ⊎ ((j ≡ i) × (s ≡ t))
  put_cases j s = cond_both (eqb j i && same_cell (cell s) (cell t)) (Some t) (mem j (cell s)) (λ o. o ≡ Some s → (mem j (cell s) ≡ Some s) ⊎ ((j ≡ i) × (s ≡ t)))
      (λ e h. let u : t ≡ s = cc in inr ((hit j (cell s) e).0, sym u))
      (λ e h. inl h)

  pub put_keeps : mem i (cell t) ≡ None → (j : ℕ) (s : Stmt X) → mem j (cell s) ≡ Some s → put i t mem j (cell s) ≡ Some s
  put_keeps free j s h = cond_both (eqb j i && same_cell (cell s) (cell t)) (Some t) (mem j (cell s)) (λ o. o ≡ Some s)
      (λ e. let p = hit j (cell s) e in absurd (none≢some (sym free ∙ rw (p.0, p.1) at h)))
      (λ e. h)

  pub put_again : mem i (cell t) ≡ Some t → (j : ℕ) (s : Stmt X) → mem j (cell s) ≡ Some s → put i t mem j (cell s) ≡ Some s
  put_again held j s h = cond_both (eqb j i && same_cell (cell s) (cell t)) (Some t) (mem j (cell s)) (λ o. o ≡ Some s)
      (λ e. let p = hit j (cell s) e in sym held ∙ rw (p.0, p.1) at h)
      (λ e. h)

  pub put_other : (j : ℕ) (c : Cell) → (j ≡ i → ⊥) → put i t mem j c ≡ mem j c
  put_other j c n = rw (and_left (eqb j i) (same_cell c (cell t)) (ne_eqb j i n))

  pub put_away : (j : ℕ) (c : Cell) → (c ≡ cell t → ⊥) → put i t mem j c ≡ mem j c
  put_away j c n = cond_both (eqb j i && same_cell c (cell t)) (Some t) (mem j c) (λ o. o ≡ mem j c) (λ e. absurd (n (hit j c e).1)) (λ e. refl)

  pub put_filed : ((j : ℕ) (c : Cell) (u : Stmt X) → mem j c ≡ Some u → cell u ≡ c) → (j : ℕ) (c : Cell) (u : Stmt X) → put i t mem j c ≡ Some u → cell u ≡ c
  put_filed filed j c u = cond_both (eqb j i && same_cell c (cell t)) (Some t) (mem j c) (λ o. o ≡ Some u → cell u ≡ c)
      (λ e h. let w : t ≡ u = cc in ap cell (sym w) ∙ sym (hit j c e).1)
      (λ e h. filed j c u h)

  pub put_new : put i t mem i (cell t) ≡ Some t
  put_new = rw (eq-eqb i i refl, decided_yes (CellDiscrete (cell t) (cell t)) refl)

-- a cell that a box in epoch n has not dropped
abbrev pub Current : ℕ → Cell → Type 0
Current n (at_send s) = Unit {0}
Current n (at_echo q s) = Unit {0}
Current n (at_ready q s) = Unit {0}
Current n (at_have q s) = Unit {0}
Current n (at_value e k v) = e ≡ n
Current n (at_seen e k) = e ≡ n
Current n (at_confirm e k) = e ≡ n
Current n (at_finish e) = Unit {0}

-- a cell that a box in epoch n can have used, of N boxes and W slots
abbrev pub Used : ℕ → ℕ → ℕ → Cell → Type 0
Used N W n (at_send s) = Unit {0}
Used N W n (at_echo q s) = Unit {0}
Used N W n (at_ready q s) = (q < N) × (s < W)
Used N W n (at_have q s) = (q < N) × (s < W)
Used N W n (at_value e k v) = e ≤ n
Used N W n (at_seen e k) = e ≤ n
Used N W n (at_confirm e k) = e ≤ n
Used N W n (at_finish e) = e ≤ n

pub used_later : (N W n : ℕ) (c : Cell) → Used N W n c → Used N W (suc n) c
used_later N W n (at_send s) p = tt
used_later N W n (at_echo q s) p = tt
used_later N W n (at_ready q s) p = p
used_later N W n (at_have q s) p = p
used_later N W n (at_value e k v) p = omega arith
used_later N W n (at_seen e k) p = omega arith
used_later N W n (at_confirm e k) p = omega arith
used_later N W n (at_finish e) p = omega arith

-- what is used in epoch n and still current in the next lasts, and was current
pub lasts_current : (N W n me : ℕ) (c : Cell) → Current (suc n) c → Used N W n c → (lasts me me c ≡ true) × Current n c
lasts_current N W n me (at_send s) u p = (refl, tt)
lasts_current N W n me (at_echo q s) u p = (refl, tt)
lasts_current N W n me (at_ready q s) u p = (refl, tt)
lasts_current N W n me (at_have q s) u p = (refl, tt)
lasts_current N W n me (at_value e k v) u p = absurd (omega arith)
lasts_current N W n me (at_seen e k) u p = absurd (omega arith)
lasts_current N W n me (at_confirm e k) u p = absurd (omega arith)
lasts_current N W n me (at_finish e) u p = (eq-eqb me me refl, tt)

module _ {X : Type 0} (me : ℕ) (mem : Mem X) where
  pub drop_some : (j : ℕ) (c : Cell) (u : Stmt X) → drop me mem j c ≡ Some u → mem j c ≡ Some u
  drop_some j c u = cond_both (lasts me j c) (mem j c) None (λ o. o ≡ Some u → mem j c ≡ Some u) (λ e h. h) (λ e h. absurd (none≢some h))

  pub drop_keeps : (c : Cell) → lasts me me c ≡ true → drop me mem me c ≡ mem me c
  drop_keeps c e = rw e
