-- An epoch is left: what is then in sight, and the book with its new page.
use Rattle.std.proofs.Common.{◌≡◌, ℕ, zero, suc, ◌+◌, ◌<◌, Bool, true, cond, ◌&&◌, eqb, ltb, ◌⊎◌, List, [], ◌∷◌, ◌++◌, length, get_or, take, set, Some, None, Option, sym, refl, ap, ◌∙◌, inl, inr, add-one, arith, get_or-set_other, get_or-set_same}
use Rattle.std.specs.List.{slice_get}
use Rattle.std.specs.Option.{option_map}
use Rattle.std.proofs.lemmas.Bool.{lt-ltb, le-ltb, eq-eqb, ne_eqb, cond-true, cond-false, cases_eq, cases_order}
use Rattle.common.specs.Limits.{epochs}
use Rattle.theory.specs.Statement.{value, seen, confirm, finish, Cell, at_send, at_echo, at_ready, at_have, at_value, at_seen, at_confirm, at_finish}
use Rattle.theory.specs.Book.{Page, Ledger}
use Rattle.theory.specs.Machine.{drop}
use Rattle.votes.specs.Votes.{unmarked, bit_of, set_for}
use Rattle.votes.proofs.Marking.{marks_none, bit_none, set_none}
use Rattle.replica.specs.declared.state.Replica.{Replica}
use Rattle.replica.specs.Store.{Store}
use Rattle.replica.specs.View.{held, value_in, finish_cell, leading, view}
use Rattle.replica.proofs.Freshness.{held_none, cond_none, vote_none}
use Rattle.turns.specs.Stepping.{left_of}

module _ (m : Replica) (t : Store) (before : m.epoch < epochs) (long : length m.past ≡ epochs) where
  -- the finish of epoch e that sender j has, after the epoch is left, and before
  abbrev now_has : ℕ → ℕ → Option Bool
  now_has e j = cond (eqb e (m.epoch + 1)) (bit_of unmarked j) (held (eqb j m.set.me && ltb e (m.epoch + 1)) (get_or (left_of m).past e None))

  abbrev had : ℕ → ℕ → Option Bool
  had e j = cond (eqb e m.epoch) (bit_of m.votes.finish j) (held (eqb j m.set.me && ltb e m.epoch) (get_or m.past e None))

  -- the own one is still held
  own_left : (e j : ℕ) → j ≡ m.set.me → now_has e j ≡ had e j
  own_left e j own = at (cases_order e m.epoch)
    where
      is : eqb j m.set.me ≡ true
      is = eq-eqb j m.set.me own

      at : (e ≡ m.epoch) ⊎ ((e < m.epoch) ⊎ (m.epoch < e)) → now_has e j ≡ had e j
      at (inl h) = rw (is, ne_eqb e (m.epoch + 1) (λ k. omega arith), lt-ltb e (m.epoch + 1) (omega arith), eq-eqb e m.epoch h) (rw (h, own) (get_or-set_same m.past m.epoch (bit_of m.votes.finish m.set.me) None (omega arith)))
      at (inr (inl l)) = rw (is, ne_eqb e (m.epoch + 1) (λ k. omega arith), lt-ltb e (m.epoch + 1) (omega arith), ne_eqb e m.epoch (λ k. omega arith), lt-ltb e m.epoch l) (get_or-set_other m.past m.epoch e (bit_of m.votes.finish m.set.me) None (λ k. omega arith))
      at (inr (inr l)) =
          cond_none (eqb e (m.epoch + 1)) _ _ (bit_none j) (rw (is, le-ltb e (m.epoch + 1) (omega arith)) refl)
          ∙ sym (rw (is, ne_eqb e m.epoch (λ k. omega arith), le-ltb e m.epoch (omega arith)) refl)

  finish_left : (j e : ℕ) → finish_cell (left_of m) e j ≡ drop m.set.me (view m t) j (at_finish e)
  finish_left j e = at (cases_eq j m.set.me)
    where
      at : (j ≡ m.set.me) ⊎ (j ≡ m.set.me → ⊥) → finish_cell (left_of m) e j ≡ drop m.set.me (view m t) j (at_finish e)
      at (inl h) = ap (λ o. option_map (finish e) (held (ltb j m.set.n && ltb e epochs) o)) (own_left e j h) ∙ sym (cond-true (eqb j m.set.me) _ None (eq-eqb j m.set.me h))
      at (inr n) =
          ap (option_map (finish e)) (held_none (ltb j m.set.n && ltb e epochs) (now_has e j) (λ g. cond_none (eqb e (m.epoch + 1)) _ _ (bit_none j) (rw (ne_eqb j m.set.me n) refl)))
          ∙ sym (cond-false (eqb j m.set.me) _ None (ne_eqb j m.set.me n))

  pub view_left : (j : ℕ) (c : Cell) → view (left_of m) t j c ≡ drop m.set.me (view m t) j c
  view_left j (at_send s) = refl
  view_left j (at_echo q s) = refl
  view_left j (at_ready q s) = refl
  view_left j (at_have q s) = refl
  view_left j (at_value e k v) = vote_none (left_of m) refl (λ r. value_in v j r.values) (ap (λ b. held b (Some v)) (marks_none v j)) (value e k) e k j
  view_left j (at_seen e k) = vote_none (left_of m) refl (λ r. bit_of r.seens j) (bit_none j) (seen e k) e k j
  view_left j (at_confirm e k) = vote_none (left_of m) refl (λ r. set_for r.confirms j) (set_none j) (confirm e k) e k j
  view_left j (at_finish e) = finish_left j e

-- one page more, in the cell behind the last
pub lead_more : {A : Type 0} (ps : List (Option A)) (n : ℕ) (p : A) → length (leading (take n ps)) ≡ n → n < length ps → leading (take (n + 1) (set ps n (Some p))) ≡ leading (take n ps) ++ (p ∷ [])
lead_more [] n p e l = absurd (omega arith)
lead_more (o ∷ ps) zero p e l = refl
lead_more (None ∷ ps) (suc n) p e l = absurd (let z : ◌≡◌ {A = ℕ} 0 (suc n) = e in omega arith)
lead_more (Some q ∷ ps) (suc n) p e l = rw (add-one (suc n)) (ap (λ r. q ∷ r) (rw (add-one n) at (lead_more ps n p (omega (arith, e)) (omega arith))))

pub head_more : (heads : List ℕ) (q s k : ℕ) → q < length heads → get_or (set heads q (s + 1)) k 0 ≡ cond (eqb k q) (suc s) (get_or heads k 0)
head_more heads q s k l = at (cases_eq k q)
  where
    at : (k ≡ q) ⊎ (k ≡ q → ⊥) → get_or (set heads q (s + 1)) k 0 ≡ cond (eqb k q) (suc s) (get_or heads k 0)
    at (inl e) = rw (eq-eqb k q e, e) (get_or-set_same heads q (s + 1) 0 l ∙ add-one s)
    at (inr n) = rw (ne_eqb k q n) (get_or-set_other heads q k (s + 1) 0 n)

-- a page becomes the last one of a ledger, and the head of its queue is its slot plus 1
abbrev pub filed : Option (Page (List ℕ)) → Ledger (List ℕ) → Ledger (List ℕ)
filed None l = l
filed (Some p) l = record { book = l.book ++ (p ∷ []); heads = λ k. cond (eqb k p.queue) (suc p.slot) (l.heads k) }

-- the place behind a list has what is put there
pub next_some : {A : Type 0} (xs : List A) (x : A) → slice_get (xs ++ (x ∷ [])) (length xs) ≡ Some x
next_some [] x = refl
next_some (y ∷ xs) x = next_some xs x
