-- No statement stands on the board twice.
use Rattle.std.proofs.Common.{◌≡◌, ℕ, zero, suc, ◌+◌, ◌-◌, ◌*◌, ◌/◌, ◌%◌, ◌<◌, ◌≤◌, true, false, eqb, ◌⊎◌, List, [], ◌∷◌, ◌++◌, length, get_or, Some, None, Option, sym, refl, ap, ◌∙◌, inl, inr, zero-add, arith, length-append}
use Rattle.std.proofs.lemmas.Nat.{div-add-mod', mod_below}
use Rattle.std.proofs.lemmas.List.FromFn.{get_or-map-range_with_len}
use Rattle.std.proofs.lemmas.List.{get_or_append_left, get_or-append_right, get_or_default}
use Rattle.std.proofs.lemmas.Bool.{cases_lt, cond_both, eqb-true, eqb-false}
use Rattle.theory.specs.Count.{bit}
use Rattle.theory.specs.Statement.{Stmt, Cell, cell, at_send, at_echo, at_ready, at_have, at_value, at_seen, at_confirm, at_finish}
use Rattle.common.specs.Limits.{epochs, rounds}
use Rattle.replica.specs.declared.state.Replica.{Replica}
use Rattle.replica.specs.Store.{Store}
use Rattle.replica.specs.View.{view}
use Rattle.showing.specs.Boards.{run, by_slot, by_round, order, places, filled, board_of}
use Rattle.showing.proofs.Ordering.{length_run}
use Rattle.showing.proofs.Standing.{stands, cell_at}
use Rattle.showing.proofs.Filling.{has_filled}

-- the number of a cell in the order
abbrev rank : Replica → Cell → ℕ
rank m (at_send s) = s
rank m (at_echo q s) = m.set.w + (q * m.set.w + s)
rank m (at_ready q s) = m.set.w + m.set.n * m.set.w + (q * m.set.w + s)
rank m (at_have q s) = m.set.w + m.set.n * m.set.w + m.set.n * m.set.w + (q * m.set.w + s)
rank m (at_finish e) = m.set.w + m.set.n * m.set.w + m.set.n * m.set.w + m.set.n * m.set.w + e
rank m (at_value e k v) = m.set.w + m.set.n * m.set.w + m.set.n * m.set.w + m.set.n * m.set.w + epochs + (k * 4 + bit v)
rank m (at_seen e k) = m.set.w + m.set.n * m.set.w + m.set.n * m.set.w + m.set.n * m.set.w + epochs + (k * 4 + 2)
rank m (at_confirm e k) = m.set.w + m.set.n * m.set.w + m.set.n * m.set.w + m.set.n * m.set.w + epochs + (k * 4 + 3)

-- the cells are numbered one after the other, from b on
abbrev Ranked : Replica → ℕ → List Cell → Type 0
Ranked m b cs = (i : ℕ) (d : Cell) → i < length cs → rank m (get_or cs i d) ≡ b + i

module _ (m : Replica) where
  run_ranked : (b k : ℕ) (f : ℕ → Cell) → ((i : ℕ) → i < k → rank m (f i) ≡ b + i) → Ranked m b (run k f)
  unfolding run
  run_ranked b k f each i d h =
      let low : i < k = omega (arith, length_run k f) in
      ap (rank m) (get_or-map-range_with_len f 0 k i i d low (zero-add i)) ∙ each i low

  append_ranked : (b k : ℕ) (f : ℕ → Cell) (cs : List Cell) → ((i : ℕ) → i < k → rank m (f i) ≡ b + i) → Ranked m (b + k) cs → Ranked m b (run k f ++ cs)
  append_ranked b k f cs each rest i d h = by (cases_lt i k)
    where
      by : (i < k) ⊎ (k ≤ i) → rank m (get_or (run k f ++ cs) i d) ≡ b + i
      by (inl low) = ap (rank m) (get_or_append_left (run k f) cs d i (omega (arith, length_run k f))) ∙ run_ranked b k f each i d (omega (arith, length_run k f))
      by (inr past) =
          ap (rank m) (get_or-append_right (run k f) cs k i d (length_run k f) past)
          ∙ rest (i - k) d (omega (arith, length-append (run k f) cs, length_run k f)) ∙ omega arith

  abbrev w : ℕ
  w = m.set.w

  abbrev rows : ℕ
  rows = m.set.n * m.set.w

  vote_rank : (e j : ℕ) → rank m (by_round e j) ≡ w + rows + rows + rows + epochs + j
  vote_rank e j =
      let P : Cell → Type 0 = λ c. rank m c ≡ w + rows + rows + rows + epochs + j in
      let k = j / 4 in
      let d = j % 4 in
      let split : k * 4 + d ≡ j = div-add-mod' j 4 in
      let low : d < 4 = mod_below j 4 (omega arith) in
      cond_both (eqb d 0) (at_value e k false) _ P (λ z. omega (arith, eqb-true d 0 z))
      (λ a. cond_both (eqb d 1) (at_value e k true) _ P (λ z. omega (arith, eqb-true d 1 z))
      (λ b. cond_both (eqb d 2) (at_seen e k) (at_confirm e k) P (λ z. omega (arith, eqb-true d 2 z))
      (λ c. omega (arith, eqb-false d 0 a, eqb-false d 1 b, eqb-false d 2 c))))

  order_ranked : Ranked m 0 (order m)
  order_ranked =
      append_ranked 0 w at_send _ (λ i _. sym (zero-add i))
      (append_ranked _ rows (by_slot w at_echo) _ (λ i _. omega (arith, div-add-mod' i w))
      (append_ranked _ rows (by_slot w at_ready) _ (λ i _. omega (arith, div-add-mod' i w))
      (append_ranked _ rows (by_slot w at_have) _ (λ i _. omega (arith, div-add-mod' i w))
      (append_ranked _ epochs at_finish _ (λ i _. omega arith)
      (run_ranked _ (4 * rounds) (by_round m.epoch) (λ i _. omega (arith, vote_rank m.epoch i)))))))

-- what stands at one place only
abbrev Single : {A : Type 0} → List (Option A) → Type 0
Single {A} os = (i j : ℕ) (x : A) → Some x ≡ get_or os i None → Some x ≡ get_or os j None → i ≡ j

single_rest : {A : Type 0} (o : Option A) (os : List (Option A)) → Single (o ∷ os) → Single os
single_rest o os one i j x p q = let e = one (suc i) (suc j) x p q in omega arith

-- what stands first stands nowhere behind
single_first : {A : Type 0} (y d : A) (os : List (Option A)) (j : ℕ) → Single (Some y ∷ os) → j < length (filled os) → y ≡ get_or (filled os) j d → ⊥
single_first y d os j one low e =
    let r = has_filled os j y low (λ c. get_or_default (filled os) j c d low ∙ sym e) in
    let z = one 0 (suc r.0) y refl r.1 in
    omega arith

filled_single :
    {A : Type 0} (os : List (Option A)) → Single os → (i j : ℕ) (d : A) → i < length (filled os) → j < length (filled os)
    → get_or (filled os) i d ≡ get_or (filled os) j d → i ≡ j
filled_single [] one i j d a b e = absurd (omega arith)
filled_single (None ∷ os) one i j d a b e = filled_single os (single_rest None os one) i j d a b e
filled_single (Some y ∷ os) one zero zero d a b e = refl
filled_single (Some y ∷ os) one zero (suc j) d a b e = absurd (single_first y d os j one (omega arith) e)
filled_single (Some y ∷ os) one (suc i) zero d a b e = absurd (single_first y d os i one (omega arith) (sym e))
filled_single (Some y ∷ os) one (suc i) (suc j) d a b e = ap suc (filled_single os (single_rest (Some y) os one) i j d (omega arith) (omega arith) e)

module _ (m : Replica) (t : Store) where
  places_single : Single (places m t)
  unfolding places
  places_single i j s p q =
      let here = view m t m.set.me in
      let a = cell_at here (order m) i s p in
      let b = cell_at here (order m) j s q in
      let c = (stands m s m.set.me t _ a.1).own in
      let d = (stands m s m.set.me t _ b.1).own in
      let same = ap (rank m) (sym c ∙ d) in
      omega (arith, same, order_ranked m i (cell s) a.0, order_ranked m j (cell s) b.0)

  pub board_once : (i j : ℕ) (d : Stmt (List ℕ)) → i < length (board_of m t) → j < length (board_of m t) → get_or (board_of m t) i d ≡ get_or (board_of m t) j d → i ≡ j
  board_once i j d a b e = filled_single (places m t) places_single i j d a b e
