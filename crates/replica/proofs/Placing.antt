-- One cell of a table or of the votes is filled: what is then seen there, and that every other cell is seen as before.
use Rattle.std.proofs.Common.{◌≡◌, ℕ, ◌*◌, ◌/◌, ◌%◌, ◌<◌, ◌≤◌, Bool, true, false, cond, ◌&&◌, eqb, ltb, ◌≢◌, ◌⊎◌, List, length, get_or, Some, None, Option, sym, refl, ap, ◌∙◌, inl, inr, arith, get_or-set_other, get_or-set_same}
use Rattle.std.specs.Option.{option_map}
use Rattle.std.proofs.lemmas.List.{get_or_past, length-set}
use Rattle.std.proofs.lemmas.Nat.{div-mul-add, mod-mul-add}
use Rattle.std.proofs.lemmas.Bool.{ltb-true, lt-ltb, eqb-true, and_parts, cases_eq, cases_lt}
use Rattle.common.specs.Limits.{epochs, rounds}
use Rattle.theory.specs.Statement.{Stmt}
use Rattle.votes.specs.declared.ballot.Round.{Round}
use Rattle.votes.specs.Votes.{no_round}
use Rattle.cells.specs.Rows.{Cells, slot_of, place_of}
use Rattle.cells.proofs.Cellrows.{place_within}
use Rattle.replica.specs.declared.state.Replica.{Replica}
use Rattle.replica.specs.View.{held, row_cell, vote_cell}
use Rattle.replica.specs.Holding.{entered, round_marked, with_votes}

pub cond_same : {A : Type 0} (b : Bool) (x y z : A) → (b ≡ true → x ≡ y) → cond b x z ≡ cond b y z
cond_same true x y z h = h refl
cond_same false x y z h = refl

-- no two slots share a place, and no two cells of a row
slot_apart : (w q s a b : ℕ) → s < w → b < w → slot_of w q s ≡ slot_of w a b → (q ≡ a) × (s ≡ b)
slot_apart w q s a b l k e = (
  sym (div-mul-add q w s l) ∙ ap (λ x. x / w) e ∙ div-mul-add a w b k,
  sym (mod-mul-add q w s l) ∙ ap (λ x. x % w) e ∙ mod-mul-add a w b k,
)

place_apart : (n w q s j a b i : ℕ) → s < w → b < w → j < n → i < n → place_of n w q s j ≡ place_of n w a b i → (q ≡ a) × (s ≡ b) × (j ≡ i)
place_apart n w q s j a b i l k lj li e =
    let row = slot_apart n (slot_of w q s) j (slot_of w a b) i lj li e in
    let p = slot_apart w q s a b l k row.0 in
    (p.0, p.1, row.1)

module _ (w : ℕ) (cells : Cells) (j s : ℕ) (x : List ℕ) (st : ℕ → List ℕ → Stmt (List ℕ)) (n : ℕ) (lj : j < n) (ls : s < w) where
  abbrev send_cell : Cells → ℕ → ℕ → Option (Stmt (List ℕ))
  send_cell c i b = held (ltb i n && ltb b w) (option_map (st b) (get_or c (slot_of w i b) None))

  pub send_own : slot_of w j s < length cells → send_cell (entered cells (slot_of w j s) x) j s ≡ Some (st s x)
  send_own l = rw (lt-ltb j n lj, lt-ltb s w ls, get_or-set_same cells (slot_of w j s) (Some x) None l)

  pub send_other : (i b : ℕ) → ((i ≡ j) × (b ≡ s) → ⊥) → send_cell (entered cells (slot_of w j s) x) i b ≡ send_cell cells i b
  send_other i b ne = cond_same _ _ _ None (λ g.
      let p = and_parts _ _ g in
      let apart : slot_of w i b ≢ slot_of w j s = λ e. ne (slot_apart w i b j s (ltb-true b w p.1) ls e) in
      ap (option_map (st b)) (get_or-set_other cells (slot_of w j s) (slot_of w i b) (Some x) None apart))

module _ (n w : ℕ) (cells : Cells) (j q s : ℕ) (x : List ℕ) (st : ℕ → ℕ → List ℕ → Stmt (List ℕ)) (lj : j < n) (lq : q < n) (ls : s < w) where
  pub row_own : n * w * n ≤ length cells → row_cell n w (entered cells (place_of n w q s j) x) (st q s) q s j ≡ Some (st q s x)
  row_own room =
      let within : place_of n w q s j < length cells = omega (arith, place_within n w q s j lq ls lj) in
      rw (lt-ltb j n lj, lt-ltb q n lq, lt-ltb s w ls, get_or-set_same cells (place_of n w q s j) (Some x) None within)

  pub row_other : (i a b : ℕ) → ((i ≡ j) × (a ≡ q) × (b ≡ s) → ⊥) → row_cell n w (entered cells (place_of n w q s j) x) (st a b) a b i ≡ row_cell n w cells (st a b) a b i
  row_other i a b ne = cond_same _ _ _ None (λ g.
      let p = and_parts _ _ g in let r = and_parts _ _ p.1 in
      let apart : place_of n w a b i ≢ place_of n w q s j = λ e. let k = place_apart n w a b i q s j (ltb-true b w r.1) ls (ltb-true i n p.0) lj e in ne (k.2, k.0, k.1) in
      ap (option_map (st a b)) (get_or-set_other cells (place_of n w q s j) (place_of n w a b i) (Some x) None apart))

module _ {A : Type 0} (m : Replica) (k : ℕ) (f : Round → Round) (read : Round → Option A) (st : A → Stmt (List ℕ)) where
  abbrev table : List Round
  table = m.votes.rounds

  pub vote_own : (e j : ℕ) (x : A) → k < length table → (ltb j m.set.n && (ltb k rounds && (ltb e epochs && eqb e m.epoch))) ≡ true → read (f (get_or table k no_round)) ≡ Some x
      → vote_cell (with_votes m (round_marked m.votes k f)) read st e k j ≡ Some (st x)
  vote_own e j x l g h = rw (g, get_or-set_same table k (f (get_or table k no_round)) no_round l, h)

  pub vote_other : (e a i : ℕ) → (e ≡ m.epoch → a ≡ k → (r : Round) → read (f r) ≡ read r) → vote_cell (with_votes m (round_marked m.votes k f)) read st e a i ≡ vote_cell m read st e a i
  vote_other e a i stays = cond_same _ _ _ None (λ g.
      let p = and_parts (ltb e epochs) _ (and_parts (ltb a rounds) _ (and_parts (ltb i m.set.n) _ g).1).1 in
      ap (option_map st) (at (eqb-true e m.epoch p.1) (cases_eq a k)))
    where
      at : e ≡ m.epoch → (a ≡ k) ⊎ (a ≡ k → ⊥) → read (get_or ((round_marked m.votes k f).rounds) a no_round) ≡ read (get_or table a no_round)
      at h (inl e) = rw e (here (cases_lt k (length table)))
        where
          here : (k < length table) ⊎ (length table ≤ k) → read (get_or ((round_marked m.votes k f).rounds) k no_round) ≡ read (get_or table k no_round)
          here (inl l) = ap read (get_or-set_same table k (f (get_or table k no_round)) no_round l) ∙ stays h e (get_or table k no_round)
          here (inr l) = ap read (get_or_past ((round_marked m.votes k f).rounds) k no_round (simp length-set (omega arith)) ∙ sym (get_or_past table k no_round l))
      at h (inr n) = ap read (get_or-set_other table k a (f (get_or table k no_round)) no_round n)
