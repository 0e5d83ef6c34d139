-- The board is just what the replica holds from itself.
use Rattle.std.proofs.Common.{◌≡◌, ℕ, zero, suc, ◌^◌, ◌<◌, ◌≤◌, List, [], ◌∷◌, map, length, get_or, Some, None, Option, refl, sym, ap, ◌∙◌, arith}
use Rattle.std.specs.List.{ContainsAt, AllByRecursion}
use Rattle.std.proofs.ByRecursion.{has_append_right}
use Rattle.std.proofs.lemmas.List.{get_or-map}
use Rattle.std.proofs.lemmas.Nat.{mul-le}
use Rattle.theory.specs.Statement.{Stmt, Cell, cell}
use Rattle.theory.specs.Machine.{Board}
use Rattle.wire.specs.Codec.{unfit}
use Rattle.replica.specs.declared.state.Replica.{Replica}
use Rattle.replica.specs.Store.{Store}
use Rattle.replica.specs.View.{view, box}
use Rattle.showing.specs.Boards.{order, places, filled, board_of}
use Rattle.showing.specs.Spoken.{spoken}
use Rattle.showing.proofs.Standing.{Wide, stands, broad, cell_at, place_fits}
use Rattle.showing.proofs.Ordering.{length_places}

pub filled_has : {A : Type 0} (os : List (Option A)) (i : ℕ) (x : A) → Some x ≡ get_or os i None → ContainsAt (filled os) x
filled_has [] i x e = absurd (let z : ◌≡◌ {A = ℕ} 0 1 = cc in omega arith)
filled_has (None ∷ os) zero x e = absurd (let z : ◌≡◌ {A = ℕ} 0 1 = cc in omega arith)
filled_has (None ∷ os) (suc i) x e = filled_has os i x e
filled_has (Some y ∷ os) zero x e = (0, omega arith, λ d. cc)
filled_has (Some y ∷ os) (suc i) x e = has_append_right (y ∷ []) (filled os) x (filled_has os i x e)

pub has_filled : {A : Type 0} (os : List (Option A)) (k : ℕ) (x : A) → k < length (filled os) → ((d : A) → get_or (filled os) k d ≡ x) → (i : ℕ) × (Some x ≡ get_or os i None)
has_filled [] k x low is = absurd (omega arith)
has_filled (None ∷ os) k x low is = let r = has_filled os k x low is in (suc r.0, r.1)
has_filled (Some y ∷ os) zero x low is = (0, sym (ap Some (is y)))
has_filled (Some y ∷ os) (suc k) x low is = let r = has_filled os k x (omega arith) is in (suc r.0, r.1)

all_filled : {A : Type 0} (P : A → Type 0) (os : List (Option A)) → ((i : ℕ) (x : A) → Some x ≡ get_or os i None → P x) → AllByRecursion P (filled os)
all_filled P [] each = tt
all_filled P (None ∷ os) each = all_filled P os (λ i x e. each (suc i) x e)
all_filled P (Some x ∷ os) each = (each 0 x refl, all_filled P os (λ i y e. each (suc i) y e))

few_filled : {A : Type 0} (os : List (Option A)) → length (filled os) ≤ length os
few_filled [] = omega arith
few_filled (None ∷ os) = omega (arith, few_filled os)
few_filled (Some x ∷ os) = omega (arith, few_filled os)

-- the board's statements can be written and numbered
module _ (m : Replica) (t : Store) where
  pub board_writable : (w : ℕ) → Wide w t → AllByRecursion (λ s. unfit w (spoken s) ≡ None) (board_of m t)
  board_writable w wide = all_filled (λ s. unfit w (spoken s) ≡ None) (places m t) (λ i s e. place_fits w m t i s wide e)

  pub board_few : length (board_of m t) < 2 ^ 64
  board_few = omega (arith, few_filled (places m t), length_places m t, mul-le m.set.n m.set.w 16 16 m.set.most m.set.slots, m.set.slots)

module _ (m : Replica) (t : Store) (s : Stmt (List ℕ)) where
  abbrev here : Cell → Option (Stmt (List ℕ))
  here = view m t m.set.me

  pub board_all : Board (box m t) s → ContainsAt (board_of m t) s
  unfolding places
  board_all e =
      let h = (stands m s m.set.me t (cell s) e).listed in
      let at = get_or-map here (order m) h.0 (cell s) None h.1 ∙ ap here (h.2 (cell s)) ∙ e in
      filled_has (map here (order m)) h.0 s (sym at)

  pub board_only : ContainsAt (board_of m t) s → Board (box m t) s
  unfolding places
  board_only h =
      let r = has_filled (map here (order m)) h.0 s h.1 h.2 in
      let p = cell_at here (order m) r.0 s r.1 in
      ap here (stands m s m.set.me t _ p.1).own ∙ p.1

  -- each statement of the board can be written
  pub board_fits : (w : ℕ) → Wide w t → ContainsAt (board_of m t) s → unfit w (spoken s) ≡ None
  board_fits w wide h = (stands m s m.set.me t (cell s) (board_only h)).fits w (broad w m t wide s m.set.me (cell s) (board_only h))
