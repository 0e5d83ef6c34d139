-- What stands at a place of the board.
use Rattle.std.proofs.Common.{◌≡◌, ℕ, ◌+◌, ◌*◌, ◌/◌, ◌%◌, ◌<◌, eqb, List, ◌++◌, map, length, get_or, None, Option, sym, ap, ◌∙◌, zero-add, arith, length-append}
use mathlib.Core.List.{map-append}
use Rattle.std.specs.List.{range_with_len}
use Rattle.std.proofs.lemmas.List.FromFn.{length-map-range_with_len, get_or-map-range_with_len}
use Rattle.std.proofs.lemmas.List.{get_or_append_left, get_or-append_right, get_or-map, length-map}
use Rattle.std.proofs.lemmas.Nat.{div-add-mod', div_below, mod_below}
use Rattle.std.proofs.lemmas.Bool.{cond_both, eqb-true, eqb-false}
use Rattle.theory.specs.Statement.{Stmt, Cell, at_send, at_echo, at_ready, at_have, at_finish}
use Rattle.common.specs.Limits.{epochs, rounds}
use Rattle.replica.specs.declared.state.Replica.{Replica}
use Rattle.replica.specs.Store.{Store}
use Rattle.replica.specs.View.{view}
use Rattle.showing.specs.Boards.{run, by_slot, by_table, by_round, order, places}

pub length_run : (k : ℕ) (f : ℕ → Cell) → length (run k f) ≡ k
unfolding run
length_run k f = length-map-range_with_len f 0 k

module _ {A : Type 0} (g : Cell → Option A) (k : ℕ) (f : ℕ → Cell) (i : ℕ) where
  length_seen : length (map g (run k f)) ≡ k
  length_seen = length-map (run k f) g ∙ length_run k f

  -- in a run of places
  pub run_at : i < k → get_or (map g (run k f)) i None ≡ g (f i)
  unfolding run
  run_at h = get_or-map g (map f (range_with_len 0 k)) i (f i) None (omega (arith, length-map-range_with_len f 0 k)) ∙ ap g (get_or-map-range_with_len f 0 k i i (f i) h (zero-add i))

  -- in the first of several runs, and behind it
  pub run_here : (rest : List Cell) → i < k → get_or (map g (run k f ++ rest)) i None ≡ g (f i)
  run_here rest h = ap (λ l. get_or l i None) (map-append g (run k f) rest) ∙ get_or_append_left (map g (run k f)) (map g rest) None i (omega (arith, length_seen)) ∙ run_at h

  pub run_past : (rest : List Cell) → get_or (map g (run k f ++ rest)) (k + i) None ≡ get_or (map g rest) i None
  run_past rest =
      ap (λ l. get_or l (k + i) None) (map-append g (run k f) rest) ∙ get_or-append_right (map g (run k f)) (map g rest) k (k + i) None length_seen (omega arith)
      ∙ ap (λ n. get_or (map g rest) n None) (omega arith)

module _ (m : Replica) (t : Store) where
  abbrev here : Cell → Option (Stmt (List ℕ))
  here = view m t m.set.me

  abbrev w : ℕ
  w = m.set.w

  abbrev rows : ℕ
  rows = m.set.n * m.set.w

  pub length_places : w + 3 * rows + 256 + 64 ≡ length (places m t)
  unfolding places
  length_places =
      let e = length_run epochs at_finish in
      let v = length_run 64 (by_round m.epoch) in
      sym (length-map (order m) here ∙ simp (length-append, length_run) (omega arith))

  -- what stands behind the sends, and behind the entries
  abbrev ends : List Cell
  ends = run epochs at_finish ++ run (4 * rounds) (by_round m.epoch)

  abbrev entries : List Cell
  entries = run rows (by_slot w at_echo) ++ (run rows (by_slot w at_ready) ++ (run rows (by_slot w at_have) ++ ends))

  abbrev seen : List Cell → ℕ → Option (Stmt (List ℕ))
  seen cs i = get_or (map here cs) i None

  among_entries : (j : ℕ) → j < 3 * rows → seen entries j ≡ here (by_table m.set j)
  among_entries j h =
      let P : Cell → Type 0 = λ c. seen entries j ≡ here c in
      let k = j / rows in
      let d = j % rows in
      let low : d < rows = mod_below j rows (omega arith) in
      let at = λ (n : ℕ) (e : k ≡ n). ap (seen entries) (sym (div-add-mod' j rows) ∙ ap (λ k. k * rows + d) e) in
      cond_both (eqb k 0) (by_slot w at_echo d) _ P
      (λ z. at 0 (eqb-true k 0 z) ∙ ap (seen entries) (omega arith) ∙ run_here here rows (by_slot w at_echo) d _ low)
      (λ a. cond_both (eqb k 1) (by_slot w at_ready d) (by_slot w at_have d) P
      (λ z.
      at 1 (eqb-true k 1 z) ∙ ap (seen entries) (omega arith) ∙ run_past here rows (by_slot w at_echo) d _
      ∙ run_here here rows (by_slot w at_ready) d _ low)
      (λ b.
      at 2 (omega (arith, div_below j rows 3 (omega arith) h, eqb-false k 0 a, eqb-false k 1 b)) ∙ ap (seen entries) (omega arith)
      ∙ run_past here rows (by_slot w at_echo) (rows + d) _ ∙ run_past here rows (by_slot w at_ready) d _ ∙ run_here here rows (by_slot w at_have) d _ low))

  module _ (i : ℕ) where
    pub send_place : i < w → get_or (places m t) i None ≡ here (at_send i)
    unfolding places
    send_place h = run_here here w at_send i _ h

    module _ (j : ℕ) where
      past_sends : i ≡ w + j → get_or (places m t) i None ≡ seen entries j
      unfolding places
      past_sends e = ap (seen (order m)) e ∙ run_past here w at_send j _

      pub entry_place : i ≡ w + j → j < 3 * rows → get_or (places m t) i None ≡ here (by_table m.set j)
      entry_place e h = past_sends e ∙ among_entries j h

    past_entries : (j : ℕ) → i ≡ w + 3 * rows + j → get_or (places m t) i None ≡ seen ends j
    past_entries j e =
        past_sends (rows + (rows + (rows + j))) (omega (arith, e)) ∙ run_past here rows (by_slot w at_echo) (rows + (rows + j)) _
        ∙ run_past here rows (by_slot w at_ready) (rows + j) _ ∙ run_past here rows (by_slot w at_have) j _

    pub finish_place : (e : ℕ) → i ≡ w + 3 * rows + e → e < epochs → get_or (places m t) i None ≡ here (at_finish e)
    finish_place e is h = past_entries e is ∙ run_here here epochs at_finish e _ h

    pub vote_place : (j : ℕ) → i ≡ w + 3 * rows + epochs + j → j < 4 * rounds → get_or (places m t) i None ≡ here (by_round m.epoch j)
    vote_place j e h = past_entries (epochs + j) (omega (arith, e)) ∙ run_past here epochs at_finish j _ ∙ run_at here (4 * rounds) (by_round m.epoch) j h
