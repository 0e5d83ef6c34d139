-- The board: all that a replica holds from itself, in a fixed order.
use Rattle.std.specs.Prelude.{ℕ, ◌*◌, ◌/◌, ◌%◌, true, false, cond, List, [], ◌∷◌, ◌++◌, map, drop, Some, None, Option, ◌==◌}
use Rattle.std.specs.List.{range_with_len}
use Rattle.common.specs.Limits.{epochs, rounds}
use Rattle.theory.specs.Statement.{Stmt, Cell, at_send, at_echo, at_ready, at_have, at_value, at_seen, at_confirm, at_finish}
use Rattle.theory.specs.Machine.{own}
use Rattle.cells.specs.Rows.{Cells}
use Rattle.replica.specs.declared.set.Set.{Set}
use Rattle.replica.specs.declared.state.Replica.{Replica}
use Rattle.replica.specs.Store.{Store}
use Rattle.replica.specs.View.{row_cell, box}

-- the cells f 0 to f (k - 1)
unfoldable pub run : ℕ → (ℕ → Cell) → List Cell
run k f = map f (range_with_len 0 k)

-- the slots of all queues, with w slots each, one queue behind the other
abbrev pub by_slot : ℕ → (ℕ → ℕ → Cell) → ℕ → Cell
by_slot w f j = f (j / w) (j % w)

-- the slots of all queues, of the echoes, the readies and the haves, one table behind the other
abbrev pub by_table : Set → ℕ → Cell
by_table set i =
    let w = set.w in
    let rows = set.n * w in
    cond (i / rows == 0) (by_slot w at_echo (i % rows))
    (cond (i / rows == 1) (by_slot w at_ready (i % rows))
    (by_slot w at_have (i % rows)))

-- the replica's own statement, which st makes, of the slot j of all queues
abbrev pub own_row : Set → Cells → (ℕ → ℕ → List ℕ → Stmt (List ℕ)) → ℕ → Option (Stmt (List ℕ))
own_row set cells st j = row_cell set.n set.w cells (st (j / set.w) (j % set.w)) (j / set.w) (j % set.w) set.me

-- the four cells of a round
abbrev pub by_kind : ℕ → ℕ → ℕ → Cell
by_kind e k c =
    cond (c == 0) (at_value e k false)
    (cond (c == 1) (at_value e k true)
    (cond (c == 2) (at_seen e k)
    (at_confirm e k)))

-- the cells of the votes of epoch e, one round behind the other
abbrev pub by_round : ℕ → ℕ → Cell
by_round e j = by_kind e (j / 4) (j % 4)

-- the places of what a replica states: sends, echoes, readies, haves, finishes, and the votes of the current epoch
abbrev pub order : Replica → List Cell
order m =
    let w = m.set.w in
    let rows = m.set.n * w in
    run w at_send
    ++ (run rows (by_slot w at_echo) ++ (run rows (by_slot w at_ready) ++ (run rows (by_slot w at_have)
    ++ (run epochs at_finish ++ run (4 * rounds) (by_round m.epoch)))))

-- what the replica holds from itself at each of these places
unfoldable pub places : Replica → Store → List (Option (Stmt (List ℕ)))
places m t = map (own (box m t)) (order m)

-- those that there are, in their order
abbrev pub filled : {A : Type 0} → List (Option A) → List A
filled [] = []
filled (Some x ∷ xs) = x ∷ filled xs
filled (None ∷ xs) = filled xs

-- the statements that stand from the place p on, and all
abbrev pub standing : ℕ → Replica → Store → List (Stmt (List ℕ))
standing p m t = filled (drop p (places m t))

abbrev pub board_of : Replica → Store → List (Stmt (List ℕ))
board_of m t = filled (places m t)
