-- The replica's own entries, one table behind the other.
use Rattle.std.proofs.Common.{◌≡◌, ℕ, ◌+◌, ◌*◌, ◌/◌, ◌%◌, ◌<◌, refl, ap, ◌∙◌, arith}
use Rattle.std.proofs.lemmas.Nat.{div-mul-add, mod-mul-add}
use Rattle.theory.specs.Statement.{echo, ready, have}
use Rattle.replica.specs.declared.state.Replica.{Replica}
use Rattle.replica.specs.Store.{Store}
use Rattle.replica.specs.View.{view}
use Rattle.showing.specs.Boards.{by_table, own_row}

module _ (m : Replica) (t : Store) (i d : ℕ) (low : d < m.set.n * m.set.w) where
  abbrev rows : ℕ
  rows = m.set.n * m.set.w

  -- the slot d of the table k
  table : (k : ℕ) → i ≡ k * rows + d → i / rows ≡ k
  table k is = ap (λ j. j / rows) is ∙ div-mul-add k rows d low

  slot : (k : ℕ) → i ≡ k * rows + d → i % rows ≡ d
  slot k is = ap (λ j. j % rows) is ∙ mod-mul-add k rows d low

  pub own_echo : i ≡ d → own_row m.set t.echoes echo d ≡ view m t m.set.me (by_table m.set i)
  own_echo is = rw (table 0 (omega arith), slot 0 (omega arith)) refl

  pub own_ready : i ≡ rows + d → own_row m.set t.readies ready d ≡ view m t m.set.me (by_table m.set i)
  own_ready is = rw (table 1 (omega arith), slot 1 (omega arith)) refl

  pub own_have : i ≡ rows + (rows + d) → own_row m.set t.haves have d ≡ view m t m.set.me (by_table m.set i)
  own_have is = rw (table 2 (omega arith), slot 2 (omega arith)) refl
