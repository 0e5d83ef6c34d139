-- The second value in one round.
use Rattle.std.specs.Prelude.{ℕ, Option}
use Rattle.theory.specs.Statement.{Stmt, value, at_value}
use Rattle.theory.specs.Plan.{Plan, some_honest}
use Rattle.theory.specs.Machine.{Box, own}
use Rattle.theory.specs.Search.{bits, guard, unless}
use Rattle.theory.specs.Turns.{many}

abbrev pub second_in : {X : Type 0} → Plan X → Box X → ℕ → Option (Stmt X)
second_in P B k = bits (λ v. unless (own B (at_value B.epoch k v)) (guard (many P B (some_honest P) (value B.epoch k v)) (value B.epoch k v)))
