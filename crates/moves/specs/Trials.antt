-- Turns that are tried one behind the other.
use Rattle.std.specs.Prelude.{ℕ, Bool, List, Option}
use Rattle.theory.specs.Machine.{Steps}
use Rattle.theory.specs.Search.{or_else, map}
use Rattle.theory.specs.Calls.{Turn, to_echo, to_ready, to_keep, to_second, to_see, to_confirm, to_close, way}
use Rattle.replica.specs.declared.state.Replica.{Replica}
use Rattle.replica.specs.Store.{Store}
use Rattle.replica.specs.View.{plan, box}

-- a turn with its steps, where it applies
abbrev pub tried : Replica → Store → (ℕ → ℕ → Bool) → Turn → Option (Turn × Steps (List ℕ))
tried m t coin k = map (λ l. (k, l)) (way (plan m) (box m t) coin k)

-- the first of turns 1 to 3, and of 7 to 10
abbrev pub by_entries : Replica → Store → (ℕ → ℕ → Bool) → Option (Turn × Steps (List ℕ))
by_entries m t coin = or_else (tried m t coin to_echo) (or_else (tried m t coin to_ready) (tried m t coin to_keep))

abbrev pub by_rounds : Replica → Store → (ℕ → ℕ → Bool) → Option (Turn × Steps (List ℕ))
by_rounds m t coin = or_else (tried m t coin to_second) (or_else (tried m t coin to_see) (or_else (tried m t coin to_confirm) (tried m t coin to_close)))
