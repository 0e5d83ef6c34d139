-- Open and turn in the theory's words, on replicas as make and the calls leave them.
use Rattle.std.specs.Prelude.{◌≡◌, ℕ, zero, suc, ◌+◌, ◌<◌, ◌≤◌, Bool, true, List, length, Some, None, Ok, Option, slice_index}
use Rattle.common.specs.Limits.{most_replicas, epochs, rounds}
use Rattle.theory.specs.Machine.{Steps, does}
use Rattle.theory.specs.Calls.{Turn, number, turn, opens, turns, steps}
use Rattle.replica.specs.declared.state.Replica.{Replica}
use Rattle.replica.specs.declared.state.Stage.TheVariants.{Open}
use Rattle.replica.specs.Store.{Store, fits}
use Rattle.replica.specs.View.{plan, book_of, box}
use Rattle.replica.specs.Holding.{Sized}
use Rattle.turns.specs.Turning.{open_of, turn_of}

-- the sum of the first n heads
abbrev pub total : ℕ → List ℕ → ℕ
total zero heads = 0
total (suc n) heads = slice_index heads n + total n heads

-- A replica with its own tables, as make and every later call leave them: arrays and tables are as long as they must be,
-- the round is one of the week's rounds, no cell of the book is empty, and there were never more pages than heads moved up.
pub record Whole (m : Replica) (t : Store) : Type 0 where
  pub sized : Sized m
  pub past : length m.past ≡ epochs
  pub heads : length m.heads ≡ most_replicas
  pub lent : fits m.set.n m.set.w t ≡ true
  pub week : m.epoch ≤ epochs
  pub round : (r : ℕ) (d : Bool) → m.stage ≡ Open r d → r < rounds
  pub filled : length (book_of m t) ≡ m.pages
  pub low : (q : ℕ) → slice_index m.heads q ≤ m.set.w
  pub room : m.pages ≤ total m.set.n m.heads

-- what is done is what the theory's box does, and leaves a whole replica
abbrev pub Tied : Replica → Store → Steps (List ℕ) → Replica → Store → Type 0
Tied m t l after left = Whole after left × (box after left ≡ does l (box m t))

-- the number of the turn taken, or 0
abbrev pub number_in : Option (Turn × Steps (List ℕ)) → ℕ
number_in None = 0
number_in (Some k) = number k.0

pub record Ties : Type 0 where
  pub opens : (coin : ℕ → ℕ → Bool) (m : Replica) (t : Store) → Whole m t → let p = open_of m t in Tied m t (steps (plan m) coin (box m t) opens) p.1 p.2
  pub turns : (coin : ℕ → ℕ → Bool) (m : Replica) (t : Store) → Whole m t → let p = turn_of coin m t in Tied m t (steps (plan m) coin (box m t) turns) p.1 p.2
  pub answer : (coin : ℕ → ℕ → Bool) (m : Replica) (t : Store) → Whole m t → (turn_of coin m t).0 ≡ Ok (number_in (turn (plan m) (box m t) coin))
