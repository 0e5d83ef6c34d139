-- What becomes of a group, as a list of calls of the theorem's runs.
use Rattle.std.specs.Prelude.{◌≡◌, ℕ, Bool, List, Some, None, Option, slice_get}
use Rattle.std.specs.List.{AllByRecursion}
use Rattle.replica.specs.Store.{Store}
use Rattle.promises.specs.Runs.{Kind, Asked, State, after}
use Rattle.promises.specs.Promised.{Set, Honest, state, Fair}
use Rattle.group.specs.Groups.{Group}

-- the call is lent the replica's own tables
abbrev pub Own : Asked → Type 0
Own a = ◌≡◌ {A = Option Store} a.lent None

-- There is a list of calls, each lent the own tables, after which each replica of the one group is as in the other.
pub record Ran (K : Kind) (coin : ℕ → ℕ → Bool) (g h : Group) : Type 0 where
  pub calls : List Asked
  pub own : AllByRecursion Own calls
  pub ends :
      (start : ℕ → State) → ((i : ℕ) (p : State) → slice_get g i ≡ Some p → start i ≡ p)
      → (i : ℕ) (p : State) → slice_get g i ≡ Some p → slice_get h i ≡ Some (after K coin start calls i)

-- There is a fair list of calls to the honest replicas of a set, after which each of them is as in the group: the
-- theorem's promises are of these.
pub record Fairly (S : Set) (h : Group) : Type 0 where
  pub calls : List Asked
  pub fair : Fair S calls
  pub ends : (i : ℕ) → Honest S i → slice_get h i ≡ Some (state S calls i)
