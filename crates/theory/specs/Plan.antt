-- The terms that a box goes by, and those that the theorems add: who is honest, and what the coin means.
use Rattle.std.specs.Prelude.{ℕ, ◌+◌, ◌-◌, ◌*◌, ◌<◌, ◌≤◌, Bool, not}
use Rattle.theory.specs.Count.{Boxes, count}
use Rattle.theory.specs.Statement.{decided}

-- N, f, Q and W, the numbers of epochs and rounds, whose queue an epoch is, and the sameness of entries
pub record Plan (X : Type 0) : Type 0 where
  pub size : ℕ
  pub faults : ℕ
  pub quorum : ℕ
  pub width : ℕ
  pub epochs : ℕ
  pub rounds : ℕ
  pub queue : ℕ → ℕ
  pub eq : Discrete X

pub record Rule (X : Type 0) : Type 0 where
  pub plan : Plan X
  pub coin : ℕ → ℕ → Bool
  pub honest : ℕ → Bool
  pub few : count plan.size (λ i. not (honest i)) ≤ plan.faults
  pub room : 3 * plan.faults < plan.size
  pub cross : plan.size + plan.faults < 2 * plan.quorum
  pub rounded : 1 ≤ plan.rounds

abbrev pub boxes : {X : Type 0} → Rule X → Boxes
boxes R = record {
  size = R.plan.size;
  faults = R.plan.faults;
  quorum = R.plan.quorum;
  honest = R.honest;
  few = R.few;
  room = R.room;
  cross = R.cross;
}

abbrev pub sameness : {X : Type 0} → Plan X → X → X → Bool
sameness P x y = decided (P.eq x y)

-- f + 1: one of them is honest; 2f + 1: most of them are; N - f: all honest boxes can make it
module _ {X : Type 0} (P : Plan X) where
  abbrev pub some_honest : ℕ
  some_honest = P.faults + 1

  abbrev pub most : ℕ
  most = 2 * P.faults + 1

  abbrev pub all_honest : ℕ
  all_honest = P.size - P.faults
