-- How many replicas may be faulty, and how many equal echoes make a ready.
use Rattle.std.specs.Prelude.{ℕ, ◌+◌, ◌-◌, ◌*◌, ◌/◌, ◌<◌, ◌≤◌, cond, ◌||◌, Ok, Result, nat_lt}
use Rattle.common.specs.declared.refusal.Refusal.TheVariants.{Boxes}
use Rattle.common.specs.Limits.{least_replicas, most_replicas}
use Rattle.common.specs.Refusals.{declined}

abbrev pub faults : ℕ → ℕ
faults n = (n - 1) / 3

-- the quorum of equal echoes
abbrev pub echoes : ℕ → ℕ
echoes n = (n + faults n) / 2 + 1

abbrev pub quorum_of : ℕ → Result (ℕ × ℕ) ℕ
quorum_of n = cond (nat_lt n least_replicas || nat_lt most_replicas n) (declined Boxes) (Ok (faults n, echoes n))

-- Why these numbers serve, of n replicas with the pair (f, q): more than two thirds are honest, two
-- quorums overlap in more than f replicas, and the honest ones alone make a quorum.
pub record Sound (n : ℕ) (p : ℕ × ℕ) : Type 0 where
  pub few : 3 * p.0 < n
  pub shared : n + p.0 < 2 * p.1
  pub reached : p.1 + p.0 ≤ n
