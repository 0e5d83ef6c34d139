-- A group as make leaves it.
use Rattle.std.specs.Prelude.{◌≡◌, ℕ, ◌*◌, length, replicate, Some, None, Ok, Err, Result, slice_get}
use Rattle.replica.specs.Store.{Store}
use Rattle.replica.specs.Making.{Plain, plain, make_of}
use Rattle.promises.specs.Runs.{State}
use Rattle.group.specs.Groups.{Group}

-- empty tables, just long enough for n replicas with w slots each
abbrev pub blank : ℕ → ℕ → Store
blank n w = record {
  sends = replicate (n * w) None;
  echoes = replicate (n * w * n) None;
  readies = replicate (n * w * n) None;
  haves = replicate (n * w * n) None;
  pages = replicate (n * w) None;
}

-- what make answers and leaves, where it accepts; where it declines, its number
abbrev pub member_made : Result (Plain × Store) ℕ → Result Plain ℕ × Store → Type 0
member_made (Ok p) r = (Ok p.0, p.1) ≡ r
member_made (Err e) r = Err e ≡ r.0

-- the replica i of n with w slots each, as make leaves it with empty tables
abbrev pub Fresh : ℕ → ℕ → ℕ → State → Type 0
Fresh n w i p = (Ok (plain p.0), p.1) ≡ make_of n i w (blank n w)

-- the first k of n replicas, each by its number
pub record Made (n w k : ℕ) (g : Group) : Type 0 where
  pub many : length g ≡ k
  pub fresh : (i : ℕ) (p : State) → slice_get g i ≡ Some p → Fresh n w i p
