-- A replica as make leaves it.
use Rattle.std.specs.Prelude.{◌≡◌, ℕ, Bool, cond, ◌||◌, List, replicate, None, Ok, Err, Option, Result, nat_le, nat_lt}
use Rattle.common.specs.Refusals.{declined}
use Rattle.common.specs.declared.refusal.Refusal.TheVariants.{Boxes, Own, Slots, Table}
use Rattle.common.specs.Limits.{least_replicas, most_replicas, most_slots, epochs}
use Rattle.common.specs.Quorums.{faults, echoes}
use Rattle.votes.specs.declared.ballot.Votes.{Votes}
use Rattle.votes.specs.Votes.{no_votes}
use Rattle.replica.specs.declared.set.Set as declared
use Rattle.replica.specs.declared.state.Stage.{Stage}
use Rattle.replica.specs.declared.state.Stage.TheVariants.{Unopened}
use Rattle.replica.specs.declared.state.Replica.{Replica}
use Rattle.theory.specs.Machine.{made}
use Rattle.replica.specs.Store.{Store, fits, cleared}
use Rattle.replica.specs.View.{box}
use Rattle.replica.specs.Holding.{Sized}

-- the numbers of a set, without the proofs of their ranges
pub record Numbers : Type 0 where
  pub n : ℕ
  pub w : ℕ
  pub f : ℕ
  pub q : ℕ
  pub me : ℕ

abbrev pub numbers : declared.Set → Numbers
numbers s = record { n = s.n; w = s.w; f = s.f; q = s.q; me = s.me }

-- a replica, without those proofs
pub record Plain : Type 0 where
  pub set : Numbers
  pub epoch : ℕ
  pub stage : Stage
  pub votes : Votes
  pub past : List (Option Bool)
  pub heads : List ℕ
  pub pages : ℕ

abbrev pub plain : Replica → Plain
plain m = record {
  set = numbers m.set;
  epoch = m.epoch;
  stage = m.stage;
  votes = m.votes;
  past = m.past;
  heads = m.heads;
  pages = m.pages;
}

abbrev pub set_for : ℕ → ℕ → ℕ → Result Numbers ℕ
set_for n me w =
    cond (nat_lt n least_replicas || nat_lt most_replicas n) (declined Boxes)
    (cond (nat_le n me) (declined Own)
    (cond (nat_lt w 1 || nat_lt most_slots w) (declined Slots)
    (Ok (record { n = n; w = w; f = faults n; q = echoes n; me = me }))))

-- nothing was stated or heard, and the book is empty
abbrev pub fresh : Numbers → Plain
fresh s = record {
  set = s;
  epoch = 0;
  stage = Unopened;
  votes = no_votes;
  past = replicate epochs None;
  heads = replicate most_replicas 0;
  pages = 0;
}

-- with the set's numbers in hand, the tables are looked at
abbrev pub begun : ℕ → ℕ → Result Numbers ℕ → Store → Result Plain ℕ × Store
begun n w (Err e) t = (Err e, t)
begun n w (Ok s) t = cond (fits n w t) (Ok (fresh s), cleared n w t) (declined Table, t)

unfoldable pub make_of : ℕ → ℕ → ℕ → Store → Result Plain ℕ × Store
make_of n me w t = begun n w (set_for n me w) t

-- In the theory's words: the replica is a box as it begins, and there are marks for each round.
abbrev pub Begins : ℕ → Replica → Store → Type 0
Begins me m t = (box m t ≡ made me) × Sized m
