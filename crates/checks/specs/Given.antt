-- What the examples of a replica begin with: sets, replicas as make leaves them, and what these then state, hear and do.
use Rattle.std.specs.Prelude.{ℕ, ◌*◌, ◌≤◌, true, false, List, [], ◌∷◌, ◌++◌, map, replicate, None, refl}
use Rattle.std.proofs.Common.{arith}
use Rattle.common.specs.Limits.{most_replicas, epochs}
use Rattle.common.specs.Quorums.{faults, echoes}
use Rattle.theory.specs.Statement.{Bits, only, both, Stmt, have, value, seen, confirm}
use Rattle.theory.specs.Book.{Ledger, empty, write}
use Rattle.theory.specs.Machine.{running, says, hears, stays, leaves, Steps}
use Rattle.votes.specs.Votes.{no_votes}
use Rattle.replica.specs.declared.set.Set.{Set}
use Rattle.replica.specs.declared.state.Replica.{Replica}
use Rattle.replica.specs.declared.state.Stage.TheVariants.{Unopened}
use Rattle.replica.specs.Store.{Store}

-- replica 0 of n with w slots each
abbrev pub numbered : (n w : ℕ) → 4 ≤ n → n ≤ 16 → 1 ≤ w → w ≤ 16 → Set
numbered n w least most some slots = record { n = n; w = w; f = faults n; q = echoes n; me = 0; own = omega (arith, least); least = least; most = most; some = some; slots = slots; faulty = refl; quorum = refl }

abbrev pub four : Set
four = numbered 4 2 (omega arith) (omega arith) (omega arith) (omega arith)

abbrev pub five : Set
five = numbered 5 1 (omega arith) (omega arith) (omega arith) (omega arith)

abbrev pub six : Set
six = numbered 6 1 (omega arith) (omega arith) (omega arith) (omega arith)

-- the replica as make leaves it, and tables that are empty and just long enough
abbrev pub fresh : Set → Replica
fresh s = record { set = s; epoch = 0; stage = Unopened; votes = no_votes; past = replicate epochs None; heads = replicate most_replicas 0; pages = 0 }

abbrev pub tables : Set → Store
tables s = record {
  sends = replicate (s.n * s.w) None;
  echoes = replicate (s.n * s.w * s.n) None;
  readies = replicate (s.n * s.w * s.n) None;
  haves = replicate (s.n * s.w * s.n) None;
  pages = replicate (s.n * s.w) None;
}

-- two readings
abbrev pub x : List ℕ
x = 0 ∷ 12 ∷ 7 ∷ 1 ∷ 0 ∷ 0 ∷ 13 ∷ 72 ∷ []

abbrev pub y : List ℕ
y = 0 ∷ 99 ∷ 7 ∷ 1 ∷ 0 ∷ 0 ∷ 0 ∷ 1 ∷ []

-- a statement is heard from each of these; it is stated, and heard from 1 and 2
abbrev pub from : List ℕ → Stmt (List ℕ) → Steps (List ℕ)
from js s = map (λ j. hears j s) js

abbrev pub of_three : Stmt (List ℕ) → Steps (List ℕ)
of_three s = says s ∷ from (1 ∷ 2 ∷ []) s

-- in round 0 three have stated these values and confirmed this set
abbrev pub confirmed : Steps (List ℕ) → Bits → Steps (List ℕ)
confirmed values u = stays (running 0 false) ∷ (values ++ (says (seen 0 0 true) ∷ of_three (confirm 0 0 u)))

-- bit 1 alone, or both bits
abbrev pub one_bit : Steps (List ℕ)
one_bit = confirmed (of_three (value 0 0 true)) (only true)

abbrev pub two_bits : Steps (List ℕ)
two_bits = confirmed (of_three (value 0 0 false) ++ of_three (value 0 0 true)) both

-- epoch 0 left a page with x from queue 0; in epoch 1, which is of queue 1, these slots of it are kept
abbrev pub first_page : Ledger (List ℕ)
first_page = write 0 0 (0, x) empty

abbrev pub kept : List (ℕ × List ℕ) → Steps (List ℕ)
kept slots = leaves first_page ∷ map (λ p. says (have 1 p.0 p.1)) slots
