-- A box over a memory of cells, and the small steps that it takes.
use Rattle.std.specs.Prelude.{◌≡◌, ℕ, suc, Bool, true, false, cond, ◌&&◌, List, [], ◌∷◌, Some, None, Option, ◌==◌}
use Rattle.theory.specs.Statement.{Stmt, value, Cell, at_send, at_echo, at_ready, at_have, at_value, at_seen, at_confirm, at_finish, CellDiscrete, cell, decided}
use Rattle.theory.specs.Book.{Ledger, empty}

abbrev pub same_cell : Cell → Cell → Bool
same_cell c d = decided (CellDiscrete c d)

-- of each sender, what is held in each cell
abbrev pub Mem : Type 0 → Type 0
Mem X = ℕ → Cell → Option (Stmt X)

-- sender i's statement st is held
abbrev pub put : {X : Type 0} → ℕ → Stmt X → Mem X → Mem X
put i st mem j c = cond (j == i && same_cell c (cell st)) (Some st) (mem j c)

-- what lasts when box me leaves an epoch: entries, and its own finish
abbrev pub lasts : ℕ → ℕ → Cell → Bool
lasts me j (at_send s) = true
lasts me j (at_echo q s) = true
lasts me j (at_ready q s) = true
lasts me j (at_have q s) = true
lasts me j (at_value e k v) = false
lasts me j (at_seen e k) = false
lasts me j (at_confirm e k) = false
lasts me j (at_finish e) = j == me

abbrev pub drop : {X : Type 0} → ℕ → Mem X → Mem X
drop me mem j c = cond (lasts me j c) (mem j c) None

-- where a box is in its epoch: not open, awaiting its page, or open in a round, with whether that is closed for good
pub data Stage : Type 0 where
  unopened awaiting : Stage
  running : (round : ℕ) → Bool → Stage

pub record Box (X : Type 0) : Type 0 where
  pub me : ℕ
  pub epoch : ℕ
  pub stage : Stage
  pub mem : Mem X
  pub ledger : Ledger X

abbrev pub made : {X : Type 0} → ℕ → Box X
made i = record { me = i; epoch = 0; stage = unopened; mem = λ j c. None; ledger = empty }

-- the box holds statement s from sender j
abbrev pub Holds : {X : Type 0} → Box X → ℕ → Stmt X → Type 0
Holds B j s = B.mem j (cell s) ≡ Some s

-- the board: all that a box holds from itself
abbrev pub Board : {X : Type 0} → Box X → Stmt X → Type 0
Board B s = Holds B B.me s

abbrev pub own : {X : Type 0} → Box X → Cell → Option (Stmt X)
own B c = B.mem B.me c

-- a box states, hears, changes its stage, opens its epoch with a bit, or leaves it with a ledger
pub data Small (X : Type 0) : Type 0 where
  says : Stmt X → Small X
  hears : ℕ → Stmt X → Small X
  stays : Stage → Small X
  enters : (epoch : ℕ) → Bool → Small X
  leaves : Ledger X → Small X

abbrev pub small : {X : Type 0} → Small X → Box X → Box X
small (says s) B = record { me = B.me; epoch = B.epoch; stage = B.stage; mem = put B.me s B.mem; ledger = B.ledger }
small (hears j s) B = record { me = B.me; epoch = B.epoch; stage = B.stage; mem = put j s B.mem; ledger = B.ledger }
small (stays g) B = record { me = B.me; epoch = B.epoch; stage = g; mem = B.mem; ledger = B.ledger }
small (enters e v) B = record { me = B.me; epoch = B.epoch; stage = running 0 false; mem = put B.me (value e 0 v) B.mem; ledger = B.ledger }
small (leaves l) B = record { me = B.me; epoch = suc B.epoch; stage = unopened; mem = drop B.me B.mem; ledger = l }

abbrev pub Steps : Type 0 → Type 0
Steps X = List (Small X)

-- one small step after the other
abbrev pub does : {X : Type 0} → Steps X → Box X → Box X
does [] B = B
does (m ∷ ms) B = does ms (small m B)
