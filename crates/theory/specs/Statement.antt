-- What boxes state, and the cell that each statement stands in.
use Rattle.std.specs.Prelude.{◌≡◌, ℕ, Bool, true, false, Some, None, Option}
use Rattle.std.proofs.Math.Bool.{Bool-discrete}
use Rattle.std.proofs.Math.Decide.{ℕ_discrete}

-- the set of a Confirm: one bit, or both
pub data Bits : Type 0 where
  only : Bool → Bits
  both : Bits
  deriving Discrete as Bits-discrete

-- the bit is in the set
abbrev pub In : Bool → Bits → Type 0
In v (only u) = v ≡ u
In v both = Unit {0}

-- Send, Echo, Ready and Have of an entry; Value, Seen, Confirm and Finish of an epoch
pub data Stmt (X : Type 0) : Type 0 where
  sends : (slot : ℕ) → X → Stmt X
  echo ready have : (queue slot : ℕ) → X → Stmt X
  value seen : (epoch round : ℕ) → Bool → Stmt X
  confirm : (epoch round : ℕ) → Bits → Stmt X
  finish : (epoch : ℕ) → Bool → Stmt X
  deriving Discrete as Stmt-discrete

abbrev pub StmtEq : {X : Type 0} → Discrete X → Discrete (Stmt X)
StmtEq d = Stmt-discrete ℕ_discrete d Bool-discrete (Bits-discrete Bool-discrete)

-- the places for statements: of each sender, one statement fits in each
pub data Cell : Type 0 where
  at_send : (slot : ℕ) → Cell
  at_echo at_ready at_have : (queue slot : ℕ) → Cell
  at_value : (epoch round : ℕ) → Bool → Cell
  at_seen at_confirm : (epoch round : ℕ) → Cell
  at_finish : (epoch : ℕ) → Cell
  deriving Discrete as Cell-by

unfoldable pub CellDiscrete : Discrete Cell
CellDiscrete = Cell-by ℕ_discrete Bool-discrete

abbrev pub cell : {X : Type 0} → Stmt X → Cell
cell (sends s x) = at_send s
cell (echo q s x) = at_echo q s
cell (ready q s x) = at_ready q s
cell (have q s x) = at_have q s
cell (value e k v) = at_value e k v
cell (seen e k v) = at_seen e k
cell (confirm e k u) = at_confirm e k
cell (finish e v) = at_finish e

-- the entry of a statement that has one
abbrev pub entry_stated : {X : Type 0} → Stmt X → Option X
entry_stated (sends s x) = Some x
entry_stated (echo q s x) = Some x
entry_stated (ready q s x) = Some x
entry_stated (have q s x) = Some x
entry_stated (value e k v) = None
entry_stated (seen e k v) = None
entry_stated (confirm e k u) = None
entry_stated (finish e v) = None

abbrev pub decided : {A : Type 0} → Dec A → Bool
decided (yes a) = true
decided (no n) = false
