-- Runs of small steps of a set of boxes: what was said in one, and when each step is allowed.
use Rattle.std.proofs.Common.{◌≡◌, ℕ, suc, ◌<◌, Bool, true, cond, eqb, ◌⊎◌, List, [], ◌∷◌, None, inl}
use Rattle.theory.specs.Count.{Honest}
use Rattle.theory.specs.Statement.{Stmt, value, finish, Cell, at_send, at_echo, at_ready, at_have, at_value, at_seen, at_confirm, at_finish, cell}
use Rattle.theory.specs.Plan.{Rule, boxes}
use Rattle.theory.specs.History.{Due, Decided, Log, Said}
use Rattle.theory.specs.Book.{Ledger, empty}
use Rattle.theory.proofs.Passing.{Finds, Passes}
use Rattle.theory.specs.Machine.{Stage, unopened, awaiting, running, Box, made, Holds, Board, own, Small, says, hears, stays, enters, leaves, small}
use Rattle.theory.proofs.Memory.{Current, Used}

-- who took which small step, the latest first; and box i after them
abbrev pub Run : Type 0 → Type 0
Run X = List (ℕ × Small X)

abbrev pub world : {X : Type 0} → Run X → ℕ → Box X
world [] i = made i
world (p ∷ r) i = let B = world r i in cond (eqb i p.0) (small p.1 B) B

-- the history that a run has made
abbrev pub noted : {X : Type 0} → ℕ → Small X → Log X → Log X
noted i (says s) l = (i, s) ∷ l
noted i (hears j s) l = l
noted i (stays g) l = l
noted i (enters e v) l = (i, value e 0 v) ∷ l
noted i (leaves m) l = l

abbrev pub log : {X : Type 0} → Run X → Log X
log [] = []
log (p ∷ r) = noted p.0 p.1 (log r)

abbrev pub Utters : {X : Type 0} → Small X → Stmt X → Type 0
Utters (says t) s = s ≡ t
Utters (hears j t) s = ⊥
Utters (stays g) s = ⊥
Utters (enters e v) s = s ≡ value e 0 v
Utters (leaves l) s = ⊥

module _ {X : Type 0} (k : ℕ) (l : Log X) where
  pub said_more : (m : Small X) (i : ℕ) (s : Stmt X) → Said l i s → Said (noted k m l) i s
  said_more (says t) i s a = inl a
  said_more (hears j t) i s a = a
  said_more (stays g) i s a = a
  said_more (enters e v) i s a = inl a
  said_more (leaves n) i s a = a

  pub said_cases : (m : Small X) (i : ℕ) (s : Stmt X) → Said (noted k m l) i s → Said l i s ⊎ ((i ≡ k) × Utters m s)
  said_cases (says t) i s a = a
  said_cases (hears j t) i s a = inl a
  said_cases (stays g) i s a = inl a
  said_cases (enters e v) i s a = a
  said_cases (leaves n) i s a = inl a

-- box i has begun epoch e with ledger l
abbrev pub Arrives : {X : Type 0} → Small X → Box X → ℕ → Ledger X → Type 0
Arrives (says t) B e l = ⊥
Arrives (hears j t) B e l = ⊥
Arrives (stays g) B e l = ⊥
Arrives (enters n v) B e l = ⊥
Arrives (leaves m) B e l = (e ≡ suc B.epoch) × (l ≡ m)

abbrev pub At : {X : Type 0} → Run X → ℕ → ℕ → Ledger X → Type 0
At [] i e l = (e ≡ 0) × (l ≡ empty)
At (p ∷ r) i e l = At r i e l ⊎ ((i ≡ p.0) × Arrives p.1 (world r i) e l)

-- the rounds below it have begun
abbrev pub begun : ℕ → Stage → ℕ
begun n unopened = 0
begun n awaiting = n
begun n (running r d) = suc r

-- box B has stated a value in round 0 of the epoch
abbrev pub Entered : {X : Type 0} → Box X → ℕ → Type 0
Entered B e = (u : Bool) × Board B (value e 0 u)

-- a value is stated in a round that has begun, of an epoch that is open
abbrev pub Begun : {X : Type 0} → ℕ → Box X → Cell → Type 0
Begun n B (at_send s) = Unit {0}
Begun n B (at_echo q s) = Unit {0}
Begun n B (at_ready q s) = Unit {0}
Begun n B (at_have q s) = Unit {0}
Begun n B (at_value e k v) = (k < begun n B.stage) × Entered B e
Begun n B (at_seen e k) = Unit {0}
Begun n B (at_confirm e k) = Unit {0}
Begun n B (at_finish e) = Unit {0}

module _ {X : Type 0} (R : Rule X) where
  -- what box B needs for a small step, where Sd j s is that box j has stated s
  abbrev pub Allowed : (ℕ → Stmt X → Type 0) → Box X → Small X → Type 0
  Allowed Sd B (says s) = (own B (cell s) ≡ None) × Due R (Holds B) s × Current B.epoch (cell s) × Used R.plan.size R.plan.width B.epoch (cell s) × Begun R.plan.rounds B (cell s)
  Allowed Sd B (hears j s) = (j ≡ B.me → ⊥) × (B.mem j (cell s) ≡ None) × (Honest (boxes R) j → Sd j s)
  Allowed Sd B (stays g) = g ≡ awaiting → Decided R (Holds B) B.epoch true
  Allowed Sd B (enters e v) = (e ≡ B.epoch) × ((u : Bool) → own B (at_value e 0 u) ≡ None) × (v ≡ true → Finds R (Holds B) B.me B.epoch B.ledger)
  Allowed Sd B (leaves m) = Passes R (Holds B) B.me B.epoch B.ledger m × ((v : Bool) × Board B (finish B.epoch v))

  abbrev pub Lawful : Run X → Type 0
  Lawful [] = Unit {0}
  Lawful (p ∷ r) = Lawful r × Honest (boxes R) p.0 × Allowed (Said (log r)) (world r p.0) p.1
