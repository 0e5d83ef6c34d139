-- What the turns and calls make of a box, in words: what it then holds, and its epoch, stage and ledger.
use Rattle.std.specs.Prelude.{◌≡◌, ℕ, suc, ◌<◌, ◌≤◌, Bool, true, false, ◌⊎◌, [], ◌∷◌, ◌++◌, ◌≢◌}
use Rattle.theory.specs.Statement.{Stmt, sends, echo, ready, have, value, seen, confirm, finish}
use Rattle.theory.specs.Plan.{Plan}
use Rattle.theory.specs.Machine.{Stage, unopened, awaiting, running, Box, Holds}

-- each gives the other
abbrev pub Iff : Type 0 → Type 0 → Type 0
Iff A C = (A → C) × (C → A)

-- what was held, and s from box i
abbrev pub More : {X : Type 0} → (ℕ → Stmt X → Type 0) → ℕ → Stmt X → ℕ → Stmt X → Type 0
More held i s j t = held j t ⊎ ((j ≡ i) × (t ≡ s))

module _ {X : Type 0} (P : Plan X) (B : Box X) where
  -- box B has become C, which holds just this and is in this epoch and stage
  pub record Becomes (holding : ℕ → Stmt X → Type 0) (e : ℕ) (g : Stage) (C : Box X) : Type 0 where
    pub me : C.me ≡ B.me
    pub epoch : C.epoch ≡ e
    pub stage : C.stage ≡ g
    pub holds : (j : ℕ) (t : Stmt X) → Iff (Holds C j t) (holding j t)

  -- it holds s from box j as well, and nothing else is altered
  abbrev pub Gains : ℕ → Stmt X → Box X → Type 0
  Gains j s C = Becomes (More (Holds B) j s) B.epoch B.stage C × (C.ledger ≡ B.ledger)

  -- what leaving an epoch does not drop: entries, and the own Finish
  abbrev pub Lasting : ℕ → Stmt X → Type 0
  Lasting j (sends s x) = Holds B j (sends s x)
  Lasting j (echo q s x) = Holds B j (echo q s x)
  Lasting j (ready q s x) = Holds B j (ready q s x)
  Lasting j (have q s x) = Holds B j (have q s x)
  Lasting j (value e k v) = ⊥
  Lasting j (seen e k v) = ⊥
  Lasting j (confirm e k u) = ⊥
  Lasting j (finish e v) = Holds B j (finish e v) × (j ≡ B.me)

  -- the epoch is left: the next begins, not open
  abbrev pub Leaves : Box X → Type 0
  Leaves C = Becomes Lasting (suc B.epoch) unopened C

  -- bit 0 leaves the epoch, bit 1 makes it await its page
  abbrev pub Decides : Bool → Box X → Type 0
  Decides false C = Leaves C × (C.ledger ≡ B.ledger)
  Decides true C = Becomes (Holds B) B.epoch awaiting C × (C.ledger ≡ B.ledger)

  -- slot s with entry x is the next page, the head of the queue is s + 1, and other heads stay
  pub record Pages (s : ℕ) (x : X) (C : Box X) : Type 0 where
    pub book : C.ledger.book ≡ B.ledger.book ++ (record { epoch = B.epoch; queue = P.queue B.epoch; slot = s; entry = x } ∷ [])
    pub head : C.ledger.heads (P.queue B.epoch) ≡ suc s
    pub heads : (q : ℕ) → (q ≢ P.queue B.epoch) → C.ledger.heads q ≡ B.ledger.heads q

  -- with a Finish, or without
  abbrev pub Finishing : Bool → Bool → (ℕ → Stmt X → Type 0) → ℕ → Stmt X → Type 0
  Finishing true v held = More held B.me (finish B.epoch v)
  Finishing false v held = held

  -- round r + 1 begins with the Value of the next bit; the last round is closed for good
  abbrev pub Closes : ℕ → Bool → Bool → Box X → Type 0
  Closes r next finishes C =
      (((suc r < P.rounds) × Becomes (Finishing finishes next (More (Holds B) B.me (value B.epoch (suc r) next))) B.epoch (running (suc r) false) C)
      ⊎ ((P.rounds ≤ suc r) × Becomes (Finishing finishes next (Holds B)) B.epoch (running r true) C))
      × (C.ledger ≡ B.ledger)

  -- round 0 begins with the Value of the bit
  abbrev pub BeginsWith : Bool → Box X → Type 0
  BeginsWith v C = Becomes (More (Holds B) B.me (value B.epoch 0 v)) B.epoch (running 0 false) C × (C.ledger ≡ B.ledger)
