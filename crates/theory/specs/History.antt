-- Histories: who has stated what. An honest box states one thing a cell, and each with its reason.
use Rattle.std.specs.Prelude.{◌≡◌, ℕ, zero, suc, ◌<◌, Bool, ◌⊎◌, List, [], ◌∷◌, ◌≢◌}
use Rattle.theory.specs.Count.{Honest, Of, Somebody}
use Rattle.theory.specs.Statement.{only, In, Stmt, sends, echo, ready, have, value, seen, confirm, finish, cell}
use Rattle.theory.specs.Plan.{Rule, boxes, some_honest, most, all_honest}

module _ {X : Type 0} (R : Rule X) (Said : ℕ → Stmt X → Type 0) where
  -- k boxes and more, of which the honest have stated st
  abbrev pub Say : ℕ → Stmt X → Type 0
  Say k st = Of (boxes R) k (λ i. Said i st)

  -- the bit is among the values of round k
  abbrev pub Supported : ℕ → ℕ → Bool → Type 0
  Supported e k v = Say (most R.plan) (value e k v)

  -- N - f have confirmed the bit alone
  abbrev pub Confirmed : ℕ → ℕ → Bool → Type 0
  Confirmed e k v = Say (all_honest R.plan) (confirm e k (only v))

  -- the bit that a round goes on with: confirmed alone, or else the toss
  abbrev pub Next : ℕ → ℕ → Bool → Type 0
  Next e k v = Confirmed e k v ⊎ ((v ≡ R.coin e k) × Supported e k v)

  -- confirmed alone in a round whose toss it is
  abbrev pub Locked : ℕ → ℕ → Bool → Type 0
  Locked e k v = (R.coin e k ≡ v) × Confirmed e k v

  abbrev pub Decided : ℕ → Bool → Type 0
  Decided e v = Say (most R.plan) (finish e v)

  -- what a box has before it when it states st: the rule's reason, or f + 1 who have stated the same; a Send is its own
  abbrev pub Due : Stmt X → Type 0
  Due (sends s x) = Unit {0}
  Due (echo q s x) = Honest (boxes R) q → Said q (sends s x)
  Due (ready q s x) = Say R.plan.quorum (echo q s x) ⊎ Say (some_honest R.plan) (ready q s x)
  Due (have q s x) = Say (most R.plan) (ready q s x) ⊎ Say (some_honest R.plan) (have q s x)
  Due (value e zero v) = Say (some_honest R.plan) (value e 0 v)
  Due (value e (suc k) v) = Next e k v ⊎ Say (some_honest R.plan) (value e (suc k) v)
  Due (seen e k v) = Supported e k v
  Due (confirm e k u) = (v : Bool) → In v u → Supported e k v
  Due (finish e v) = ((k : ℕ) × Locked e k v) ⊎ Say (some_honest R.plan) (finish e v)

module _ {X : Type 0} (Said : ℕ → Stmt X → Type 0) where
  -- box i has stated no value in round 0 of epoch e
  abbrev pub Unopened : ℕ → ℕ → Type 0
  Unopened i e = (u : Bool) → Said i (value e 0 u) → ⊥

  -- the first value in round 0 opens an epoch, and needs no reason
  abbrev pub Opens : ℕ → Stmt X → Type 0
  Opens i (sends s x) = ⊥
  Opens i (echo q s x) = ⊥
  Opens i (ready q s x) = ⊥
  Opens i (have q s x) = ⊥
  Opens i (value e zero v) = Unopened i e
  Opens i (value e (suc k) v) = ⊥
  Opens i (seen e k v) = ⊥
  Opens i (confirm e k u) = ⊥
  Opens i (finish e v) = ⊥

-- who stated what, the latest first
abbrev pub Log : Type 0 → Type 0
Log X = List (ℕ × Stmt X)

abbrev pub Said : {X : Type 0} → Log X → ℕ → Stmt X → Type 0
Said [] i s = ⊥
Said (p ∷ r) i s = Said r i s ⊎ ((i ≡ p.0) × (s ≡ p.1))

-- v is the bit that box i opened epoch e with
abbrev pub Opened : {X : Type 0} → Log X → ℕ → ℕ → Bool → Type 0
Opened [] i e v = ⊥
Opened (p ∷ r) i e v = Opened r i e v ⊎ ((i ≡ p.0) × (value e 0 v ≡ p.1) × Unopened (Said r) i e)

-- an honest box fills no cell twice, and states only what is due or opens an epoch; a faulty one states anything
abbrev pub Legal : {X : Type 0} → Rule X → Log X → Type 0
Legal R [] = Unit {0}
Legal R (p ∷ r) = Legal R r × (Honest (boxes R) p.0 → ((s : Stmt _) → Said r p.0 s → cell s ≢ cell p.1) × (Due R (Said r) p.1 ⊎ Opens (Said r) p.0 p.1))

-- what is true of every legal history
module _ {X : Type 0} (R : Rule X) (r : Log X) where
  -- box i has stated that it is ready for the entry, or has it
  abbrev pub Vouches : ℕ → ℕ → ℕ → X → Type 0
  Vouches i q s x = Said r i (ready q s x) ⊎ Said r i (have q s x)

  pub record Agrees : Type 0 where
    pub vouched : (i j q s : ℕ) (x y : X) → Honest (boxes R) i → Honest (boxes R) j → Vouches i q s x → Vouches j q s y → x ≡ y
    pub sent : (i q s : ℕ) (x : X) → Honest (boxes R) i → Honest (boxes R) q → Said r i (have q s x) → Said r q (sends s x)
    pub locked : (e n k i : ℕ) (u v : Bool) → Locked R (Said r) e n v → n < k → Honest (boxes R) i → Said r i (value e k u) → u ≡ v
    pub finished : (i j e : ℕ) (u v : Bool) → Honest (boxes R) i → Honest (boxes R) j → Said r i (finish e u) → Said r j (finish e v) → u ≡ v
    pub decided : (e : ℕ) (u v : Bool) → Decided R (Said r) e u → Decided R (Said r) e v → u ≡ v
    pub opened : (e : ℕ) (v : Bool) → Decided R (Said r) e v → Somebody (boxes R) (λ i. Opened r i e v)

abbrev pub Agreement : Type 0 → Type 0
Agreement X = (R : Rule X) (r : Log X) → Legal R r → Agrees R r
