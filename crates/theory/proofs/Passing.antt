-- How the ledgers of honest boxes go from one epoch to the next.
use Rattle.std.proofs.Common.{◌≡◌, ℕ, suc, true, false, ◌⊎◌, Some, Option}
use Rattle.theory.specs.Count.{Honest}
use Rattle.theory.specs.Statement.{Stmt, have}
use Rattle.theory.specs.Plan.{Rule, boxes, sameness}
use Rattle.theory.specs.History.{Decided}
use Rattle.theory.specs.Book.{Ledger, candidate, empty, write}

module _ {X : Type 0} (R : Rule X) (Said : ℕ → Stmt X → Type 0) where
  -- box i, with ledger l, has a candidate in epoch e, of what it has stated that it has
  pub record Finds (i e : ℕ) (l : Ledger X) : Type 0 where
    pub kept : ℕ → Option X
    pub stated : (s : ℕ) (x : X) → kept s ≡ Some x → Said i (have (R.plan.queue e) s x)
    pub found : ℕ × X
    pub first : candidate (sameness R.plan) R.plan.width l.book (l.heads (R.plan.queue e)) kept ≡ Some found

  -- box i writes the page of epoch e
  pub record Writes (i e : ℕ) (l m : Ledger X) : Type 0 where
    pub decided : Decided R Said e true
    pub finds : Finds i e l
    pub result : m ≡ write e (R.plan.queue e) finds.found l

  -- box i leaves epoch e
  abbrev pub Passes : ℕ → ℕ → Ledger X → Ledger X → Type 0
  Passes i e l m = (Decided R Said e false × (m ≡ l)) ⊎ Writes i e l m

  -- At i e l: box i began epoch e with ledger l
  pub record Ledgers (At : ℕ → ℕ → Ledger X → Type 0) : Type 0 where
    pub start : (i : ℕ) → Honest (boxes R) i → (l : Ledger X) → At i 0 l → l ≡ empty
    pub step : (i : ℕ) → Honest (boxes R) i → (e : ℕ) (m : Ledger X) → At i (suc e) m → (l : Ledger X) × (At i e l × Passes i e l m)
