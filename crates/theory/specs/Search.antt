-- Searches that the turns are made of. They stay shut, but where a lemma on searches opens them, so that proofs of the
-- turns go by those lemmas; the library's own are always open.
use Rattle.std.specs.Prelude.{ℕ, zero, suc, Bool, true, false, Some, None, Option}
use Rattle.theory.specs.Statement.{Stmt, entry_stated}

module _ {A : Type 0} where
  unfoldable pub or_else : Option A → Option A → Option A
  or_else (Some a) o = Some a
  or_else None o = o

  -- of g 0 to g (n - 1) the first that there is
  unfoldable pub first : ℕ → (ℕ → Option A) → Option A
  first zero g = None
  first (suc n) g = or_else (first n g) (g n)

  -- bit 0 before bit 1
  unfoldable pub bits : (Bool → Option A) → Option A
  bits g = or_else (g false) (g true)

  unfoldable pub only_if : Bool → Option A → Option A
  only_if true o = o
  only_if false o = None

  unfoldable pub guard : Bool → A → Option A
  guard true a = Some a
  guard false a = None

module _ {X A : Type 0} where
  -- only where nothing stands; only where something stands
  unfoldable pub unless : Option X → Option A → Option A
  unless None o = o
  unless (Some t) o = None

  unfoldable pub given : Option X → Option A → Option A
  given None o = None
  given (Some t) o = o

  unfoldable pub bind : Option X → (X → Option A) → Option A
  bind None g = None
  bind (Some x) g = g x

  unfoldable pub map : (X → A) → Option X → Option A
  map f None = None
  map f (Some x) = Some (f x)

-- the entry in a cell
unfoldable pub entry : {X : Type 0} → Option (Stmt X) → Option X
entry None = None
entry (Some t) = entry_stated t

abbrev pub absent : {A : Type 0} → Option A → Bool
absent None = true
absent (Some t) = false
