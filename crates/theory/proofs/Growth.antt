-- What is due, decided or passed stays so as more is stated.
use Rattle.std.proofs.Common.{ℕ, zero, suc, Bool, ◌⊎◌, inl, inr}
use Rattle.theory.specs.Count.{Honest}
use Rattle.theory.specs.Statement.{Stmt, sends, echo, ready, have, value, seen, confirm, finish}
use Rattle.theory.specs.Plan.{Rule, boxes}
use Rattle.theory.specs.History.{Say, Next, Locked, Due}
use Rattle.theory.specs.Book.{Ledger}
use Rattle.theory.proofs.Passing.{Finds, Passes}
use Rattle.theory.proofs.Counting.{weaken}

module _ {X : Type 0} (R : Rule X) (Said More : ℕ → Stmt X → Type 0) (grows : (i : ℕ) → Honest (boxes R) i → (s : Stmt X) → Said i s → More i s) where
  pub say_grows : (k : ℕ) (s : Stmt X) → Say R Said k s → Say R More k s
  say_grows k s o = weaken (λ i is said. grows i is s said) o

  pub next_grows : (e k : ℕ) (v : Bool) → Next R Said e k v → Next R More e k v
  next_grows e k v (inl o) = inl (say_grows _ _ o)
  next_grows e k v (inr p) = inr (p.0, say_grows _ _ p.1)

  pub locked_grows : (e : ℕ) (v : Bool) → (k : ℕ) × Locked R Said e k v → (k : ℕ) × Locked R More e k v
  locked_grows e v l = (l.0, (l.1.0, say_grows _ _ l.1.1))

  or_says : {A C : Type 0} (k : ℕ) (s : Stmt X) → (A → C) → A ⊎ Say R Said k s → C ⊎ Say R More k s
  or_says k s f (inl a) = inl (f a)
  or_says k s f (inr o) = inr (say_grows k s o)

  pub due_grows : (s : Stmt X) → Due R Said s → Due R More s
  due_grows (sends s x) d = tt
  due_grows (echo q s x) d = λ is. grows q is (sends s x) (d is)
  due_grows (ready q s x) d = or_says _ _ (say_grows _ _) d
  due_grows (have q s x) d = or_says _ _ (say_grows _ _) d
  due_grows (value e zero v) d = say_grows _ _ d
  due_grows (value e (suc k) v) d = or_says _ _ (next_grows e k v) d
  due_grows (seen e k v) d = say_grows _ _ d
  due_grows (confirm e k u) d = λ v is. say_grows _ _ (d v is)
  due_grows (finish e v) d = or_says _ _ (locked_grows e v) d

  abbrev pub finds_grows : (i e : ℕ) (l : Ledger X) → Honest (boxes R) i → Finds R Said i e l → Finds R More i e l
  finds_grows i e l is c = record { kept = c.kept; stated = λ s x k. grows i is _ (c.stated s x k); found = c.found; first = c.first }

  pub passes_grows : (i e : ℕ) (l m : Ledger X) → Honest (boxes R) i → Passes R Said i e l m → Passes R More i e l m
  passes_grows i e l m is (inl c) = inl (say_grows _ _ c.0, c.1)
  passes_grows i e l m is (inr c) = inr (record { decided = say_grows _ _ c.decided; finds = finds_grows i e l is c.finds; result = c.result })
