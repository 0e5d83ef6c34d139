use Rattle.std.proofs.Common.{◌≡◌, ℕ, List, None, Option}
use Rattle.theory.specs.Statement.{Stmt}
use Rattle.theory.specs.Search.{first}
use Rattle.dues.specs.Slots.{Finds}
use Rattle.dues.proofs.slots.first_slot.Given as goal

-- nothing is found in the queues before q
abbrev Passed : ℕ → (ℕ → ℕ → Option (Stmt (List ℕ))) → ℕ → Type 0
Passed w at q = first q (λ k. first w (at k)) ≡ None

abbrev pub invariant-loop-queue : goal.invariant-loop-queue
invariant-loop-queue g l = (st : ℕ → ℕ → List ℕ → Stmt (List ℕ)) (at : ℕ → ℕ → Option (Stmt (List ℕ))) → Finds l.fn.set.n l.fn.set.w g.K.Entry.bytes (λ q s r. g.F.Fn.post l.fn.due (q, (s, tt)) r) st at → Passed l.fn.set.w at l.queue

abbrev pub invariant-loop-slot : goal.invariant-loop-slot
invariant-loop-slot g l = (st : ℕ → ℕ → List ℕ → Stmt (List ℕ)) (at : ℕ → ℕ → Option (Stmt (List ℕ))) → Finds l.fn.set.n l.fn.set.w g.K.Entry.bytes (λ q s r. g.F.Fn.post l.fn.due (q, (s, tt)) r) st at → Passed l.fn.set.w at l.queue × (first l.slot (at l.queue) ≡ None)
