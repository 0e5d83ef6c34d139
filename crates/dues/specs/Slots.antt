-- What is due for a queue's slot.
use Rattle.std.specs.Prelude.{◌≡◌, ℕ, ◌+◌, ◌<◌, List, Some, None, Option, slice_index_or}
use Rattle.std.specs.Option.{option_map}
use Rattle.std.specs.declared.cmp.PartialEq as equal
use Rattle.entry.specs.declared.kind.Entry as kind
use Rattle.theory.specs.Statement.{Stmt}
use Rattle.theory.specs.Plan.{Plan}
use Rattle.theory.specs.Machine.{Box}
use Rattle.theory.specs.Search.{or_else}
use Rattle.theory.specs.Turns.{each_slot}
use Rattle.cells.specs.Rows.{Cells, part, row_of, place_of, lowest_in}
use Rattle.replica.specs.declared.fitted.Fitted.{Fitted}
use Rattle.replica.specs.declared.set.Set.{Set}
use Rattle.replica.specs.Fitting.{plan_of, box_of}
use Rattle.dues.specs.declared.due.Due.{Due}

-- what is due is of a slot of a queue, and how st states it
abbrev pub Inside : {K : Type 0} → Set → Due K → Type 0
Inside set d = (d.queue < set.n) × (d.slot < set.w)

abbrev pub due_as : {K : Type 0} → (K → List ℕ) → (ℕ → ℕ → List ℕ → Stmt (List ℕ)) → Due K → Stmt (List ℕ)
due_as bytes st d = st d.queue d.slot (bytes d.item)

-- the first that a rule finds, lowest queue first
abbrev pub first_due : {K : Type 0} {e : kind.Ghosts K} {p : equal.Ghosts K} → (Plan (List ℕ) → Box (List ℕ) → ℕ → ℕ → Option (Stmt (List ℕ))) → Fitted K e p → Option (Stmt (List ℕ))
first_due rule l = each_slot (plan_of l) (box_of l) (rule (plan_of l) (box_of l))

-- what is found for each slot is what at tells of it, as st states it
abbrev pub Finds : {K : Type 0} → ℕ → ℕ → (K → List ℕ) → (ℕ → ℕ → Option K → Type 0) → (ℕ → ℕ → List ℕ → Stmt (List ℕ)) → (ℕ → ℕ → Option (Stmt (List ℕ))) → Type 0
Finds {K} n w bytes found st at = (q s : ℕ) (r : Option K) → q < n → s < w → found q s r → option_map (λ x. st q s (bytes x)) r ≡ at q s

-- only where nothing is stated
abbrev pub unstated : Option (List ℕ) → Option (List ℕ) → Option (List ℕ)
unstated None o = o
unstated (Some x) o = None

-- where nothing is stated, the lowest sender's entry that enough have stated in another table, or f + 1 in this one
abbrev pub vouched_of : Set → ℕ → ℕ → Cells → Cells → ℕ → Option (List ℕ)
vouched_of set q s stated heard enough =
    unstated (slice_index_or stated (place_of set.n set.w q s set.me) None)
    (or_else (lowest_in enough (part (row_of set.n set.w q s) set.n heard)) (lowest_in (set.f + 1) (part (row_of set.n set.w q s) set.n stated)))
