-- A group of replicas, each with its own tables, and what calls make of them.
use Rattle.std.specs.Prelude.{ℕ, Bool, List, map, Some, None, Option, Result, slice_get, slice_set}
use Rattle.common.specs.Refusals.{declined}
use Rattle.common.specs.declared.refusal.Refusal.TheVariants as refusals
use Rattle.replica.specs.Store.{store}
use Rattle.promises.specs.Runs.{Kind, Call, State, call_of}
use Rattle.group.specs.declared.member.Member.{Member}
use Rattle.group.specs.declared.member.Group as declared

-- the replicas and their tables, by their numbers
abbrev pub Group : Type 0
Group = List State

abbrev pub state_of : {K : Type 0} → (K → List ℕ) → Member K → State
state_of bytes x = (x.replica, store bytes x.tables)

abbrev pub group_of : {K C : Type 0} → (K → List ℕ) → declared.Group K C → Group
group_of bytes g = map (state_of bytes) g.members.items

-- a call at the replica that stands at a place, if there is one: its answer, and the group with that replica as the call leaves it
abbrev pub called_on : Kind → (ℕ → ℕ → Bool) → Group → ℕ → Call → Option State → Result ℕ ℕ × Group
called_on K coin g i c None = (declined refusals.Sender, g)
called_on K coin g i c (Some p) = let r = call_of K coin p.0 p.1 c in (r.0, slice_set g i (r.1, r.2))

abbrev pub called : Kind → (ℕ → ℕ → Bool) → Group → ℕ → Call → Result ℕ ℕ × Group
called K coin g i c = called_on K coin g i c (slice_get g i)
