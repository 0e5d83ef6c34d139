-- What is changed where a statement is held, and what is told where something is held already.
use Rattle.std.specs.Prelude.{◌≡◌, ℕ, Bool, true, false, cond, List, length, Some, None, Ok, Option, Result, slice_index_or, slice_set}
use Rattle.common.specs.Limits.{rounds}
use Rattle.common.specs.Refusals.{declined}
use Rattle.common.specs.declared.refusal.Refusal.TheVariants.{Held, Other}
use Rattle.theory.specs.Statement.{Stmt, sends, echo, ready, have, value, seen, confirm, finish, StmtEq, cell, decided}
use Rattle.theory.specs.Machine.{small, hears}
use Rattle.votes.specs.declared.marks.Marks.{Marks}
use Rattle.votes.specs.declared.ballot.Round.{Round}
use Rattle.votes.specs.declared.ballot.Votes.{Votes}
use Rattle.votes.specs.Sets.{in_set}
use Rattle.votes.specs.Votes.{no_round, mark, with_set}
use Rattle.cells.specs.Rows.{Cells, slot_of, place_of}
use Rattle.replica.specs.declared.state.Replica.{Replica}
use Rattle.replica.specs.Store.{Store}
use Rattle.replica.specs.View.{view, box, bytes_same}

-- it is held already: the same, or another
abbrev pub taken_of : Bool → Result (Unit {0}) ℕ
taken_of same = cond same (declined Held) (declined Other)

-- whether x fits where one can be held, which a test tells from others
abbrev pub settled_by : {A : Type 0} → (A → A → Bool) → Option A → A → Result (Unit {0}) ℕ
settled_by eq None x = Ok tt
settled_by eq (Some y) x = taken_of (eq y x)

abbrev pub settled : {A : Type 0} → Discrete A → Option A → A → Result (Unit {0}) ℕ
settled d = settled_by (λ y x. decided (d y x))

-- whether sender j's cell for the statement is free
abbrev pub vacant_of : Replica → Store → ℕ → Stmt (List ℕ) → Result (Unit {0}) ℕ
vacant_of m t j st = settled (StmtEq bytes_same) (view m t j (cell st)) st

-- There are votes for each round: a fact of the array's type, which these definitions see as a list.
pub record Sized (m : Replica) : Type 0 where
  pub long : length m.votes.rounds ≡ rounds

abbrev pub with_sends : Store → Cells → Store
with_sends t c = record { sends = c; echoes = t.echoes; readies = t.readies; haves = t.haves; pages = t.pages }

abbrev pub with_echoes : Store → Cells → Store
with_echoes t c = record { sends = t.sends; echoes = c; readies = t.readies; haves = t.haves; pages = t.pages }

abbrev pub with_readies : Store → Cells → Store
with_readies t c = record { sends = t.sends; echoes = t.echoes; readies = c; haves = t.haves; pages = t.pages }

abbrev pub with_haves : Store → Cells → Store
with_haves t c = record { sends = t.sends; echoes = t.echoes; readies = t.readies; haves = c; pages = t.pages }

abbrev pub with_votes : Replica → Votes → Replica
with_votes m v = record { set = m.set; epoch = m.epoch; stage = m.stage; votes = v; past = m.past; heads = m.heads; pages = m.pages }

abbrev pub with_rounds : Votes → List Round → Votes
with_rounds v r = record { rounds = r; finish = v.finish }

abbrev pub with_finish : Votes → Marks → Votes
with_finish v p = record { rounds = v.rounds; finish = p }

-- a round in which the values, the seens or the confirms are marked as well
abbrev pub values_marked : (Marks → Marks) → Round → Round
values_marked f r = record { values = f r.values; seens = r.seens; confirms = r.confirms }

abbrev pub seens_marked : (Marks → Marks) → Round → Round
seens_marked f r = record { values = r.values; seens = f r.seens; confirms = r.confirms }

abbrev pub confirms_marked : (Marks → Marks) → Round → Round
confirms_marked f r = record { values = r.values; seens = r.seens; confirms = f r.confirms }

-- an entry is held at a place; round k is marked as well
abbrev pub entered : Cells → ℕ → List ℕ → Cells
entered cells at x = slice_set cells at (Some x)

abbrev pub round_marked : Votes → ℕ → (Round → Round) → Votes
round_marked v k f = with_rounds v (slice_set v.rounds k (f (slice_index_or v.rounds k no_round)))

-- sender j's statement is held: one cell is filled, and no other is altered
abbrev pub held_of : Replica → Store → ℕ → Stmt (List ℕ) → Replica × Store
held_of m t j (sends s x) = (m, with_sends t (entered t.sends (slot_of m.set.w j s) x))
held_of m t j (echo q s x) = (m, with_echoes t (entered t.echoes (place_of m.set.n m.set.w q s j) x))
held_of m t j (ready q s x) = (m, with_readies t (entered t.readies (place_of m.set.n m.set.w q s j) x))
held_of m t j (have q s x) = (m, with_haves t (entered t.haves (place_of m.set.n m.set.w q s j) x))
held_of m t j (value e k v) = (with_votes m (round_marked m.votes k (values_marked (λ p. mark p v j))), t)
held_of m t j (seen e k v) = (with_votes m (round_marked m.votes k (seens_marked (λ p. mark p v j))), t)
held_of m t j (confirm e k u) = (with_votes m (round_marked m.votes k (confirms_marked (λ p. with_set p (in_set u false) (in_set u true) j))), t)
held_of m t j (finish e v) = (with_votes m (with_finish m.votes (mark m.votes.finish v j)), t)

-- In the theory's words: where the cell was free, the box has heard the statement.
pub record Heard (m : Replica) (t : Store) (j : ℕ) (st : Stmt (List ℕ)) (after : Replica) (left : Store) : Type 0 where
  pub hears : Sized m → view m t j (cell st) ≡ None → (box after left ≡ small (hears j st) (box m t)) × Sized after
