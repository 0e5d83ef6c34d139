-- A replica and its lent tables as a box of the theory: its memory of cells, and its ledger.
use Rattle.std.specs.Prelude.{ℕ, ◌%◌, Bool, cond, ◌&&◌, List, [], ◌∷◌, take, Some, None, Option, ◌==◌, nat_lt, slice_index, slice_index_or}
use mathlib.Core.List.{List-discrete}
use Rattle.std.proofs.Math.Decide.{ℕ_discrete}
use Rattle.std.specs.Option.{option_map}
use Rattle.common.specs.Limits.{epochs, rounds}
use Rattle.theory.specs.Statement.{Stmt, sends, echo, ready, have, value, seen, confirm, finish, at_send, at_echo, at_ready, at_have, at_value, at_seen, at_confirm, at_finish, decided}
use Rattle.theory.specs.Plan.{Plan}
use Rattle.theory.specs.Book.{Page}
use Rattle.theory.specs.Machine.{Mem, Stage, unopened, awaiting, running, Box}
use Rattle.votes.specs.declared.marks.Marks.{Marks}
use Rattle.votes.specs.declared.ballot.Round.{Round}
use Rattle.votes.specs.Votes.{no_round, marks, bit_of, set_for}
use Rattle.cells.specs.Rows.{Cells, slot_of, place_of}
use Rattle.replica.specs.declared.state.Replica.{Replica}
use Rattle.replica.specs.declared.state.Stage as declared
use Rattle.replica.specs.declared.state.Stage.TheVariants.{Unopened, Open, Awaiting}
use Rattle.replica.specs.Store.{Store}
use Rattle.replica.specs.Finishing.{past_of}

-- what there is, where the test holds
abbrev pub held : {A : Type 0} → Bool → Option A → Option A
held b o = cond b o None

-- sender j's statement of an entry, which st makes, in the row of slot s of queue q
abbrev pub row_cell : ℕ → ℕ → Cells → (List ℕ → Stmt (List ℕ)) → ℕ → ℕ → ℕ → Option (Stmt (List ℕ))
row_cell n w cells st q s j = held (nat_lt j n && (nat_lt q n && nat_lt s w)) (option_map st (slice_index_or cells (place_of n w q s j) None))

-- the vote that read finds in round k, if the epoch is the current one, and of the week
abbrev pub vote_cell : {A : Type 0} → Replica → (Round → Option A) → (A → Stmt (List ℕ)) → ℕ → ℕ → ℕ → Option (Stmt (List ℕ))
vote_cell m read st e k j = held (nat_lt j m.set.n && (nat_lt k rounds && (nat_lt e epochs && e == m.epoch))) (option_map st (read (slice_index_or m.votes.rounds k no_round)))

-- a value has a cell of its own for each bit
abbrev pub value_in : Bool → ℕ → Marks → Option Bool
value_in v j p = held (marks p v j) (Some v)

-- the current finish, and the own one of an epoch that was left
abbrev pub finish_cell : Replica → ℕ → ℕ → Option (Stmt (List ℕ))
finish_cell m e j = option_map (finish e) (held (nat_lt j m.set.n && nat_lt e epochs) (cond (e == m.epoch) (bit_of m.votes.finish j) (held (j == m.set.me && nat_lt e m.epoch) (past_of m e))))

-- what is held of sender j in a cell
abbrev pub view : Replica → Store → Mem (List ℕ)
view m t j (at_send s) = held (nat_lt j m.set.n && nat_lt s m.set.w) (option_map (sends s) (slice_index_or t.sends (slot_of m.set.w j s) None))
view m t j (at_echo q s) = row_cell m.set.n m.set.w t.echoes (echo q s) q s j
view m t j (at_ready q s) = row_cell m.set.n m.set.w t.readies (ready q s) q s j
view m t j (at_have q s) = row_cell m.set.n m.set.w t.haves (have q s) q s j
view m t j (at_value e k v) = vote_cell m (λ r. value_in v j r.values) (value e k) e k j
view m t j (at_seen e k) = vote_cell m (λ r. bit_of r.seens j) (seen e k) e k j
view m t j (at_confirm e k) = vote_cell m (λ r. set_for r.confirms j) (confirm e k) e k j
view m t j (at_finish e) = finish_cell m e j

abbrev pub bytes_same : Discrete (List ℕ)
bytes_same = List-discrete ℕ_discrete

-- whether two byte strings are equal
abbrev pub same_bytes : List ℕ → List ℕ → Bool
same_bytes x y = decided (bytes_same x y)

-- the terms that a replica goes by
abbrev pub plan : Replica → Plan (List ℕ)
plan m = record {
  size = m.set.n;
  faults = m.set.f;
  quorum = m.set.q;
  width = m.set.w;
  epochs = epochs;
  rounds = rounds;
  queue = λ e. e % m.set.n;
  eq = bytes_same;
}

-- pages up to the first empty cell
abbrev pub leading : {A : Type 0} → List (Option A) → List A
leading [] = []
leading (None ∷ ps) = []
leading (Some p ∷ ps) = p ∷ leading ps

-- the book: as many pages as the replica counts
abbrev pub book_of : Replica → Store → List (Page (List ℕ))
book_of m t = leading (take m.pages t.pages)

abbrev pub stage_of : declared.Stage → Stage
stage_of Unopened = unopened
stage_of (Open r d) = running r d
stage_of Awaiting = awaiting

abbrev pub box : Replica → Store → Box (List ℕ)
box m t = record {
  me = m.set.me;
  epoch = m.epoch;
  stage = stage_of m.stage;
  mem = view m t;
  ledger = record { book = book_of m t; heads = λ q. slice_index m.heads q };
}
