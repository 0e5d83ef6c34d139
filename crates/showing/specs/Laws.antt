-- What the board and show promise.
use Rattle.std.specs.Prelude.{◌≡◌, ℕ, ◌<◌, ◌≤◌, true, List, [], ◌∷◌, ◌++◌, map, length, take, drop, replicate, None, Ok, slice_index_or, slice_range}
use Rattle.std.specs.List.{ContainsAt, AllByRecursion}
use Rattle.theory.specs.Statement.{Stmt}
use Rattle.theory.specs.Machine.{Board}
use Rattle.wire.specs.Codec.{parse_of}
use Rattle.wire.specs.Frames.{walk_of, joined, Handed}
use Rattle.replica.specs.declared.state.Replica.{Replica}
use Rattle.replica.specs.Store.{Store, fits}
use Rattle.replica.specs.View.{box}
use Rattle.showing.specs.Boards.{board_of}
use Rattle.showing.specs.Spoken.{spoken, spelled}
use Rattle.showing.specs.Showing.{show_of}

-- the bytes of the statements from one number up to another, each by itself
abbrev pub parts : Replica → Store → ℕ → ℕ → List (List ℕ)
parts m t number next = map spelled (slice_range (board_of m t) number next)

-- the output has room for each statement by itself
abbrev pub Roomy : Replica → Store → List ℕ → Type 0
Roomy m t out = AllByRecursion (λ s. length (spelled s) ≤ length out) (board_of m t)

-- a call of show that answers k bytes and the next number, and leaves the output as after: it gets on unless
-- it is at the end, it has written just the statements in between, whole, and a walk over them with next finds
-- these and nothing else
pub record Step (w : ℕ) (m : Replica) (t : Store) (number : ℕ) (out : List ℕ) (k next : ℕ) (after : List ℕ) : Type 0 where
  pub onward : number < length (board_of m t) → number < next
  pub from : number ≤ next
  pub within : next ≤ length (board_of m t)
  pub room : k ≤ length out
  pub bytes : take k after ≡ joined (parts m t number next)
  pub rest : drop k after ≡ drop k out
  pub walk : walk_of w (take k after) ≡ record { found = parts m t number next; stop = None }
  pub handed : Handed w (take k after) 0 (parts m t number next)

-- calls with these outputs, each from the number where the one before ended: what they write, one behind the
-- other, and the number where the last one ends
abbrev pub Wrote : Replica → Store → ℕ → List (List ℕ) → List ℕ → ℕ → Type 0
Wrote m t number [] bs end = (bs ≡ []) × (number ≡ end)
Wrote m t number (out ∷ outs) bs end =
    (k : ℕ) × (next : ℕ) × (after : List ℕ) × (more : List ℕ)
    × (show_of m t number out ≡ (Ok (k, next), after)) × (bs ≡ take k after ++ more) × Wrote m t next outs more end

-- a call from the number answers
abbrev pub Answers : Replica → Store → ℕ → List ℕ → Type 0
Answers m t number out = (k : ℕ) × (next : ℕ) × (after : List ℕ) × (show_of m t number out ≡ (Ok (k, next), after))

-- The board is just what the replica holds from itself, each statement once, and from its bytes each is read
-- back as it was.
pub record Boarded (w : ℕ) (m : Replica) (t : Store) : Type 0 where
  pub all : (s : Stmt (List ℕ)) → Board (box m t) s → ContainsAt (board_of m t) s
  pub only : (s : Stmt (List ℕ)) → ContainsAt (board_of m t) s → Board (box m t) s
  pub once :
      (i j : ℕ) (d : Stmt (List ℕ)) → i < length (board_of m t) → j < length (board_of m t)
      → slice_index_or (board_of m t) i d ≡ slice_index_or (board_of m t) j d → i ≡ j
  pub read : (s : Stmt (List ℕ)) → ContainsAt (board_of m t) s → parse_of w (spelled s) ≡ Ok (spoken s)

-- A call that answers is a step. Where the tables are long enough, each call answers that has room for every
-- statement, and such calls come to the end. Calls from the first number to the end write the whole board.
pub record Shows (w : ℕ) (m : Replica) (t : Store) : Type 0 where
  pub board : Boarded w m t
  pub step : (number : ℕ) (out : List ℕ) (k next : ℕ) (after : List ℕ) → show_of m t number out ≡ (Ok (k, next), after) → Step w m t number out k next after
  pub answers : (number : ℕ) (out : List ℕ) → fits m.set.n m.set.w t ≡ true → number ≤ length (board_of m t) → Roomy m t out → Answers m t number out
  pub reaches :
      (out : List ℕ) → fits m.set.n m.set.w t ≡ true → Roomy m t out
      → (n : ℕ) × (bs : List ℕ) × Wrote m t 0 (replicate n out) bs (length (board_of m t))
  pub whole : (outs : List (List ℕ)) (bs : List ℕ) → Wrote m t 0 outs bs (length (board_of m t)) → bs ≡ joined (map spelled (board_of m t))
