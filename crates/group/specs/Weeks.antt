-- A group that runs until nothing alters.
use Rattle.std.specs.Prelude.{◌≡◌, ℕ, ◌<◌, ◌≤◌, ◌⊎◌, zero, suc, Bool, true, false, cond, ◌||◌, List, [], map, length, Some, None, Ok, Err, Option, Result, fold, take, nat_lt, slice_get, slice_range, ◌==◌}
use Rattle.std.specs.List.{range_with_len, ContainsAt}
use Rattle.wire.specs.Frames.{walk_of}
use Rattle.replica.specs.Store.{fits}
use Rattle.showing.specs.Boards.{board_of}
use Rattle.showing.specs.Spoken.{spelled}
use Rattle.promises.specs.Runs.{Kind, State, hear, turns}
use Rattle.group.specs.declared.member.Group as declared
use Rattle.group.specs.Groups.{Group, group_of, called}

-- whether something was altered, and the group
abbrev pub Course : Type 0
Course = Bool × Group

abbrev pub course_of : {K C : Type 0} → (K → List ℕ) → declared.Group K C → Course
course_of bytes g = (g.altered, group_of bytes g)

-- the places of its replicas
abbrev pub everyone : Course → List ℕ
everyone p = range_with_len 0 (length p.1)

-- More than the turns that a replica can take in a week, and than the passes of a week that alter something.
abbrev pub turns_most : ℕ
turns_most = 65536

abbrev pub passes_most : ℕ
passes_most = 8388608

-- a call is accepted
abbrev pub accepted : Result ℕ ℕ → Bool
accepted (Ok k) = true
accepted (Err e) = false

-- it answers a number above 0
abbrev pub above : Result ℕ ℕ → Bool
above (Ok k) = nat_lt 0 k
above (Err e) = false

-- steps until one of them says that it was the last, at most so many
unfoldable pub again : {S : Type 0} → (S → Bool × S) → ℕ → S → S
again f zero s = s
again f (suc n) s = let r = f s in cond r.0 (again f n r.1) r.1

-- the statements on the board of a replica whose tables are long enough
abbrev pub board_at : Option State → List (List ℕ)
board_at None = []
board_at (Some p) = cond (fits p.0.set.n p.0.set.w p.1) (map spelled (board_of p.0 p.1)) []

-- a frame of k bytes, at the front of a buffer, has these statements from a number on up to the next one, which is further on
pub record Part (w : ℕ) (board : List (List ℕ)) (number next : ℕ) (buffer : List ℕ) (k : ℕ) : Type 0 where
  pub onward : number < next
  pub within : next ≤ length board
  pub room : k ≤ length buffer
  pub found : (walk_of w (take k buffer)).found ≡ slice_range board number next

module _ (K : Kind) (coin : ℕ → ℕ → Bool) where
  -- the replica i hears a statement of the replica j, unless it is the same
  abbrev pub heard_at : ℕ → List ℕ → Course → ℕ → Course
  heard_at j s p i = cond (i == j) p (let r = called K coin p.1 i (hear j s) in (p.0 || accepted r.0, r.1))

  -- every other replica hears it, in the order of their numbers
  abbrev pub told : ℕ → Course → List ℕ → Course
  told j p s = fold (heard_at j s) p (everyone p)

  -- and so each statement on the board of j
  abbrev pub aired : Course → ℕ → Course
  aired p j = fold (told j) p (board_at (slice_get p.1 j))

  -- the replica i takes a turn, if it has one; whether it had one
  abbrev pub acted : ℕ → Course → Bool × Course
  acted i p = let r = called K coin p.1 i turns in (above r.0, (p.0 || above r.0, r.1))

  -- it turns until it rests
  abbrev pub rested : Course → ℕ → Course
  rested p i = again (acted i) turns_most p

  -- A pass: every board is heard, in the order of the numbers; then every replica turns until it rests.
  abbrev pub all_aired : Course → Course
  all_aired p = fold aired p (everyone p)

  abbrev pub all_rested : Course → Course
  all_rested p = fold rested p (everyone p)

  abbrev pub pass : Group → Bool × Group
  pass g = all_rested (all_aired (false, g))

  -- passes until one of them alters nothing
  abbrev pub settled : Group → Group
  settled g = again pass passes_most g

  -- nothing is left to do: nobody accepts what stands on the board of another, and nobody has a turn left
  pub record Still (g : Group) : Type 0 where
    pub heard : (i j : ℕ) → i < length g → j < length g → (i == j) ≡ false → (s : List ℕ) → ContainsAt (board_at (slice_get g j)) s → accepted (called K coin g i (hear j s)).0 ≡ false
    pub rest : (i : ℕ) → i < length g → above (called K coin g i turns).0 ≡ false

  -- so many passes, one behind the other, each alter something
  unfoldable pub Busy : ℕ → Group → Type 0
  Busy zero g = Unit {0}
  Busy (suc n) g = ((pass g).0 ≡ true) × Busy n (pass g).1

  -- In the subject's words: where the passes end before they have been too many, nothing is left to do.
  abbrev pub Settles : Group → Type 0
  Settles g = Still (settled g) ⊎ Busy passes_most g
