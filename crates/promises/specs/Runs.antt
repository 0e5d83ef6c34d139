-- Lists of calls to the replicas of a set, and what they make of each.
use Rattle.std.specs.Prelude.{◌≡◌, ℕ, Bool, true, cond, List, [], ◌∷◌, length, Some, None, Ok, Err, Option, Result, ◌==◌}
use Rattle.replica.specs.declared.state.Replica.{Replica}
use Rattle.replica.specs.Store.{Store}
use Rattle.intake.specs.Hearing.{hear_of}
use Rattle.intake.specs.Submitting.{submit_of}
use Rattle.turns.specs.Turning.{open_of, turn_of}

-- a kind of entry, by its width and by which byte strings are entries
pub record Kind : Type 0 where
  pub width : ℕ
  pub valid : List ℕ → Bool

-- of a type of entries
abbrev pub kind_of : ℕ → (List ℕ → Bool) → Kind
kind_of width valid = record { width = width; valid = valid }

-- its law: each entry is as wide
abbrev pub Wide : Kind → Type 0
Wide K = (s : List ℕ) → K.valid s ≡ true → length s ≡ K.width

-- submit an entry's bytes, open the epoch, hear bytes from a sender, take a turn
pub data Call : Type 0 where
  submit : List ℕ → Call
  opens : Call
  hear : (sender : ℕ) → List ℕ → Call
  turns : Call

-- a call to replica number at, which is lent its own tables, or others
pub record Asked : Type 0 where
  pub at : ℕ
  pub lent : Option Store
  pub call : Call

-- a replica and its own tables
abbrev pub State : Type 0
State = Replica × Store

-- an accepted call that has nothing to tell answers 0
abbrev pub zero : Result (Unit {0}) ℕ → Result ℕ ℕ
zero (Ok u) = Ok 0
zero (Err e) = Err e

abbrev pub nought : Result (Unit {0}) ℕ × Replica × Store → Result ℕ ℕ × Replica × Store
nought p = (zero p.0, p.1, p.2)

-- what a call answers and leaves, by the definitions that the calls' own promises cite
abbrev pub call_of : Kind → (ℕ → ℕ → Bool) → Replica → Store → Call → Result ℕ ℕ × Replica × Store
call_of K coin m t (submit s) = nought (submit_of K.width K.valid m t s)
call_of K coin m t opens = nought (open_of m t)
call_of K coin m t (hear j s) = nought (hear_of K.width K.valid m t j s)
call_of K coin m t turns = turn_of coin m t

-- a replica's own tables stay as they are when others are lent
abbrev pub left : Kind → (ℕ → ℕ → Bool) → State → Option Store → Call → State
left K coin p None c = let r = call_of K coin p.0 p.1 c in (r.1, r.2)
left K coin p (Some u) c = let r = call_of K coin p.0 u c in (r.1, p.1)

-- replica i after calls, the latest first
abbrev pub after : Kind → (ℕ → ℕ → Bool) → (ℕ → State) → List Asked → ℕ → State
after K coin start [] i = start i
after K coin start (a ∷ c) i = let p = after K coin start c i in cond (i == a.at) (left K coin p a.lent a.call) p
