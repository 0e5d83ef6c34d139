-- A call as the runs know it, and a list of calls to one replica.
use Rattle.std.specs.Prelude.{ℕ, Bool, List, [], ◌∷◌, ◌++◌, None, Result}
use Rattle.replica.specs.declared.state.Replica.{Replica}
use Rattle.replica.specs.Store.{Store}
use Rattle.promises.specs.Runs as runs
use Rattle.promises.specs.Runs.{Kind, Asked, State, call_of, after}
use Rattle.serving.specs.declared.call.Call as declared
use Rattle.serving.specs.declared.call.Call.TheVariants.{Submit, Open, Hear, Turn}

abbrev pub call_in : declared.Call → runs.Call
call_in (Submit s) = runs.submit s.now
call_in Open = runs.opens
call_in (Hear j s) = runs.hear j s.now
call_in Turn = runs.turns

-- the call, to a replica that is lent its own tables
abbrev pub asked : declared.Call → Asked
asked c = record { at = 0; lent = None; call = call_in c }

-- calls, the latest first, and those of a list behind them
abbrev pub behind : List Asked → List declared.Call → List Asked
behind l [] = l
behind l (c ∷ cs) = behind (asked c ∷ l) cs

-- what calls answer, of which the latest comes first
abbrev pub answers_of : Kind → (ℕ → ℕ → Bool) → State → List Asked → List (Result ℕ ℕ)
answers_of K coin p [] = []
answers_of K coin p (a ∷ l) = let q = after K coin (λ _. p) l 0 in answers_of K coin p l ++ ((call_of K coin q.0 q.1 a.call).0 ∷ [])

-- what the calls of a list answer, and a replica and its tables after them
abbrev pub served : Kind → (ℕ → ℕ → Bool) → Replica → Store → List declared.Call → List (Result ℕ ℕ) × Replica × Store
served K coin m t cs = let l = behind [] cs in let p = after K coin (λ _. (m, t)) l 0 in (answers_of K coin (m, t) l, p.0, p.1)
