-- A list of calls by bytes for four replicas, one of them faulty and heard to say something false, that meets every premise.
use Rattle.std.specs.Prelude.{◌≡◌, ℕ, true, List, [], ◌∷◌, ◌++◌, None}
use Rattle.std.specs.List.{ContainsAt}
use Rattle.theory.specs.Statement.{only, Stmt, sends, echo, ready, have, value, seen, confirm, finish}
use Rattle.theory.specs.Machine.{Holds}
use Rattle.theory.specs.Book.{Page}
use Rattle.theory.specs.Script.{by_turns}
use Rattle.entry.specs.Readings.{is_reading}
use Rattle.replica.specs.View.{box}
use Rattle.showing.specs.Spoken.{spelled}
use Rattle.promises.specs.Runs.{Call, submit, opens, hear, turns, Asked}
use Rattle.promises.specs.Promised.{Set, Honest, state, book, board, Fair, Quiet}

-- the reading that replica 0 submits, and one that it never does
abbrev pub truth : List ℕ
truth = 0 ∷ 12 ∷ 7 ∷ 1 ∷ 0 ∷ 0 ∷ 13 ∷ 72 ∷ []

abbrev pub lie : List ℕ
lie = 0 ∷ 99 ∷ 7 ∷ 1 ∷ 0 ∷ 0 ∷ 0 ∷ 1 ∷ []

-- replica i is called with its own tables; it hears the bytes of x from replica j
abbrev pub asked : ℕ → Call → Asked
asked i c = record { at = i; lent = None; call = c }

abbrev pub told : ℕ → ℕ → Stmt (List ℕ) → Asked
told i j x = asked i (hear j (spelled x))

-- replicas 0, 1 and 2 each are called so; each hears x from the other two
abbrev pub each : Call → List Asked
each c = asked 0 c ∷ asked 1 c ∷ asked 2 c ∷ []

abbrev pub exchange : Stmt (List ℕ) → List Asked
exchange x = told 1 0 x ∷ told 2 0 x ∷ told 0 1 x ∷ told 2 1 x ∷ told 0 2 x ∷ told 1 2 x ∷ []

-- each turns, and hears what the others then show
abbrev pub pass : Stmt (List ℕ) → List Asked
pass x = each turns ++ exchange x

-- replica 3 is faulty: it echoes to replica 1 what replica 0 never sent, and tells replica 2 to be ready for it
abbrev pub sending : List Asked
sending = asked 0 (submit truth) ∷ told 1 0 (sends 0 truth) ∷ told 2 0 (sends 0 truth) ∷ told 1 3 (echo 0 0 lie) ∷ told 2 3 (ready 0 0 lie) ∷ []

abbrev pub keeping : List Asked
keeping = pass (echo 0 0 truth) ++ (pass (ready 0 0 truth) ++ pass (have 0 0 truth))

-- the toss of round 0 is not 1, that of round 1 is
abbrev pub agreeing : List Asked
agreeing =
    each opens ++ (exchange (value 0 0 true) ++ (pass (seen 0 0 true) ++ (pass (confirm 0 0 (only true))
    ++ (pass (value 0 1 true) ++ (pass (seen 0 1 true) ++ (pass (confirm 0 1 (only true)) ++ pass (finish 0 true)))))))

abbrev pub latest_first : List Asked → List Asked → List Asked
latest_first [] d = d
latest_first (a ∷ c) d = latest_first c (a ∷ d)

-- at last each decides and writes
abbrev pub script : List Asked
script = latest_first (sending ++ (keeping ++ (agreeing ++ (each turns ++ each turns)))) []

-- the page that each then writes
abbrev pub page : Page (List ℕ)
page = record { epoch = 0; queue = 0; slot = 0; entry = truth }

-- The script is fair, replica 3 alone is faulty and was believed to have said what is false, each honest book has
-- the page that replica 0 submitted, and all is quiet.
pub record Met : Type 0 where
  pub set : Set
  pub size : set.n ≡ 4
  pub slots : set.w ≡ 2
  pub width : set.kind.width ≡ 8
  pub valid : set.kind.valid ≡ is_reading
  pub coin : set.coin ≡ by_turns
  pub readings : (is_reading truth ≡ true) × (is_reading lie ≡ true)
  pub honest : Honest set 0 × Honest set 1 × Honest set 2
  pub faulty : Honest set 3 → ⊥
  pub fair : Fair set script
  pub believed : Holds (box (state set script 1).0 (state set script 1).1) 3 (echo 0 0 lie) × Holds (box (state set script 2).0 (state set script 2).1) 3 (ready 0 0 lie)
  pub shown : ContainsAt (board set script 0) (sends 0 truth)
  pub written : (i : ℕ) → Honest set i → book set script i ≡ page ∷ []
  pub quiet : Quiet set script
