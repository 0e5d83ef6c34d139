-- A list of calls for four boxes, one of them faulty and heard to say something false, that meets every premise.
use Rattle.std.specs.Prelude.{◌≡◌, ℕ, ◌+◌, ◌%◌, Bool, true, [], ◌∷◌, ◌++◌, ◌==◌}
use Rattle.std.proofs.Math.Decide.{ℕ_discrete}
use Rattle.common.specs.Quorums.{faults, echoes}
use Rattle.theory.specs.Count.{Honest}
use Rattle.theory.specs.Statement.{only, Stmt, sends, echo, ready, have, value, seen, confirm, finish}
use Rattle.theory.specs.Plan.{Plan, Rule, boxes}
use Rattle.theory.specs.Book.{Page}
use Rattle.theory.specs.Machine.{Holds, Board}
use Rattle.theory.specs.Calls.{Call, submit, opens, hear, turns, Calls}
use Rattle.theory.specs.Promises.{box, book, Fair, Quiet}

-- four boxes of two slots; entries are numbers; epoch e is of queue e mod 4
abbrev pub four : Plan ℕ
four = record { size = 4; faults = faults 4; quorum = echoes 4; width = 2; epochs = 256; rounds = 16; queue = λ e. e % 4; eq = ℕ_discrete }

-- the toss for an epoch and a round is bit 0 and bit 1 in turn
abbrev pub by_turns : ℕ → ℕ → Bool
by_turns e r = (e + r) % 2 == 1

-- boxes 0, 1 and 2 each make the call; each hears s from the other two
abbrev pub each : Call ℕ → Calls ℕ
each c = (0, c) ∷ (1, c) ∷ (2, c) ∷ []

abbrev pub exchange : Stmt ℕ → Calls ℕ
exchange s = (1, hear 0 s) ∷ (2, hear 0 s) ∷ (0, hear 1 s) ∷ (2, hear 1 s) ∷ (0, hear 2 s) ∷ (1, hear 2 s) ∷ []

-- each turns, and hears what the others then state
abbrev pub pass : Stmt ℕ → Calls ℕ
pass s = each turns ++ exchange s

-- box 3 is faulty: it echoes to box 1 what box 0 never sent, and tells box 2 to be ready for it
abbrev pub sending : Calls ℕ
sending = (0, submit 7) ∷ (1, hear 0 (sends 0 7)) ∷ (2, hear 0 (sends 0 7)) ∷ (1, hear 3 (echo 0 0 99)) ∷ (2, hear 3 (ready 0 0 99)) ∷ []

abbrev pub keeping : Calls ℕ
keeping = pass (echo 0 0 7) ++ (pass (ready 0 0 7) ++ pass (have 0 0 7))

-- the toss of round 0 is not 1, that of round 1 is
abbrev pub agreeing : Calls ℕ
agreeing =
    each opens ++ (exchange (value 0 0 true) ++ (pass (seen 0 0 true) ++ (pass (confirm 0 0 (only true))
    ++ (pass (value 0 1 true) ++ (pass (seen 0 1 true) ++ (pass (confirm 0 1 (only true)) ++ pass (finish 0 true)))))))

abbrev pub latest_first : Calls ℕ → Calls ℕ → Calls ℕ
latest_first [] d = d
latest_first (p ∷ c) d = latest_first c (p ∷ d)

-- at last each decides and writes
abbrev pub script : Calls ℕ
script = latest_first (sending ++ (keeping ++ (agreeing ++ (each turns ++ each turns)))) []

abbrev pub page : Page ℕ
page = record { epoch = 0; queue = 0; slot = 0; entry = 7 }

-- the script is fair, box 3 is faulty and was believed to have said what is false, each book has the page, and all is quiet
pub record Met : Type 0 where
  pub rule : Rule ℕ
  pub plan : rule.plan ≡ four
  pub coin : rule.coin ≡ by_turns
  pub fair : Fair rule script
  pub faulty : rule.honest 3 ≡ true → ⊥
  pub believed : Holds (box rule script 1) 3 (echo 0 0 99) × Holds (box rule script 2) 3 (ready 0 0 99) × Board (box rule script 0) (sends 0 7)
  pub written : (i : ℕ) → Honest (boxes rule) i → book rule script i ≡ page ∷ []
  pub quiet : Quiet rule script
