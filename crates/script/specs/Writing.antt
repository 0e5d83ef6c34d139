-- What a script writes that is played by a set from its beginning on.
use Rattle.std.specs.Prelude.{◌≡◌, ℕ, ◌<◌, ◌≤◌, Bool, true, not, ◌⊎◌, List, [], Some, Ok, Err, Result, slice_get}
use Rattle.common.specs.Quorums.{faults}
use Rattle.theory.specs.Count.{count}
use Rattle.theory.specs.Book.{Begins, Once}
use Rattle.replica.specs.View.{same_bytes, book_of}
use Rattle.replica.specs.Making.{Numbers, set_for}
use Rattle.promises.specs.Runs.{State}
use Rattle.group.specs.Groups.{Group}
use Rattle.group.specs.Makings.{Made}
use Rattle.script.specs.Scripts.{Form, read_of, Accounts, line_of, Unforged, played, Runs}

-- of the books of two replicas one is a beginning of the other, and none has an entry twice
pub record Agree (p q : State) : Type 0 where
  pub agreement : Begins (book_of p.0 p.1) (book_of q.0 q.1) ⊎ Begins (book_of q.0 q.1) (book_of p.0 p.1)
  pub no_repetition : Once same_bytes (book_of p.0 p.1)

-- A script played by n replicas with w slots each, as make leaves them, which there are: it accounts for each byte, and is
-- a list of calls of the theorem's runs. Whoever at most f of them are: if no command
-- forges a statement in another's name, the books of all others agree at its end, and so at the end of each beginning of it.
pub record Written (F : Form) (coin : ℕ → ℕ → Bool) (n w : ℕ) (s text : List ℕ) : Type 0 where
  pub group : Group
  pub made : Made n w n group
  pub said : (g : Group) → Made n w n g → text ≡ (played F coin s ([], g)).0
  pub runs : Runs F coin s group
  pub accounts : Accounts F.kind.width n s
  pub agree :
      (honest : ℕ → Bool) → count n (λ i. not (honest i)) ≤ faults n → Unforged honest (read_of F.kind.width n s).commands
      → (i j : ℕ) → i < n → honest i ≡ true → j < n → honest j ≡ true
      → (p q : State) → slice_get (played F coin s ([], group)).1 i ≡ Some p → slice_get (played F coin s ([], group)).1 j ≡ Some q → Agree p q

-- where make would decline, the line of its number
abbrev pub Writes_by : Form → (ℕ → ℕ → Bool) → List ℕ → List ℕ → Result Numbers ℕ → Type 0
Writes_by F coin s text (Err e) = text ≡ line_of (Err e)
Writes_by F coin s text (Ok k) = Written F coin k.n k.w s text

abbrev pub Writes : Form → (ℕ → ℕ → Bool) → ℕ → ℕ → List ℕ → List ℕ → Type 0
Writes F coin n w s text = Writes_by F coin s text (set_for n 0 w)
