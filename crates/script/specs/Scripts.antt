-- What playing a script writes.
use Rattle.std.specs.Prelude.{◌≡◌, ℕ, zero, suc, ◌-◌, Bool, false, List, [], ◌∷◌, ◌++◌, length, take, replicate, Some, None, Ok, Err, Option, Result, codes, decimal, fold, slice_get}
use Rattle.promises.specs.Runs.{Kind, kind_of, State, submit, opens, hear, turns}
use Rattle.promises.specs.Promised.{Set, Honest}
use Rattle.printing.specs.Files.{print_of}
use Rattle.group.specs.Groups.{Group, group_of, called}
use Rattle.group.specs.Traces.{Ran, Fairly}
use Rattle.group.specs.Weeks.{settled}
use Rattle.script.specs.declared.player.Player.{Player}
use Rattle.script.specs.Commands.{Command, calls, prints, settles, bytes_of, first_of}

-- the commands of a script, in order, and what is left where no more follow, if that is not its end
pub record Read : Type 0 where
  pub commands : List Command
  pub fault : Option (List ℕ)

abbrev pub read_on : Option (Command × List ℕ) → List ℕ → (List ℕ → Read) → Read
read_on None s more = record { commands = []; fault = Some s }
read_on (Some p) s more = record { commands = p.0 ∷ (more p.1).commands; fault = (more p.1).fault }

-- at most so many
unfoldable pub read_from : ℕ → ℕ → ℕ → List ℕ → Read
read_from zero w n s = record { commands = []; fault = None }
read_from (suc k) w n [] = record { commands = []; fault = None }
read_from (suc k) w n (b ∷ s) = read_on (first_of w n (b ∷ s)) (b ∷ s) (read_from k w n)

-- a script has no more commands than bytes
abbrev pub read_of : ℕ → ℕ → List ℕ → Read
read_of w n s = read_from (length s) w n s

-- the bytes of commands, one behind the other
abbrev pub joined : List Command → List ℕ
joined [] = []
joined (c ∷ cs) = bytes_of c ++ joined cs

-- The commands and the place of the fault account for each byte: joined, they are what stands before it, and there
-- no command stands; without a fault they are the whole script.
pub record Accounts (w n : ℕ) (s : List ℕ) : Type 0 where
  pub whole : (read_of w n s).fault ≡ None → s ≡ joined (read_of w n s).commands
  pub torn : (left : List ℕ) → (read_of w n s).fault ≡ Some left → (s ≡ joined (read_of w n s).commands ++ left) × (first_of w n left ≡ None)

-- the line of an answer: none if it is accepted
abbrev pub line_of : Result ℕ ℕ → List ℕ
line_of (Ok k) = []
line_of (Err e) = codes "refused;" ++ (decimal e ++ codes "\n")

-- the line of a fault, of a script with so many bytes
abbrev pub fault_line : ℕ → Option (List ℕ) → List ℕ
fault_line n None = []
fault_line n (Some left) = codes "script;" ++ (decimal (n - length left) ++ codes "\n")

-- how many bytes a file may have
abbrev pub room : ℕ
room = 65536

abbrev pub file_in : Result ℕ ℕ × List ℕ → List ℕ
file_in (Ok k, out) = take k out
file_in (Err e, out) = line_of (Err e)

-- a kind of entry as a script needs it: with the names and the numbers of its columns
pub record Form : Type 0 where
  pub kind : Kind
  pub heading : List ℕ
  pub columns : List ℕ → List ℕ

abbrev pub form_of : ℕ → (List ℕ → Bool) → List ℕ → (List ℕ → List ℕ) → Form
form_of width valid heading columns = record { kind = kind_of width valid; heading = heading; columns = columns }

-- what was written, and the group
abbrev pub Run : Type 0
Run = List ℕ × Group

abbrev pub run_of : {K C : Type 0} → (K → List ℕ) → Player K C → Run
run_of bytes p = (p.text.items, group_of bytes p.group)

-- the file of a replica
abbrev pub printed : List ℕ → (List ℕ → List ℕ) → Option State → List ℕ
printed heading columns None = []
printed heading columns (Some p) = file_in (print_of heading columns p.0 p.1 (replicate room 0))

-- no command makes a replica hear something in an honest one's name
abbrev pub Unforged : (ℕ → Bool) → List Command → Type 0
Unforged honest [] = Unit {0}
Unforged honest (calls i (hear j s) ∷ cs) = (honest j ≡ false) × Unforged honest cs
Unforged honest (calls i (submit x) ∷ cs) = Unforged honest cs
Unforged honest (calls i opens ∷ cs) = Unforged honest cs
Unforged honest (calls i turns ∷ cs) = Unforged honest cs
Unforged honest (prints i ∷ cs) = Unforged honest cs
Unforged honest (settles ∷ cs) = Unforged honest cs

module _ (F : Form) (coin : ℕ → ℕ → Bool) where
  -- a command: what it writes, and the group after it
  abbrev pub done : Run → Command → Run
  done r (calls i c) = let q = called F.kind coin r.1 i c in (r.0 ++ line_of q.0, q.1)
  done r (prints i) = (r.0 ++ printed F.heading F.columns (slice_get r.1 i), r.1)
  done r settles = (r.0, settled F.kind coin r.1)

  -- the commands of a script with so many bytes, and its fault
  abbrev pub ended : ℕ → Run → Read → Run
  ended n r read = let q = fold done r read.commands in (q.0 ++ fault_line n read.fault, q.1)

  -- a script, played by a group that wrote something before
  abbrev pub played : List ℕ → Run → Run
  played s r = ended (length s) r (read_of F.kind.width (length r.1) s)

  -- In the subject's words: what it leaves is what a list of calls of the theorem's runs leaves, each lent the own tables.
  abbrev pub Runs : List ℕ → Group → Type 0
  Runs s g = Ran F.kind coin g (played s ([], g)).1

  -- And if the replicas are those of a set, and no command forges a statement in an honest one's name, then the calls are
  -- fair, and the theorem's promises are of the books that the honest ones then have.
  abbrev pub Plays : List ℕ → Group → Type 0
  Plays s g =
      (S : Set) → S.kind ≡ F.kind → S.coin ≡ coin → ((i : ℕ) → Honest S i → slice_get g i ≡ Some (S.start i))
      → Unforged S.honest (read_of F.kind.width (length g) s).commands → Fairly S (played s ([], g)).1
