-- The commands of a script and their bytes.
use Rattle.std.specs.Prelude.{ℕ, cond, List, [], ◌∷◌, length, take, drop, Some, None, Ok, Err, Option, Result, ◌==◌, nat_lt}
use Rattle.std.specs.Option.{option_map, option_and_then}
use Rattle.wire.specs.Frames as wire
use Rattle.promises.specs.Runs.{Call, submit, opens, hear, turns}
use Rattle.serving.specs.Serves.{call_in}
use Rattle.script.specs.declared.command.Command as declared
use Rattle.script.specs.declared.command.Command.TheVariants as cases

-- a call at a box; its file is printed; all run until nothing alters
pub data Command : Type 0 where
  calls : (at : ℕ) → Call → Command
  prints : (at : ℕ) → Command
  settles : Command

abbrev pub command_of : declared.Command → Command
command_of (cases.Call i c) = calls i (call_in c)
command_of (cases.Print i) = prints i
command_of cases.Settle = settles

-- the letters s, o, x, p and q; none makes a turn
abbrev pub bytes_of : Command → List ℕ
bytes_of (calls i (submit x)) = 115 ∷ i ∷ x
bytes_of (calls i opens) = 111 ∷ i ∷ []
bytes_of (calls i (hear j s)) = 120 ∷ i ∷ j ∷ s
bytes_of (calls i turns) = []
bytes_of (prints i) = 112 ∷ i ∷ []
bytes_of settles = 113 ∷ []

-- the number of one of n boxes at the front, and what is behind it
abbrev pub boxed : ℕ → List ℕ → Option (ℕ × List ℕ)
boxed n [] = None
boxed n (i ∷ s) = cond (nat_lt i n) (Some (i, s)) None

-- an entry of w bytes to submit
abbrev pub submit_in : ℕ → List ℕ → Option (Call × List ℕ)
submit_in w s = cond (nat_lt (length s) w) None (Some (submit (take w s), drop w s))

-- a sender and a statement to hear
abbrev pub heard_in : ℕ → List ℕ → Result (Option (List ℕ)) ℕ → Option (Call × List ℕ)
heard_in j s (Ok (Some t)) = Some (hear j t, drop (length t) s)
heard_in j s (Ok None) = None
heard_in j s (Err e) = None

abbrev pub hear_in : ℕ → ℕ → List ℕ → Option (Call × List ℕ)
hear_in w n s = option_and_then (λ (p : ℕ × List ℕ). heard_in p.0 p.1 (wire.first_of w p.1)) (boxed n s)

-- what the letters s, o and x ask of a box
abbrev pub call_from : ℕ → ℕ → ℕ → List ℕ → Option (Call × List ℕ)
call_from w n b s =
    cond (b == 115) (submit_in w s)
    (cond (b == 111) (Some (opens, s))
    (cond (b == 120) (hear_in w n s)
    None))

abbrev pub lettered : ℕ → ℕ → ℕ → ℕ × List ℕ → Option (Command × List ℕ)
lettered w n b p = cond (b == 112) (Some (prints p.0, p.1)) (option_map (λ (q : Call × List ℕ). (calls p.0 q.0, q.1)) (call_from w n b p.1))

-- the command that the bytes begin with, if they begin with one, and what is behind it
abbrev pub first_of : ℕ → ℕ → List ℕ → Option (Command × List ℕ)
first_of w n [] = None
first_of w n (b ∷ s) = cond (b == 113) (Some (settles, s)) (option_and_then (lettered w n b) (boxed n s))
