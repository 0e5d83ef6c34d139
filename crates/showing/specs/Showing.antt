-- What show answers and writes.
use Rattle.std.specs.Prelude.{ℕ, ◌+◌, ◌-◌, cond, not, List, [], ◌∷◌, ◌++◌, map, length, drop, Ok, Result, nat_lt}
use Rattle.common.specs.Refusals.{declined}
use Rattle.common.specs.declared.refusal.Refusal.TheVariants as refusals
use Rattle.wire.specs.Frames.{joined}
use Rattle.replica.specs.declared.state.Replica.{Replica}
use Rattle.replica.specs.Store.{Store, fits}
use Rattle.showing.specs.Boards.{board_of}
use Rattle.showing.specs.Spoken.{spelled}
use Rattle.showing.specs.declared.shown.Shown as declared

abbrev pub pair_of : declared.Shown → ℕ × ℕ
pair_of s = (s.bytes, s.next)

-- the byte strings that fit into the room, one behind the other, up to the first that does not
abbrev pub fitting : ℕ → List (List ℕ) → List (List ℕ)
fitting room [] = []
fitting room (s ∷ ss) = cond (nat_lt room (length s)) [] (s ∷ fitting (room - length s) ss)

-- of these byte strings, which begin at a number, the given ones are written
abbrev pub written : ℕ → List (List ℕ) → List (List ℕ) → List ℕ → Result (ℕ × ℕ) ℕ × List ℕ
written number [] ts out = (Ok (0, number), out)
written number (s ∷ ss) [] out = (declined refusals.Room, out)
written number (s ∷ ss) (t ∷ ts) out = (Ok (length (joined (t ∷ ts)), number + length (t ∷ ts)), joined (t ∷ ts) ++ drop (length (joined (t ∷ ts))) out)

abbrev pub lay_of : ℕ → List (List ℕ) → List ℕ → Result (ℕ × ℕ) ℕ × List ℕ
lay_of number ss out = written number ss (fitting (length out) ss) out

-- the board's statements from a number on
abbrev pub from : ℕ → Replica → Store → List (List ℕ)
from number m t = map spelled (drop number (board_of m t))

unfoldable pub show_of : Replica → Store → ℕ → List ℕ → Result (ℕ × ℕ) ℕ × List ℕ
show_of m t number out =
    cond (not (fits m.set.n m.set.w t)) (declined refusals.Table, out)
    (cond (nat_lt (length (board_of m t)) number) (declined refusals.Number, out)
    (lay_of number (from number m t) out))
