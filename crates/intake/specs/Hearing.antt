-- Hear: which statements are accepted, and what they change.
use Rattle.std.specs.Prelude.{ℕ, Bool, true, false, cond, not, ◌||◌, List, Some, None, Ok, Err, Option, Result, ◌==◌, nat_le, nat_lt, ok_or}
use Rattle.common.specs.Limits.{epochs, rounds}
use Rattle.common.specs.Refusals.{declined, number_of}
use Rattle.common.specs.declared.refusal.Refusal.TheVariants.{Table, Sender, Range, Entry, Past, Future}
use Rattle.theory.specs.Statement as theory
use Rattle.theory.specs.Statement.{Stmt}
use Rattle.wire.specs.Statements.{Message, send, echo, ready, have, value, seen, confirm, finish}
use Rattle.wire.specs.Codec.{parse_of}
use Rattle.votes.specs.Sets.{set_numbered}
use Rattle.replica.specs.declared.state.Replica.{Replica}
use Rattle.replica.specs.Store.{Store, fits}
use Rattle.replica.specs.Holding.{vacant_of, held_of}

-- one check after another: the first that declines gives the number
abbrev pub and_then : {A B : Type 0} → Result A ℕ → (A → Result B ℕ) → Result B ℕ
and_then (Err e) f = Err e
and_then (Ok x) f = f x

-- the bit that an operand is
abbrev pub bit_numbered : ℕ → Option Bool
bit_numbered b = cond (b == 0) (Some false) (cond (b == 1) (Some true) None)

-- an entry for slot s of queue q: in range, and of the kind
abbrev pub item_of : (List ℕ → Bool) → Replica → ℕ → ℕ → List ℕ → Result (List ℕ) ℕ
item_of valid m q s x = cond (nat_le m.set.n q || nat_le m.set.w s) (declined Range) (cond (valid x) (Ok x) (declined Entry))

-- round k of epoch e: in range, and the epoch neither past nor yet to come
abbrev pub timely_of : Replica → ℕ → ℕ → Result (Unit {0}) ℕ
timely_of m e k =
    cond (nat_le rounds k || nat_le epochs e) (declined Range)
    (cond (nat_lt e m.epoch) (declined Past)
    (cond (nat_lt m.epoch e) (declined Future) (Ok tt)))

-- what an operand is, in range only if it is something
abbrev pub operand_of : {A : Type 0} → Option A → Result A ℕ
operand_of o = ok_or o (number_of Range)

-- a vote in round k of epoch e, with its operand
abbrev pub vote_of : {A : Type 0} → Replica → ℕ → ℕ → Result A ℕ → Result A ℕ
vote_of m e k operand = and_then operand (λ v. and_then (timely_of m e k) (λ _. Ok v))

-- the statement that sender j means, in range, of the kind and of the current epoch; a send is for j's own queue
abbrev pub admit_of : (List ℕ → Bool) → Replica → ℕ → Message → Result (Stmt (List ℕ)) ℕ
admit_of valid m j (send s x) = and_then (item_of valid m j s x) (λ y. Ok (theory.sends s y))
admit_of valid m j (echo q s x) = and_then (item_of valid m q s x) (λ y. Ok (theory.echo q s y))
admit_of valid m j (ready q s x) = and_then (item_of valid m q s x) (λ y. Ok (theory.ready q s y))
admit_of valid m j (have q s x) = and_then (item_of valid m q s x) (λ y. Ok (theory.have q s y))
admit_of valid m j (value e k b) = and_then (vote_of m e k (operand_of (bit_numbered b))) (λ v. Ok (theory.value e k v))
admit_of valid m j (seen e k b) = and_then (vote_of m e k (operand_of (bit_numbered b))) (λ v. Ok (theory.seen e k v))
admit_of valid m j (confirm e k u) = and_then (vote_of m e k (operand_of (set_numbered u))) (λ v. Ok (theory.confirm e k v))
admit_of valid m j (finish e b) = and_then (vote_of m e 0 (operand_of (bit_numbered b))) (λ v. Ok (theory.finish e v))

-- the statement that bytes from sender j are, if its cell is free
abbrev pub judge_of : ℕ → (List ℕ → Bool) → Replica → Store → ℕ → List ℕ → Result (Stmt (List ℕ)) ℕ
judge_of w valid m t j s =
    cond (not (fits m.set.n m.set.w t)) (declined Table)
    (cond (nat_le m.set.n j || j == m.set.me) (declined Sender)
    (and_then (parse_of w s) (λ x. and_then (admit_of valid m j x) (λ st. and_then (vacant_of m t j st) (λ _. Ok st)))))

-- accepted, it is held, and else nothing changes
abbrev pub heard : Replica → Store → ℕ → Result (Stmt (List ℕ)) ℕ → Result (Unit {0}) ℕ × Replica × Store
heard m t j (Err e) = (Err e, m, t)
heard m t j (Ok st) = let p = held_of m t j st in (Ok tt, p.0, p.1)

abbrev pub hear_of : ℕ → (List ℕ → Bool) → Replica → Store → ℕ → List ℕ → Result (Unit {0}) ℕ × Replica × Store
hear_of w valid m t j s = heard m t j (judge_of w valid m t j s)
