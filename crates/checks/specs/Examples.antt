-- Worked examples, each by a definition that a public call's contract cites.
use Rattle.std.specs.Prelude.{◌≡◌, ℕ, Bool, true, false, List, [], ◌∷◌, ◌++◌, Some, None, Ok, Err, Option, Result, ◌==◌, nat_lt}
use Rattle.common.specs.Quorums.{quorum_of}
use Rattle.entry.specs.Readings.{is_reading}
use Rattle.wire.specs.Codec.{parse_of, write_of}
use Rattle.wire.specs.Statements.{Message, finish}
use Rattle.theory.specs.Statement.{echo, ready, value}
use Rattle.theory.specs.Statement as theory
use Rattle.theory.specs.Book as ledger
use Rattle.theory.specs.Machine.{running, awaiting, says, stays, enters, leaves, Steps}
use Rattle.theory.specs.Turns.{writes}
use Rattle.replica.specs.declared.set.Set.{Set}
use Rattle.replica.specs.declared.state.Replica.{Replica}
use Rattle.replica.specs.Store.{Store, fits}
use Rattle.replica.specs.View.{plan, box}
use Rattle.replica.specs.Making.{plain, make_of}
use Rattle.intake.specs.Hearing.{hear_of}
use Rattle.turns.specs.Stepping.{steps_of}
use Rattle.turns.specs.Turning.{open_of, turn_of}
use Rattle.checks.specs.Given.{four, five, six, fresh, tables, x, y, from, one_bit, two_bits, first_page, kept}

-- what is given to a call, and what it answers
pub data Row : Type 0 where
  -- n replicas
  quorum : (n : ℕ) → Result (ℕ × ℕ) ℕ → Row
  -- a statement, where an entry has w bytes, over a buffer
  write : (w : ℕ) → Message → (out : List ℕ) → Result ℕ ℕ × List ℕ → Row
  -- the bytes of a statement
  parse : (w : ℕ) → (s : List ℕ) → Result Message ℕ → Row
  -- the bytes of a statement of readings from another replica, which is declined whatever is held
  refuse : (s : List ℕ) → (number : ℕ) → Row
  -- a replica's numbers; with empty tables it is made as the examples below begin
  make : Set → Row
  -- what it then has stated, heard and done, and the toss; the number of its turn, and what that does
  turn : Set → (before : Steps (List ℕ)) → (toss : Bool) → (number : ℕ) → (done : Steps (List ℕ)) → Row
  -- what it then has stated, heard and done; the slot and entry of its epoch's candidate
  candidate : Set → (before : Steps (List ℕ)) → Option (ℕ × List ℕ) → Row
  -- the same; the bit with which the epoch opens
  opens : Set → (before : Steps (List ℕ)) → (bit : Bool) → Row

-- the replica and its tables after that
abbrev pub since : Set → Steps (List ℕ) → Replica × Store
since s before = steps_of before (fresh s) (tables s)

-- what is answered, and what the replica and its tables are once this is done
abbrev pub answers : {A : Type 0} → A → Steps (List ℕ) → Replica × Store → Result A ℕ × Replica × Store
answers a done p = let q = steps_of done p.0 p.1 in (Ok a, q.0, q.1)

abbrev pub Holds : Row → Type 0
Holds (quorum n r) = quorum_of n ≡ r
Holds (write w m out r) = write_of w m out ≡ r
Holds (parse w s r) = parse_of w s ≡ r
Holds (refuse s number) = (m : Replica) (t : Store) (j : ℕ) → fits m.set.n m.set.w t ≡ true → nat_lt j m.set.n ≡ true → (j == m.set.me) ≡ false → hear_of 8 is_reading m t j s ≡ (Err number, m, t)
Holds (make s) = make_of s.n s.me s.w (tables s) ≡ (Ok (plain (fresh s)), tables s)
Holds (turn s before toss number done) = let p = since s before in turn_of (λ e r. toss) p.0 p.1 ≡ answers number done p
Holds (candidate s before o) = let p = since s before in writes (plan p.0) (box p.0 p.1) ≡ o
Holds (opens s before bit) = let p = since s before in open_of p.0 p.1 ≡ answers tt (enters p.0.epoch bit ∷ []) p

abbrev pub All : List Row → Type 0
All [] = Unit {0}
All (r ∷ rs) = Holds r × All rs

abbrev pub examples : List Row
examples =
    -- one of four replicas may be faulty, and three equal echoes make a ready
    quorum 4 (Ok (1, 3))
    -- five of sixteen, and eleven
    ∷ quorum 16 (Ok (5, 11))
    -- three replicas are too few
    ∷ quorum 3 (Err 1)
    -- finish of epoch 7 with bit 1, over three zeros, and read again
    ∷ write 8 (finish 7 1) (0 ∷ 0 ∷ 0 ∷ []) (Ok 3, 0x46 ∷ 0x07 ∷ 0x01 ∷ [])
    ∷ parse 8 (0x46 ∷ 0x07 ∷ 0x01 ∷ []) (Ok (finish 7 1))
    -- a letter that is none, and a byte too many
    ∷ parse 8 (0x58 ∷ []) (Err 6)
    ∷ parse 8 (0x46 ∷ 0x07 ∷ 0x01 ∷ 0x00 ∷ []) (Err 9)
    -- a confirm of round 2 whose set is 4
    ∷ refuse (0x43 ∷ 0x00 ∷ 0x02 ∷ 0x04 ∷ []) 10
    -- the replicas of the examples below
    ∷ make four
    ∷ make five
    ∷ make six
    -- of six replicas, three equal echoes make no ready, and four do
    ∷ turn six (from (1 ∷ 2 ∷ 3 ∷ []) (echo 0 0 x)) false 0 []
    ∷ turn six (from (1 ∷ 2 ∷ 3 ∷ 4 ∷ []) (echo 0 0 x)) false 2 (says (ready 0 0 x) ∷ [])
    -- of five, two readies make a ready; of two such entries it is that of the lowest sender
    ∷ turn five (from (1 ∷ 4 ∷ []) (ready 0 0 x) ++ from (2 ∷ 3 ∷ []) (ready 0 0 y)) false 2 (says (ready 0 0 x) ∷ [])
    -- a round closes: with bit 1 alone, where the toss is 1, without and with a finish stated before, and where it is 0; with both bits
    ∷ turn four one_bit true 10 (stays (running 1 false) ∷ says (value 0 1 true) ∷ says (theory.finish 0 true) ∷ [])
    ∷ turn four (one_bit ++ (says (theory.finish 0 true) ∷ [])) true 10 (stays (running 1 false) ∷ says (value 0 1 true) ∷ [])
    ∷ turn four one_bit false 10 (stays (running 1 false) ∷ says (value 0 1 true) ∷ [])
    ∷ turn four two_bits false 10 (stays (running 1 false) ∷ says (value 0 1 false) ∷ [])
    -- x is in the book and y is not: kept slots with x are passed, and the search ends at a slot that is not kept
    ∷ candidate four (kept ((0, y) ∷ [])) (Some (0, y))
    ∷ candidate four (kept ((0, x) ∷ (1, y) ∷ [])) (Some (1, y))
    ∷ candidate four (kept ((0, x) ∷ (1, x) ∷ [])) None
    ∷ candidate four (kept ((0, x) ∷ [])) None
    ∷ candidate four (kept ((1, y) ∷ [])) None
    -- with a candidate the epoch opens with 1, and it is written where its page is awaited; with none it opens with 0, and the wait goes on
    ∷ opens four (kept ((0, x) ∷ (1, y) ∷ [])) true
    ∷ turn four (kept ((0, x) ∷ (1, y) ∷ []) ++ (stays awaiting ∷ [])) false 6 (leaves (ledger.write 1 1 (1, y) first_page) ∷ [])
    ∷ opens four (kept ((1, y) ∷ [])) false
    ∷ turn four (kept ((1, y) ∷ []) ++ (stays awaiting ∷ [])) false 0 []
    ∷ []
