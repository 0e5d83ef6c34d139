-- Submit: an entry of the own queue.
use Rattle.std.specs.Prelude.{◌≡◌, ℕ, Bool, true, cond, not, List, length, Some, None, Ok, Option, Result, nat_lt}
use Rattle.common.specs.Refusals.{declined}
use Rattle.common.specs.declared.refusal.Refusal.TheVariants.{Table, Short, Long, Entry, Full, Booked}
use Rattle.theory.specs.Statement.{Stmt, sends, at_send}
use Rattle.theory.specs.Plan.{sameness}
use Rattle.theory.specs.Book.{stands_in_book}
use Rattle.theory.specs.Machine.{small, says}
use Rattle.theory.specs.Search.{first, unless}
use Rattle.theory.specs.Calls.{takes}
use Rattle.replica.specs.declared.state.Replica.{Replica}
use Rattle.replica.specs.Store.{Store, fits}
use Rattle.replica.specs.View.{view, plan, book_of, box}
use Rattle.replica.specs.Holding.{Sized}
use Rattle.intake.specs.Hearing.{heard}

-- the lowest slot of the own queue without an own send
abbrev pub unused_of : Replica → Store → Option ℕ
unused_of m t = first m.set.w (λ s. unless (view m t m.set.me (at_send s)) (Some s))

abbrev pub offered : Replica → Store → List ℕ → Option ℕ → Result (Stmt (List ℕ)) ℕ
offered m t s None = declined Full
offered m t s (Some k) = cond (stands_in_book (sameness (plan m)) (book_of m t) s) (declined Booked) (Ok (sends k s))

-- the send that an entry's bytes become
abbrev pub offer_of : ℕ → (List ℕ → Bool) → Replica → Store → List ℕ → Result (Stmt (List ℕ)) ℕ
offer_of w valid m t s =
    cond (not (fits m.set.n m.set.w t)) (declined Table)
    (cond (nat_lt (length s) w) (declined Short)
    (cond (nat_lt w (length s)) (declined Long)
    (cond (not (valid s)) (declined Entry) (offered m t s (unused_of m t)))))

-- the replica hears at once what it states
abbrev pub submit_of : ℕ → (List ℕ → Bool) → Replica → Store → List ℕ → Result (Unit {0}) ℕ × Replica × Store
submit_of w valid m t s = heard m t m.set.me (offer_of w valid m t s)

-- In the theory's words: accepted, the entry is one of the kind, the box takes it for a slot and then has said so;
-- and every entry that the box takes is accepted, where the tables are long enough.
pub record Submits (valid : List ℕ → Bool) (m : Replica) (t : Store) (s : List ℕ) (answer : Result (Unit {0}) ℕ) (after : Replica) (left : Store) : Type 0 where
  pub accepted : answer ≡ Ok tt → (k : ℕ) × (valid s ≡ true) × (takes (plan m) (box m t) s ≡ Some k) × (Sized m → (box after left ≡ small (says (sends k s)) (box m t)) × Sized after)
  pub accepting : fits m.set.n m.set.w t ≡ true → valid s ≡ true → (k : ℕ) → takes (plan m) (box m t) s ≡ Some k → answer ≡ Ok tt
