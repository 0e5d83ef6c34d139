-- The ten turns of a box: what each finds, as definitions that compute.
use Rattle.std.specs.Prelude.{ℕ, suc, Bool, true, false, not, ◌&&◌, ◌||◌, Some, None, Option, nat_le}
use Rattle.theory.specs.Count.{count}
use Rattle.theory.specs.Statement.{Bits, only, both, Stmt, echo, ready, have, value, seen, confirm, finish, StmtEq, Cell, at_send, at_echo, at_ready, at_have, at_value, at_seen, at_confirm, at_finish, cell, decided}
use Rattle.theory.specs.Plan.{Plan, sameness, some_honest, most, all_honest}
use Rattle.theory.specs.Book.{candidate}
use Rattle.theory.specs.Machine.{Box, own}
use Rattle.theory.specs.Search.{or_else, first, bits, only_if, guard, unless, given, bind, entry, absent}

-- whether statement s is what is held
abbrev pub is : {X : Type 0} → Discrete (Stmt X) → Option (Stmt X) → Stmt X → Bool
is d None s = false
is d (Some t) s = decided (d t s)

-- the set of the bits 0 and 1 that are in it
abbrev pub set_of : Bool → Bool → Option Bits
set_of true true = Some both
set_of true false = Some (only false)
set_of false true = Some (only true)
set_of false false = None

abbrev pub same_bit : Bool → Bool → Bool
same_bit true u = u
same_bit false u = not u

-- of the union of the sets, the toss, and whether no finish is stated: the next bit, and whether it is finished
abbrev pub outcome : Option Bits → Bool → Bool → Bool × Bool
outcome None toss free = (toss, false)
outcome (Some (only v)) toss free = (v, same_bit v toss && free)
outcome (Some both) toss free = (toss, false)

module _ {X : Type 0} (P : Plan X) (B : Box X) where
  -- box j has stated s, as far as this box has heard
  abbrev pub told : ℕ → Stmt X → Bool
  told j s = is (StmtEq P.eq) (B.mem j (cell s)) s

  -- how many boxes have stated s, this one with them
  abbrev pub tally : Stmt X → ℕ
  tally s = count P.size (λ j. told j s)

  abbrev pub many : ℕ → Stmt X → Bool
  many k s = nat_le k (tally s)

  -- the entry of the lowest sender in cell c that k boxes have stated, as st states it
  unfoldable pub backed : ℕ → Cell → (X → Stmt X) → (X → Stmt X) → Option (Stmt X)
  backed k c heard st = first P.size (λ i. bind (entry (B.mem i c)) (λ x. guard (many k (heard x)) (st x)))

  -- lowest queue first, and in it the lowest slot
  abbrev pub each_slot : (ℕ → ℕ → Option (Stmt X)) → Option (Stmt X)
  each_slot g = first P.size (λ q. first P.width (λ s. g q s))

  -- turns 1 to 3, at a queue and a slot: Echo, Ready, Keep
  abbrev pub echo_at : ℕ → ℕ → Option (Stmt X)
  echo_at q s = unless (own B (at_echo q s)) (bind (entry (B.mem q (at_send s))) (λ x. Some (echo q s x)))

  abbrev pub ready_at : ℕ → ℕ → Option (Stmt X)
  ready_at q s = unless (own B (at_ready q s)) (or_else (backed P.quorum (at_echo q s) (echo q s) (ready q s)) (backed (some_honest P) (at_ready q s) (ready q s) (ready q s)))

  abbrev pub have_at : ℕ → ℕ → Option (Stmt X)
  have_at q s = unless (own B (at_have q s)) (or_else (backed (most P) (at_ready q s) (ready q s) (have q s)) (backed (some_honest P) (at_have q s) (have q s) (have q s)))

  -- turn 4, Follow
  abbrev pub follow : Option (Stmt X)
  follow = unless (own B (at_finish B.epoch)) (bits (λ v. guard (many (some_honest P) (finish B.epoch v)) (finish B.epoch v)))

  -- turn 5, Decide: the bit
  abbrev pub decides : Option Bool
  decides = bits (λ v. guard (many (most P) (finish B.epoch v)) v)

  -- a slot is kept when the box has stated a Have for it
  abbrev pub kept_at : ℕ → ℕ → Option X
  kept_at q s = entry (own B (at_have q s))

  -- the queue that the epoch concerns
  abbrev pub queue : ℕ
  queue = P.queue B.epoch

  -- turn 6, Write: the slot and entry of the queue's candidate
  abbrev pub writes : Option (ℕ × X)
  writes = candidate (sameness P) P.width B.ledger.book (B.ledger.heads queue) (kept_at queue)

  -- turn 7, Second value, in round r
  abbrev pub second : ℕ → Option (Stmt X)
  second r = first (suc r) (λ k. bits (λ v. unless (own B (at_value B.epoch k v)) (guard (many (some_honest P) (value B.epoch k v)) (value B.epoch k v))))

  -- the bit is in values(r)
  abbrev pub in_values : ℕ → Bool → Bool
  in_values r v = many (most P) (value B.epoch r v)

  -- turn 8, Seen
  abbrev pub sees : ℕ → Option (Stmt X)
  sees r = unless (own B (at_seen B.epoch r)) (bits (λ v. guard (in_values r v) (seen B.epoch r v)))

  -- box j has seen a bit that is in values(r)
  abbrev pub seen_in : ℕ → ℕ → Bool
  seen_in r j = (in_values r false && told j (seen B.epoch r false)) || (in_values r true && told j (seen B.epoch r true))

  -- turn 9, Confirm
  abbrev pub confirms : ℕ → Option (Stmt X)
  confirms r =
      given (own B (at_seen B.epoch r)) (unless (own B (at_confirm B.epoch r))
      (only_if (nat_le (all_honest P) (count P.size (seen_in r))) (bind (set_of (in_values r false) (in_values r true)) (λ u. Some (confirm B.epoch r u)))))

  -- the set lies within values(r)
  abbrev pub fits : ℕ → Bits → Bool
  fits r (only v) = in_values r v
  fits r both = in_values r false && in_values r true

  -- box j has confirmed the set u, and it lies within values(r); or some such set
  abbrev pub stands : ℕ → Bits → ℕ → Bool
  stands r u j = fits r u && told j (confirm B.epoch r u)

  abbrev pub within : ℕ → ℕ → Bool
  within r j = (stands r (only false) j || stands r (only true) j) || stands r both j

  -- the bit is in the union of all such sets
  abbrev pub joined : ℕ → Bool → Bool
  joined r v = nat_le 1 (count P.size (λ j. stands r (only v) j || stands r both j))

  -- turn 10, Close, with the toss for the round: the next bit, and whether it is finished
  abbrev pub closes : (ℕ → ℕ → Bool) → ℕ → Option (Bool × Bool)
  closes coin r =
      given (own B (at_confirm B.epoch r)) (guard (nat_le (all_honest P) (count P.size (within r)))
      (outcome (set_of (joined r false) (joined r true)) (coin B.epoch r) (absent (own B (at_finish B.epoch)))))
