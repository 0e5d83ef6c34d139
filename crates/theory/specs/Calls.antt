-- The calls of a box as lists of small steps, the run of one box alone, and a set's run: these side by side.
use Rattle.std.specs.Prelude.{ℕ, suc, Bool, true, false, cond, not, ◌&&◌, List, [], ◌∷◌, length, Some, None, Option, ◌==◌, nat_lt, slice_index_or}
use Rattle.theory.specs.Statement.{Stmt, sends, echo, ready, have, value, seen, confirm, finish, at_send, cell}
use Rattle.theory.specs.Plan.{Plan, sameness}
use Rattle.theory.specs.Book.{stands_in_book, write}
use Rattle.theory.specs.Machine.{Stage, unopened, awaiting, running, Box, made, own, says, hears, stays, enters, leaves, Steps, does}
use Rattle.theory.specs.Search.{first, only_if, guard, unless, map, absent}
use Rattle.theory.specs.Turns.{each_slot, echo_at, ready_at, have_at, follow, decides, queue, writes, second, sees, confirms, closes}

-- the ten turns, in their order
pub data Turn : Type 0 where
  to_echo to_ready to_keep to_follow to_decide to_write to_second to_see to_confirm to_close : Turn

abbrev pub order : List Turn
order = to_echo ∷ to_ready ∷ to_keep ∷ to_follow ∷ to_decide ∷ to_write ∷ to_second ∷ to_see ∷ to_confirm ∷ to_close ∷ []

abbrev pub number : Turn → ℕ
number to_echo = 1
number to_ready = 2
number to_keep = 3
number to_follow = 4
number to_decide = 5
number to_write = 6
number to_second = 7
number to_see = 8
number to_confirm = 9
number to_close = 10

abbrev pub awaits : Stage → Bool
awaits unopened = false
awaits awaiting = true
awaits (running r d) = false

-- only in an open epoch that awaits no page: its round, and whether that is closed for good
abbrev pub in_round : {A : Type 0} → Stage → (ℕ → Bool → Option A) → Option A
in_round unopened g = None
in_round awaiting g = None
in_round (running r d) g = g r d

abbrev pub stated : {X : Type 0} → Option (Stmt X) → Option (Steps X)
stated o = map (λ s. says s ∷ []) o

module _ {X : Type 0} (P : Plan X) (B : Box X) where
  -- bit 0 leaves the epoch, bit 1 makes it await its page
  abbrev pub deciding : Bool → Steps X
  deciding true = stays awaiting ∷ []
  deciding false = leaves B.ledger ∷ []

  abbrev pub writing : ℕ × X → Steps X
  writing p = leaves (write B.epoch (queue P B) p B.ledger) ∷ []

  -- the next bit, and perhaps a finish; the last round is closed once, and no round follows
  abbrev pub finishing : Bool × Bool → Steps X
  finishing c = cond c.1 (says (finish B.epoch c.0) ∷ []) []

  abbrev pub closing : ℕ → Bool × Bool → Steps X
  closing r c = cond (nat_lt (suc r) P.rounds) (stays (running (suc r) false) ∷ says (value B.epoch (suc r) c.0) ∷ finishing c) (stays (running r true) ∷ finishing c)

  -- only before the end of the week
  abbrev pub in_week : Option (Steps X) → Option (Steps X)
  in_week o = only_if (nat_lt B.epoch P.epochs) o

  -- what each turn does, where it applies
  abbrev pub way : (ℕ → ℕ → Bool) → Turn → Option (Steps X)
  way coin to_echo = stated (each_slot P B (echo_at P B))
  way coin to_ready = stated (each_slot P B (ready_at P B))
  way coin to_keep = stated (each_slot P B (have_at P B))
  way coin to_follow = in_week (stated (follow P B))
  way coin to_decide = in_week (only_if (not (awaits B.stage)) (map deciding (decides P B)))
  way coin to_write = in_week (only_if (awaits B.stage) (map writing (writes P B)))
  way coin to_second = in_week (in_round B.stage (λ r d. stated (second P B r)))
  way coin to_see = in_week (in_round B.stage (λ r d. stated (sees P B r)))
  way coin to_confirm = in_week (in_round B.stage (λ r d. stated (confirms P B r)))
  way coin to_close = in_week (in_round B.stage (λ r d. only_if (not d) (map (closing r) (closes P B coin r))))

  -- the first of the ten that applies, with its steps
  abbrev pub turn : (ℕ → ℕ → Bool) → Option (Turn × Steps X)
  turn coin = first (length order) (λ k. let t = slice_index_or order k to_close in map (λ l. (t, l)) (way coin t))

  -- a statement in range, and of the current epoch
  abbrev pub current : ℕ → Bool
  current e = nat_lt e P.epochs && e == B.epoch

  abbrev pub ranged : Stmt X → Bool
  ranged (sends s x) = nat_lt s P.width
  ranged (echo q s x) = nat_lt q P.size && nat_lt s P.width
  ranged (ready q s x) = nat_lt q P.size && nat_lt s P.width
  ranged (have q s x) = nat_lt q P.size && nat_lt s P.width
  ranged (value e k v) = nat_lt k P.rounds && current e
  ranged (seen e k v) = nat_lt k P.rounds && current e
  ranged (confirm e k u) = nat_lt k P.rounds && current e
  ranged (finish e v) = current e

  -- hear: from another box, in range, into an empty cell
  abbrev pub accepts : ℕ → Stmt X → Bool
  accepts j s = (nat_lt j P.size && not (j == B.me)) && (ranged s && absent (B.mem j (cell s)))

  -- open: the bit with which round 0 begins, 1 if the queue has a candidate, else 0
  abbrev pub opening : Stage → Option Bool
  opening unopened = guard (nat_lt B.epoch P.epochs) (not (absent (writes P B)))
  opening awaiting = None
  opening (running r d) = None

  -- submit: the lowest slot without an own Send, for an entry that is not in the book
  abbrev pub takes : X → Option ℕ
  takes x = only_if (not (stands_in_book (sameness P) B.ledger.book x)) (first P.width (λ s. unless (own B (at_send s)) (Some s)))

pub data Call (X : Type 0) : Type 0 where
  submit : X → Call X
  opens : Call X
  hear : ℕ → Stmt X → Call X
  turns : Call X

abbrev pub or_none : {X : Type 0} → Option (Steps X) → Steps X
or_none None = []
or_none (Some l) = l

abbrev pub steps : {X : Type 0} → Plan X → (ℕ → ℕ → Bool) → Box X → Call X → Steps X
steps P coin B (submit x) = or_none (map (λ s. says (sends s x) ∷ []) (takes P B x))
steps P coin B opens = or_none (map (λ v. enters B.epoch v ∷ []) (opening P B B.stage))
steps P coin B (hear j s) = cond (accepts P B j s) (hears j s ∷ []) []
steps P coin B turns = or_none (map (λ a. a.1) (turn P B coin))

-- box i alone, after calls, the latest first
abbrev pub alone : {X : Type 0} → Plan X → (ℕ → ℕ → Bool) → ℕ → List (Call X) → Box X
alone P coin i [] = made i
alone P coin i (c ∷ cs) = let B = alone P coin i cs in does (steps P coin B c) B

-- calls to the boxes of a set, the latest first; those to box i; and box i after them
abbrev pub Calls : Type 0 → Type 0
Calls X = List (ℕ × Call X)

abbrev pub calls_to : {X : Type 0} → ℕ → Calls X → List (Call X)
calls_to i [] = []
calls_to i (p ∷ c) = let cs = calls_to i c in cond (i == p.0) (p.1 ∷ cs) cs

abbrev pub state : {X : Type 0} → Plan X → (ℕ → ℕ → Bool) → Calls X → ℕ → Box X
state P coin c i = alone P coin i (calls_to i c)
