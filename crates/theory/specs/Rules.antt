-- The ten turns, and hear, open and submit, in the words of their rules: who has been heard, how many distinct senders, what is not yet stated.
use Rattle.std.specs.Prelude.{◌≡◌, ℕ, zero, suc, ◌<◌, ◌≤◌, Bool, true, false, not, ◌⊎◌, List, [], ◌∷◌, ◌≢◌}
use Rattle.theory.specs.Statement.{Bits, In, Stmt, sends, echo, ready, have, value, seen, confirm, finish, cell}
use Rattle.theory.specs.Plan.{Plan, some_honest, most, all_honest}
use Rattle.theory.specs.Book.{Page}
use Rattle.theory.specs.Machine.{unopened, Box, Holds, Board}

-- at least k numbers below n, all different, have φ: one of them, and k - 1 more below that one
abbrev pub Several : ℕ → ℕ → (ℕ → Type 0) → Type 0
Several zero n φ = Unit {0}
Several (suc k) n φ = (i : ℕ) × (i < n) × φ i × Several k i φ

-- the entry is on a page
abbrev pub Written : {X : Type 0} → List (Page X) → X → Type 0
Written [] x = ⊥
Written (p ∷ ps) x = (p.entry ≡ x) ⊎ Written ps x

module _ {X : Type 0} (P : Plan X) (B : Box X) where
  -- at least k distinct senders, the box itself with them, have stated s
  abbrev pub Heard : ℕ → Stmt X → Type 0
  Heard k s = Several k P.size (λ j. Holds B j s)

  -- nothing of this sort is stated
  abbrev pub Unsaid : {A : Type 0} → (A → Stmt X) → Type 0
  Unsaid st = (a : _) → Board B (st a) → ⊥

  -- k boxes have stated st equally with x, and of all such entries x has the lowest sender
  pub record Lowest (k : ℕ) (st : X → Stmt X) (x : X) : Type 0 where
    pub sender : ℕ
    pub below : sender < P.size
    pub states : Holds B sender (st x)
    pub equally : Heard k (st x)
    pub lowest : (j : ℕ) → j < sender → (y : X) → Holds B j (st y) → Heard k (st y) → ⊥

  -- equal st from k boxes; else, where no entry has that, equal also from f + 1
  abbrev pub FromElse : ℕ → (X → Stmt X) → (X → Stmt X) → X → Type 0
  FromElse k st also x = Lowest k st x ⊎ (((y : X) → Lowest k st y → ⊥) × Lowest (some_honest P) also x)

  -- 1: a Send heard from box q for slot s, no Echo stated for them
  abbrev pub EchoRule : ℕ → ℕ → X → Type 0
  EchoRule q s x = Unsaid (echo q s) × Holds B q (sends s x)

  -- 2: no Ready stated; equal Echo from Q boxes, else equal Ready from f + 1
  abbrev pub ReadyRule : ℕ → ℕ → X → Type 0
  ReadyRule q s x = Unsaid (ready q s) × FromElse P.quorum (echo q s) (ready q s) x

  -- 3: no Have stated; equal Ready from 2f + 1, else equal Have from f + 1
  abbrev pub KeepRule : ℕ → ℕ → X → Type 0
  KeepRule q s x = Unsaid (have q s) × FromElse (most P) (ready q s) (have q s) x

  -- 4: no Finish stated; Finish of one bit from f + 1
  abbrev pub FollowRule : Bool → Type 0
  FollowRule v = Unsaid (finish B.epoch) × Heard (some_honest P) (finish B.epoch v)

  -- 5: Finish of one bit from 2f + 1
  abbrev pub DecideRule : Bool → Type 0
  DecideRule v = Heard (most P) (finish B.epoch v)

  -- 6: the slot is kept, its entry is not in the book, and from the head up to it all are kept and in the book
  pub record WriteRule (s : ℕ) (x : X) : Type 0 where
    pub below : s < P.width
    pub from : B.ledger.heads (P.queue B.epoch) ≤ s
    pub kept : Board B (have (P.queue B.epoch) s x)
    pub new : Written B.ledger.book x → ⊥
    pub past : (t : ℕ) → B.ledger.heads (P.queue B.epoch) ≤ t → t < s → (y : X) × Board B (have (P.queue B.epoch) t y) × Written B.ledger.book y

  -- 7: some k up to r, a Value from f + 1, not stated
  abbrev pub SecondRule : ℕ → ℕ → Bool → Type 0
  SecondRule r k v = (k ≤ r) × (Board B (value B.epoch k v) → ⊥) × Heard (some_honest P) (value B.epoch k v)

  -- the bit is in values(r)
  abbrev pub Values : ℕ → Bool → Type 0
  Values r v = Heard (most P) (value B.epoch r v)

  -- 8: no Seen in r; the bit is in values(r)
  abbrev pub SeenRule : ℕ → Bool → Type 0
  SeenRule r v = Unsaid (seen B.epoch r) × Values r v

  -- 9: Seen stated, no Confirm; N - f boxes have seen a bit in values(r); the set is values(r)
  pub record ConfirmRule (r : ℕ) (u : Bits) : Type 0 where
    pub after : (v : Bool) × Board B (seen B.epoch r v)
    pub unsaid : Unsaid (confirm B.epoch r)
    pub enough : Several (all_honest P) P.size (λ j. (v : Bool) × Values r v × Holds B j (seen B.epoch r v))
    pub inside : (v : Bool) → In v u → Values r v
    pub whole : (v : Bool) → Values r v → In v u

  -- box j has confirmed the set u, and it lies within values(r)
  abbrev pub Within : ℕ → ℕ → Bits → Type 0
  Within r j u = Holds B j (confirm B.epoch r u) × ((v : Bool) → In v u → Values r v)

  -- the bit is in one of all such sets
  abbrev pub Union : ℕ → Bool → Type 0
  Union r v = (j : ℕ) × (j < P.size) × (u : Bits) × Within r j u × In v u

  -- the union is one bit: that is next, and finished if it is the toss and no Finish is stated; else the toss is next
  abbrev pub Single : Bool → ℕ → Bool → Bool → Type 0
  Single toss r next finishes = Union r next × (Union r (not next) → ⊥) × (finishes ≡ true → (next ≡ toss) × Unsaid (finish B.epoch)) × (next ≡ toss → Unsaid (finish B.epoch) → finishes ≡ true)

  abbrev pub Double : Bool → ℕ → Bool → Bool → Type 0
  Double toss r next finishes = Union r false × Union r true × (next ≡ toss) × (finishes ≡ false)

  -- 10: Confirm stated; N - f boxes have a set within values(r); the union of all such sets settles the rest
  pub record CloseRule (toss : Bool) (r : ℕ) (next finishes : Bool) : Type 0 where
    pub after : (u : Bits) × Board B (confirm B.epoch r u)
    pub enough : Several (all_honest P) P.size (λ j. (u : Bits) × Within r j u)
    pub settled : Single toss r next finishes ⊎ Double toss r next finishes

  -- the statement's queue, slot and round are in range, and its epoch is of the week and the current one
  abbrev pub Now : ℕ → Type 0
  Now e = (e < P.epochs) × (e ≡ B.epoch)

  abbrev pub Fitting : Stmt X → Type 0
  Fitting (sends s x) = s < P.width
  Fitting (echo q s x) = (q < P.size) × (s < P.width)
  Fitting (ready q s x) = (q < P.size) × (s < P.width)
  Fitting (have q s x) = (q < P.size) × (s < P.width)
  Fitting (value e k v) = (k < P.rounds) × Now e
  Fitting (seen e k v) = (k < P.rounds) × Now e
  Fitting (confirm e k u) = (k < P.rounds) × Now e
  Fitting (finish e v) = Now e

  -- hear: from another box of the set, fitting, and nothing is held of that sender where it would stand
  abbrev pub HearRule : ℕ → Stmt X → Type 0
  HearRule j s = (j < P.size) × (j ≢ B.me) × Fitting s × ((t : Stmt X) → cell t ≡ cell s → Holds B j t → ⊥)

  -- open: before the end of the week, in an epoch that is neither open nor awaiting; bit 1 exactly if there is a candidate
  pub record OpenRule (v : Bool) : Type 0 where
    pub week : B.epoch < P.epochs
    pub stage : B.stage ≡ unopened
    pub one : v ≡ true → (s : ℕ) × (x : X) × WriteRule s x
    pub candidate : (s : ℕ) (x : X) → WriteRule s x → v ≡ true

  -- submit: a slot of the own queue without a Send, for an entry that is not in the book
  abbrev pub SubmitRule : X → ℕ → Type 0
  SubmitRule x s = (s < P.width) × Unsaid (sends s) × (Written B.ledger.book x → ⊥)
