-- What a set of boxes promises after any list of calls in which nothing is accepted that an honest box did not show.
use Rattle.std.specs.Prelude.{◌≡◌, ℕ, Bool, true, false, ◌⊎◌, List, [], ◌∷◌, ◌++◌, Some, None, ◌≢◌}
use Rattle.theory.specs.Count.{Honest, Somebody}
use Rattle.theory.specs.Statement.{Stmt}
use Rattle.theory.specs.Plan.{Rule, boxes, sameness}
use Rattle.theory.specs.History.{Log, Said, Legal}
use Rattle.theory.specs.Book.{Page, Begins, Once, Each}
use Rattle.theory.specs.Machine.{awaiting, Box, Board}
use Rattle.theory.specs.Turns.{decides}
use Rattle.theory.specs.Calls.{turn, accepts, opening, takes, Call, submit, opens, hear, turns, Calls, state}

module _ {X : Type 0} (R : Rule X) where
  -- box i after the calls, and its book
  abbrev pub box : Calls X → ℕ → Box X
  box c i = state R.plan R.coin c i

  abbrev pub book : Calls X → ℕ → List (Page X)
  book c i = (box c i).ledger.book

  -- s stood on box j's board at some moment
  abbrev pub Shown : Calls X → ℕ → Stmt X → Type 0
  Shown [] j s = Board (box [] j) s
  Shown (p ∷ c) j s = Shown c j s ⊎ Board (box (p ∷ c) j) s

  -- a call after calls c: what it accepts in an honest box's name, that box has shown
  abbrev pub Authentic : Calls X → ℕ → Call X → Type 0
  Authentic c i (submit x) = Unit {0}
  Authentic c i opens = Unit {0}
  Authentic c i (hear j s) = accepts R.plan (box c i) j s ≡ true → Honest (boxes R) j → Shown c j s
  Authentic c i turns = Unit {0}

  -- every call goes to an honest box, and is authentic
  abbrev pub Fair : Calls X → Type 0
  Fair [] = Unit {0}
  Fair (p ∷ c) = Fair c × Honest (boxes R) p.0 × Authentic c p.0 p.1

  -- a call at box B submits entry x for slot s
  abbrev pub Submits : Box X → Call X → ℕ → X → Type 0
  Submits B (submit y) s x = (y ≡ x) × (takes R.plan B y ≡ Some s)
  Submits B opens s x = ⊥
  Submits B (hear j t) s x = ⊥
  Submits B turns s x = ⊥

  -- an accepted submit at box q submitted x for slot s
  abbrev pub Submitted : Calls X → ℕ → ℕ → X → Type 0
  Submitted [] q s x = ⊥
  Submitted (p ∷ c) q s x = Submitted c q s x ⊎ ((q ≡ p.0) × Submits (box c q) p.1 s x)

  -- a call at box B opens epoch e with bit v
  abbrev pub OpensWith : Box X → Call X → ℕ → Bool → Type 0
  OpensWith B (submit y) e v = ⊥
  OpensWith B opens e v = (B.epoch ≡ e) × (opening R.plan B B.stage ≡ Some v)
  OpensWith B (hear j t) e v = ⊥
  OpensWith B turns e v = ⊥

  -- an accepted open at box j opened epoch e with bit v
  abbrev pub OpenedBy : Calls X → ℕ → ℕ → Bool → Type 0
  OpenedBy [] j e v = ⊥
  OpenedBy (p ∷ c) j e v = OpenedBy c j e v ⊎ ((j ≡ p.0) × OpensWith (box c j) p.1 e v)

module _ {X : Type 0} (R : Rule X) (c : Calls X) where
  -- no honest box would accept what stands on another's board, and none has a turn left
  pub record Quiet : Type 0 where
    pub heard : (i j : ℕ) → Honest (boxes R) i → Honest (boxes R) j → (i ≢ j) → (s : Stmt X) → Board (box R c j) s → accepts R.plan (box R c i) j s ≡ false
    pub rest : (i : ℕ) → Honest (boxes R) i → turn R.plan (box R c i) R.coin ≡ None

  pub record Promises : Type 0 where
    -- what honest boxes have shown is of one legal history
    pub shown : (r : Log X) × Legal R r × ((j : ℕ) → Honest (boxes R) j → (s : Stmt X) → Shown R c j s → Said r j s)
    -- one book is a beginning of the other, and both are one after the same number of epochs
    pub agreement : (i j : ℕ) → Honest (boxes R) i → Honest (boxes R) j → Begins (book R c i) (book R c j) ⊎ Begins (book R c j) (book R c i)
    pub in_step : (i j : ℕ) → Honest (boxes R) i → Honest (boxes R) j → (box R c i).epoch ≡ (box R c j).epoch → book R c i ≡ book R c j
    pub no_repetition : (i : ℕ) → Honest (boxes R) i → Once (sameness R.plan) (book R c i)
    pub as_submitted : (i : ℕ) → Honest (boxes R) i → Each (λ p. Honest (boxes R) p.queue → Submitted R c p.queue p.slot p.entry) (book R c i)
    -- the bit that turn 5 finds is one that an honest box opened the epoch with
    pub as_opened : (i : ℕ) → Honest (boxes R) i → (v : Bool) → decides R.plan (box R c i) ≡ Some v → Somebody (boxes R) (λ j. OpenedBy R c j (box R c i).epoch v)
    -- whatever calls follow, fair or not
    pub lasting : (i : ℕ) (more : Calls X) → Begins (book R c i) (book R (more ++ c) i)
    pub evening_out : Quiet → (i j : ℕ) → Honest (boxes R) i → Honest (boxes R) j → book R c i ≡ book R c j
    pub nobody_awaits : Quiet → (i : ℕ) → Honest (boxes R) i → (box R c i).stage ≢ awaiting

abbrev pub Promise : Type 0 → Type 0
Promise X = (R : Rule X) (c : Calls X) → Fair R c → Promises R c
