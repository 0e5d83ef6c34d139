-- Each turn's definition answers exactly what its rule says, and nothing earlier; turn does the first of the ten;
-- hear, open and submit accept exactly what their rules say; and what each call makes of the box.
use Rattle.std.specs.Prelude.{◌≡◌, ℕ, ◌<◌, Bool, true, false, ◌⊎◌, List, Some, None, Option, ◌≢◌}
use Rattle.theory.specs.Statement.{Bits, Stmt, sends, echo, ready, have, value, seen, confirm, finish, Cell, cell}
use Rattle.theory.specs.Plan.{Plan}
use Rattle.theory.specs.Machine.{awaiting, running, Box, Mem, Steps, does}
use Rattle.theory.specs.Turns.{each_slot, echo_at, ready_at, have_at, follow, decides, writes, second, sees, confirms, closes}
use Rattle.theory.specs.Calls.{Turn, to_echo, to_ready, to_keep, to_follow, to_decide, to_write, to_second, to_see, to_confirm, to_close, number, way, turn, accepts, opening, takes, Call, submit, opens, hear, turns, steps, alone}
pub use Rattle.theory.specs.Effects.{Iff}
use Rattle.theory.specs.Effects.{Gains, Leaves, Decides, Pages, Closes, BeginsWith}
use Rattle.theory.specs.Rules.{EchoRule, ReadyRule, KeepRule, FollowRule, DecideRule, WriteRule, SecondRule, SeenRule, ConfirmRule, CloseRule, HearRule, OpenRule, SubmitRule}

-- each statement stands in its own cell
abbrev pub Filed : {X : Type 0} → Mem X → Type 0
Filed mem = (j : ℕ) (c : Cell) (t : Stmt _) → mem j c ≡ Some t → cell t ≡ c

-- the orders in which a rule's cases come: there is one at most; bit 0 first; lower numbers first
abbrev pub Never : {I : Type 0} → I → I → Type 0
Never i j = ⊥

abbrev pub BitFirst : Bool → Bool → Type 0
BitFirst u v = (u ≡ false) × (v ≡ true)

abbrev pub LowFirst : {I : Type 0} → (I → I → Type 0) → ℕ × I → ℕ × I → Type 0
LowFirst Before a c = (a.0 < c.0) ⊎ ((a.0 ≡ c.0) × Before a.1 c.1)

-- the rule holds of i, and of nothing before it
abbrev pub First : {I : Type 0} → (I → I → Type 0) → (I → Type 0) → I → Type 0
First Before Rule i = Rule i × ((j : _) → Before j i → Rule j → ⊥)

-- the answer o is what the first case of the rule says, and none exactly if there is no case
pub record Law {I A : Type 0} (o : Option A) (Before : I → I → Type 0) (says : I → A) (Rule : I → Type 0) : Type 0 where
  pub sound : (a : A) → o ≡ Some a → (i : I) × (a ≡ says i) × First Before Rule i
  pub whole : (i : I) → First Before Rule i → o ≡ Some (says i)
  pub none : o ≡ None → (i : I) → Rule i → ⊥
  pub rests : ((i : I) → Rule i → ⊥) → o ≡ None

module _ {X : Type 0} (P : Plan X) (B : Box X) where
  -- queues and slots that there are, lowest first
  abbrev pub SlotLaw : Option (Stmt X) → (ℕ → ℕ → X → Stmt X) → (ℕ → ℕ → X → Type 0) → Type 0
  SlotLaw o st Rule = Law {I = ℕ × (ℕ × X)} o (LowFirst (LowFirst Never)) (λ i. st i.0 i.1.0 i.1.1) (λ i. (i.0 < P.size) × (i.1.0 < P.width) × Rule i.0 i.1.0 i.1.1)

  pub record Ten (coin : ℕ → ℕ → Bool) : Type 0 where
    pub echoes : SlotLaw (each_slot P B (echo_at P B)) echo (EchoRule P B)
    pub readies : SlotLaw (each_slot P B (ready_at P B)) ready (ReadyRule P B)
    pub keeps : SlotLaw (each_slot P B (have_at P B)) have (KeepRule P B)
    pub follows : Law (follow P B) BitFirst (finish B.epoch) (FollowRule P B)
    pub decides : Law (decides P B) BitFirst (λ v. v) (DecideRule P B)
    pub writes : Law {I = ℕ × X} (writes P B) Never (λ p. p) (λ p. WriteRule P B p.0 p.1)
    pub seconds : (r : ℕ) → Law {I = ℕ × Bool} (second P B r) (LowFirst BitFirst) (λ i. value B.epoch i.0 i.1) (λ i. SecondRule P B r i.0 i.1)
    pub sees : (r : ℕ) → Law (sees P B r) BitFirst (seen B.epoch r) (SeenRule P B r)
    pub confirms : (r : ℕ) → Law (confirms P B r) Never (confirm B.epoch r) (ConfirmRule P B r)
    pub closes : (r : ℕ) → Law {I = Bool × Bool} (closes P B coin r) Never (λ c. c) (λ c. CloseRule P B (coin B.epoch r) r c.0 c.1)

  -- only before the end of the week; and in an open epoch that awaits no page
  abbrev pub Week : Type 0 → Type 0
  Week φ = (B.epoch < P.epochs) × φ

  abbrev pub Round : (ℕ → Bool → Type 0) → Type 0
  Round φ = Week ((r : ℕ) × (d : Bool) × (B.stage ≡ running r d) × φ r d)

  -- the turn applies
  abbrev pub Applies : (ℕ → ℕ → Bool) → Turn → Type 0
  Applies coin to_echo = (q s : ℕ) × (x : X) × (q < P.size) × (s < P.width) × EchoRule P B q s x
  Applies coin to_ready = (q s : ℕ) × (x : X) × (q < P.size) × (s < P.width) × ReadyRule P B q s x
  Applies coin to_keep = (q s : ℕ) × (x : X) × (q < P.size) × (s < P.width) × KeepRule P B q s x
  Applies coin to_follow = Week ((v : Bool) × FollowRule P B v)
  Applies coin to_decide = Week ((B.stage ≢ awaiting) × ((v : Bool) × DecideRule P B v))
  Applies coin to_write = Week ((B.stage ≡ awaiting) × ((s : ℕ) × (x : X) × WriteRule P B s x))
  Applies coin to_second = Round (λ r d. (k : ℕ) × (v : Bool) × SecondRule P B r k v)
  Applies coin to_see = Round (λ r d. (v : Bool) × SeenRule P B r v)
  Applies coin to_confirm = Round (λ r d. (u : Bits) × ConfirmRule P B r u)
  Applies coin to_close = Round (λ r d. (d ≡ false) × ((n f : Bool) × CloseRule P B (coin B.epoch r) r n f))

  -- turn answers the first of the ten that applies, with its steps, and none exactly if none applies
  pub record TurnLaw (coin : ℕ → ℕ → Bool) : Type 0 where
    pub sound : (t : Turn) (l : Steps X) → turn P B coin ≡ Some (t, l) → (way P B coin t ≡ Some l) × First (λ u t. number u < number t) (Applies coin) t
    pub whole : (t : Turn) → First (λ u t. number u < number t) (Applies coin) t → (l : Steps X) × (turn P B coin ≡ Some (t, l))
    pub none : turn P B coin ≡ None → (t : Turn) → Applies coin t → ⊥
    pub rests : ((t : Turn) → Applies coin t → ⊥) → turn P B coin ≡ None

  -- what the turn makes of the box: the first case of its rule, done
  abbrev pub SlotDone : (ℕ → ℕ → X → Stmt X) → (ℕ → ℕ → X → Type 0) → Box X → Type 0
  SlotDone st Rule C = (i : ℕ × (ℕ × X)) × First (LowFirst (LowFirst Never)) (λ i. (i.0 < P.size) × (i.1.0 < P.width) × Rule i.0 i.1.0 i.1.1) i × Gains P B B.me (st i.0 i.1.0 i.1.1) C

  abbrev pub RoundDone : (ℕ → Bool → Type 0) → Type 0
  RoundDone φ = (r : ℕ) × (d : Bool) × (B.stage ≡ running r d) × φ r d

  abbrev pub Done : (ℕ → ℕ → Bool) → Turn → Box X → Type 0
  Done coin to_echo C = SlotDone echo (EchoRule P B) C
  Done coin to_ready C = SlotDone ready (ReadyRule P B) C
  Done coin to_keep C = SlotDone have (KeepRule P B) C
  Done coin to_follow C = (v : Bool) × First BitFirst (FollowRule P B) v × Gains P B B.me (finish B.epoch v) C
  Done coin to_decide C = (v : Bool) × First BitFirst (DecideRule P B) v × Decides P B v C
  Done coin to_write C = (s : ℕ) × (x : X) × WriteRule P B s x × Leaves P B C × Pages P B s x C
  Done coin to_second C = RoundDone (λ r d. (i : ℕ × Bool) × First (LowFirst BitFirst) (λ i. SecondRule P B r i.0 i.1) i × Gains P B B.me (value B.epoch i.0 i.1) C)
  Done coin to_see C = RoundDone (λ r d. (v : Bool) × First BitFirst (SeenRule P B r) v × Gains P B B.me (seen B.epoch r v) C)
  Done coin to_confirm C = RoundDone (λ r d. (u : Bits) × ConfirmRule P B r u × Gains P B B.me (confirm B.epoch r u) C)
  Done coin to_close C = RoundDone (λ r d. (n f : Bool) × (d ≡ false) × CloseRule P B (coin B.epoch r) r n f × Closes P B r n f C)

  -- what is accepted, and what that makes of the box; a call that is declined alters nothing
  pub record CallLaw (coin : ℕ → ℕ → Bool) : Type 0 where
    pub hear_law : (j : ℕ) (s : Stmt X) → Iff (accepts P B j s ≡ true) (HearRule P B j s)
    pub open_law : Law (opening P B B.stage) Never (λ v. v) (OpenRule P B)
    pub submit_law : (x : X) → Law (takes P B x) (λ s t. s < t) (λ s. s) (SubmitRule P B x)
    pub heard : (j : ℕ) (s : Stmt X) → accepts P B j s ≡ true → Gains P B j s (does (steps P coin B (hear j s)) B)
    pub opened : (v : Bool) → opening P B B.stage ≡ Some v → BeginsWith P B v (does (steps P coin B opens) B)
    pub submitted : (x : X) (s : ℕ) → takes P B x ≡ Some s → Gains P B B.me (sends s x) (does (steps P coin B (submit x)) B)
    pub turned : (t : Turn) (l : Steps X) → turn P B coin ≡ Some (t, l) → Done coin t (does (steps P coin B turns) B)
    pub deaf : (j : ℕ) (s : Stmt X) → accepts P B j s ≡ false → does (steps P coin B (hear j s)) B ≡ B
    pub shut : opening P B B.stage ≡ None → does (steps P coin B opens) B ≡ B
    pub full : (x : X) → takes P B x ≡ None → does (steps P coin B (submit x)) B ≡ B
    pub idle : turn P B coin ≡ None → does (steps P coin B turns) B ≡ B

-- for boxes whose statements stand in their cells, as those of every run do
pub record TurnLaws (X : Type 0) : Type 0 where
  pub filed : (P : Plan X) (coin : ℕ → ℕ → Bool) (i : ℕ) (cs : List (Call X)) → Filed (alone P coin i cs).mem
  pub ten : (P : Plan X) (B : Box X) (coin : ℕ → ℕ → Bool) → P.faults < P.size → Filed B.mem → Ten P B coin
  pub turn : (P : Plan X) (B : Box X) (coin : ℕ → ℕ → Bool) → P.faults < P.size → Filed B.mem → TurnLaw P B coin
  pub calls : (P : Plan X) (B : Box X) (coin : ℕ → ℕ → Bool) → P.faults < P.size → Filed B.mem → CallLaw P B coin
