-- What honest replicas promise together, after every list of calls.
use Rattle.std.specs.Prelude.{◌≡◌, ℕ, ◌<◌, ◌≤◌, Bool, true, false, not, ◌⊎◌, List, [], ◌∷◌, ◌++◌, Some, None, Ok, Option, ◌≢◌}
use Rattle.std.specs.List.{ContainsAt}
use Rattle.common.specs.Quorums.{faults}
use Rattle.theory.specs.Count.{count}
use Rattle.theory.specs.Statement.{Stmt}
use Rattle.theory.specs.Book.{Page, Begins, Once, Each}
use Rattle.theory.specs.Turns.{decides}
use Rattle.theory.specs.Calls.{opening}
use Rattle.replica.specs.declared.state.Stage.TheVariants.{Awaiting}
use Rattle.replica.specs.Store.{Store, fits}
use Rattle.replica.specs.View.{same_bytes, plan, book_of, box}
use Rattle.replica.specs.Making.{plain, make_of}
use Rattle.showing.specs.Boards.{board_of}
use Rattle.showing.specs.Spoken.{spelled}
use Rattle.intake.specs.Meaning.{Says}
use Rattle.intake.specs.Hearing.{hear_of}
use Rattle.intake.specs.Submitting.{unused_of, submit_of}
use Rattle.turns.specs.Turning.{open_of, turn_of}
use Rattle.promises.specs.Runs.{Kind, Wide, Call, submit, opens, hear, turns, Asked, State, after}

-- as an accepted make left replica i of n with w slots each, whatever its tables held
abbrev pub Made : ℕ → ℕ → ℕ → State → Type 0
Made n w i p = (before : Store) × ((Ok (plain p.0), p.1) ≡ make_of n i w before)

-- n replicas with w slots each, at most f of which are not honest; each honest one begins as make left it
pub record Set : Type 0 where
  pub n : ℕ
  pub w : ℕ
  pub least : 4 ≤ n
  pub most : n ≤ 16
  pub some : 1 ≤ w
  pub slots : w ≤ 16
  pub kind : Kind
  pub wide : Wide kind
  pub coin : ℕ → ℕ → Bool
  pub honest : ℕ → Bool
  pub few : count n (λ i. not (honest i)) ≤ faults n
  pub start : ℕ → State
  pub made : (i : ℕ) → i < n → honest i ≡ true → Made n w i (start i)

module _ (S : Set) where
  -- a number of a replica that is honest
  abbrev pub Honest : ℕ → Type 0
  Honest i = (i < S.n) × (S.honest i ≡ true)

  -- replica i after the calls; its book and its board
  abbrev pub state : List Asked → ℕ → State
  state c i = after S.kind S.coin S.start c i

  abbrev pub book : List Asked → ℕ → List (Page (List ℕ))
  book c i = book_of (state c i).0 (state c i).1

  abbrev pub board : List Asked → ℕ → List (Stmt (List ℕ))
  board c i = board_of (state c i).0 (state c i).1

  -- the statement stood on replica j's board at the start or the end of a call
  abbrev pub Shown : List Asked → ℕ → Stmt (List ℕ) → Type 0
  Shown [] j x = ContainsAt (board [] j) x
  Shown (a ∷ c) j x = Shown c j x ⊎ ContainsAt (board (a ∷ c) j) x

  -- what bytes from an honest sender say, the sender has shown, if hear accepts them
  abbrev pub Authentic : List Asked → ℕ → Call → Type 0
  Authentic c i (submit s) = Unit {0}
  Authentic c i opens = Unit {0}
  Authentic c i (hear j s) = (hear_of S.kind.width S.kind.valid (state c i).0 (state c i).1 j s).0 ≡ Ok tt → Honest j → (x : Stmt (List ℕ)) → Says S.kind.width S.kind.valid s x → Shown c j x
  Authentic c i turns = Unit {0}

  -- the own tables are lent, and the call is authentic; or tables of which one is too short
  abbrev pub Lent : List Asked → ℕ → Option Store → Call → Type 0
  Lent c i None a = Authentic c i a
  Lent c i (Some t) a = fits S.n S.w t ≡ false

  -- the same, whoever is called and whatever is heard
  abbrev pub Lending : List Asked → Type 0
  Lending [] = Unit {0}
  Lending (a ∷ c) = Lending c × ((t : Store) → a.lent ≡ Some t → fits S.n S.w t ≡ false)

  -- every call goes to an honest replica
  abbrev pub Fair : List Asked → Type 0
  Fair [] = Unit {0}
  Fair (a ∷ c) = Fair c × Honest a.at × Lent c a.at a.lent a.call

  -- a call at replica q submitted entry x for slot s
  abbrev pub Submits : List Asked → ℕ → Asked → ℕ → List ℕ → Type 0
  Submits c q a s x =
      (q ≡ a.at) × (a.lent ≡ None) × (a.call ≡ submit x)
      × ((submit_of S.kind.width S.kind.valid (state c q).0 (state c q).1 x).0 ≡ Ok tt) × (unused_of (state c q).0 (state c q).1 ≡ Some s)

  abbrev pub Submitted : List Asked → ℕ → ℕ → List ℕ → Type 0
  Submitted [] q s x = ⊥
  Submitted (a ∷ c) q s x = Submitted c q s x ⊎ Submits c q a s x

  -- a call at replica j opened epoch e with bit v, which is 1 if the epoch's queue had a candidate, else 0
  abbrev pub Opens : List Asked → ℕ → Asked → ℕ → Bool → Type 0
  Opens c j a e v =
      let m = (state c j).0 in
      let t = (state c j).1 in
      (j ≡ a.at) × (a.lent ≡ None) × (a.call ≡ opens)
      × ((open_of m t).0 ≡ Ok tt) × (m.epoch ≡ e) × (opening (plan m) (box m t) (box m t).stage ≡ Some v)

  abbrev pub Opened : List Asked → ℕ → ℕ → Bool → Type 0
  Opened [] j e v = ⊥
  Opened (a ∷ c) j e v = Opened c j e v ⊎ Opens c j a e v

module _ (S : Set) (c : List Asked) where
  -- no honest replica would accept what stands on another's board, and none has a turn left
  pub record Quiet : Type 0 where
    pub heard : (i j : ℕ) → Honest S i → Honest S j → (i ≢ j) → (x : Stmt (List ℕ)) → ContainsAt (board S c j) x → (hear_of S.kind.width S.kind.valid (state S c i).0 (state S c i).1 j (spelled x)).0 ≢ Ok tt
    pub rest : (i : ℕ) → Honest S i → (k : ℕ) → (turn_of S.coin (state S c i).0 (state S c i).1).0 ≡ Ok k → k ≡ 0

  pub record Promises : Type 0 where
    -- of any two honest books one is a beginning of the other
    pub agreement : (i j : ℕ) → Honest S i → Honest S j → Begins (book S c i) (book S c j) ⊎ Begins (book S c j) (book S c i)
    -- no honest book holds an entry twice, and a page from an honest queue holds what was submitted there for that slot
    pub no_repetition : (i : ℕ) → Honest S i → Once same_bytes (book S c i)
    pub as_submitted : (i : ℕ) → Honest S i → Each (λ p. Honest S p.queue → Submitted S c p.queue p.slot p.entry) (book S c i)
    -- the bit that an honest replica finds decided is one that an honest replica opened the epoch with
    pub as_opened : (i : ℕ) → Honest S i → (v : Bool) → decides (plan (state S c i).0) (box (state S c i).0 (state S c i).1) ≡ Some v → (j : ℕ) × Honest S j × Opened S c j (state S c i).0.epoch v
    -- where nothing is left to hear and no turn is left, all honest books are equal, and nobody awaits a page
    pub evening_out : Quiet → (i j : ℕ) → Honest S i → Honest S j → book S c i ≡ book S c j
    pub nobody_awaits : Quiet → (i : ℕ) → Honest S i → (state S c i).0.stage ≢ Awaiting
    -- honest replicas that have left the same number of epochs have equal books
    pub in_step : (i j : ℕ) → Honest S i → Honest S j → (state S c i).0.epoch ≡ (state S c j).0.epoch → book S c i ≡ book S c j
    -- a page stays where it is after any further calls, whatever they are
    pub lasting : (i : ℕ) → Honest S i → (more : List Asked) → Lending S more → Begins (book S c i) (book S (more ++ c) i)

abbrev pub Promise : Type 0
Promise = (S : Set) (c : List Asked) → Fair S c → Promises S c
