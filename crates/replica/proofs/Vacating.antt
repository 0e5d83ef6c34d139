-- A cell in sight: what is settled by what the tables and votes hold there.
use Rattle.std.proofs.Common.{◌≡◌, ℕ, ◌<◌, Bool, true, false, ◌↔◌, ◌&&◌, ltb, map, get_or, List, Some, None, Option, sym, refl, ap, ◌∙◌}
use mathlib.Core.Bool.{beq}
use Rattle.std.specs.Option.{option_map}
use Rattle.std.proofs.lemmas.Bool.{lt-ltb, and_from, cond-true}
use Rattle.theory.specs.Statement.{only, Stmt, confirm, StmtEq, decided}
use Rattle.theory.specs.Calls.{ranged}
use Rattle.votes.specs.contracts.bits.BitsPartialEq.TheImpl as sets
use Rattle.votes.specs.declared.bits.Bits.{Bits}
use Rattle.votes.specs.declared.bits.Bits.TheVariants.{Only, Both}
use Rattle.votes.specs.Sets.{bits_of}
use Rattle.votes.specs.Votes.{no_round, set_for}
use Rattle.cells.proofs.Cellrows.{map_read}
use Rattle.replica.specs.declared.state.Replica.{Replica}
use Rattle.replica.specs.Store.{Store}
use Rattle.replica.specs.View.{held, plan, box, bytes_same}
use Rattle.replica.specs.Holding.{taken_of, settled_by, settled, vacant_of}

-- the test tells whether what f sees is the same
abbrev pub Tells : {A B : Type 0} → (A → A → Bool) → (A → B) → Type 0
Tells {A} eq f = (x y : A) → (eq x y ≡ true) ↔ (f x ≡ f y)

only_one : (a b : Bool) → only a ≡ only b → a ≡ b
only_one a b h = cc

pub bits_told : Tells beq (λ (v : Bool). v)
bits_told true true = (λ e. refl, λ e. refl)
bits_told true false = (λ e. cc, λ e. cc)
bits_told false true = (λ e. cc, λ e. cc)
bits_told false false = (λ e. refl, λ e. refl)

pub sets_told : Tells sets.eq-value.it bits_of
sets_told (Only a) (Only b) = (λ e. ap only ((bits_told a b).0 e), λ e. (bits_told a b).1 (only_one a b e))
sets_told (Only a) Both = (λ e. cc, λ e. cc)
sets_told Both (Only b) = (λ e. cc, λ e. cc)
sets_told Both Both = (λ e. refl, λ e. refl)

-- and whether what carries it is
pub carried_told : {A B C : Type 0} (eq : A → A → Bool) (f : A → B) (st : B → C) → Tells eq f → ((x y : B) → st x ≡ st y → x ≡ y) → Tells eq (λ x. st (f x))
carried_told eq f st told inj x y = (λ e. ap st ((told x y).0 e), λ e. (told x y).1 (inj (f x) (f y) e))

pub carried : {A B C : Type 0} (f : A → B) (st : B → C) (o : Option A) → option_map (λ x. st (f x)) o ≡ option_map st (option_map f o)
carried f st None = refl
carried f st (Some x) = refl

-- a test that tells of what is decided
pub decided_by : {P : Type 0} (b : Bool) (d : Dec P) → (b ≡ true) ↔ P → b ≡ decided d
decided_by true (yes a) told = refl
decided_by true (no n) told = absurd (n (told.0 refl))
decided_by false (yes a) told = told.1 a
decided_by false (no n) told = refl

settled_under : {A B : Type 0} (eq : A → A → Bool) (e : Discrete B) (f : A → B) → Tells eq f → (o : Option A) (x : A) → settled_by eq o x ≡ settled e (option_map f o) (f x)
settled_under eq e f told None x = refl
settled_under eq e f told (Some y) x = ap taken_of (decided_by (eq y x) (e (f y) (f x)) (told y x))

-- so it settles the statement, where that is in sight
pub settled_at : {A : Type 0} (eq : A → A → Bool) (st : A → Stmt (List ℕ)) → Tells eq st → (guard : Bool) → guard ≡ true → (o : Option A) (there : Option (Stmt (List ℕ))) → option_map st o ≡ there → (x : A) → settled_by eq o x ≡ settled (StmtEq bytes_same) (held guard there) (st x)
settled_at eq st told guard g o there is x =
    settled_under eq (StmtEq bytes_same) st told o x
    ∙ ap (λ p. settled (StmtEq bytes_same) p (st x)) (is ∙ sym (cond-true guard there None g))

module _ (m : Replica) (t : Store) (j : ℕ) (lj : j < m.set.n) where
  pub confirm_vacant : (e k : ℕ) (u : Bits) (o : Option Bits) → ranged (plan m) (box m t) (confirm e k (bits_of u)) ≡ true → option_map bits_of o ≡ set_for (get_or m.votes.rounds k no_round).confirms j → settled_by sets.eq-value.it o u ≡ vacant_of m t j (confirm e k (bits_of u))
  confirm_vacant e k u o r is =
      settled_at sets.eq-value.it (λ x. confirm e k (bits_of x)) (carried_told sets.eq-value.it bits_of (confirm e k) sets_told (λ x y h. cc)) _ (and_from _ _ (lt-ltb j m.set.n lj) r) o _
      (carried bits_of (confirm e k) o ∙ ap (option_map (confirm e k)) is) u

-- an entry that is held in a row of cells
pub row_vacant :
    {K : Type 0} (eq : K → K → Bool) (bytes : K → List ℕ) → Tells eq bytes → (st : List ℕ → Stmt (List ℕ)) → ((x y : List ℕ) → st x ≡ st y → x ≡ y)
    → (j n : ℕ) → j < n → (ranged : Bool) → ranged ≡ true → (cells : List (Option K)) (at place : ℕ) (o : Option K) → o ≡ get_or cells at None → at ≡ place → (x : K)
    → settled_by eq o x ≡ settled (StmtEq bytes_same) (held (ltb j n && ranged) (option_map st (get_or (map (option_map bytes) cells) place None))) (st (bytes x))
row_vacant eq bytes told st inj j n lj ranged r cells at place o is e x =
    let there = ap (option_map bytes) is ∙ sym (map_read bytes cells at) ∙ ap (λ a. get_or (map (option_map bytes) cells) a None) e in
    settled_at eq (λ y. st (bytes y)) (carried_told eq bytes st told inj) _ (and_from _ _ (lt-ltb j n lj) r) o _ (carried bytes st o ∙ ap (option_map st) there) x
