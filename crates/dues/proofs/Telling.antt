-- Whether what is held is told as a statement: a test of what the statement carries.
use Rattle.std.proofs.Common.{◌≡◌, ℕ, Bool, true, false, ◌↔◌, List, Some, None, Option, sym, refl, ap}
use Rattle.std.specs.Option.{option_map}
use Rattle.theory.specs.Statement.{Bits, only, both, Stmt, StmtEq}
use Rattle.theory.specs.Turns.{is, same_bit}
use Rattle.votes.specs.Votes.{is_bit, is_set, same_set}
use Rattle.replica.specs.View.{bytes_same}
use Rattle.replica.proofs.Vacating.{decided_by}

-- whether what is held is told as x, by a test of what it carries
abbrev pub tested : {A : Type 0} → (A → A → Bool) → A → Option A → Bool
tested test x None = false
tested test x (Some y) = test x y

is_tested : {A : Type 0} (test : A → A → Bool) (st : A → Stmt (List ℕ)) → ((x y : A) → (test x y ≡ true) ↔ (st y ≡ st x)) → (o : Option A) (x : A) → is (StmtEq bytes_same) (option_map st o) (st x) ≡ tested test x o
is_tested test st tells None x = refl
is_tested test st tells (Some y) x = sym (decided_by (test x y) (StmtEq bytes_same (st y) (st x)) (tells x y))

bit_told : (st : Bool → Stmt (List ℕ)) → ((u v : Bool) → st u ≡ st v → u ≡ v) → (x y : Bool) → (same_bit x y ≡ true) ↔ (st y ≡ st x)
bit_told st inj true true = (λ e. refl, λ e. refl)
bit_told st inj true false = (λ e. cc, λ e. let z = inj false true e in cc)
bit_told st inj false true = (λ e. cc, λ e. let z = inj true false e in cc)
bit_told st inj false false = (λ e. refl, λ e. refl)

-- a statement that ends in one bit
pub is_bit_told : (st : Bool → Stmt (List ℕ)) → ((u v : Bool) → st u ≡ st v → u ≡ v) → (o : Option Bool) (v : Bool) → is (StmtEq bytes_same) (option_map st o) (st v) ≡ is_bit v o
is_bit_told st inj None v = refl
is_bit_told st inj (Some u) v = is_tested same_bit st (bit_told st inj) (Some u) v

set_told : (st : Bits → Stmt (List ℕ)) → ((x y : Bits) → st x ≡ st y → x ≡ y) → (x y : Bits) → (same_set x y ≡ true) ↔ (st y ≡ st x)
set_told st inj (only u) (only v) = ((λ e. ap (λ w. st (only w)) (sym (same u v e))), (λ e. other u v (inj (only v) (only u) e)))
  where
    same : (a b : Bool) → same_bit a b ≡ true → a ≡ b
    same true true e = refl
    same true false e = cc
    same false true e = cc
    same false false e = refl

    other : (a b : Bool) → only b ≡ only a → same_bit a b ≡ true
    other true true e = refl
    other true false e = cc
    other false true e = cc
    other false false e = refl
set_told st inj (only u) both = ((λ e. cc), (λ e. let z = inj both (only u) e in cc))
set_told st inj both (only v) = ((λ e. cc), (λ e. let z = inj (only v) both e in cc))
set_told st inj both both = ((λ e. refl), (λ e. refl))

-- a statement that ends in a set
pub is_set_told : (st : Bits → Stmt (List ℕ)) → ((x y : Bits) → st x ≡ st y → x ≡ y) → (o : Option Bits) (u : Bits) → is (StmtEq bytes_same) (option_map st o) (st u) ≡ is_set u o
is_set_told st inj None u = refl
is_set_told st inj (Some v) u = is_tested same_set st (set_told st inj) (Some v) u
