-- Searches over the two bits, and what is done only where something is stated or nothing is.
use Rattle.std.proofs.Common.{◌≡◌, ℕ, Bool, true, false, not, ◌&&◌, leb, Some, None, Option, sym, refl, ◌∙◌}
use mathlib.Core.Bool.{false≢true}
use Rattle.std.specs.Option.{option_map, is_some}
use Rattle.theory.specs.Statement.{Bits}
use Rattle.theory.specs.Search.{or_else, bits, only_if, guard, unless, given, bind, absent}
use Rattle.theory.proofs.Searching.{unless_empty}
use Rattle.theory.specs.Turns.{set_of}
use Rattle.votes.specs.declared.bits.Bits as declared
use Rattle.votes.specs.Sets.{bits_of, in_set, bit_in}
use Rattle.votes.specs.Votes.{among}
use Rattle.replica.specs.View.{held}
use Rattle.dues.specs.Lowest.{lowest}

-- the lowest bit that passes a test
pub found : {A : Type 0} (st : Bool → A) (p : Bool → Bool) (s : Option Bits) → s ≡ set_of (p false) (p true) → option_map st (lowest s) ≡ bits (λ v. guard (p v) (st v))
unfolding bits guard or_else
found st p s h = rw h (at (p false) (p true))
  where
    at : (z o : Bool) → option_map st (lowest (set_of z o)) ≡ or_else (guard z (st false)) (guard o (st true))
    at true true = refl
    at true false = refl
    at false true = refl
    at false false = refl

-- the same, where nothing is stated yet
pub chosen : {A B : Type 0} (own : Option B) (st : Bool → A) (p : Bool → Bool) (s : Option Bits) → own ≡ None → s ≡ set_of (p false) (p true) → option_map st (lowest s) ≡ unless own (bits (λ v. guard (p v) (st v)))
chosen own st p s e h = found st p s h ∙ sym (unless_empty own _ e)

pub stated : {A B : Type 0} (own : Option B) (o : Option A) → is_some own ≡ true → None ≡ unless own o
unfolding unless
stated None o e = absurd (false≢true e)
stated (Some b) o e = refl

pub nothing : {B : Type 0} (o : Option B) → is_some o ≡ false → o ≡ None
nothing None e = refl
nothing (Some b) e = absurd (false≢true (sym e))

pub some_mapped : {A B : Type 0} (f : A → B) (o : Option A) → is_some (option_map f o) ≡ is_some o
some_mapped f None = refl
some_mapped f (Some a) = refl

-- where something is marked, nothing else is done
pub unless_held : {A B C : Type 0} (f : B → C) (u : B) (x : A) (b c : Bool) → unless (option_map f (held b (Some u))) (guard c x) ≡ guard (not b && c) x
unfolding unless guard
unless_held f u x true true = refl
unless_held f u x true false = refl
unless_held f u x false true = refl
unless_held f u x false false = refl

pub absent_mapped : {A B : Type 0} (f : A → B) (o : Option A) → absent (option_map f o) ≡ not (is_some o)
absent_mapped f None = refl
absent_mapped f (Some a) = refl

pub twice : (b : Bool) → not (not b) ≡ b
twice true = refl
twice false = refl

pub guard_false : {A : Type 0} (b : Bool) (a : A) → b ≡ false → guard b a ≡ None
unfolding guard
guard_false b a e = rw e refl

pub only_if_false : {A : Type 0} (b : Bool) (o : Option A) → b ≡ false → only_if b o ≡ None
unfolding only_if
only_if_false b o e = rw e refl

pub given_none : {A B : Type 0} (own : Option B) (o : Option A) → o ≡ None → given own o ≡ None
unfolding given
given_none None o e = refl
given_none (Some b) o e = e

pub given_empty : {A B : Type 0} (own : Option B) (o : Option A) → own ≡ None → given own o ≡ None
unfolding given
given_empty own o e = rw e refl

pub unless_empties : {A B : Type 0} (own : Option B) (o : Option A) → o ≡ None → unless own o ≡ None
unfolding unless
unless_empties None o e = e
unless_empties (Some b) o e = refl

pub bound : {A : Type 0} (st : Bits → A) (s : Option declared.Bits) → bind (option_map bits_of s) (λ u. Some (st u)) ≡ option_map (λ u. st (bits_of u)) s
unfolding bind
bound st None = refl
bound st (Some u) = refl

-- whether a bit is in what may be no set
abbrev pub inside : Option Bits → Bool → Bool
inside None v = false
inside (Some u) v = in_set u v

pub bit_inside : (s : Option declared.Bits) (v : Bool) → bit_in s v ≡ inside (option_map bits_of s) v
bit_inside None v = refl
bit_inside (Some u) v = refl

pub inside_of : (p : Bool → Bool) (v : Bool) → inside (set_of (p false) (p true)) v ≡ p v
inside_of p v = at (p false) (p true) v ∙ own v
  where
    at : (z o u : Bool) → inside (set_of z o) u ≡ among z o u
    at true true true = refl
    at true true false = refl
    at true false true = refl
    at true false false = refl
    at false true true = refl
    at false true false = refl
    at false false true = refl
    at false false false = refl

    own : (u : Bool) → among (p false) (p true) u ≡ p u
    own true = refl
    own false = refl

-- at least so many
pub enough : (e k a b : ℕ) → e ≡ k → a ≡ b → leb e a ≡ leb k b
enough e k a b h i = λ z. leb (h z) (i z)
