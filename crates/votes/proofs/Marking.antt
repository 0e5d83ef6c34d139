-- What is marked after a sender has marked more: its own bit or set, and those of the others. And that nothing is marked at first.
use Rattle.std.proofs.Common.{◌≡◌, ℕ, ◌*◌, ◌%◌, ◌^◌, ◌<◌, Bool, true, false, cond, if◌then◌else◌, not, ◌&&◌, ◌||◌, eqb, Some, None, refl, ap, ◌∙◌, ap₂, arith}
use lib.Bits.{bit_or, or_zero_r}
use Rattle.std.proofs.lemmas.Nat.{one_shl}
use Rattle.std.proofs.lemmas.Bool.{eq-eqb, ne_eqb}
use Rattle.theory.specs.Turns.{set_of}
use Rattle.votes.specs.declared.marks.Marks.{Marks}
use Rattle.votes.specs.Votes.{has, with, unmarked, marks, one_bit, bit_of, set_for, among, mark, with_set, Marked}
use Rattle.votes.proofs.Bitwise.{has_none, has_with}

with_one : (m j : ℕ) (w : Bool) (i : ℕ) → has (cond w (with m j) m) i ≡ (has m i || (w && eqb i j))
with_one m j true i = has_with m j i
with_one m j false i = at (has m i)
  where
    at : (x : Bool) → x ≡ (x || false)
    at true = refl
    at false = refl

-- the mask of the sender joined, if so wished
pub joined : (m j a b k : ℕ) (w z : Bool) → j < 16 → a ≡ bit_or m b → b ≡ (if w then k else 0) → k ≡ 1 * 2 ^ j % 2 ^ 16 → w ≡ z → a ≡ cond z (with m j) m
joined m j a b k w z l e h i t = e ∙ ap (bit_or m) h ∙ rw (t, i) (at z)
  where
    at : (v : Bool) → bit_or m (if v then (1 * 2 ^ j % 2 ^ 16) else 0) ≡ cond v (with m j) m
    at true = ap (bit_or m) (one_shl j 16 l)
    at false = or_zero_r m

-- at the sender itself, and at another
here : (x w e : Bool) → e ≡ true → (x || (w && e)) ≡ (x || w)
here x w e h = grind (arith, h)

there : (x w e : Bool) → e ≡ false → (x || (w && e)) ≡ x
there x w e h = grind (arith, h)

module _ (p : Marks) (z o : Bool) (j : ℕ) where
  marks_at : (v : Bool) (i : ℕ) → marks (with_set p z o j) v i ≡ (marks p v i || (among z o v && eqb i j))
  marks_at true i = with_one p.one.0 j o i
  marks_at false i = with_one p.zero.0 j z i

  pub marked : Marked p z o j (with_set p z o j)
  marked = record {
    own = λ v. marks_at v j ∙ here (marks p v j) (among z o v) (eqb j j) (eq-eqb j j refl);
    others = λ v i ne. marks_at v i ∙ there (marks p v i) (among z o v) (eqb i j) (ne_eqb i j ne);
  }

  -- every other has the bit and the set that it had
  pub bit_other : (i : ℕ) → (i ≡ j → ⊥) → bit_of (with_set p z o j) i ≡ bit_of p i
  bit_other i ne = ap₂ one_bit (marked.others false i ne) (marked.others true i ne)

  pub set_other : (i : ℕ) → (i ≡ j → ⊥) → set_for (with_set p z o j) i ≡ set_for p i
  set_other i ne = ap₂ set_of (marked.others false i ne) (marked.others true i ne)

  -- who had no set has this one
  pub set_own : set_for p j ≡ None → set_for (with_set p z o j) j ≡ set_of z o
  set_own free = ap₂ set_of (marked.own false) (marked.own true) ∙ at (marks p false j) (marks p true j) free
    where
      at : (x y : Bool) → set_of x y ≡ None → set_of (x || z) (y || o) ≡ set_of z o
      at true true e = cc
      at true false e = cc
      at false true e = cc
      at false false e = refl

module _ (p : Marks) (v : Bool) (j : ℕ) where
  -- the bit is marked, and the other one as it was
  pub marks_own : marks (mark p v j) v j ≡ true
  marks_own = (marked p (not v) v j).own v ∙ at v (marks p v j)
    where
      at : (u x : Bool) → (x || among (not u) u u) ≡ true
      at u x = grind arith

  pub marks_rest : (u : Bool) → (u ≡ v → ⊥) → marks (mark p v j) u j ≡ marks p u j
  marks_rest u ne = (marked p (not v) v j).own u ∙ at u v (marks p u j) ne
    where
      at : (u w x : Bool) → (u ≡ w → ⊥) → (x || among (not w) w u) ≡ x
      at true true x n = absurd (n refl)
      at true false x n = grind arith
      at false true x n = grind arith
      at false false x n = absurd (n refl)

  -- who had no bit has this one
  pub bit_own : bit_of p j ≡ None → bit_of (mark p v j) j ≡ Some v
  bit_own free =
      ap₂ one_bit ((marked p (not v) v j).own false) ((marked p (not v) v j).own true) ∙ at (marks p false j) (marks p true j) v free
    where
      at : (x y u : Bool) → one_bit x y ≡ None → one_bit (x || not u) (y || u) ≡ Some u
      at true y u e = cc
      at false true u e = cc
      at false false true e = refl
      at false false false e = refl

-- at first nothing is marked
pub marks_none : (v : Bool) (j : ℕ) → marks unmarked v j ≡ false
marks_none true j = has_none j
marks_none false j = has_none j

pub bit_none : (j : ℕ) → bit_of unmarked j ≡ None
bit_none j = ap₂ one_bit (has_none j) (has_none j)

pub set_none : (j : ℕ) → set_for unmarked j ≡ None
set_none j = ap₂ set_of (has_none j) (has_none j)
