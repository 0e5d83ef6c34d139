-- Counting: two sets that are large enough share an honest box.
use Rattle.std.proofs.Common.{◌≡◌, ℕ, zero, suc, ◌+◌, ◌-◌, ◌*◌, ◌<◌, ◌≤◌, Bool, true, false, not, ◌&&◌, ◌⊎◌, refl, inl, inr, arith}
use Rattle.std.proofs.lemmas.Bool.{and_parts, cases_order}
use Rattle.common.proofs.Tables.{sound}
use Rattle.theory.specs.Count.{bit, count, Boxes, Honest, Of, Somebody, Counting, Tabled, Counts}

bit_meet : (p q : Bool) → bit p + bit q ≤ 1 + bit (p && q)
bit_meet true true = omega arith
bit_meet true false = omega arith
bit_meet false true = omega arith
bit_meet false false = omega arith

pub count_meet : (n : ℕ) (p q : ℕ → Bool) → count n p + count n q ≤ n + count n (λ i. p i && q i)
count_meet zero p q = omega arith
count_meet (suc n) p q = omega (arith, bit_meet (p n) (q n), count_meet n p q)

bit_not : (p : Bool) → bit p + bit (not p) ≡ 1
bit_not true = refl
bit_not false = refl

pub count_not : (n : ℕ) (p : ℕ → Bool) → count n p + count n (λ i. not (p i)) ≡ n
count_not zero p = refl
count_not (suc n) p = omega (arith, bit_not (p n), count_not n p)

bit_mono : (p q : Bool) → (p ≡ true → q ≡ true) → bit p ≤ bit q
bit_mono true q h = rw (h refl) (omega arith)
bit_mono false q h = omega arith

pub count_mono : (n : ℕ) (p q : ℕ → Bool) → ((i : ℕ) → i < n → p i ≡ true → q i ≡ true) → count n p ≤ count n q
count_mono zero p q h = omega arith
count_mono (suc n) p q h = omega (arith, bit_mono (p n) (q n) (h n (omega arith)), count_mono n p q (λ i l. h i (omega arith)))

-- a set that is not empty has a member
pub count_some : (n : ℕ) (p : ℕ → Bool) → 0 < count n p → (i : ℕ) × (i < n) × (p i ≡ true)
count_some zero p h = absurd (omega arith)
count_some (suc n) p h = at (count_some n p) (p n) refl
  where
    at : (0 < count n p → (i : ℕ) × (i < n) × (p i ≡ true)) → (v : Bool) → p n ≡ v → (i : ℕ) × (i < suc n) × (p i ≡ true)
    at more true e = (n, omega arith, e)
    at more false e = let r = more (omega (arith, rw e at h)) in (r.0, omega arith, r.2)

-- the honest members of a set are at most f fewer
pub honest_part : (b : Boxes) (p : ℕ → Bool) → count b.size p ≤ count b.size (λ i. p i && b.honest i) + b.faults
honest_part b p = omega (arith, count_meet b.size p b.honest, count_not b.size b.honest, b.few)

-- N - f boxes and more are honest
pub honest_many : (b : Boxes) → b.size ≤ count b.size b.honest + b.faults
honest_many b = omega (arith, count_not b.size b.honest, b.few)

pub honest_2f+1 : (b : Boxes) → 2 * b.faults + 1 ≤ count b.size b.honest
honest_2f+1 b = omega (arith, honest_many b, b.room)

module _ {b : Boxes} where
  -- f + 1 boxes: an honest one among them
  pub one : {k : ℕ} {φ : ℕ → Type 0} → b.faults < k → Of b k φ → Somebody b φ
  one {k} {φ} h o =
      let r = count_some b.size (λ i. o.member i && b.honest i) (omega (arith, honest_part b o.member, o.enough)) in
      let t = and_parts (o.member r.0) (b.honest r.0) r.2 in
      let is : Honest b r.0 = record { below = r.1; good = t.1 } in
      record { who = r.0; is = is; has = o.each r.0 is t.0 }

  pub meet_of : {j k : ℕ} {φ ψ : ℕ → Type 0} → Of b j φ → Of b k ψ → (n : ℕ) → n + b.size ≤ j + k → Of b n (λ i. φ i × ψ i)
  meet_of o u n h = record {
    member = λ i. o.member i && u.member i;
    enough = omega (arith, count_meet b.size o.member u.member, o.enough, u.enough);
    each = λ i is e. let t = and_parts (o.member i) (u.member i) e in (o.each i is t.0, u.each i is t.1);
  }

  -- two sets larger than N + f together share an honest box
  pub meets : {j k : ℕ} {φ ψ : ℕ → Type 0} → b.size + b.faults < j + k → Of b j φ → Of b k ψ → Somebody b (λ i. φ i × ψ i)
  meets h o u = one (omega arith) (meet_of o u (suc b.faults) (omega arith))

pub weaken : {b : Boxes} {k : ℕ} {φ ψ : ℕ → Type 0} → ((i : ℕ) → Honest b i → φ i → ψ i) → Of b k φ → Of b k ψ
weaken g o = record { member = o.member; enough = o.enough; each = λ i is e. g i is (o.each i is e) }

-- two sets of Q; two of N - f
pub two_echoes : {b : Boxes} {φ ψ : ℕ → Type 0} → Of b b.quorum φ → Of b b.quorum ψ → Somebody b (λ i. φ i × ψ i)
two_echoes {b} o u = meets (omega arith) o u

pub two_most : {b : Boxes} {φ ψ : ℕ → Type 0} → Of b (b.size - b.faults) φ → Of b (b.size - b.faults) ψ → Somebody b (λ i. φ i × ψ i)
two_most {b} o u = meets (omega (arith, b.room)) o u

-- of 2f + 1 boxes f + 1 and more are honest
pub honest_f+1 : (b : Boxes) (p : ℕ → Bool) → 2 * b.faults + 1 ≤ count b.size p → b.faults + 1 ≤ count b.size (λ i. p i && b.honest i)
honest_f+1 b p h = omega (arith, honest_part b p)

-- f + 1 that are honest among 2f + 1; and all honest
pub from_most : {b : Boxes} {φ : ℕ → Type 0} (p : ℕ → Bool) → Of b (2 * b.faults + 1) φ → ((i : ℕ) → Honest b i → φ i → p i ≡ true) → b.faults + 1 ≤ count b.size p
from_most {b} {φ} p o g =
    omega (arith, honest_f+1 b o.member o.enough, count_mono b.size (λ i. o.member i && b.honest i) p (λ i l e. let t = and_parts (o.member i) (b.honest i) e in let is : Honest b i = record { below = l; good = t.1 } in g i is (o.each i is t.0)))

pub from_all : (b : Boxes) (p : ℕ → Bool) → ((i : ℕ) → Honest b i → p i ≡ true) → 2 * b.faults + 1 ≤ count b.size p
from_all b p g = omega (arith, honest_2f+1 b, count_mono b.size b.honest p (λ i l e. g i (record { below = l; good = e })))

bit_zero : (p : Bool) → bit p ≡ 0 → p ≡ false
bit_zero true e = absurd (omega arith)
bit_zero false e = refl

-- nobody is in an empty set
pub count_none : (n : ℕ) (p : ℕ → Bool) → count n p ≡ 0 → (i : ℕ) → i < n → p i ≡ false
count_none zero p e i l = absurd (omega arith)
count_none (suc n) p e i l = at (cases_order i n) (count_none n p (omega arith) i)
  where
    at : (i ≡ n) ⊎ ((i < n) ⊎ (n < i)) → (i < n → p i ≡ false) → p i ≡ false
    at (inl eq) ih = rw eq (bit_zero (p n) (omega arith))
    at (inr (inl less)) ih = ih less
    at (inr (inr more)) ih = absurd (omega arith)

-- a set of boxes that is given by a test
as_of : (b : Boxes) (k : ℕ) (p : ℕ → Bool) → k ≤ count b.size p → Of b k (λ i. p i ≡ true)
as_of b k p h = record { member = p; enough = h; each = λ i is e. e }

pub counting : (b : Boxes) → Counting b
counting b = record {
  one_honest = λ p h. one h (as_of b _ p (omega arith));
  quorums_share = λ p q h k. two_echoes (as_of b _ p h) (as_of b _ q k);
  large_share = λ p q h k. two_most (as_of b _ p h) (as_of b _ q k);
  honest_many = omega (arith, honest_many b);
  honest_most = omega (arith, b.room);
}

tabled : (n : ℕ) → 1 ≤ n → Tabled n
tabled n h = record { sound = sound n h; readies = omega arith }

pub counts : Counts
counts = record { counting = counting; tabled = tabled }
