-- Masks, a bit at a time: how many senders are in one, and who is in the masks made of others.
use Rattle.std.proofs.Common.{◌≡◌, ℕ, zero, suc, ◌+◌, ◌-◌, ◌*◌, ◌/◌, ◌%◌, ◌^◌, ◌<◌, ◌≤◌, min, Bool, true, false, if◌then◌else◌, not, ◌&&◌, ◌||◌, eqb, ◌⊎◌, sym, refl, ap, ◌∙◌, ap₂, inl, inr, pow-suc, add-one, arith, w16}
use native.Mathlib.Nat.{zero-div}
use lib.Bits.{bit_and, bit_or}
use lib.Count.{ones, ones_in, ones_step}
use Rattle.std.proofs.lemmas.Nat.{and_shr, or_shr, and_mod, or_mod, shr-shr, field_of, mod-pow-add}
use Rattle.std.proofs.lemmas.Nat.Bits.{bit_at_not}
use Rattle.std.specs.Int.{bit_not}
use Rattle.std.proofs.Math.Nat.{div-eq_of_lt, mod-eq_of_lt, pow-le-pow_right}
use Rattle.std.proofs.lemmas.Bool.{eq-eqb, ne_eqb, cases_eq, cases_lt}
use Rattle.theory.specs.Count.{bit, count}
use Rattle.votes.specs.Votes.{has, with}

-- tests that agree below n have the same count
pub count_same : (n : ℕ) (p q : ℕ → Bool) → ((j : ℕ) → j < n → p j ≡ q j) → count n p ≡ count n q
count_same zero p q e = refl
count_same (suc n) p q e = ap₂ (λ b k. bit b + k) (e n (omega arith)) (count_same n p q (λ j l. e j (omega arith)))

-- a count from the lowest number up
count_low : (n : ℕ) (p : ℕ → Bool) → count (suc n) p ≡ bit (p 0) + count n (λ j. p (suc j))
count_low zero p = refl
count_low (suc n) p = omega (arith, count_low n p)

parity : (x : ℕ) → (x % 2 ≡ 0) ⊎ (x % 2 ≡ 1)
parity x = at (x % 2) (omega arith)
  where
    at : (y : ℕ) → y < 2 → (y ≡ 0) ⊎ (y ≡ 1)
    at zero l = inl refl
    at (suc zero) l = inr refl
    at (suc (suc y)) l = absurd (omega arith)

-- the lowest bit, and those above
bit_low : (m : ℕ) → bit (has m 0) ≡ m % 2
unfolding has
bit_low m = at (m / 1 % 2) (parity (m / 1)) ∙ omega arith
  where
    at : (y : ℕ) → (y ≡ 0) ⊎ (y ≡ 1) → bit (eqb y 1) ≡ y
    at y (inl e) = rw e
    at y (inr e) = rw e

has_high : (m j : ℕ) → has m (suc j) ≡ has (m / 2) j
unfolding has
has_high m j = let e : 1 + j ≡ suc j = omega arith in ap (λ k. eqb (m / 2 ^ k % 2) 1) (sym e) ∙ ap (λ k. eqb (k % 2) 1) (sym (shr-shr m 1 j))

ones_zero : ones 0 ≡ 0
unfolding ones ones_in
ones_zero = refl

low_bit : (h m : ℕ) → (h * 2 + m % 2) % 2 ≡ m % 2
low_bit h m = omega arith

-- the ones among the lowest n bits are the senders below n
pub low_ones : (n m : ℕ) → ones (m % 2 ^ n) ≡ count n (has m)
low_ones zero m = let e : m % 1 ≡ 0 = omega arith in ap ones e ∙ ones_zero
low_ones (suc n) m =
    let k : n + 1 ≡ suc n = add-one n in
    let low : m % 2 ^ suc n % 2 ≡ m % 2 = ap (λ i. m % 2 ^ i % 2) (sym k) ∙ ap (λ x. x % 2) (mod-pow-add m n 1) ∙ low_bit (m / 2 % 2 ^ n) m in
    let high : m % 2 ^ suc n / 2 ≡ m / 2 % 2 ^ n = ap (λ i. m % 2 ^ i / 2) (sym k) ∙ field_of m n 1 in
    ones_step (m % 2 ^ suc n) ∙ ap₂ (λ x y. x + ones y) low high
    ∙ ap₂ (λ x y. x + y) (sym (bit_low m)) (low_ones n (m / 2) ∙ count_same n _ _ (λ j l. sym (has_high m j)))
    ∙ sym (count_low n (has m))

pow_above : (m j : ℕ) → m < 2 ^ 16 → 16 ≤ j → m < 2 ^ j
pow_above m j h l = let e : 2 ^ 16 ≤ 2 ^ j = pow-le-pow_right (omega arith) l in omega (arith, h, e)

-- an operation on masks that works on each bit alone, as tell does
has_op : (op : ℕ → ℕ → ℕ) (tell : Bool → Bool → Bool) → ((a b k : ℕ) → op a b / 2 ^ k ≡ op (a / 2 ^ k) (b / 2 ^ k)) → ((a b k : ℕ) → op a b % 2 ^ k ≡ op (a % 2 ^ k) (b % 2 ^ k))
    → eqb (op 0 0) 1 ≡ tell false false → eqb (op 0 1) 1 ≡ tell false true → eqb (op 1 0) 1 ≡ tell true false → eqb (op 1 1) 1 ≡ tell true true
    → (a b j : ℕ) → has (op a b) j ≡ tell (has a j) (has b j)
unfolding has
has_op op tell shr low p q r s a b j = ap (λ x. eqb (x % 2) 1) (shr a b j) ∙ ap (λ x. eqb x 1) (low (a / 2 ^ j) (b / 2 ^ j) 1) ∙ at (a / 2 ^ j % 2) (b / 2 ^ j % 2) (parity (a / 2 ^ j)) (parity (b / 2 ^ j))
  where
    at_both : (x y u v : ℕ) → x ≡ u → y ≡ v → eqb (op u v) 1 ≡ tell (eqb u 1) (eqb v 1) → eqb (op x y) 1 ≡ tell (eqb x 1) (eqb y 1)
    at_both x y u v e h k = ap₂ (λ i j. eqb (op i j) 1) e h ∙ k ∙ ap₂ (λ i j. tell (eqb i 1) (eqb j 1)) (sym e) (sym h)

    at : (x y : ℕ) → (x ≡ 0) ⊎ (x ≡ 1) → (y ≡ 0) ⊎ (y ≡ 1) → eqb (op x y) 1 ≡ tell (eqb x 1) (eqb y 1)
    at x y (inl e) (inl h) = at_both x y 0 0 e h p
    at x y (inl e) (inr h) = at_both x y 0 1 e h q
    at x y (inr e) (inl h) = at_both x y 1 0 e h r
    at x y (inr e) (inr h) = at_both x y 1 1 e h s

pub has_and : (a b j : ℕ) → has (bit_and a b) j ≡ (has a j && has b j)
has_and = has_op bit_and ◌&&◌ and_shr and_mod refl refl refl refl

pub has_or : (a b j : ℕ) → has (bit_or a b) j ≡ (has a j || has b j)
has_or = has_op bit_or ◌||◌ or_shr or_mod refl refl refl refl

-- nobody is in the empty mask
pub has_none : (j : ℕ) → has 0 j ≡ false
unfolding has
has_none j = ap (λ x. eqb (x % 2) 1) (zero-div (2 ^ j))

-- a mask has no sender past its sixteen bits
pub has_past : (m j : ℕ) → m < 2 ^ 16 → 16 ≤ j → has m j ≡ false
unfolding has
has_past m j h l = let e : m / 2 ^ j ≡ 0 = div-eq_of_lt (pow_above m j h l) in ap (λ x. eqb (x % 2) 1) e

-- so its count stops there
pub count_cut : (m n : ℕ) → m < 2 ^ 16 → ones (m % 2 ^ min n 16) ≡ count n (has m)
count_cut m n h = ap (λ x. ones x) (at (cases_lt n 16)) ∙ low_ones n m
  where
    at : (n < 16) ⊎ (16 ≤ n) → m % 2 ^ min n 16 ≡ m % 2 ^ n
    at (inl l) = let e : min n 16 ≡ n = omega arith in rw e
    at (inr l) = let e : min n 16 ≡ 16 = omega arith in rw e (mod-eq_of_lt h ∙ sym (mod-eq_of_lt (pow_above m n h l)))

-- the senders of a mask that are not in another
pub has_except : (a b j : ℕ) → a < 2 ^ 16 → b < 2 ^ 16 → has (bit_and a (bit_not w16 b)) j ≡ (has a j && not (has b j))
unfolding has
has_except a b j h k = has_and a (bit_not w16 b) j ∙ at (cases_lt j 16)
  where
    flip : (x : ℕ) → (x ≡ 0) ⊎ (x ≡ 1) → eqb (1 - x) 1 ≡ not (eqb x 1)
    flip x (inl e) = rw e
    flip x (inr e) = rw e

    at : (j < 16) ⊎ (16 ≤ j) → (has a j && has (bit_not w16 b) j) ≡ (has a j && not (has b j))
    at (inl l) = ap (λ x. has a j && x) (ap (λ x. eqb x 1) (bit_at_not w16 b j k l) ∙ flip (b / 2 ^ j % 2) (parity (b / 2 ^ j)))
    at (inr l) = ap (λ x. x && has (bit_not w16 b) j) (has_past a j h l) ∙ ap (λ x. x && not (has b j)) (sym (has_past a j h l))

-- who is in what was kept of a mask, of which j is as told
pub has_kept : (k m j : ℕ) (w z told : Bool) → k ≡ (if w then m else 0) → w ≡ z → has m j ≡ told → has k j ≡ (z && told)
has_kept k m j w z told e h t = rw (e, h) (at z)
  where
    at : (b : Bool) → has (if b then m else 0) j ≡ (b && told)
    at true = t
    at false = has_none j

-- the mask of one sender
first_bit : has 1 0 ≡ true
unfolding has
first_bit = refl

even_bit : (m : ℕ) → has (m * 2) 0 ≡ false
unfolding has
even_bit m = let e : m * 2 / 1 % 2 ≡ 0 = omega arith in ap (λ x. eqb x 1) e

half_pow : (i : ℕ) → 2 ^ suc i / 2 ≡ 2 ^ i
half_pow i = ap (λ x. x / 2) (pow-suc 2 i) ∙ omega arith

has_one : (i j : ℕ) → has (2 ^ i) j ≡ eqb j i
has_one zero zero = first_bit
has_one zero (suc j) = has_high 1 j ∙ has_none j ∙ sym (ne_eqb (suc j) 0 (λ e. omega arith))
has_one (suc i) zero = ap (λ x. has x 0) (pow-suc 2 i) ∙ even_bit (2 ^ i) ∙ sym (ne_eqb 0 (suc i) (λ e. omega arith))
has_one (suc i) (suc j) = has_high (2 ^ suc i) j ∙ ap (λ x. has x j) (half_pow i) ∙ has_one i j ∙ sucs (cases_eq j i)
  where
    sucs : (j ≡ i) ⊎ (j ≡ i → ⊥) → eqb j i ≡ eqb (suc j) (suc i)
    sucs (inl e) = eq-eqb j i e ∙ sym (eq-eqb (suc j) (suc i) (ap suc e))
    sucs (inr n) = ne_eqb j i n ∙ sym (ne_eqb (suc j) (suc i) (λ e. n (omega arith)))

-- a mask with one sender more
pub has_with : (m i j : ℕ) → has (with m i) j ≡ (has m j || eqb j i)
has_with m i j = has_or m (2 ^ i) j ∙ ap (λ b. has m j || b) (has_one i j)
