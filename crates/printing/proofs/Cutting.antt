-- Texts cut at a byte.
use Rattle.std.proofs.Common.{◌≡◌, ℕ, zero, suc, ◌+◌, ◌/◌, ◌%◌, ◌<◌, Bool, true, false, cond, eqb, ltb, List, [], ◌∷◌, ◌++◌, length, decimal, sym, refl, ap, ◌∙◌, arith}
use Rattle.std.specs.Fmt.{digit_glyph, digits_onto, digits}
use Rattle.std.proofs.lemmas.Bool.Decides.{nat_tests}
use Rattle.printing.specs.Grids.{push, cut}

-- the byte does not stand in the text
abbrev pub Free : ℕ → List ℕ → Type 0
Free d [] = Unit {0}
Free d (b ∷ bs) = (eqb b d ≡ false) × Free d bs

pub free_append : (d : ℕ) (a b : List ℕ) → Free d a → Free d b → Free d (a ++ b)
free_append d [] b fa fb = fb
free_append d (x ∷ a) b fa fb = (fa.0, free_append d a b fa.1 fb)

same : (d : ℕ) → eqb d d ≡ true
same d = grind (arith, nat_tests)

-- up to the byte
pub cut_one : (d : ℕ) (t rest : List ℕ) → Free d t → cut d (t ++ (d ∷ rest)) ≡ t ∷ cut d rest
cut_one d [] rest f = rw (same d) refl
cut_one d (b ∷ t) rest f = rw f.0 (ap (push b) (cut_one d t rest f.1))

-- up to the end
pub cut_last : (d : ℕ) (t : List ℕ) → 0 < length t → Free d t → cut d t ≡ t ∷ []
cut_last d [] h f = absurd (omega arith)
cut_last d (b ∷ []) h f = rw f.0 refl
cut_last d (b ∷ c ∷ t) h f = rw f.0 (ap (push b) (cut_last d (c ∷ t) (omega arith) f.1))

-- a text that the byte ends, and another behind it
record Ended (d : ℕ) (t rest : List ℕ) : Type 0 where
  first : List ℕ
  more : List (List ℕ)
  alone : cut d (t ++ (d ∷ [])) ≡ first ∷ more
  both : cut d (t ++ (d ∷ rest)) ≡ first ∷ (more ++ cut d rest)

ended : (d : ℕ) (t rest : List ℕ) → Ended d t rest
ended d [] rest = record { first = []; more = []; alone = rw (same d) refl; both = rw (same d) refl }
ended d (b ∷ t) rest = by (eqb b d) refl (ended d t rest)
  where
    by : (x : Bool) → eqb b d ≡ x → Ended d t rest → Ended d (b ∷ t) rest
    by true e m = record { first = []; more = m.first ∷ m.more; alone = rw e (ap (λ l. [] ∷ l) m.alone); both = rw e (ap (λ l. [] ∷ l) m.both) }
    by false e m = record { first = b ∷ m.first; more = m.more; alone = rw e (ap (push b) m.alone); both = rw e (ap (push b) m.both) }

pub cut_ended : (d : ℕ) (t rest : List ℕ) → cut d (t ++ (d ∷ rest)) ≡ cut d (t ++ (d ∷ [])) ++ cut d rest
cut_ended d t rest = let e = ended d t rest in e.both ∙ ap (λ l. l ++ cut d rest) (sym e.alone)

-- a number is digits only
module _ (d : ℕ) (no : (k : ℕ) → k < 10 → eqb (48 + k) d ≡ false) where
  either : (x : Bool) (a b : List ℕ) → Free d a → Free d b → Free d (cond x a b)
  either true a b f g = f
  either false a b f g = g

  spelled_free : (k n : ℕ) (acc : List ℕ) → Free d acc → Free d (digits_onto k 10 false n acc)
  spelled_free zero n acc f = f
  spelled_free (suc k) n acc f =
      let small : ltb (n % 10) 10 ≡ true = grind (arith, nat_tests) in
      let g : Free d ((48 + n % 10) ∷ acc) = (no (n % 10) (omega arith), f) in
      rw small (either (eqb (n / 10) 0) _ _ g (spelled_free k (n / 10) ((48 + n % 10) ∷ acc) g))

  pub decimal_free : (n : ℕ) → Free d (decimal n)
  unfolding digits
  decimal_free n = spelled_free 64 n [] tt

one_of : (x : Bool) (a b : List ℕ) → 0 < length a → 0 < length b → 0 < length (cond x a b)
one_of true a b f g = f
one_of false a b f g = g

some : (k n b : ℕ) (acc : List ℕ) → 0 < length (digits_onto k 10 false n (b ∷ acc))
some zero n b acc = omega arith
some (suc k) n b acc = one_of (eqb (n / 10) 0) _ _ (omega arith) (some k (n / 10) (digit_glyph false (n % 10)) (b ∷ acc))

pub decimal_some : (n : ℕ) → 0 < length (decimal n)
unfolding digits
decimal_some n = one_of (eqb (n / 10) 0) _ _ (omega arith) (some 63 (n / 10) (digit_glyph false (n % 10)) [])
