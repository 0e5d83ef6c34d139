-- Behind the last round nothing is marked, and nothing is found.
use Rattle.std.proofs.Common.{◌≡◌, ℕ, zero, suc, ◌+◌, ◌<◌, ◌≤◌, Bool, true, false, not, ◌&&◌, leb, ◌⊎◌, inl, inr, Some, None, Option, IfSome, refl, ap, ◌∙◌, ap₂, arith}
use Rattle.std.specs.Option.{option_map}
use Rattle.std.proofs.lemmas.Bool.{lt-leb, cases_lt}
use Rattle.common.specs.Limits.{rounds}
use Rattle.theory.specs.Count.{bit, count}
use Rattle.theory.specs.Turns.{is, set_of}
use Rattle.votes.specs.declared.marks.Marks.{Marks}
use Rattle.votes.specs.declared.ballot.Round.{Round}
use Rattle.votes.specs.declared.bits.Bits as declared
use Rattle.votes.specs.Sets.{bits_of}
use Rattle.votes.specs.Votes.{unmarked, no_round, marks, set_for}
use Rattle.votes.proofs.Marking.{marks_none, set_none}
use Rattle.dues.specs.Lowest.{lowest}

module _ {A : Type 0} where
  found_any : {P : Type 0} (r : Option A) → P → IfSome r (λ _. P)
  found_any None p = tt
  found_any (Some a) p = p

  found_none : (P : A → Type 0) (r : Option A) → r ≡ None → IfSome r P
  found_none P None e = tt
  found_none P (Some a) e = absurd (let z : ◌≡◌ {A = ℕ} 0 1 = cc in omega arith)

  -- so what is found lies in a round of the epoch
  pub in_a_round : (k : ℕ) (r : Option A) → (rounds ≤ k → r ≡ None) → IfSome r (λ _. k < rounds)
  in_a_round k r past = at (cases_lt k rounds)
    where
      at : (k < rounds) ⊎ (rounds ≤ k) → IfSome r (λ _. k < rounds)
      at (inl l) = found_any r l
      at (inr h) = found_none _ r (past h)

count_unmarked : (n : ℕ) (v : Bool) → count n (marks unmarked v) ≡ 0
count_unmarked zero v = refl
count_unmarked (suc n) v = omega (arith, ap bit (marks_none v n), count_unmarked n v)

unmapped : {A B : Type 0} (f : A → B) (o : Option A) → option_map f o ≡ None → o ≡ None
unmapped f None e = refl
unmapped f (Some a) e = absurd (let z : ◌≡◌ {A = ℕ} 0 1 = cc in omega arith)

-- too few
few : (e k n : ℕ) (v : Bool) (p : Marks) (a : ℕ) → p ≡ unmarked → e ≡ k + 1 → a ≡ count n (marks p v) → leb e a ≡ false
few e k n v p a is h i = lt-leb e a (omega (arith, h, i, ap (λ q. count n (marks q v)) is, count_unmarked n v))

pub no_values : (n k e a b : ℕ) (p : Marks) (s : Option declared.Bits) → p ≡ unmarked → e ≡ k + 1 → a ≡ count n (marks p false) → b ≡ count n (marks p true) → option_map bits_of s ≡ set_of (leb e a) (leb e b) → s ≡ None
no_values n k e a b p s is h zeros ones of = unmapped bits_of s (of ∙ ap₂ set_of (few e k n false p a is h zeros) (few e k n true p b is h ones))

pub unwanted : (n k me : ℕ) (v : Bool) (p : Marks) (w : Bool) → p ≡ unmarked → w ≡ (not (marks p v me) && leb (k + 1) (count n (marks p v))) → w ≡ false
unwanted n k me v p w is h = h ∙ ap (λ b. not (marks p v me) && b) (few (k + 1) k n v p _ is refl refl) ∙ at (not (marks p v me))
  where
    at : (b : Bool) → (b && false) ≡ false
    at true = refl
    at false = refl

pub no_second : (p : Marks) (z o : Bool) (s : Option declared.Bits) (r : Option Bool) → z ≡ false → o ≡ false → option_map bits_of s ≡ set_of z o → r ≡ lowest (option_map bits_of s) → r ≡ None
no_second p z o s r e h of is = is ∙ ap lowest (of ∙ ap₂ set_of e h)

pub no_set : (p : Round) (j : ℕ) (s : Option declared.Bits) → p ≡ no_round → option_map bits_of s ≡ set_for p.confirms j → s ≡ None
no_set p j s is of = unmapped bits_of s (of ∙ ap (λ q. set_for q.confirms j) is ∙ set_none j)
