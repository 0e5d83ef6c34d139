-- The replicas of a group, made one after the other.
use Rattle.std.proofs.Common.{◌≡◌, ℕ, zero, suc, ◌+◌, ◌*◌, ◌<◌, ◌≤◌, true, leb, ◌⊎◌, inl, inr, List, [], ◌∷◌, ◌++◌, length, replicate, Some, None, Ok, Option, sym, refl, ap, ◌∙◌, subst, arith, length-append, cond}
use Rattle.std.specs.List.{slice_get}
use Rattle.std.proofs.lemmas.Bool.{le-ltb, le-leb, lt-leb}
use Rattle.std.proofs.lemmas.List.{length-replicate}
use Rattle.common.specs.Refusals.{declined}
use Rattle.common.specs.declared.refusal.Refusal.TheVariants.{Table}
use Rattle.common.specs.Quorums.{faults, echoes}
use Rattle.common.specs.Limits.{least_replicas, most_replicas, most_slots}
use Rattle.theory.specs.Book.{Page}
use Rattle.replica.specs.Store.{fits, cleared}
use Rattle.replica.specs.Making.{Numbers, set_for, fresh, begun, make_of}
use Rattle.promises.specs.Runs.{State}
use Rattle.group.specs.Groups.{Group}
use Rattle.group.specs.Makings.{blank, Fresh, Made}

module _ (n w : ℕ) (least : 4 ≤ n) (most : n ≤ 16) (some : 1 ≤ w) (slots : w ≤ 16) where
  abbrev set : ℕ → Numbers
  set i = record { n = n; w = w; f = faults n; q = echoes n; me = i }

  set_ok : (i : ℕ) → i < n → set_for n i w ≡ Ok (set i)
  set_ok i low = rw (le-ltb n least_replicas least, le-ltb most_replicas n most, lt-leb n i low, le-ltb w 1 some, le-ltb most_slots w slots) refl

  blank_fits : fits n w (blank n w) ≡ true
  blank_fits = rw (long (List ℕ) (n * w), long (List ℕ) (n * w * n), long (Page (List ℕ)) (n * w)) refl
    where
      long : (A : Type 0) (k : ℕ) → leb k (length {A = Option A} (replicate k None)) ≡ true
      long A k = let none : Option A = None in le-leb k (length {A = Option A} (replicate k None)) (omega (arith, length-replicate k none))

  -- with numbers in range and empty tables that are just long enough, make declines nothing
  pub make_ok : (i : ℕ) → i < n → make_of n i w (blank n w) ≡ (Ok (fresh (set i)), cleared n w (blank n w))
  unfolding make_of
  make_ok i low = ap (λ r. begun n w r (blank n w)) (set_ok i low) ∙ ap (λ b. cond b (Ok (fresh (set i)), cleared n w (blank n w)) (declined Table, blank n w)) blank_fits

split_last : (g : Group) (q p : State) (i : ℕ) → slice_get (g ++ (q ∷ [])) i ≡ Some p → (slice_get g i ≡ Some p) ⊎ ((i ≡ length g) × (q ≡ p))
split_last [] q p zero e = inr (refl, cc)
split_last [] q p (suc i) e = absurd (let z : ◌≡◌ {A = ℕ} 0 1 = cc in omega arith)
split_last (x ∷ g) q p zero e = inl e
split_last (x ∷ g) q p (suc i) e = by (split_last g q p i e)
  where
    by : (slice_get g i ≡ Some p) ⊎ ((i ≡ length g) × (q ≡ p)) → (slice_get g i ≡ Some p) ⊎ ((suc i ≡ suc (length g)) × (q ≡ p))
    by (inl h) = inl h
    by (inr h) = inr (ap suc h.0, h.1)

pub none_made : (n w : ℕ) (g : Group) → g ≡ [] → Made n w 0 g
none_made n w g e = subst (Made n w 0) (sym e) (record { many = refl; fresh = λ i p h. absurd (let z : ◌≡◌ {A = ℕ} 0 1 = cc in omega arith) })

-- one more
pub more_made : (n w k : ℕ) (g : Group) (q : State) → Made n w k g → Fresh n w k q → Made n w (k + 1) (g ++ (q ∷ []))
more_made n w k g q m f = record {
  many = length-append g (q ∷ []) ∙ ap (λ i. i + 1) m.many;
  fresh = λ i p e. by i p (split_last g q p i e);
}
  where
    by : (i : ℕ) (p : State) → (slice_get g i ≡ Some p) ⊎ ((i ≡ length g) × (q ≡ p)) → Fresh n w i p
    by i p (inl h) = m.fresh i p h
    by i p (inr h) = subst (Fresh n w i) h.1 (subst (λ j. Fresh n w j q) (sym (h.0 ∙ m.many)) f)
