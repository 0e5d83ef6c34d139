-- Turn 6 answers what its rule says: the slot reached from the head past kept slots whose entry is in the book.
use Rattle.std.proofs.Common.{◌≡◌, ℕ, zero, suc, ◌+◌, ◌-◌, ◌<◌, ◌≤◌, Bool, true, false, ◌⊎◌, List, [], ◌∷◌, Some, None, Option, sym, refl, ap, ◌∙◌, inl, inr, ⊎_elim, arith}
use mathlib.Core.Bool.{false≢true}
use Rattle.std.proofs.lemmas.Bool.{or_cases, or_left, or_right, cases_order, cases_Bool}
use Rattle.theory.specs.Statement.{have}
use Rattle.theory.specs.Plan.{Plan, sameness}
use Rattle.theory.specs.Book.{Page, stands_in_book, pick, find}
use Rattle.theory.specs.Machine.{Box, Board}
use Rattle.theory.specs.Turns.{kept_at, queue, writes}
use Rattle.theory.specs.Rules.{Written, WriteRule}
use Rattle.theory.specs.Laws.{Iff, Filed, Never, Law}
use Rattle.theory.proofs.Books.{none≢some}
use Rattle.theory.proofs.Memory.{decided_true, decided_yes}
use Rattle.theory.proofs.Cells.{sort_have, entry_held, held_entry}
use Rattle.theory.proofs.Turning.{law_one}

-- slot t with entry x is reached from slot s through n slots
module _ {X : Type 0} (old : X → Bool) (kept : ℕ → Option X) where
  pub record Reached (n s t : ℕ) (x : X) : Type 0 where
    pub from : s ≤ t
    pub below : t < s + n
    pub has : kept t ≡ Some x
    pub new : old x ≡ false
    pub past : (z : ℕ) → s ≤ z → z < t → (y : X) × (kept z ≡ Some y) × (old y ≡ true)

  module _ (n s t : ℕ) (x : X) where
    -- one slot further
    further : (y : X) → kept s ≡ Some y → old y ≡ true → Reached n (suc s) t x → Reached (suc n) s t x
    further y k o r = record {
      from = omega (arith, r.from);
      below = omega (arith, r.below);
      has = r.has;
      new = r.new;
      past = λ z l h. ⊎_elim (λ (e : s ≡ z). (y, rw e at k, o)) (⊎_elim (λ less. r.past z less h) (λ more. absurd (omega arith))) (cases_order s z);
    }

    found_at : ((y : X) → kept s ≡ Some y → find old kept n (suc s) ≡ Some (t, x) → Reached n (suc s) t x) → (o : Option X) → kept s ≡ o → pick old s o (find old kept n (suc s)) ≡ Some (t, x) → Reached (suc n) s t x
    found_at more None k e = absurd (none≢some e)
    found_at more (Some y) k e = at (old y) refl
      where
        at : (v : Bool) → old y ≡ v → Reached (suc n) s t x
        at true o = further y k o (more y k (rw o at e))
        at false o =
            let u : ◌≡◌ {A = Option (ℕ × X)} (Some (s, y)) (Some (t, x)) = rw o at e in
            let w : ◌≡◌ {A = ℕ × X} (s, y) (t, x) = cc in
            let a : s ≡ t = ap (λ (p : ℕ × X). p.0) w in
            let c : y ≡ x = ap (λ (p : ℕ × X). p.1) w in
            record { from = omega arith; below = omega arith; has = rw (a, c) at k; new = rw c at o; past = λ z l h. absurd (omega arith) }

  pub find_reached : (n s t : ℕ) (x : X) → find old kept n s ≡ Some (t, x) → Reached n s t x
  find_reached zero s t x e = absurd (none≢some e)
  find_reached (suc n) s t x e = found_at n s t x (λ y k h. find_reached n (suc s) t x h) (kept s) refl e

  pub reached_find : (n s t : ℕ) (x : X) → Reached n s t x → find old kept n s ≡ Some (t, x)
  reached_find zero s t x r = absurd (omega (arith, r.from, r.below))
  reached_find (suc n) s t x r = at (cases_order s t) (reached_find n (suc s) t x)
    where
      at : (s ≡ t) ⊎ ((s < t) ⊎ (t < s)) → (Reached n (suc s) t x → find old kept n (suc s) ≡ Some (t, x)) → find old kept (suc n) s ≡ Some (t, x)
      at (inl e) ih = rw e (rw (r.has, r.new) refl)
      at (inr (inl less)) ih =
          let p = r.past s (omega arith) less in
          rw (p.1, p.2) (ih (record { from = less; below = omega (arith, r.below); has = r.has; new = r.new; past = λ z l h. r.past z (omega arith) h }))
      at (inr (inr more)) ih = absurd (omega (arith, r.from))

pub written_is : {X : Type 0} (P : Plan X) (ps : List (Page X)) (x : X) → Iff (stands_in_book (sameness P) ps x ≡ true) (Written ps x)
written_is P [] x = (λ e. false≢true e, λ w. absurd w)
written_is P (p ∷ ps) x =
    let more = written_is P ps x in (
      λ e. ⊎_elim (λ s. inl (decided_true (P.eq p.entry x) s)) (λ s. inr (more.0 s)) (or_cases _ _ e),
      ⊎_elim (λ s. or_left _ _ (decided_yes (P.eq p.entry x) s)) (λ w. or_right (sameness P p.entry x) _ (more.1 w)),
    )

module _ {X : Type 0} (P : Plan X) (B : Box X) (filed : Filed B.mem) where
  pub kept_is : (q s : ℕ) (x : X) → Iff (kept_at P B q s ≡ Some x) (Board B (have q s x))
  kept_is q s x = (entry_held B.mem filed (sort_have q s) (λ y. refl) B.me x, held_entry B.mem filed (sort_have q s) (λ y. refl) B.me x)

  abbrev head : ℕ
  head = B.ledger.heads (queue P B)

  abbrev old : X → Bool
  old = stands_in_book (sameness P) B.ledger.book

  write_sound : (s : ℕ) (x : X) → Reached old (kept_at P B (queue P B)) (P.width - head) head s x → WriteRule P B s x
  write_sound s x r = record {
    below = omega (arith, r.from, r.below);
    from = r.from;
    kept = (kept_is (queue P B) s x).0 r.has;
    new = λ w. false≢true (sym r.new ∙ (written_is P B.ledger.book x).1 w);
    past = λ t l h. let y = r.past t l h in (y.0, (kept_is (queue P B) t y.0).0 y.1, (written_is P B.ledger.book y.0).0 y.2);
  }

  write_whole : (s : ℕ) (x : X) → WriteRule P B s x → Reached old (kept_at P B (queue P B)) (P.width - head) head s x
  write_whole s x w = record {
    from = w.from;
    below = omega (arith, w.from, w.below);
    has = (kept_is (queue P B) s x).1 w.kept;
    new = ⊎_elim (λ t. absurd (w.new ((written_is P B.ledger.book x).0 t))) (λ f. f) (cases_Bool (old x));
    past = λ t l h. let y = w.past t l h in (y.0, (kept_is (queue P B) t y.0).1 y.1, (written_is P B.ledger.book y.0).1 y.2);
  }

  pub write_law : Law {I = ℕ × X} (writes P B) Never (λ p. p) (λ p. WriteRule P B p.0 p.1)
  write_law = law_one
      (λ a e. (a, refl, write_sound a.0 a.1 (find_reached old (kept_at P B (queue P B)) _ head a.0 a.1 e)))
      (λ p w. reached_find old (kept_at P B (queue P B)) _ head p.0 p.1 (write_whole p.0 p.1 w))
