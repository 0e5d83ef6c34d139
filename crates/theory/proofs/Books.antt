-- The search for a candidate: two boxes that find one find the same, and it is new; lists of pages.
use Rattle.std.proofs.Common.{◌≡◌, ℕ, zero, suc, ◌-◌, Bool, true, false, cond, ◌||◌, List, [], ◌∷◌, ◌++◌, Some, None, Option, sym, refl, ap, ◌∙◌, subst, append_assoc, append-nil, arith}
use Rattle.std.proofs.lemmas.Bool.{or_parts, or_from}
use Rattle.theory.specs.Book.{Page, stands_in_book, pick, find, Begins, Once, Each, LedgerLaws}

pub none≢some : {A : Type 0} {a : A} → ◌≡◌ {A = Option A} None (Some a) → ⊥
none≢some e = let z : ◌≡◌ {A = ℕ} 0 1 = cc in omega arith

module _ {X : Type 0} (old : X → Bool) (s : ℕ) (p q : ℕ × X) where
  pick_same : (a c : Option X) → ((x y : X) → a ≡ Some x → c ≡ Some y → x ≡ y) → (l m : Option (ℕ × X)) → (l ≡ Some p → m ≡ Some q → p ≡ q) → pick old s a l ≡ Some p → pick old s c m ≡ Some q → p ≡ q
  pick_same None c agree l m rest e u = cc
  pick_same (Some x) None agree l m rest e u = cc
  pick_same (Some x) (Some y) agree l m rest e u = at (old x) refl
    where
      at : (v : Bool) → old x ≡ v → p ≡ q
      at true o = let k = agree x y refl refl in rest (cc) (cc)
      at false o = let k = agree x y refl refl in cc

module _ {X : Type 0} (old : X → Bool) (kept more : ℕ → Option X) (agree : (s : ℕ) (x y : X) → kept s ≡ Some x → more s ≡ Some y → x ≡ y) (p q : ℕ × X) where
  pub find_same : (n s : ℕ) → find old kept n s ≡ Some p → find old more n s ≡ Some q → p ≡ q
  find_same zero s e u = cc
  find_same (suc n) s e u = pick_same old s p q (kept s) (more s) (agree s) (find old kept n (suc s)) (find old more n (suc s)) (find_same n (suc s)) e u

-- who keeps more finds the same
module _ {X : Type 0} (old : X → Bool) (kept more : ℕ → Option X) (covers : (s : ℕ) (x : X) → kept s ≡ Some x → more s ≡ Some x) (p : ℕ × X) where
  pick_covers : (s : ℕ) (a : Option X) → kept s ≡ a → (l m : Option (ℕ × X)) → (l ≡ Some p → m ≡ Some p) → pick old s a l ≡ Some p → pick old s (more s) m ≡ Some p
  pick_covers s None k l m rest e = absurd (none≢some e)
  pick_covers s (Some x) k l m rest e = rw (covers s x k) (at (old x) refl)
    where
      at : (v : Bool) → old x ≡ v → cond (old x) m (Some (s, x)) ≡ Some p
      at true o = rw o (rest (rw o at e))
      at false o = rw o (rw o at e)

  pub find_covers : (n s : ℕ) → find old kept n s ≡ Some p → find old more n s ≡ Some p
  find_covers zero s e = e
  find_covers (suc n) s e = pick_covers s (kept s) refl (find old kept n (suc s)) (find old more n (suc s)) (find_covers n (suc s)) e

-- what is found is kept, and new
module _ {X : Type 0} (old : X → Bool) (kept : ℕ → Option X) (p : ℕ × X) where
  abbrev pub Found : Type 0
  Found = (kept p.0 ≡ Some p.1) × (old p.1 ≡ false)

  pick_found : (s : ℕ) (a : Option X) → kept s ≡ a → (l : Option (ℕ × X)) → (l ≡ Some p → Found) → pick old s a l ≡ Some p → Found
  pick_found s None k l rest e = absurd (none≢some e)
  pick_found s (Some x) k l rest e = at (old x) refl
    where
      at : (v : Bool) → old x ≡ v → Found
      at true o = rest (rw o at e)
      at false o = let u : ◌≡◌ {A = ℕ × X} (s, x) p = cc in subst (λ (r : ℕ × X). (kept r.0 ≡ Some r.1) × (old r.1 ≡ false)) u (k, o)

  pub find_found : (n s : ℕ) → find old kept n s ≡ Some p → Found
  find_found zero s e = absurd (none≢some e)
  find_found (suc n) s e = pick_found s (kept s) refl (find old kept n (suc s)) (find_found n (suc s)) e

-- lists of pages
module _ {X : Type 0} where
  pub begins_same : (p q : List (Page X)) → p ≡ q → Begins p q
  begins_same p q e = ([], sym e ∙ sym (append-nil p))

  pub begins_trans : (p q r : List (Page X)) → Begins p q → Begins q r → Begins p r
  begins_trans p q r c d = (c.0 ++ d.0, d.1 ∙ ap (λ (t : List (Page X)). t ++ d.0) c.1 ∙ append_assoc p c.0 d.0)

  pub each_snoc : (P : Page X → Type 0) (ps : List (Page X)) (p : Page X) → Each P ps → P p → Each P (ps ++ (p ∷ []))
  each_snoc P [] p all last = (last, tt)
  each_snoc P (q ∷ ps) p all last = (all.0, each_snoc P ps p all.1 last)

-- a page at the end whose entry is new
module _ {X : Type 0} (same : X → X → Bool) (sym-same : (x y : X) → same x y ≡ same y x) where
  in_book_snoc : (ps : List (Page X)) (p : Page X) (x : X) → stands_in_book same (ps ++ (p ∷ [])) x ≡ (stands_in_book same ps x || same p.entry x)
  in_book_snoc [] p x = at (same p.entry x)
    where
      at : (v : Bool) → (v || false) ≡ v
      at true = refl
      at false = refl
  in_book_snoc (q ∷ ps) p x = at (same q.entry x) (in_book_snoc ps p x)
    where
      at : (v : Bool) → stands_in_book same (ps ++ (p ∷ [])) x ≡ (stands_in_book same ps x || same p.entry x) → (v || stands_in_book same (ps ++ (p ∷ [])) x) ≡ ((v || stands_in_book same ps x) || same p.entry x)
      at true e = refl
      at false e = e

  pub once_snoc : (ps : List (Page X)) (p : Page X) → Once same ps → stands_in_book same ps p.entry ≡ false → Once same (ps ++ (p ∷ []))
  once_snoc [] p o new = (refl, tt)
  once_snoc (q ∷ ps) p o new =
      let t = or_parts (same q.entry p.entry) (stands_in_book same ps p.entry) new in
      (in_book_snoc ps p q.entry ∙ or_from _ _ o.0 (sym-same p.entry q.entry ∙ t.0), once_snoc ps p o.1 t.1)

pub ledger_laws : (X : Type 0) → LedgerLaws X
ledger_laws X = record {
  same_page = λ same W head book kept more agree p q. find_same (stands_in_book same book) kept more agree p q (W - head) head;
  found_too = λ same W head book kept more covers p. find_covers (stands_in_book same book) kept more covers p (W - head) head;
  new = λ same W head book kept p. find_found (stands_in_book same book) kept p (W - head) head;
  once = λ same sym-same W e q l kept p o f. once_snoc same sym-same l.book _ o (find_found (stands_in_book same l.book) kept p (W - l.heads q) (l.heads q) f).1;
}
