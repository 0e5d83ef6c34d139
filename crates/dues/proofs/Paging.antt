-- The candidate of the epoch's queue, found slot by slot.
use Rattle.std.proofs.Common.{◌≡◌, ℕ, zero, suc, ◌+◌, ◌-◌, ◌%◌, ◌<◌, ◌≤◌, Bool, true, false, cond, get_or, List, Some, None, Option, sym, refl, ap, ◌∙◌, arith}
use Rattle.std.specs.Option.{option_map}
use Rattle.theory.specs.Book.{pick, find, stands_in_book}
use Rattle.theory.specs.Plan.{sameness}
use Rattle.theory.specs.Turns.{kept_at, writes}
use Rattle.theory.proofs.Books.{none≢some, find_found}
use Rattle.replica.specs.declared.state.Replica.{Replica}
use Rattle.replica.specs.Store.{Store}
use Rattle.replica.specs.View.{plan, box, book_of}
use Rattle.replica.proofs.Finding.{mapped_some}

module _ {X : Type 0} (old : X → Bool) (kept : ℕ → Option X) (w : ℕ) where
  -- the search from a slot on
  abbrev pub From : ℕ → Option (ℕ × X)
  From s = find old kept (w - s) s

  step : (s : ℕ) → s < w → From s ≡ pick old s (kept s) (From (s + 1))
  step s l = at (w - s) (w - (s + 1)) (omega (arith, l))
    where
      at : (n k : ℕ) → n ≡ suc k → find old kept n s ≡ pick old s (kept s) (find old kept k (s + 1))
      at n k e = ap (λ n. find old kept n s) e ∙ ap (λ i. pick old s (kept s) (find old kept k i)) (omega arith)

  pub from_none : (s : ℕ) → s < w → kept s ≡ None → From s ≡ None
  from_none s l e = step s l ∙ ap (λ o. pick old s o (From (s + 1))) e

  pub from_old : (s : ℕ) (x : X) → s < w → kept s ≡ Some x → old x ≡ true → From s ≡ From (s + 1)
  from_old s x l e o = step s l ∙ ap (λ k. pick old s k (From (s + 1))) e ∙ rw o refl

  pub from_new : (s : ℕ) (x : X) → s < w → kept s ≡ Some x → old x ≡ false → From s ≡ Some (s, x)
  from_new s x l e o = step s l ∙ ap (λ k. pick old s k (From (s + 1))) e ∙ rw o refl

  pub from_end : (s : ℕ) → w ≤ s → From s ≡ None
  from_end s l = let e : w - s ≡ zero = omega (arith, l) in ap (λ n. find old kept n s) e

  -- what is found lies among the slots that are searched
  picked_below : (p : ℕ × X) (s n : ℕ) (o : Option X) (l : Option (ℕ × X)) → (l ≡ Some p → p.0 < suc s + n) → pick old s o l ≡ Some p → p.0 < s + suc n
  picked_below p s n None l ih e = absurd (none≢some e)
  picked_below p s n (Some x) l ih e = at (old x) e
    where
      slot_in : Option (ℕ × X) → ℕ
      slot_in None = 0
      slot_in (Some q) = q.0

      at : (b : Bool) → cond b l (Some (s, x)) ≡ Some p → p.0 < s + suc n
      at true h = omega (arith, ih h)
      at false h = let z : s ≡ p.0 = ap slot_in h in omega (arith, z)

  found_below : (p : ℕ × X) (n s : ℕ) → find old kept n s ≡ Some p → (p.0 < s + n) × (1 ≤ n)
  found_below p zero s e = absurd (none≢some e)
  found_below p (suc n) s e = (picked_below p s n (kept s) (find old kept n (suc s)) (λ h. (found_below p n (suc s) h).0) e, omega arith)

  pub from_below : (p : ℕ × X) (s : ℕ) → From s ≡ Some p → p.0 < w
  from_below p s e = let b = found_below p (w - s) s e in omega (arith, b.0, b.1)

-- the slot of the page that is due, its entry, and that it is one of the queue's
module _ (m : Replica) (t : Store) where
  abbrev queue : ℕ
  queue = m.epoch % m.set.n

  abbrev kept : ℕ → Option (List ℕ)
  kept = kept_at (plan m) (box m t) queue

  page_at : (s : ℕ) → Some s ≡ option_map (λ p. p.0) (writes (plan m) (box m t)) → (p : ℕ × List ℕ) × (writes (plan m) (box m t) ≡ Some p) × (p.0 ≡ s)
  page_at s e = mapped_some (λ p. p.0) (writes (plan m) (box m t)) s (sym e)

  module _ (s : ℕ) (e : Some s ≡ option_map (λ p. p.0) (writes (plan m) (box m t))) where
    abbrev page : ℕ × List ℕ
    page = (page_at s e).0

    pub page_inside : s < m.set.w
    page_inside = let b = from_below (stands_in_book (sameness (plan m)) (book_of m t)) kept m.set.w page (get_or m.heads queue 0) (page_at s e).1 in omega (arith, b, (page_at s e).2)

    pub page_kept : (o : Option (List ℕ)) → o ≡ kept s → option_map (λ x. (s, x)) o ≡ writes (plan m) (box m t)
    page_kept o h =
        let f = find_found (stands_in_book (sameness (plan m)) (book_of m t)) kept page (m.set.w - get_or m.heads queue 0) (get_or m.heads queue 0) (page_at s e).1 in
        ap (option_map (λ x. (s, x))) (h ∙ ap kept (sym (page_at s e).2) ∙ f.0) ∙ ap (λ k. Some (k, page.1)) (sym (page_at s e).2) ∙ sym (page_at s e).1
