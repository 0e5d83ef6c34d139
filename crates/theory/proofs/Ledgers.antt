-- The ledgers of honest boxes agree epoch by epoch, hold no entry twice, and have what was sent.
use Rattle.std.proofs.Common.{◌≡◌, ℕ, zero, suc, ◌<◌, ◌≤◌, true, false, ◌⊎◌, sym, ap, ◌∙◌, ap₂, inl, inr, arith}
use mathlib.Core.Bool.{false≢true}
use Rattle.std.proofs.lemmas.Bool.{cases_order}
use Rattle.theory.specs.Count.{Honest}
use Rattle.theory.specs.Statement.{Stmt, sends}
use Rattle.theory.specs.Plan.{Rule, boxes, sameness}
use Rattle.theory.specs.History.{Log, Said}
use Rattle.theory.specs.Book.{Page, Ledger, stands_in_book, write, Begins, Once, Each}
use Rattle.theory.proofs.Passing.{Finds, Passes, Ledgers}
use Rattle.theory.proofs.Reasons.{History}
use Rattle.theory.proofs.Agreement.{vouched_same, kept_sent, decided_same}
use Rattle.theory.proofs.Books.{find_same, find_found, begins_same, begins_trans, each_snoc, once_snoc}

pub passes_begins : {X : Type 0} (R : Rule X) (Say : ℕ → Stmt X → Type 0) (i e : ℕ) (l m : Ledger X) → Passes R Say i e l m → Begins l.book m.book
passes_begins R Say i e l m (inl c) = begins_same l.book m.book (ap (λ (k : Ledger _). k.book) (sym c.1))
passes_begins R Say i e l m (inr c) = (_, ap (λ (k : Ledger _). k.book) c.result)

module _ {X : Type 0} {R : Rule X} {r : Log X} {At : ℕ → ℕ → Ledger X → Type 0} (h : History R r) (g : Ledgers R (Said r) At) where
  found_same : (i j e : ℕ) (l m : Ledger X) → Honest (boxes R) i → Honest (boxes R) j → l ≡ m → (c : Finds R (Said r) i e l) → (d : Finds R (Said r) j e m) → c.found ≡ d.found
  found_same i j e l m is js eq c d =
      find_same (stands_in_book (sameness R.plan) m.book) c.kept d.kept
      (λ s x y p q. vouched_same h i j (R.plan.queue e) s x y is js (inr (c.stated s x p)) (inr (d.stated s y q)))
      c.found d.found _ _ (rw eq at c.first) d.first

  passes_same : (i j e : ℕ) (k l m n : Ledger X) → Honest (boxes R) i → Honest (boxes R) j → k ≡ l → Passes R (Said r) i e k m → Passes R (Said r) j e l n → m ≡ n
  passes_same i j e k l m n is js eq (inl c) (inl d) = cc
  passes_same i j e k l m n is js eq (inl c) (inr d) = absurd (false≢true (decided_same h e false true c.0 d.decided))
  passes_same i j e k l m n is js eq (inr c) (inl d) = absurd (false≢true (decided_same h e false true d.0 c.decided))
  passes_same i j e k l m n is js eq (inr c) (inr d) =
      let f = found_same i j e k l is js eq c.finds d.finds in
      c.result ∙ ap₂ (write e (R.plan.queue e)) f eq ∙ sym d.result

  pub ledger_same : (i j e : ℕ) (l m : Ledger X) → Honest (boxes R) i → Honest (boxes R) j → At i e l → At j e m → l ≡ m
  ledger_same i j zero l m is js p q = g.start i is l p ∙ sym (g.start j js m q)
  ledger_same i j (suc e) l m is js p q =
      let c = g.step i is e l p in
      let d = g.step j js e m q in
      passes_same i j e c.0 d.0 l m is js (ledger_same i j e c.0 d.0 is js c.1.0 d.1.0) c.1.1 d.1.1

  book_same : (i j e : ℕ) (l m : Ledger X) → Honest (boxes R) i → Honest (boxes R) j → At i e l → At j e m → Begins l.book m.book
  book_same i j e l m is js p q = begins_same l.book m.book (ap (λ (t : Ledger X). t.book) (ledger_same i j e l m is js p q))

  -- one book is a beginning of the other
  pub begins : (i j e k : ℕ) (l m : Ledger X) → Honest (boxes R) i → Honest (boxes R) j → e ≤ k → At i e l → At j k m → Begins l.book m.book
  begins i j e zero l m is js le p q = let eq : e ≡ 0 = omega arith in book_same i j 0 l m is js (rw eq at p) q
  begins i j e (suc k) l m is js le p q =
      let d = g.step j js k m q in
      at (cases_order e (suc k)) (λ less. begins_trans l.book d.0.book m.book (begins i j e k l d.0 is js less p d.1.0) (passes_begins R (Said r) j k d.0 m d.1.1))
    where
      at : (e ≡ suc k) ⊎ ((e < suc k) ⊎ (suc k < e)) → (e ≤ k → Begins l.book m.book) → Begins l.book m.book
      at (inl eq) ih = book_same i j (suc k) l m is js (rw eq at p) q
      at (inr (inl less)) ih = ih (omega arith)
      at (inr (inr more)) ih = absurd (omega arith)

  module _ (sym-same : (x y : X) → sameness R.plan x y ≡ sameness R.plan y x) where
    passes_once : (i e : ℕ) (l m : Ledger X) → Passes R (Said r) i e l m → Once (sameness R.plan) l.book → Once (sameness R.plan) m.book
    passes_once i e l m (inl c) o = rw c.1 o
    passes_once i e l m (inr c) o =
        let f = find_found (stands_in_book (sameness R.plan) l.book) c.finds.kept c.finds.found _ _ c.finds.first in
        rw c.result (once_snoc (sameness R.plan) sym-same l.book _ o f.1)

    -- no entry twice
    pub once : (i e : ℕ) (l : Ledger X) → Honest (boxes R) i → At i e l → Once (sameness R.plan) l.book
    once i zero l is p = rw (g.start i is l p) tt
    once i (suc e) l is p = let c = g.step i is e l p in passes_once i e c.0 l c.1.1 (once i e c.0 is c.1.0)

  -- a page whose entry was sent for its slot, if its queue's box is honest
  abbrev pub Sent : Page X → Type 0
  Sent p = Honest (boxes R) p.queue → Said r p.queue (sends p.slot p.entry)

  passes_sent : (i e : ℕ) (l m : Ledger X) → Honest (boxes R) i → Passes R (Said r) i e l m → Each Sent l.book → Each Sent m.book
  passes_sent i e l m is (inl c) o = rw c.1 o
  passes_sent i e l m is (inr c) o =
      let f = find_found (stands_in_book (sameness R.plan) l.book) c.finds.kept c.finds.found _ _ c.finds.first in
      rw c.result (each_snoc Sent l.book _ o (λ qs. kept_sent h i (R.plan.queue e) c.finds.found.0 c.finds.found.1 is qs (c.finds.stated _ _ f.0)))

  pub all_sent : (i e : ℕ) (l : Ledger X) → Honest (boxes R) i → At i e l → Each Sent l.book
  all_sent i zero l is p = rw (g.start i is l p) tt
  all_sent i (suc e) l is p = let c = g.step i is e l p in passes_sent i e c.0 l is c.1.1 (all_sent i e c.0 is c.1.0)
