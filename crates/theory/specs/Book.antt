-- The book, and the search for a queue's candidate.
use Rattle.std.specs.Prelude.{◌≡◌, ℕ, zero, suc, ◌-◌, Bool, false, cond, ◌||◌, List, [], ◌∷◌, ◌++◌, Some, None, Option, ◌==◌}

pub record Page (X : Type 0) : Type 0 where
  pub epoch : ℕ
  pub queue : ℕ
  pub slot : ℕ
  pub entry : X

-- the entry is in the book
abbrev pub stands_in_book : {X : Type 0} → (X → X → Bool) → List (Page X) → X → Bool
stands_in_book same [] x = false
stands_in_book same (p ∷ ps) x = same p.entry x || stands_in_book same ps x

-- slot s with what is kept there; the rest of the search if that is in the book
abbrev pub pick : {X : Type 0} → (X → Bool) → ℕ → Option X → Option (ℕ × X) → Option (ℕ × X)
pick old s None rest = None
pick old s (Some x) rest = cond (old x) rest (Some (s, x))

-- up from slot s, through n slots, past kept ones whose entry is in the book; the slot reached, if kept
abbrev pub find : {X : Type 0} → (X → Bool) → (ℕ → Option X) → ℕ → ℕ → Option (ℕ × X)
find old kept zero s = None
find old kept (suc n) s = pick old s (kept s) (find old kept n (suc s))

abbrev pub candidate : {X : Type 0} → (X → X → Bool) → ℕ → List (Page X) → ℕ → (ℕ → Option X) → Option (ℕ × X)
candidate same W book head kept = find (stands_in_book same book) kept (W - head) head

-- a book, and for each queue its head: the first slot that may still be written
pub record Ledger (X : Type 0) : Type 0 where
  pub book : List (Page X)
  pub heads : ℕ → ℕ

abbrev pub empty : {X : Type 0} → Ledger X
empty = record { book = []; heads = λ q. 0 }

-- the candidate becomes the next page, and the head is its slot plus 1
abbrev pub write : {X : Type 0} → ℕ → ℕ → ℕ × X → Ledger X → Ledger X
write e q c l = record {
  book = l.book ++ (record { epoch = e; queue = q; slot = c.0; entry = c.1 } ∷ []);
  heads = λ k. cond (k == q) (suc c.0) (l.heads k);
}

-- one book is a beginning of the other
abbrev pub Begins : {X : Type 0} → List (Page X) → List (Page X) → Type 0
Begins p q = (more : List (Page _)) × (q ≡ p ++ more)

-- no entry twice
abbrev pub Once : {X : Type 0} → (X → X → Bool) → List (Page X) → Type 0
Once same [] = Unit {0}
Once same (p ∷ ps) = (stands_in_book same ps p.entry ≡ false) × Once same ps

abbrev pub Each : {X : Type 0} → (Page X → Type 0) → List (Page X) → Type 0
Each P [] = Unit {0}
Each P (p ∷ ps) = P p × Each P ps

-- what holds of candidates and the pages made of them
pub record LedgerLaws (X : Type 0) : Type 0 where
  -- with one book and head, and kept entries that agree, two searches find the same
  pub same_page : (same : X → X → Bool) (W head : ℕ) (book : List (Page X)) (kept more : ℕ → Option X) → ((s : ℕ) (x y : X) → kept s ≡ Some x → more s ≡ Some y → x ≡ y) → (p q : ℕ × X) → candidate same W book head kept ≡ Some p → candidate same W book head more ≡ Some q → p ≡ q
  -- who keeps more finds what was found
  pub found_too : (same : X → X → Bool) (W head : ℕ) (book : List (Page X)) (kept more : ℕ → Option X) → ((s : ℕ) (x : X) → kept s ≡ Some x → more s ≡ Some x) → (p : ℕ × X) → candidate same W book head kept ≡ Some p → candidate same W book head more ≡ Some p
  -- a candidate is kept and not in the book
  pub new : (same : X → X → Bool) (W head : ℕ) (book : List (Page X)) (kept : ℕ → Option X) (p : ℕ × X) → candidate same W book head kept ≡ Some p → (kept p.0 ≡ Some p.1) × (stands_in_book same book p.1 ≡ false)
  -- so no entry comes to stand twice
  pub once : (same : X → X → Bool) → ((x y : X) → same x y ≡ same y x) → (W e q : ℕ) (l : Ledger X) (kept : ℕ → Option X) (p : ℕ × X) → Once same l.book → candidate same W l.book (l.heads q) kept ≡ Some p → Once same (write e q p l).book
