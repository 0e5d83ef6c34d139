-- The invariant of runs: each allowed small step keeps a legal history, and the boxes and ledgers true to it.
use Rattle.std.proofs.Common.{◌≡◌, ℕ, suc, ◌<◌, Bool, true, eqb, ◌⊎◌, [], ◌∷◌, Some, None, sym, refl, ◌∙◌, subst, inl, inr, ⊎_elim, arith}
use Rattle.std.proofs.lemmas.Bool.{eqb-true, eqb-false, cond_both, cases_order}
use Rattle.theory.specs.Count.{Honest}
use Rattle.theory.specs.Statement.{Stmt, value, finish, cell}
use Rattle.theory.specs.Plan.{Rule, boxes}
use Rattle.theory.specs.History.{Said, Opened, Legal}
use Rattle.theory.specs.Book.{Ledger}
use Rattle.theory.proofs.Passing.{Finds, Passes, Ledgers}
use Rattle.theory.specs.Machine.{Box, Holds, Small, says, hears, stays, enters, leaves, small}
use Rattle.theory.proofs.Books.{none≢some}
use Rattle.theory.proofs.Growth.{due_grows, finds_grows, passes_grows}
use Rattle.theory.proofs.Memory.{put_cases, put_keeps, put_other, put_new, Current, Used, used_later, lasts_current, drop_some, drop_keeps}
use Rattle.theory.proofs.Runs.{Run, world, noted, log, Utters, said_more, said_cases, Arrives, At, Allowed, Lawful}

module _ {X : Type 0} (R : Rule X) where
  -- of a run and the boxes after it
  pub record Inv (r : Run X) (box : ℕ → Box X) : Type 0 where
    pub me_is : (i : ℕ) → (box i).me ≡ i
    pub authentic : (i : ℕ) → Honest (boxes R) i → (j : ℕ) → Honest (boxes R) j → (s : Stmt X) → Holds (box i) j s → Said (log r) j s
    pub used : (i : ℕ) (s : Stmt X) → Said (log r) i s → Used R.plan.size R.plan.width (box i).epoch (cell s)
    pub keeps : (i : ℕ) (s : Stmt X) → Said (log r) i s → Current (box i).epoch (cell s) → Holds (box i) i s
    pub left : (i : ℕ) (e : ℕ) → e < (box i).epoch → (v : Bool) × Said (log r) i (finish e v)
    pub legal : Legal R (log r)
    pub now_at : (i : ℕ) → At r i (box i).epoch (box i).ledger
    pub books : Ledgers R (Said (log r)) (At r)
    pub opened : (i : ℕ) → Honest (boxes R) i → (e : ℕ) → Opened (log r) i e true → (l : Ledger X) × (At r i e l × Finds R (Said (log r)) i e l)

  start : Inv [] (world [])
  start = record {
    me_is = λ i. refl;
    authentic = λ i is j js s h. absurd (none≢some h);
    used = λ i s a. absurd a;
    keeps = λ i s a. absurd a;
    left = λ i e l. absurd (omega arith);
    legal = tt;
    now_at = λ i. (refl, refl);
    books = record { start = λ i is l a. a.1; step = λ i is e m a. absurd (omega arith) };
    opened = λ i is e a. absurd a;
  }

small_me : {X : Type 0} (m : Small X) (B : Box X) → (small m B).me ≡ B.me
small_me (says s) B = refl
small_me (hears j s) B = refl
small_me (stays g) B = refl
small_me (enters e v) B = refl
small_me (leaves l) B = refl

module _ {X : Type 0} (R : Rule X) (k : ℕ) (r : Run X) (I : Inv R r (world r)) (ks : Honest (boxes R) k) where
  -- box k may take the step
  abbrev May : Small X → Type 0
  May m = Allowed R (Said (log r)) (world r k) m

  abbrev After : Small X → ℕ → Stmt X → Type 0
  After m = Said (noted k m (log r))

  more : (m : Small X) (i : ℕ) → Honest (boxes R) i → (s : Stmt X) → Said (log r) i s → After m i s
  more m i is s a = said_more k (log r) m i s a

  -- box k, or another
  split : (m : Small X) (P : ℕ → Box X → Type 0) (i : ℕ) → P k (small m (world r k)) → ((i ≡ k → ⊥) → P i (world r i)) → P i (world ((k, m) ∷ r) i)
  split m P i here there =
      cond_both (eqb i k) (small m (world r i)) (world r i) (P i) (λ e. rw (eqb-true i k e) here) (λ e. there (eqb-false i k e))

  of_k : (m : Small X) (s : Stmt X) → After m k s → Said (log r) k s ⊎ Utters m s
  of_k m s a = ⊎_elim inl (λ u. inr u.1) (said_cases k (log r) m k s a)

  of_other : (m : Small X) (i : ℕ) (s : Stmt X) → After m i s → (i ≡ k → ⊥) → Said (log r) i s
  of_other m i s a n = ⊎_elim (λ o. o) (λ u. absurd (n u.0)) (said_cases k (log r) m i s a)

  -- what box k holds of honest boxes, they have stated
  own_new : (t : Stmt X) (j : ℕ) → Honest (boxes R) j → (s : Stmt X) → ((world r k).mem j (cell s) ≡ Some s) ⊎ ((j ≡ (world r k).me) × (s ≡ t)) → Said ((k, t) ∷ log r) j s
  own_new t j js s (inl o) = inl (I.authentic k ks j js s o)
  own_new t j js s (inr n) = inr (n.0 ∙ I.me_is k, n.1)

  box_authentic : (m : Small X) → May m → (j : ℕ) → Honest (boxes R) j → (s : Stmt X) → Holds (small m (world r k)) j s → After m j s
  box_authentic (says t) ok j js s h = own_new t j js s (put_cases (world r k).me t (world r k).mem j s h)
  box_authentic (hears i t) ok j js s h =
      ⊎_elim (λ o. I.authentic k ks j js s o) (λ n. rw (n.0, n.1) (ok.2 (rw n.0 at js))) (put_cases i t (world r k).mem j s h)
  box_authentic (stays g) ok j js s h = I.authentic k ks j js s h
  box_authentic (enters e v) ok j js s h = own_new (value e 0 v) j js s (put_cases (world r k).me (value e 0 v) (world r k).mem j s h)
  box_authentic (leaves l) ok j js s h = I.authentic k ks j js s (drop_some (world r k).me (world r k).mem j (cell s) s h)

  -- what it states is in range, and not of later epochs
  box_used : (m : Small X) → May m → (s : Stmt X) → Said (log r) k s ⊎ Utters m s → Used R.plan.size R.plan.width (small m (world r k)).epoch (cell s)
  box_used (says t) ok s (inl a) = I.used k s a
  box_used (says t) ok s (inr a) = rw a ok.3
  box_used (hears i t) ok s (inl a) = I.used k s a
  box_used (hears i t) ok s (inr a) = absurd a
  box_used (stays g) ok s (inl a) = I.used k s a
  box_used (stays g) ok s (inr a) = absurd a
  box_used (enters e v) ok s (inl a) = I.used k s a
  box_used (enters e v) ok s (inr a) = rw a (omega (arith, ok.0))
  box_used (leaves l) ok s (inl a) = used_later _ _ _ (cell s) (I.used k s a)
  box_used (leaves l) ok s (inr a) = absurd a

  -- and stays on its board
  box_keeps : (m : Small X) → May m → (s : Stmt X) → Said (log r) k s ⊎ Utters m s → Current (small m (world r k)).epoch (cell s) → Holds (small m (world r k)) k s
  box_keeps (says t) ok s (inl a) c = put_keeps (world r k).me t (world r k).mem ok.0 k s (I.keeps k s a c)
  box_keeps (says t) ok s (inr a) c = rw (a, I.me_is k) (put_new k t (world r k).mem)
  box_keeps (hears i t) ok s (inl a) c = put_other i t (world r k).mem k (cell s) (λ e. ok.0 (sym e ∙ sym (I.me_is k))) ∙ I.keeps k s a c
  box_keeps (hears i t) ok s (inr a) c = absurd a
  box_keeps (stays g) ok s (inl a) c = I.keeps k s a c
  box_keeps (stays g) ok s (inr a) c = absurd a
  box_keeps (enters e v) ok s (inl a) c = put_keeps (world r k).me (value e 0 v) (world r k).mem (ok.1 v) k s (I.keeps k s a c)
  box_keeps (enters e v) ok s (inr a) c = rw (a, I.me_is k) (put_new k (value e 0 v) (world r k).mem)
  box_keeps (leaves l) ok s (inl a) c =
      let p = lasts_current _ _ _ k (cell s) c (I.used k s a) in
      rw (I.me_is k) (drop_keeps k (world r k).mem (cell s) p.0 ∙ I.keeps k s a p.1)
  box_keeps (leaves l) ok s (inr a) c = absurd a

  old_left : (m : Small X) (e : ℕ) → e < (world r k).epoch → (v : Bool) × After m k (finish e v)
  old_left m e l = let f = I.left k e l in (f.0, more m k ks _ f.1)

  box_left : (m : Small X) → May m → (e : ℕ) → e < (small m (world r k)).epoch → (v : Bool) × After m k (finish e v)
  box_left (says t) ok e l = old_left (says t) e l
  box_left (hears j t) ok e l = old_left (hears j t) e l
  box_left (stays g) ok e l = old_left (stays g) e l
  box_left (enters n v) ok e l = old_left (enters n v) e l
  box_left (leaves m) ok e l = at (cases_order e (world r k).epoch)
    where
      at : (e ≡ (world r k).epoch) ⊎ ((e < (world r k).epoch) ⊎ ((world r k).epoch < e)) → (v : Bool) × After (leaves m) k (finish e v)
      at (inl eq) = let f = ok.1 in (f.0, rw (sym eq) at (I.authentic k ks k ks (finish (world r k).epoch f.0) (rw (I.me_is k) at f.1)))
      at (inr (inl less)) = old_left (leaves m) e less
      at (inr (inr more)) = absurd (omega arith)

  -- the history: a cell that is free was never filled, and what is due by what the box holds is due
  not_said : (t : Stmt X) → (world r k).mem (world r k).me (cell t) ≡ None → Current (world r k).epoch (cell t) → (s : Stmt X) → Said (log r) k s → cell s ≡ cell t → ⊥
  not_said t free cur s a e =
      let held : (world r k).mem k (cell s) ≡ Some s = I.keeps k s a (rw e cur) in
      none≢some (sym (rw (I.me_is k) at free) ∙ rw e at held)

  step_legal : (m : Small X) → May m → Legal R (noted k m (log r))
  step_legal (says t) ok = (I.legal, λ is. (not_said t ok.0 ok.2, inl (due_grows R (Holds (world r k)) (Said (log r)) (λ i is s h. I.authentic k ks i is s h) t ok.1)))
  step_legal (hears i t) ok = I.legal
  step_legal (stays g) ok = I.legal
  step_legal (enters e v) ok = (I.legal, λ is. (not_said (value e 0 v) (ok.1 v) ok.0, inr (λ u a. not_said (value e 0 u) (ok.1 u) ok.0 (value e 0 u) a refl)))
  step_legal (leaves l) ok = I.legal

  -- the ledgers
  box_at : (m : Small X) → At ((k, m) ∷ r) k (small m (world r k)).epoch (small m (world r k)).ledger
  box_at (says t) = inl (I.now_at k)
  box_at (hears i t) = inl (I.now_at k)
  box_at (stays g) = inl (I.now_at k)
  box_at (enters e v) = inl (I.now_at k)
  box_at (leaves l) = inr (refl, (refl, refl))

  arrives_step : (m : Small X) → May m → (e : ℕ) (n : Ledger X) → Arrives m (world r k) e n → (e ≡ suc (world r k).epoch) × Passes R (Said (log r)) k (world r k).epoch (world r k).ledger n
  arrives_step (says t) ok e n a = absurd a
  arrives_step (hears i t) ok e n a = absurd a
  arrives_step (stays g) ok e n a = absurd a
  arrives_step (enters i v) ok e n a = absurd a
  arrives_step (leaves m) ok e n a =
      let p = passes_grows R (Holds (world r k)) (Said (log r)) (λ i is s h. I.authentic k ks i is s h) (world r k).me (world r k).epoch (world r k).ledger m (rw (sym (I.me_is k)) at ks) ok.0 in
      (a.0, rw (sym a.1) at (rw (I.me_is k) at p))

  passed_from : (m : Small X) → May m → (i e : ℕ) (n : Ledger X) → i ≡ k → Arrives m (world r i) (suc e) n → (l : Ledger X) × (At r i e l × Passes R (Said (log r)) i e l n)
  passed_from m ok i e n eq a =
      let p = arrives_step m ok (suc e) n (rw eq at a) in
      let q : (world r k).epoch ≡ e = omega (arith, p.0) in
      subst (λ (x : ℕ). (l : Ledger X) × (At r x e l × Passes R (Said (log r)) x e l n)) (sym eq) ((world r k).ledger, (rw q at (I.now_at k), rw q at p.1))

  step_books : (m : Small X) → May m → Ledgers R (After m) (At ((k, m) ∷ r))
  step_books m ok = record {
    start = λ i is l. ⊎_elim (I.books.start i is l) (λ u. absurd (omega (arith, (arrives_step m ok 0 l (rw u.0 at u.1)).0)));
    step = λ i is e n a.
        let c = ⊎_elim (I.books.step i is e n) (λ u. passed_from m ok i e n u.0 u.1) a in
        (c.0, (inl c.1.0, passes_grows R (Said (log r)) (After m) (more m) i e c.0 n is c.1.1));
  }

  -- only a step that enters an epoch opens it: any other value in round 0 is stated after one
  pub opened_cases : (m : Small X) → May m → (i e : ℕ) (v : Bool) → Opened (noted k m (log r)) i e v → Opened (log r) i e v ⊎ ((i ≡ k) × (m ≡ enters e v))
  opened_cases (says t) ok i e v (inl a) = inl a
  opened_cases (says t) ok i e v (inr a) = absurd (never t ok (sym a.1))
    where
      never : (t : Stmt X) → May (says t) → t ≡ value e 0 v → ⊥
      never t ok eq =
          let w = (rw eq at ok.4).1 in
          let d = I.authentic k ks k ks (value e 0 w.0) (rw (I.me_is k) at w.1) in
          a.2 w.0 (rw (sym a.0) at d)
  opened_cases (hears j t) ok i e v a = inl a
  opened_cases (stays g) ok i e v a = inl a
  opened_cases (enters n u) ok i e v (inl a) = inl a
  opened_cases (enters n u) ok i e v (inr a) = inr (a.0, (cc))
  opened_cases (leaves l) ok i e v a = inl a

  -- a box that opened with bit 1 had a candidate
  abbrev Chose : (ℕ → Stmt X → Type 0) → Run X → ℕ → ℕ → Type 0
  Chose Sd q i e = (l : Ledger X) × (At q i e l × Finds R Sd i e l)

  entered_chose : (e : ℕ) → May (enters e true) → Chose (Said (log r)) r k e
  entered_chose e ok =
      let c = finds_grows R (Holds (world r k)) (Said (log r)) (λ i is s h. I.authentic k ks i is s h) (world r k).me (world r k).epoch (world r k).ledger (rw (sym (I.me_is k)) at ks) (ok.2 refl) in
      ((world r k).ledger, (rw (sym ok.0) at (I.now_at k), rw (sym ok.0) at (rw (I.me_is k) at c)))

  opened_step : (m : Small X) → May m → (i e : ℕ) → Opened (noted k m (log r)) i e true → Opened (log r) i e true ⊎ Chose (Said (log r)) r i e
  opened_step m ok i e a = ⊎_elim inl
      (λ u. inr (subst (λ (x : ℕ). Chose (Said (log r)) r x e) (sym u.0) (entered_chose e (subst May u.1 ok))))
      (opened_cases m ok i e true a)

  pub step : (m : Small X) → May m → Inv R ((k, m) ∷ r) (world ((k, m) ∷ r))
  step m ok = record {
    me_is = λ i. split m (λ n B. B.me ≡ n) i (small_me m (world r k) ∙ I.me_is k) (λ n. I.me_is i);
    authentic = λ i is j js s. split m (λ n B. Holds B j s → After m j s) i (box_authentic m ok j js s) (λ n h. more m j js s (I.authentic i is j js s h));
    used = λ i s. split m (λ n B. After m n s → Used R.plan.size R.plan.width B.epoch (cell s)) i (λ a. box_used m ok s (of_k m s a)) (λ n a. I.used i s (of_other m i s a n));
    keeps = λ i s. split m (λ n B. After m n s → Current B.epoch (cell s) → Holds B n s) i (λ a. box_keeps m ok s (of_k m s a)) (λ n a. I.keeps i s (of_other m i s a n));
    left = λ i e. split m (λ n B. e < B.epoch → (v : Bool) × After m n (finish e v)) i (box_left m ok e) (λ n l. let f = I.left i e l in (f.0, said_more k (log r) m i _ f.1));
    legal = step_legal m ok;
    now_at = λ i. split m (λ n B. At ((k, m) ∷ r) n B.epoch B.ledger) i (box_at m) (λ n. inl (I.now_at i));
    books = step_books m ok;
    opened = λ i is e a.
        let c = ⊎_elim (I.opened i is e) (λ c. c) (opened_step m ok i e a) in
        (c.0, (inl c.1.0, finds_grows R (Said (log r)) (After m) (more m) i e c.0 is c.1.1));
  }

pub always : {X : Type 0} (R : Rule X) (r : Run X) → Lawful R r → Inv R r (world r)
always R [] l = start R
always R (p ∷ r) l = step R p.0 r (always R r l.0) l.1 p.1 l.2
