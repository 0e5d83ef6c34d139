-- Boxes at rest that have heard each other have one book, and none awaits a page.
use Rattle.std.proofs.Common.{◌≡◌, ℕ, zero, suc, ◌<◌, ◌≤◌, Bool, true, false, ◌⊎◌, Some, None, Option, sym, refl, ap, ◌∙◌, inl, inr, arith}
use mathlib.Core.Bool.{false≢true}
use Rattle.std.proofs.lemmas.Bool.{cases_order}
use Rattle.theory.specs.Count.{Honest, count}
use Rattle.theory.specs.Statement.{Stmt, ready, have, finish}
use Rattle.theory.specs.Plan.{Rule, boxes, sameness, some_honest, most}
use Rattle.theory.specs.History.{Decided, Log, Said, Opened}
use Rattle.theory.specs.Book.{Ledger, stands_in_book, candidate}
use Rattle.theory.proofs.Passing.{Finds, Passes, Ledgers}
use Rattle.theory.proofs.Counting.{from_most, from_all}
use Rattle.theory.proofs.Reasons.{History}
use Rattle.theory.proofs.Agreement.{vouched_same, decided_is, decided_same, decided_opened}
use Rattle.theory.proofs.Books.{find_covers, none≢some}
use Rattle.theory.proofs.Ledgers.{ledger_same}

-- what each box is at: its epoch and ledger, what it holds of whom, what it keeps, whether it awaits its page
pub record Now (X : Type 0) : Type 0 where
  pub epoch : ℕ → ℕ
  pub ledger : ℕ → Ledger X
  pub held : ℕ → ℕ → Stmt X → Bool
  pub kept : ℕ → ℕ → ℕ → Option X
  pub awaits : ℕ → Bool

module _ {X : Type 0} (R : Rule X) (r : Log X) (At : ℕ → ℕ → Ledger X → Type 0) (t : Now X) where
  abbrev heard : ℕ → Stmt X → ℕ
  heard i s = count R.plan.size (λ j. t.held i j s)

  -- in any state
  pub record Placed : Type 0 where
    pub at : (i : ℕ) → Honest (boxes R) i → At i (t.epoch i) (t.ledger i)
    pub bounded : (i : ℕ) → Honest (boxes R) i → t.epoch i ≤ R.plan.epochs
    pub left : (i : ℕ) → Honest (boxes R) i → (e : ℕ) → e < t.epoch i → (v : Bool) × Said r i (finish e v)
    pub passed : (i : ℕ) → Honest (boxes R) i → (e : ℕ) → e < t.epoch i → (m : Ledger X) × At i (suc e) m
    pub ranged : (i : ℕ) → Honest (boxes R) i → (q s : ℕ) (x : X) → Said r i (have q s x) → (q < R.plan.size) × (s < R.plan.width)
    pub awaited : (i : ℕ) → Honest (boxes R) i → t.awaits i ≡ true → (t.epoch i < R.plan.epochs) × Decided R (Said r) (t.epoch i) true
    pub keeps : (i : ℕ) → Honest (boxes R) i → (q s : ℕ) (x : X) → t.kept i q s ≡ Some x → Said r i (have q s x)
    pub opened : (i : ℕ) → Honest (boxes R) i → (e : ℕ) → Opened r i e true → (l : Ledger X) × (At i e l × Finds R (Said r) i e l)

  -- nothing more is accepted
  pub record Told : Type 0 where
    pub readies : (i j : ℕ) → Honest (boxes R) i → Honest (boxes R) j → (q s : ℕ) (x : X) → Said r j (ready q s x) → t.held i j (ready q s x) ≡ true
    pub finishes : (i j : ℕ) → Honest (boxes R) i → Honest (boxes R) j → t.epoch i < R.plan.epochs → (v : Bool) → Said r j (finish (t.epoch i) v) → t.held i j (finish (t.epoch i) v) ≡ true

  -- no turn is left
  pub record Rests : Type 0 where
    pub ready_done : (i : ℕ) → Honest (boxes R) i → (q s : ℕ) (x : X) → q < R.plan.size → s < R.plan.width → some_honest R.plan ≤ heard i (ready q s x) → (y : X) × Said r i (ready q s y)
    pub keep_done : (i : ℕ) → Honest (boxes R) i → (q s : ℕ) (x : X) → q < R.plan.size → s < R.plan.width → most R.plan ≤ heard i (ready q s x) → (y : X) × (t.kept i q s ≡ Some y)
    pub follow_done : (i : ℕ) → Honest (boxes R) i → t.epoch i < R.plan.epochs → (v : Bool) → some_honest R.plan ≤ heard i (finish (t.epoch i) v) → (u : Bool) × Said r i (finish (t.epoch i) u)
    pub decide_done : (i : ℕ) → Honest (boxes R) i → t.epoch i < R.plan.epochs → (v : Bool) → most R.plan ≤ heard i (finish (t.epoch i) v) → t.awaits i ≡ true
    pub write_done : (i : ℕ) → Honest (boxes R) i → t.epoch i < R.plan.epochs → t.awaits i ≡ true → candidate (sameness R.plan) R.plan.width (t.ledger i).book ((t.ledger i).heads (R.plan.queue (t.epoch i))) (t.kept i (R.plan.queue (t.epoch i))) ≡ None

module _ {X : Type 0} {R : Rule X} {r : Log X} {At : ℕ → ℕ → Ledger X → Type 0} {t : Now X}
    (h : History R r) (g : Ledgers R (Said r) At) (st : Placed R r At t) (hs : Told R r At t) (rs : Rests R r At t) where
  -- all honest boxes are ready for what one of them keeps, and keep it
  all_ready : (j q s : ℕ) (x : X) → Honest (boxes R) j → Said r j (have q s x) → (k : ℕ) → Honest (boxes R) k → Said r k (ready q s x)
  all_ready j q s x js a k ks =
      let most = h.just j js (have q s x) a in
      let n = st.ranged j js q s x a in
      let d = rs.ready_done k ks q s x n.0 n.1 (from_most (λ i. t.held k i (ready q s x)) most (λ i is c. hs.readies k i ks is q s x c)) in
      rw (vouched_same h k j q s d.0 x ks js (inl d.1) (inr a)) at d.1

  all_keep : (j q s : ℕ) (x : X) → Honest (boxes R) j → Said r j (have q s x) → (i : ℕ) → Honest (boxes R) i → t.kept i q s ≡ Some x
  all_keep j q s x js a i is =
      let n = st.ranged j js q s x a in
      let d = rs.keep_done i is q s x n.0 n.1 (from_all (boxes R) (λ k. t.held i k (ready q s x)) (λ k ks. hs.readies i k is ks q s x (all_ready j q s x js a k ks))) in
      d.1 ∙ ap Some (vouched_same h i j q s d.0 x is js (inr (st.keeps i is q s d.0 d.1)) (inr a))

  -- epoch e is decided, and all honest boxes have reached it: all have finished it
  all_finish : (e : ℕ) → e < R.plan.epochs → (v : Bool) → Decided R (Said r) e v → ((k : ℕ) → Honest (boxes R) k → e ≤ t.epoch k) → (k : ℕ) → Honest (boxes R) k → Said r k (finish e v)
  all_finish e lt v dec reached k ks = at (cases_order e (t.epoch k))
    where
      is_v : (u : Bool) × Said r k (finish e u) → Said r k (finish e v)
      is_v f = rw (decided_is h k e f.0 v ks f.1 dec) at f.1

      at : (e ≡ t.epoch k) ⊎ ((e < t.epoch k) ⊎ (t.epoch k < e)) → Said r k (finish e v)
      at (inl eq) =
          let lt' : t.epoch k < R.plan.epochs = rw eq at lt in
          is_v (rw (sym eq) at (rs.follow_done k ks lt' v (from_most (λ i. t.held k i (finish (t.epoch k) v)) (rw eq at dec) (λ i is f. hs.finishes k i ks is lt' v f))))
      at (inr (inl less)) = is_v (st.left k ks e less)
      at (inr (inr more)) = absurd (omega (arith, reached k ks))

  -- then a box that is in epoch e awaits its page
  all_await : (e : ℕ) → e < R.plan.epochs → (v : Bool) → Decided R (Said r) e v → ((k : ℕ) → Honest (boxes R) k → e ≤ t.epoch k) → (i : ℕ) → Honest (boxes R) i → t.epoch i ≡ e → t.awaits i ≡ true
  all_await e lt v dec reached i is eq =
      let lt' : t.epoch i < R.plan.epochs = rw (sym eq) at lt in
      rs.decide_done i is lt' v (from_all (boxes R) (λ k. t.held i k (finish (t.epoch i) v)) (λ k ks. hs.finishes i k is ks lt' v (rw eq (all_finish e lt v dec reached k ks))))

  -- no box awaits a page in an epoch in which another had a candidate
  no_wait : (e : ℕ) → e < R.plan.epochs → (i j : ℕ) (l : Ledger X) → Honest (boxes R) i → Honest (boxes R) j → t.epoch i ≡ e → t.awaits i ≡ true → At j e l → Finds R (Said r) j e l → ⊥
  no_wait e lt i j l is js eq w p c =
      let q = R.plan.queue e in
      let same_l : t.ledger i ≡ l = ledger_same h g i j e (t.ledger i) l is js (rw eq at (st.at i is)) p in
      let None-found = rw (eq, same_l) at (rs.write_done i is (rw (sym eq) at lt) w) in
      let found = find_covers (stands_in_book (sameness R.plan) l.book) c.kept (t.kept i q) (λ s x k. all_keep j q s x js (c.stated s x k) i is) c.found _ _ c.first in
      none≢some (sym None-found ∙ found)

  -- a box stays in no epoch that another has passed
  no_stay : (e : ℕ) → e < R.plan.epochs → (i j : ℕ) (l m : Ledger X) → Honest (boxes R) i → Honest (boxes R) j → ((k : ℕ) → Honest (boxes R) k → e ≤ t.epoch k) → t.epoch i ≡ e → At j e l → Passes R (Said r) j e l m → ⊥
  no_stay e lt i j l m is js reached eq p (inl c) =
      false≢true (decided_same h e false true c.0 (rw eq at (st.awaited i is (all_await e lt false c.0 reached i is eq)).1))
  no_stay e lt i j l m is js reached eq p (inr c) = no_wait e lt i j l is js eq (all_await e lt true c.decided reached i is eq) p c.finds

  -- how far one has come, all have
  reaches : (e j : ℕ) → Honest (boxes R) j → e ≤ t.epoch j → (i : ℕ) → Honest (boxes R) i → e ≤ t.epoch i
  reaches zero j js le i is = omega arith
  reaches (suc e) j js le i is = at (reaches e j js (omega arith)) (cases_order e (t.epoch i))
    where
      at : ((k : ℕ) → Honest (boxes R) k → e ≤ t.epoch k) → (e ≡ t.epoch i) ⊎ ((e < t.epoch i) ⊎ (t.epoch i < e)) → suc e ≤ t.epoch i
      at reached (inl eq) =
          let m = st.passed j js e le in
          let c = g.step j js e m.0 m.1 in
          absurd (no_stay e (omega (arith, st.bounded j js)) i j c.0 m.0 is js reached (sym eq) c.1.0 c.1.1)
      at reached (inr (inl less)) = less
      at reached (inr (inr more)) = absurd (omega (arith, reached i is))

  pub evening : (i j : ℕ) → Honest (boxes R) i → Honest (boxes R) j → t.ledger i ≡ t.ledger j
  evening i j is js =
      let le = reaches (t.epoch i) i is (omega arith) j js in
      let ge = reaches (t.epoch j) j js (omega arith) i is in
      let eq : t.epoch i ≡ t.epoch j = omega arith in
      ledger_same h g i j (t.epoch j) (t.ledger i) (t.ledger j) is js (rw eq at (st.at i is)) (st.at j js)

  -- a decided 1 was an honest opening bit, so some honest box had a candidate
  pub nobody : (i : ℕ) → Honest (boxes R) i → t.awaits i ≡ true → ⊥
  nobody i is w =
      let d = st.awaited i is w in
      let o = decided_opened h (t.epoch i) true d.1 in
      let c = st.opened o.who o.is (t.epoch i) o.has in
      no_wait (t.epoch i) d.0 i o.who c.0 is o.is refl w c.1.0 c.1.1
