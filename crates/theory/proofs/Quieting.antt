-- The promises: what stands after every fair list of calls, and what is true once nothing is left to hear or do.
use Rattle.std.proofs.Common.{◌≡◌, ℕ, zero, suc, ◌<◌, ◌≤◌, Bool, true, false, not, ◌&&◌, eqb, ltb, ◌⊎◌, List, [], ◌∷◌, Some, None, sym, refl, ap, ◌∙◌, subst, inl, inr, ⊎_elim, arith}
use mathlib.Core.Bool.{false≢true}
use Rattle.std.proofs.lemmas.Bool.{and_from, eq-eqb, ne_eqb, lt-ltb, not_from_false, cases_eq, cases_lt, cases_order, cases_Bool, le-leb}
use Rattle.theory.specs.Count.{Honest, Somebody}
use Rattle.theory.specs.Statement.{Stmt, ready, have, finish, at_ready, at_have, cell, decided}
use Rattle.theory.specs.Plan.{Rule, boxes, some_honest, most}
use Rattle.theory.specs.History.{Decided, Said, Opened}
use Rattle.theory.specs.Book.{Page, Ledger, Each}
use Rattle.theory.specs.Machine.{Box, Holds, Board, own}
use Rattle.theory.specs.Turns.{told, tally, decides, kept_at, writes}
use Rattle.theory.specs.Calls.{to_ready, to_keep, to_follow, to_decide, to_write, awaits, turn, ranged, accepts}
use Rattle.theory.specs.Rules.{Heard}
use Rattle.theory.specs.Laws.{TurnLaw}
use Rattle.theory.specs.Promises.{box, book, Promise}
use Rattle.theory.proofs.Growth.{say_grows}
use Rattle.theory.proofs.Reasons.{history}
use Rattle.theory.proofs.Agreement.{decided_opened}
use Rattle.theory.proofs.Ledgers.{ledger_same, begins, once, all_sent}
use Rattle.theory.proofs.Evening.{Now, Placed, Told, Rests, evening, nobody}
use Rattle.theory.proofs.Searching.{cases_option, not_absent}
use Rattle.theory.proofs.Cells.{sort_echo, sort_ready, sort_have, of_sort}
use Rattle.theory.proofs.Turning.{told_is, many_is, unsaid_is, backed_law, lowest_some, decide_law}
use Rattle.theory.proofs.Candidates.{kept_is, write_law}
use Rattle.theory.proofs.Choosing.{ten, not_awaits, awaits_is, turn_law}
use Rattle.theory.proofs.Runs.{Run, log, At}
use Rattle.theory.proofs.Steps.{Inv, always}
use Rattle.theory.proofs.Standing.{Sound, run, world_state}
use Rattle.theory.proofs.Dues.{heard_say, finish_stated}
use Rattle.theory.proofs.Fairness.{box_sound, book_lasts, fair_stands}

decided_sym : {A C : Type 0} (p : Dec A) (q : Dec C) → (A → C) → (C → A) → decided p ≡ decided q
decided_sym (yes a) (yes c) f g = refl
decided_sym (yes a) (no n) f g = absurd (n (f a))
decided_sym (no n) (yes c) f g = absurd (n (g c))
decided_sym (no n) (no m) f g = refl

and_last : (a c : Bool) → (a && c) ≡ false → a ≡ true → c ≡ false
and_last true c e t = e
and_last false c e t = absurd (false≢true t)

-- a box that has no turn left
module _ {X : Type 0} (R : Rule X) (B : Box X) (S : Sound R B) (rest : turn R.plan B R.coin ≡ None) where
  no_turn : TurnLaw R.plan B R.coin
  no_turn = turn_law R.plan B R.coin (ten R.plan B R.coin (omega (arith, R.room)) S.filed)

  heard : (k : ℕ) (s : Stmt X) → k ≤ tally R.plan B s → Heard R.plan B k s
  heard k s h = (many_is R.plan B k s).0 (le-leb k (tally R.plan B s) h)

  -- what is due of some sort is stated
  ready_stated : (q s : ℕ) (x : X) → q < R.plan.size → s < R.plan.width → some_honest R.plan ≤ tally R.plan B (ready q s x) → (y : X) × Board B (ready q s y)
  ready_stated q s x lq ls n = ⊎_elim
      (λ e. let u = (unsaid_is R.plan B S.filed (sort_ready q s)).0 e in
      let law = backed_law R.plan B S.filed (sort_echo q s) (λ y. refl) R.plan.quorum (ready q s) in
      absurd (⊎_elim
      (λ e. let y = lowest_some R.plan B S.filed (sort_ready q s) (λ y. refl) (some_honest R.plan) (ready q s) x (omega arith) (heard (some_honest R.plan) (ready q s x) n) in
      no_turn.none rest to_ready (q, s, y.0, lq, ls, (u, inr (law.none e, y.1))))
      (λ a. let y = law.sound a.0 a.1 in no_turn.none rest to_ready (q, s, y.0, lq, ls, (u, inl y.2.0)))
      (cases_option _)))
      (λ t. of_sort B.mem S.filed (sort_ready q s) B.me t.0 t.1)
      (cases_option (own B (at_ready q s)))

  slot_kept : (q s : ℕ) (x : X) → q < R.plan.size → s < R.plan.width → most R.plan ≤ tally R.plan B (ready q s x) → (y : X) × (kept_at R.plan B q s ≡ Some y)
  slot_kept q s x lq ls n = ⊎_elim
      (λ e. let u = (unsaid_is R.plan B S.filed (sort_have q s)).0 e in
      let y = lowest_some R.plan B S.filed (sort_ready q s) (λ y. refl) (most R.plan) (have q s) x (omega arith) (heard (most R.plan) (ready q s x) n) in
      absurd (no_turn.none rest to_keep (q, s, y.0, lq, ls, (u, inl y.1))))
      (λ t. let y = of_sort B.mem S.filed (sort_have q s) B.me t.0 t.1 in (y.0, (kept_is R.plan B S.filed q s y.0).1 y.1))
      (cases_option (own B (at_have q s)))

  followed : B.epoch < R.plan.epochs → (v : Bool) → some_honest R.plan ≤ tally R.plan B (finish B.epoch v) → (u : Bool) × Board B (finish B.epoch u)
  followed lt v n = finish_stated R B S v (λ r. no_turn.none rest to_follow (lt, (v, r))) (heard (some_honest R.plan) (finish B.epoch v) n)

  decided_awaits : B.epoch < R.plan.epochs → (v : Bool) → most R.plan ≤ tally R.plan B (finish B.epoch v) → awaits B.stage ≡ true
  decided_awaits lt v n = ⊎_elim (λ t. t)
      (λ f. absurd (no_turn.none rest to_decide (lt, (not_awaits B.stage f, (v, heard (most R.plan) (finish B.epoch v) n)))))
      (cases_Bool (awaits B.stage))

  no_candidate : B.epoch < R.plan.epochs → awaits B.stage ≡ true → writes R.plan B ≡ None
  no_candidate lt w = ⊎_elim (λ e. e)
      (λ p. let i = (write_law R.plan B S.filed).sound p.0 p.1 in absurd (no_turn.none rest to_write (lt, (awaits_is B.stage w, (i.0.0, i.0.1, i.2.0)))))
      (cases_option (writes R.plan B))

module _ {X : Type 0} (R : Rule X) (W : ℕ → Box X) (r : Run X) (I : Inv R r W) (S : (i : ℕ) → Sound R (W i)) where
  abbrev now : Now X
  now = record {
    epoch = λ i. (W i).epoch;
    ledger = λ i. (W i).ledger;
    held = λ i j s. told R.plan (W i) j s;
    kept = λ i q s. kept_at R.plan (W i) q s;
    awaits = λ i. awaits (W i).stage;
  }

  -- a box has passed each epoch below its own
  passed : (i : ℕ) → Honest (boxes R) i → (n : ℕ) (l : Ledger X) → At r i n l → (e : ℕ) → e < n → (m : Ledger X) × At r i (suc e) m
  passed i is zero l a e lt = absurd (omega arith)
  passed i is (suc n) l a e lt = at (cases_order e n) (passed i is n)
    where
      at : (e ≡ n) ⊎ ((e < n) ⊎ (n < e)) → ((l : Ledger X) → At r i n l → (e : ℕ) → e < n → (m : Ledger X) × At r i (suc e) m) → (m : Ledger X) × At r i (suc e) m
      at (inl eq) ih = (l, rw (sym eq) at a)
      at (inr (inl less)) ih = let c = I.books.step i is n l a in ih c.0 c.1.0 e less
      at (inr (inr more)) ih = absurd (omega arith)

  own_said : (i : ℕ) → Honest (boxes R) i → (s : Stmt X) → Board (W i) s → Said (log r) i s
  own_said i is s h = I.authentic i is i is s (rw (I.me_is i) at h)

  -- what a box finds decided is decided
  decided_said : (i : ℕ) → Honest (boxes R) i → (v : Bool) → Heard R.plan (W i) (most R.plan) (finish (W i).epoch v) → Decided R (Said (log r)) (W i).epoch v
  decided_said i is v h = say_grows R (Holds (W i)) (Said (log r)) (λ j js s h. I.authentic i is j js s h) _ _ (heard_say R (W i) (most R.plan) (finish (W i).epoch v) h)

  -- and some honest box opened the epoch with that bit
  bit_opened : (i : ℕ) → Honest (boxes R) i → (v : Bool) → decides R.plan (W i) ≡ Some v → Somebody (boxes R) (λ j. Opened (log r) j (W i).epoch v)
  bit_opened i is v d =
      let q = (decide_law R.plan (W i) (S i).filed).sound v d in
      decided_opened (history R (log r) I.legal) (W i).epoch v (decided_said i is v (rw (sym q.1) at q.2.0))

  placed : Placed R (log r) (At r) now
  placed = record {
    at = λ i is. I.now_at i;
    bounded = λ i is. (S i).bound;
    left = λ i is e l. I.left i e l;
    passed = λ i is e l. passed i is (W i).epoch (W i).ledger (I.now_at i) e l;
    ranged = λ i is q s x a. I.used i (have q s x) a;
    awaited = λ i is w.
        let d = (S i).waiting (awaits_is (W i).stage w) in
        (d.0, decided_said i is true d.1);
    keeps = λ i is q s x k. own_said i is (have q s x) ((kept_is R.plan (W i) (S i).filed q s x).0 k);
    opened = I.opened;
  }

  module _ (quiet : (i j : ℕ) → Honest (boxes R) i → Honest (boxes R) j → (i ≡ j → ⊥) → (s : Stmt X) → Board (W j) s → accepts R.plan (W i) j s ≡ false) where
    -- what j has on its board and i has room for, i holds
    hears_all : (i j : ℕ) → Honest (boxes R) i → Honest (boxes R) j → (s : Stmt X) → Said (log r) j s → Holds (W j) j s → ranged R.plan (W i) s ≡ true → Holds (W i) j s
    hears_all i j is js s a h k = ⊎_elim (λ (e : i ≡ j). subst (λ (n : ℕ). Holds (W n) j s) (sym e) h) other (cases_eq i j)
      where
        other : (i ≡ j → ⊥) → Holds (W i) j s
        other n =
            let far : (ltb j R.plan.size && not (eqb j (W i).me)) ≡ true = and_from _ _ (lt-ltb j R.plan.size js.below) (not_from_false _ (ne_eqb j (W i).me (λ e. n (sym (e ∙ I.me_is i))))) in
            let t = not_absent ((W i).mem j (cell s)) (and_last _ _ (and_last _ _ (quiet i j is js n s (rw (I.me_is j) h)) far) k) in
            let c = (S i).filed j (cell s) t.0 t.1 in
            let u = I.authentic i is j js t.0 (rw c t.1) in
            rw ((history R (log r) I.legal).single j js t.0 s u a c) at t.1

    told_all : Told R (log r) (At r) now
    told_all = record {
      readies = λ i j is js q s x a.
          let k = I.used j (ready q s x) a in
          (told_is R.plan (W i) j (ready q s x)).1 (hears_all i j is js (ready q s x) a (I.keeps j (ready q s x) a tt) (and_from _ _ (lt-ltb q R.plan.size k.0) (lt-ltb s R.plan.width k.1)));
      finishes = λ i j is js lt v a.
          (told_is R.plan (W i) j (finish (W i).epoch v)).1 (hears_all i j is js (finish (W i).epoch v) a (I.keeps j (finish (W i).epoch v) a tt) (and_from _ _ (lt-ltb (W i).epoch R.plan.epochs lt) (eq-eqb (W i).epoch (W i).epoch refl)));
    }

  rests : ((i : ℕ) → Honest (boxes R) i → turn R.plan (W i) R.coin ≡ None) → Rests R (log r) (At r) now
  rests rest = record {
    ready_done = λ i is q s x lq ls n. let y = ready_stated R (W i) (S i) (rest i is) q s x lq ls n in (y.0, own_said i is (ready q s y.0) y.1);
    keep_done = λ i is q s x lq ls n. slot_kept R (W i) (S i) (rest i is) q s x lq ls n;
    follow_done = λ i is lt v n. let y = followed R (W i) (S i) (rest i is) lt v n in (y.0, own_said i is (finish (W i).epoch y.0) y.1);
    decide_done = λ i is lt v n. decided_awaits R (W i) (S i) (rest i is) lt v n;
    write_done = λ i is lt w. no_candidate R (W i) (S i) (rest i is) lt w;
  }

pub each_like : {X : Type 0} (P Q : Page X → Type 0) (ps : List (Page X)) → ((p : Page X) → P p → Q p) → Each P ps → Each Q ps
each_like P Q [] f e = tt
each_like P Q (p ∷ ps) f e = (f p e.0, each_like P Q ps f e.1)

pub promise : (X : Type 0) → Promise X
promise X R c f =
    let t = fair_stands R c f in
    let r = run R.plan R.coin c in
    let I : Inv R r (box R c) = subst (Inv R r) (λ k i. world_state R.plan R.coin c i k) (always R r t.lawful) in
    let h = history R (log r) I.legal in
    let S = box_sound R c in
    let place = placed R (box R c) r I S in
    record {
      shown = (log r, I.legal, t.shown);
      agreement = λ i j is js. ⊎_elim
          (λ lt. inl (begins h I.books i j _ _ _ _ is js (omega arith) (I.now_at i) (I.now_at j)))
          (λ le. inr (begins h I.books j i _ _ _ _ js is le (I.now_at j) (I.now_at i)))
          (cases_lt (box R c i).epoch (box R c j).epoch);
      in_step = λ i j is js e. ap (λ (l : Ledger X). l.book) (ledger_same h I.books i j (box R c j).epoch (box R c i).ledger (box R c j).ledger is js (rw e at (I.now_at i)) (I.now_at j));
      no_repetition = λ i is. once h I.books (λ x y. decided_sym (R.plan.eq x y) (R.plan.eq y x) sym sym) i _ _ is (I.now_at i);
      as_submitted = λ i is. each_like _ _ (book R c i) (λ p s q. t.submitted p.queue p.slot p.entry (s q)) (all_sent h I.books i _ _ is (I.now_at i));
      as_opened = λ i is v d. let o = bit_opened R (box R c) r I S i is v d in record { who = o.who; is = o.is; has = t.opened o.who _ v o.has };
      lasting = λ i more. book_lasts R i c more;
      evening_out = λ q i j is js. ap (λ (l : Ledger X). l.book) (evening h I.books place (told_all R (box R c) r I S q.heard) (rests R (box R c) r I S q.rest) i j is js);
      nobody_awaits = λ q i is w. nobody h I.books place (told_all R (box R c) r I S q.heard) (rests R (box R c) r I S q.rest) i is (ap awaits w);
    }
