-- After every list of calls each box is sound and its book only longer; after fair ones the run of small steps is lawful.
use Rattle.std.proofs.Common.{◌≡◌, ℕ, Bool, eqb, ◌⊎◌, List, [], ◌∷◌, ◌++◌, sym, refl, subst, inl, inr, ⊎_elim}
use Rattle.std.proofs.lemmas.Bool.{eq-eqb, cond_both}
use Rattle.theory.specs.Count.{Honest}
use Rattle.theory.specs.Statement.{Stmt, sends}
use Rattle.theory.specs.Plan.{Rule, boxes}
use Rattle.theory.specs.History.{Said, Opened}
use Rattle.theory.specs.Book.{Begins}
use Rattle.theory.specs.Machine.{Box, Holds, Small, says, hears, stays, enters, leaves, small, Steps, does}
use Rattle.theory.specs.Calls.{Call, submit, opens, hear, turns, Calls, steps, alone, calls_to}
use Rattle.theory.specs.Promises.{box, book, Shown, Authentic, Fair, Submits, Submitted, OpensWith, OpenedBy}
use Rattle.theory.proofs.Books.{none≢some, begins_same, begins_trans}
use Rattle.theory.proofs.Ledgers.{passes_begins}
use Rattle.theory.proofs.Runs.{Run, world, log, Utters, said_more, said_cases, Lawful}
use Rattle.theory.proofs.Steps.{opened_cases, always}
use Rattle.theory.proofs.Standing.{Voiced, Sound, made_sound, Source, Fine, fine_sound, fine_grows, push, run, world_state}
use Rattle.theory.proofs.Calling.{Heeds, call_ok}

module _ {X : Type 0} (R : Rule X) where
  here : (i : ℕ) (m : Small X) (r : Run X) → world ((i, m) ∷ r) i ≡ small m (world r i)
  here i m r = rw (eq-eqb i i refl)

  -- fine steps of an honest box: those after the first are fine too
  module _ (Sub : Small X → Type 0) (i : ℕ) where
    fine_next : (m : Small X) (ms : Steps X) (r : Run X) → Fine R (Said (log r)) Sub (world r i) (m ∷ ms) → Fine R (Said (log ((i, m) ∷ r))) Sub (world ((i, m) ∷ r) i) ms
    fine_next m ms r f = rw (here i m r) (fine_grows R (Said (log r)) (Said (log ((i, m) ∷ r))) Sub (λ j t a. said_more i (log r) m j t a) (small m (world r i)) ms f.1)

    push_lawful : Honest (boxes R) i → (ms : Steps X) (r : Run X) → Lawful R r → Fine R (Said (log r)) Sub (world r i) ms → Lawful R (push i ms r)
    push_lawful is [] r l f = l
    push_lawful is (m ∷ ms) r l f = push_lawful is ms ((i, m) ∷ r) (l, is, f.0.0) (fine_next m ms r f)

    -- what they open is opened by a step of the call's own
    push_opened : Honest (boxes R) i → (ms : Steps X) (r : Run X) → Lawful R r → Fine R (Said (log r)) Sub (world r i) ms → (j e : ℕ) (v : Bool) → Opened (log (push i ms r)) j e v → Opened (log r) j e v ⊎ ((j ≡ i) × Sub (enters e v))
    push_opened is [] r l f j e v a = inl a
    push_opened is (m ∷ ms) r l f j e v a =
        ⊎_elim
        (λ o. ⊎_elim inl (λ u. inr (u.0, subst (Source R Sub) u.1 f.0.2)) (opened_cases R i r (always R r l) is m f.0.0 j e v o))
        inr
        (push_opened is ms ((i, m) ∷ r) (l, is, f.0.0) (fine_next m ms r f) j e v a)

  push_grows : (i : ℕ) (ms : Steps X) (r : Run X) (j : ℕ) (s : Stmt X) → Said (log r) j s → Said (log (push i ms r)) j s
  push_grows i [] r j s a = a
  push_grows i (m ∷ ms) r j s a = push_grows i ms ((i, m) ∷ r) j s (said_more i (log r) m j s a)

  -- what they say is said by a turn, or is the call's own
  utters_source : (Sub : Small X → Type 0) (m : Small X) (s : Stmt X) → Source R Sub m → Utters m s → Voiced s ⊎ Sub (says s)
  utters_source Sub (says t) s c e = subst (λ (u : Stmt X). Voiced u ⊎ Sub (says u)) (sym e) c
  utters_source Sub (hears j t) s c e = absurd e
  utters_source Sub (stays g) s c e = absurd e
  utters_source Sub (enters n v) s c e = subst (λ (u : Stmt X). Voiced u ⊎ Sub (says u)) (sym e) (inl tt)
  utters_source Sub (leaves l) s c e = absurd e

  push_source : (Sd : ℕ → Stmt X → Type 0) (Sub : Small X → Type 0) (i : ℕ) (B : Box X) (ms : Steps X) (r : Run X) → Fine R Sd Sub B ms → (j : ℕ) (s : Stmt X) → Said (log (push i ms r)) j s → Said (log r) j s ⊎ ((j ≡ i) × (Voiced s ⊎ Sub (says s)))
  push_source Sd Sub i B [] r f j s a = inl a
  push_source Sd Sub i B (m ∷ ms) r f j s a =
      ⊎_elim
      (λ o. ⊎_elim inl (λ u. inr (u.0, utters_source Sub m s f.0.2 u.1)) (said_cases i (log r) m j s o))
      inr
      (push_source Sd Sub i (small m B) ms ((i, m) ∷ r) f.1 j s a)

  -- the step states the Send that a call at box B submits, or enters the epoch that it opens
  abbrev Own : Box X → Call X → Small X → Type 0
  Own B c (says st) = (s : ℕ) × (x : X) × (st ≡ sends s x) × Submits R B c s x
  Own B c (hears j s) = Unit {0}
  Own B c (stays g) = Unit {0}
  Own B c (enters e v) = OpensWith R B c e v
  Own B c (leaves l) = Unit {0}

  own_sends : (B : Box X) (c : Call X) (s : ℕ) (x : X) → Voiced (sends s x) ⊎ Own B c (says (sends s x)) → Submits R B c s x
  own_sends B c s x (inl v) = absurd v
  own_sends B c s x (inr o) =
      let a : s ≡ o.0 = cc in
      let b : x ≡ o.1 = cc in
      rw (a, b) o.3

  -- any box, whatever it hears
  any_ok : (B : Box X) → Sound R B → (c : Call X) → Fine R (λ j s. Unit {0}) (λ m. Unit {0}) B (steps R.plan R.coin B c)
  any_ok B S c = call_ok R (λ j s. Unit {0}) (λ m. Unit {0}) B S c (any c) (λ s x u. tt) (λ e v u. tt)
    where
      any : (c : Call X) → Heeds R (λ j s. Unit {0}) B c
      any (submit x) = tt
      any opens = tt
      any (hear j s) = λ e js. tt
      any turns = tt

  alone_sound : (i : ℕ) (cs : List (Call X)) → Sound R (alone R.plan R.coin i cs)
  alone_sound i [] = made_sound R i
  alone_sound i (c ∷ cs) = fine_sound R _ (λ m. Unit {0}) _ _ (alone_sound i cs) (any_ok (alone R.plan R.coin i cs) (alone_sound i cs) c)

  pub box_sound : (c : Calls X) (i : ℕ) → Sound R (box R c i)
  box_sound c i = alone_sound i (calls_to i c)

  fine_begins : (Sd : ℕ → Stmt X → Type 0) (Sub : Small X → Type 0) (B : Box X) (ms : Steps X) → Fine R Sd Sub B ms → Begins B.ledger.book (does ms B).ledger.book
  fine_begins Sd Sub B [] f = begins_same _ _ refl
  fine_begins Sd Sub B (says s ∷ ms) f = fine_begins Sd Sub (small (says s) B) ms f.1
  fine_begins Sd Sub B (hears j s ∷ ms) f = fine_begins Sd Sub (small (hears j s) B) ms f.1
  fine_begins Sd Sub B (stays g ∷ ms) f = fine_begins Sd Sub (small (stays g) B) ms f.1
  fine_begins Sd Sub B (enters e v ∷ ms) f = fine_begins Sd Sub (small (enters e v) B) ms f.1
  fine_begins Sd Sub B (leaves l ∷ ms) f = begins_trans _ _ _ (passes_begins R (Holds B) B.me B.epoch B.ledger l f.0.0.0) (fine_begins Sd Sub (small (leaves l) B) ms f.1)

  -- a page stays where it is
  pub book_lasts : (i : ℕ) (c more : Calls X) → Begins (book R c i) (book R (more ++ c) i)
  book_lasts i c [] = begins_same _ _ refl
  book_lasts i c (p ∷ more) = begins_trans (book R c i) (book R (more ++ c) i) (book R (p ∷ (more ++ c)) i) (book_lasts i c more)
      (let cs = calls_to i (more ++ c) in
      cond_both (eqb i p.0) (p.1 ∷ cs) cs (λ l. Begins (book R (more ++ c) i) (alone R.plan R.coin i l).ledger.book)
      (λ e. fine_begins _ (λ m. Unit {0}) (box R (more ++ c) i) _ (any_ok (box R (more ++ c) i) (box_sound (more ++ c) i) p.1))
      (λ e. begins_same _ _ refl))

  pub record Stands (c : Calls X) : Type 0 where
    pub lawful : Lawful R (run R.plan R.coin c)
    pub shown : (j : ℕ) → Honest (boxes R) j → (s : Stmt X) → Shown R c j s → Said (log (run R.plan R.coin c)) j s
    pub submitted : (q s : ℕ) (x : X) → Said (log (run R.plan R.coin c)) q (sends s x) → Submitted R c q s x
    pub opened : (j e : ℕ) (v : Bool) → Opened (log (run R.plan R.coin c)) j e v → OpenedBy R c j e v

  -- what stands on an honest box's board it has stated
  pub board_said : (c : Calls X) → Lawful R (run R.plan R.coin c) → (j : ℕ) → Honest (boxes R) j → (s : Stmt X) → Holds (box R c j) (box R c j).me s → Said (log (run R.plan R.coin c)) j s
  board_said c l j js s h =
      let I = always R (run R.plan R.coin c) l in
      let g : Holds (world (run R.plan R.coin c) j) (world (run R.plan R.coin c) j).me s = rw (world_state R.plan R.coin c j) h in
      I.authentic j js j js s (rw (I.me_is j) at g)

  heeds : (c : Calls X) → Stands c → (i : ℕ) (k : Call X) → Authentic R c i k → Heeds R (Said (log (run R.plan R.coin c))) (box R c i) k
  heeds c s i (submit x) a = tt
  heeds c s i opens a = tt
  heeds c s i (hear j t) a = λ e js. s.shown j js t (a e js)
  heeds c s i turns a = tt

  pub fair_stands : (c : Calls X) → Fair R c → Stands c
  fair_stands [] f = record { lawful = tt; shown = λ j js s h. absurd (none≢some h); submitted = λ q s x a. a; opened = λ j e v a. a }
  fair_stands (p ∷ c) f =
      let s = fair_stands c f.0 in
      let B = box R c p.0 in
      let r = run R.plan R.coin c in
      let ms = steps R.plan R.coin B p.1 in
      let fine : Fine R (Said (log r)) (Own B p.1) B ms = call_ok R (Said (log r)) (Own B p.1) B (box_sound c p.0) p.1 (heeds c s p.0 p.1 f.2) (λ n x u. (n, x, refl, u)) (λ e v u. u) in
      let there : Fine R (Said (log r)) (Own B p.1) (world r p.0) ms = rw (world_state R.plan R.coin c p.0) fine in
      let lawful = push_lawful (Own B p.1) p.0 f.1 ms r s.lawful there in
      record {
        lawful = lawful;
        shown = λ j js t. ⊎_elim (λ a. push_grows p.0 ms r j t (s.shown j js t a)) (board_said (p ∷ c) lawful j js t);
        submitted = λ q n x a. ⊎_elim
            (λ o. inl (s.submitted q n x o))
            (λ o. inr (o.0, rw o.0 (own_sends B p.1 n x o.1)))
            (push_source (Said (log r)) (Own B p.1) p.0 B ms r fine q (sends n x) a);
        opened = λ j e v a. ⊎_elim
            (λ o. inl (s.opened j e v o))
            (λ o. inr (o.0, rw o.0 o.1))
            (push_opened (Own B p.1) p.0 f.1 ms r s.lawful there j e v a);
      }
