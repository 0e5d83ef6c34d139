-- What stating, hearing, leaving and closing make of a box.
use Rattle.std.proofs.Common.{◌≡◌, ℕ, suc, Bool, true, false, eqb, ltb, ◌⊎◌, ◌∷◌, Some, None, refl, ap, ◌∙◌, inl, inr, ⊎_elim}
use Rattle.std.proofs.lemmas.Bool.{eqb-true, eq-eqb, ne_eqb, ltb-true, ltb-false, cond_both}
use Rattle.theory.specs.Statement.{Stmt, Cell, sends, echo, ready, have, value, seen, confirm, finish, at_value, at_finish, cell}
use Rattle.theory.specs.Plan.{Plan}
use Rattle.theory.specs.Machine.{running, Box, Mem, Holds, own, says, hears, stays, small, put, drop, does}
use Rattle.theory.specs.Calls.{deciding, writing, finishing, closing}
use Rattle.theory.specs.Rules.{Unsaid}
use Rattle.theory.specs.Effects.{Iff, More, Becomes, Gains, Lasting, Leaves, Decides, Pages, Finishing, Closes}
use Rattle.theory.specs.Laws.{Filed}
use Rattle.theory.proofs.Books.{none≢some}
use Rattle.theory.proofs.Memory.{put_cases, put_keeps, put_again, put_new, put_away}
use Rattle.theory.proofs.Searching.{cases_option}
use Rattle.theory.proofs.Cells.{Sort, finish≢value, fills}
use Rattle.theory.proofs.Turning.{unsaid_is}

-- a memory that holds just H, and a statement put into a cell that is free, or holds it already
module _ {X : Type 0} (mem : Mem X) (H : ℕ → Stmt X → Type 0) (just : (j : ℕ) (t : Stmt X) → Iff (mem j (cell t) ≡ Some t) (H j t)) (i : ℕ) (s : Stmt X) where
  put_back : (mem i (cell s) ≡ None) ⊎ (mem i (cell s) ≡ Some s) → (j : ℕ) (t : Stmt X) → More H i s j t → put i s mem j (cell t) ≡ Some t
  put_back f j t (inr e) = rw (e.0, e.1) (put_new i s mem)
  put_back (inl f) j t (inl h) = put_keeps i s mem f j t ((just j t).1 h)
  put_back (inr f) j t (inl h) = put_again i s mem f j t ((just j t).1 h)

  put_holds : (mem i (cell s) ≡ None) ⊎ (mem i (cell s) ≡ Some s) → (j : ℕ) (t : Stmt X) → Iff (put i s mem j (cell t) ≡ Some t) (More H i s j t)
  put_holds f j t = (λ h. ⊎_elim (λ o. inl ((just j t).0 o)) inr (put_cases i s mem j t h), put_back f j t)

module _ {X : Type 0} (P : Plan X) (B : Box X) (filed : Filed B.mem) where
  same : (j : ℕ) (t : Stmt X) → Iff (B.mem j (cell t) ≡ Some t) (Holds B j t)
  same j t = (λ h. h, λ h. h)

  -- one statement more
  pub gains : (j : ℕ) (s : Stmt X) → B.mem j (cell s) ≡ None → Gains P B j s (small (hears j s) B)
  gains j s f = (record { me = refl; epoch = refl; stage = refl; holds = put_holds B.mem (Holds B) same j s (inl f) }, refl)

  pub states : {A : Type 0} (c : Cell) (st : A → Stmt X) → Sort c st → Unsaid P B st → (a : A) → Gains P B B.me (st a) (small (says (st a)) B)
  states c st k u a = gains B.me (st a) (rw (k.cells a) ((unsaid_is P B filed k).1 u))

  value_free : (e k : ℕ) (v : Bool) → (own B (at_value e k v) ≡ None) ⊎ (own B (at_value e k v) ≡ Some (value e k v))
  value_free e k v = ⊎_elim inl (λ t. inr (t.1 ∙ ap Some (fills B.mem filed B.me (at_value e k v) t.0 t.1))) (cases_option (own B (at_value e k v)))

  pub value_holds : (e k : ℕ) (v : Bool) (j : ℕ) (t : Stmt X) → Iff (put B.me (value e k v) B.mem j (cell t) ≡ Some t) (More (Holds B) B.me (value e k v) j t)
  value_holds e k v = put_holds B.mem (Holds B) same B.me (value e k v) (value_free e k v)

  -- leaving
  finish_lasts : (j e : ℕ) (v : Bool) → Iff (drop B.me B.mem j (at_finish e) ≡ Some (finish e v)) (Holds B j (finish e v) × (j ≡ B.me))
  finish_lasts j e v = (
    cond_both (eqb j B.me) (B.mem j (at_finish e)) None (λ o. o ≡ Some (finish e v) → Holds B j (finish e v) × (j ≡ B.me)) (λ q h. (h, eqb-true j B.me q)) (λ q h. absurd (none≢some h)),
    λ h. rw (eq-eqb j B.me h.1) h.0,
  )

  drop_lasting : (j : ℕ) (t : Stmt X) → Iff (drop B.me B.mem j (cell t) ≡ Some t) (Lasting P B j t)
  drop_lasting j (sends s x) = (λ h. h, λ h. h)
  drop_lasting j (echo q s x) = (λ h. h, λ h. h)
  drop_lasting j (ready q s x) = (λ h. h, λ h. h)
  drop_lasting j (have q s x) = (λ h. h, λ h. h)
  drop_lasting j (value e k v) = (λ h. none≢some h, λ h. absurd h)
  drop_lasting j (seen e k v) = (λ h. none≢some h, λ h. absurd h)
  drop_lasting j (confirm e k u) = (λ h. none≢some h, λ h. absurd h)
  drop_lasting j (finish e v) = finish_lasts j e v

  pub decides_done : (v : Bool) → Decides P B v (does (deciding P B v) B)
  decides_done true = (record { me = refl; epoch = refl; stage = refl; holds = same }, refl)
  decides_done false = (record { me = refl; epoch = refl; stage = refl; holds = drop_lasting }, refl)

  pub writes_done : (s : ℕ) (x : X) → Leaves P B (does (writing P B (s, x)) B) × Pages P B s x (does (writing P B (s, x)) B)
  writes_done s x = (
    record { me = refl; epoch = refl; stage = refl; holds = drop_lasting },
    record { book = refl; head = rw (eq-eqb (P.queue B.epoch) (P.queue B.epoch) refl); heads = λ q n. rw (ne_eqb q (P.queue B.epoch) n) },
  )

  -- closing
  module _ (r : ℕ) (n : Bool) where
    opens_round : (f : Bool) → (f ≡ true → own B (at_finish B.epoch) ≡ None) → Becomes P B (Finishing P B f n (More (Holds B) B.me (value B.epoch (suc r) n))) B.epoch (running (suc r) false) (does (stays (running (suc r) false) ∷ says (value B.epoch (suc r) n) ∷ finishing P B (n, f)) B)
    opens_round true free = record { me = refl; epoch = refl; stage = refl; holds = put_holds (put B.me (value B.epoch (suc r) n) B.mem) (More (Holds B) B.me (value B.epoch (suc r) n)) (value_holds B.epoch (suc r) n) B.me (finish B.epoch n) (inl (put_away B.me (value B.epoch (suc r) n) B.mem B.me (at_finish B.epoch) finish≢value ∙ free refl)) }
    opens_round false free = record { me = refl; epoch = refl; stage = refl; holds = value_holds B.epoch (suc r) n }

    ends_last : (f : Bool) → (f ≡ true → own B (at_finish B.epoch) ≡ None) → Becomes P B (Finishing P B f n (Holds B)) B.epoch (running r true) (does (stays (running r true) ∷ finishing P B (n, f)) B)
    ends_last true free = record { me = refl; epoch = refl; stage = refl; holds = put_holds B.mem (Holds B) same B.me (finish B.epoch n) (inl (free refl)) }
    ends_last false free = record { me = refl; epoch = refl; stage = refl; holds = same }

    finishing_ledger : (f : Bool) (C : Box X) → (does (finishing P B (n, f)) C).ledger ≡ C.ledger
    finishing_ledger true C = refl
    finishing_ledger false C = refl

    pub closes_done : (f : Bool) → (f ≡ true → own B (at_finish B.epoch) ≡ None) → Closes P B r n f (does (closing P B r (n, f)) B)
    closes_done f free = cond_both (ltb (suc r) P.rounds) _ _ (λ l. Closes P B r n f (does l B))
        (λ t. (inl (ltb-true (suc r) P.rounds t, opens_round f free), finishing_ledger f _))
        (λ t. (inr (ltb-false (suc r) P.rounds t, ends_last f free), finishing_ledger f _))
