-- Hear, open and submit accept exactly what their rules say.
use Rattle.std.proofs.Common.{◌≡◌, ℕ, ◌<◌, Bool, true, false, not, ◌&&◌, eqb, ltb, Some, None, Option, sym, refl, ap, ◌∙◌, ⊎_elim, arith}
use mathlib.Core.Bool.{false≢true}
use Rattle.std.proofs.lemmas.Bool.{and_parts, and_from, eqb-true, eq-eqb, eqb-false, ne_eqb, ltb-true, lt-ltb, not-true, not_from_false, cases_Bool}
use Rattle.theory.specs.Statement.{Stmt, sends, echo, ready, have, value, seen, confirm, finish, at_send, cell}
use Rattle.theory.specs.Plan.{Plan, sameness}
use Rattle.theory.specs.Book.{stands_in_book}
use Rattle.theory.specs.Machine.{Stage, unopened, awaiting, running, Box, Holds, own}
use Rattle.theory.specs.Search.{unless, absent}
use Rattle.theory.specs.Turns.{writes}
use Rattle.theory.specs.Calls.{current, ranged, accepts, opening, takes}
use Rattle.theory.specs.Rules.{Unsaid, Written, WriteRule, Now, Fitting, HearRule, OpenRule, SubmitRule}
use Rattle.theory.specs.Laws.{Iff, Filed, Never, Law}
use Rattle.theory.proofs.Books.{none≢some}
use Rattle.theory.proofs.Cells.{sort_send}
use Rattle.theory.proofs.Searching.{cases_option, first_none, first_some, first_hit, guard_some, guard_true, only_if_some, only_if_true, unless_some, unless_empty, absent_none, none_absent, not_absent}
use Rattle.theory.proofs.Answering.{law}
use Rattle.theory.proofs.Turning.{law_one, unsaid_is}
use Rattle.theory.proofs.Candidates.{written_is, write_law}

-- two tests in turn
and_is : {A C : Type 0} (a c : Bool) → Iff (a ≡ true) A → Iff (c ≡ true) C → Iff ((a && c) ≡ true) (A × C)
and_is a c f g = (λ e. let p = and_parts a c e in (f.0 p.0, g.0 p.1), λ p. and_from a c (f.1 p.0) (g.1 p.1))

lt_is : (m n : ℕ) → Iff (ltb m n ≡ true) (m < n)
lt_is m n = (ltb-true m n, lt-ltb m n)

module _ {X : Type 0} (P : Plan X) (B : Box X) (filed : Filed B.mem) where
  now_is : (e : ℕ) → Iff (current P B e ≡ true) (Now P B e)
  now_is e = and_is _ _ (lt_is e P.epochs) (eqb-true e B.epoch, eq-eqb e B.epoch)

  slot_is : (q s : ℕ) → Iff ((ltb q P.size && ltb s P.width) ≡ true) ((q < P.size) × (s < P.width))
  slot_is q s = and_is _ _ (lt_is q P.size) (lt_is s P.width)

  round_is : (e k : ℕ) → Iff ((ltb k P.rounds && current P B e) ≡ true) ((k < P.rounds) × Now P B e)
  round_is e k = and_is _ _ (lt_is k P.rounds) (now_is e)

  fitting_is : (s : Stmt X) → Iff (ranged P B s ≡ true) (Fitting P B s)
  fitting_is (sends s x) = lt_is s P.width
  fitting_is (echo q s x) = slot_is q s
  fitting_is (ready q s x) = slot_is q s
  fitting_is (have q s x) = slot_is q s
  fitting_is (value e k v) = round_is e k
  fitting_is (seen e k v) = round_is e k
  fitting_is (confirm e k u) = round_is e k
  fitting_is (finish e v) = now_is e

  pub empty_is : (j : ℕ) (s : Stmt X) → Iff (absent (B.mem j (cell s)) ≡ true) ((t : Stmt X) → cell t ≡ cell s → Holds B j t → ⊥)
  empty_is j s = (
    λ e t c h. none≢some (sym (absent_none (B.mem j (cell s)) e) ∙ rw c at h),
    λ n. none_absent (B.mem j (cell s)) (⊎_elim (λ e. e) (λ t. let c = filed j (cell s) t.0 t.1 in absurd (n t.0 c (rw c t.1))) (cases_option (B.mem j (cell s)))),
  )

  other_is : (j : ℕ) → Iff (not (eqb j B.me) ≡ true) (j ≡ B.me → ⊥)
  other_is j = (λ e. eqb-false j B.me (not-true _ e), λ n. not_from_false _ (ne_eqb j B.me n))

  pub hear_is : (j : ℕ) (s : Stmt X) → Iff (accepts P B j s ≡ true) (HearRule P B j s)
  hear_is j s =
      let a = and_is _ _ (and_is _ _ (lt_is j P.size) (other_is j)) (and_is _ _ (fitting_is s) (empty_is j s)) in
      (λ e. let h = a.0 e in (h.0.0, h.0.1, h.1.0, h.1.1), λ h. a.1 ((h.0, h.1), (h.2, h.3)))

  -- the bit is whether there is a candidate
  candidate_is : Iff (not (absent (writes P B)) ≡ true) ((s : ℕ) × (x : X) × WriteRule P B s x)
  candidate_is = (
    λ e. let p = not_absent (writes P B) (not-true _ e) in let i = (write_law P B filed).sound p.0 p.1 in (i.0.0, i.0.1, i.2.0),
    λ w. ⊎_elim (λ t. absurd ((write_law P B filed).none (absent_none (writes P B) t) (w.0, w.1) w.2)) (not_from_false _) (cases_Bool (absent (writes P B))),
  )

  open_sound : (g : Stage) → B.stage ≡ g → (v : Bool) → opening P B g ≡ Some v → OpenRule P B v
  open_sound unopened g v e =
      let w = guard_some _ _ v e in
      record {
        week = ltb-true B.epoch P.epochs w.0;
        stage = g;
        one = λ t. candidate_is.0 (w.1 ∙ t);
        candidate = λ s x r. sym w.1 ∙ candidate_is.1 (s, x, r);
      }
  open_sound awaiting g v e = absurd (none≢some e)
  open_sound (running r d) g v e = absurd (none≢some e)

  pub open_law : Law (opening P B B.stage) Never (λ v. v) (OpenRule P B)
  open_law = law_one
      (λ v e. (v, refl, open_sound B.stage refl v e))
      (λ v r. rw r.stage (guard_true _ _ (lt-ltb B.epoch P.epochs r.week) ∙ ap Some (bit v r)))
    where
      bit : (v : Bool) → OpenRule P B v → not (absent (writes P B)) ≡ v
      bit true r = candidate_is.1 (r.one refl)
      bit false r = ⊎_elim (λ t. let w = candidate_is.0 t in absurd (false≢true (r.candidate w.0 w.1 w.2))) (λ f. f) (cases_Bool (not (absent (writes P B))))

  -- the lowest slot without an own Send
  new_is : (x : X) → Iff (not (stands_in_book (sameness P) B.ledger.book x) ≡ true) (Written B.ledger.book x → ⊥)
  new_is x = (
    λ e w. false≢true (sym (not-true _ e) ∙ (written_is P B.ledger.book x).1 w),
    λ n. not_from_false _ (⊎_elim (λ t. absurd (n ((written_is P B.ledger.book x).0 t))) (λ f. f) (cases_Bool _)),
  )

  abbrev slot : ℕ → Option ℕ
  slot s = unless (own B (at_send s)) (Some s)

  pub free_is : (s : ℕ) → Iff (own B (at_send s) ≡ None) (Unsaid P B (sends s))
  free_is s = unsaid_is P B filed (sort_send s)

  used_slot : (s : ℕ) → (Unsaid P B (sends s) → ⊥) → slot s ≡ None
  used_slot s n = ⊎_elim (λ e. e) (λ a. absurd (n ((free_is s).0 (unless_some (own B (at_send s)) _ a.0 a.1).0))) (cases_option (slot s))

  pub submit_law : (x : X) → Law (takes P B x) (λ s t. s < t) (λ s. s) (SubmitRule P B x)
  submit_law x = law {o = takes P B x} {Before = λ s t. s < t}
      (λ a e. let o = only_if_some _ _ a e in
      let i = first_some P.width slot a o.1 in
      let u = unless_some (own B (at_send i.0)) _ a i.2.0 in
      let w : i.0 ≡ a = cc in
      let n = (new_is x).0 o.0 in
      (i.0, sym w, ((i.1, (free_is i.0).0 u.0, n), λ j l r. none≢some (sym (i.2.1 j l) ∙ unless_empty (own B (at_send j)) (Some j) ((free_is j).1 r.1)))))
      (λ s r. only_if_true _ _ ((new_is x).1 r.0.2) ∙ first_hit P.width slot s s r.0.0 (
        unless_empty (own B (at_send s)) (Some s) ((free_is s).1 r.0.1),
        λ j l. used_slot j (λ u. r.1 j l (omega (arith, l, r.0.0), u, r.0.2)),
      ))
      (λ e s r. none≢some (sym (first_none P.width slot (sym (only_if_true _ _ ((new_is x).1 r.2)) ∙ e) s r.0) ∙ unless_empty (own B (at_send s)) (Some s) ((free_is s).1 r.1)))
