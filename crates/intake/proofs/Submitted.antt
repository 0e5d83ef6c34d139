-- An entry is accepted exactly if the theory's box takes it.
use Rattle.std.proofs.Common.{◌≡◌, ℕ, ◌<◌, Bool, true, false, not, ltb, List, length, Some, None, Ok, Err, Option, Result, sym, refl, ap, ◌∙◌, subst, arith}
use Rattle.std.proofs.lemmas.Bool.{lt-ltb, le-ltb, not-false, not-true, not_from_false}
use Rattle.theory.specs.Statement.{Stmt, sends, at_send}
use Rattle.theory.specs.Plan.{sameness}
use Rattle.theory.specs.Book.{stands_in_book}
use Rattle.theory.specs.Machine.{small, says}
use Rattle.theory.specs.Calls.{ranged, takes}
use Rattle.theory.proofs.Searching.{first_some, unless_some, only_if_some, only_if_true}
use Rattle.replica.specs.declared.state.Replica.{Replica}
use Rattle.replica.specs.Store.{Store, fits}
use Rattle.replica.specs.View.{view, plan, book_of, box}
use Rattle.replica.specs.Holding.{Sized, held_of}
use Rattle.replica.proofs.Putting.{box_held, sized_held}
use Rattle.intake.specs.Hearing.{heard}
use Rattle.intake.specs.Submitting.{unused_of, offered, offer_of, submit_of, Submits}
use Rattle.intake.proofs.Admitted.{passed}
use Rattle.intake.proofs.Heard.{ok≢err}

-- the slot that is found is below W and free
pub unused_free : (m : Replica) (t : Store) (k : ℕ) → unused_of m t ≡ Some k → (k < m.set.w) × (view m t m.set.me (at_send k) ≡ None)
unused_free m t k e =
    let f = first_some m.set.w _ k e in
    let u = unless_some (view m t m.set.me (at_send f.0)) (Some f.0) k f.2.0 in
    let same : Some f.0 ≡ Some k = u.1 in
    let z : f.0 ≡ k = cc in
    (omega (arith, f.1), ap (λ i. view m t m.set.me (at_send i)) (sym z) ∙ u.0)

module _ (w : ℕ) (valid : List ℕ → Bool) (m : Replica) (t : Store) (s : List ℕ) where
  -- an entry that is offered for slot k
  pub record Offered (k : ℕ) : Type 0 where
    pub lent : fits m.set.n m.set.w t ≡ true
    pub entry : valid s ≡ true
    pub slot : unused_of m t ≡ Some k
    pub new : stands_in_book (sameness (plan m)) (book_of m t) s ≡ false

  by_slot : (o : Option ℕ) (st : Stmt (List ℕ)) → offered m t s o ≡ Ok st → (k : ℕ) × (o ≡ Some k) × (stands_in_book (sameness (plan m)) (book_of m t) s ≡ false) × (sends k s ≡ st)
  by_slot None st h = absurd (ok≢err (sym h))
  by_slot (Some k) st h =
      let p = passed (stands_in_book (sameness (plan m)) (book_of m t) s) _ _ st h in
      let same : ◌≡◌ {A = Result (Stmt (List ℕ)) ℕ} (Ok (sends k s)) (Ok st) = p.1 in
      (k, refl, p.0, cc)

  pub offers : (st : Stmt (List ℕ)) → offer_of w valid m t s ≡ Ok st → (k : ℕ) × Offered k × (sends k s ≡ st)
  offers st h =
      let a = passed (not (fits m.set.n m.set.w t)) _ _ st h in
      let b = passed (ltb (length s) w) _ _ st a.1 in
      let c = passed (ltb w (length s)) _ _ st b.1 in
      let d = passed (not (valid s)) _ _ st c.1 in
      let k = by_slot (unused_of m t) st d.1 in
      (k.0, record { lent = not-false _ a.0; entry = not-false _ d.0; slot = k.1; new = k.2 }, k.3)

  pub taken : (k : ℕ) → Offered k → takes (plan m) (box m t) s ≡ Some k
  taken k o = only_if_true _ _ (not_from_false _ o.new) ∙ o.slot

  -- the send of an offered entry is in range, and its cell is free
  pub send_ranged : (k : ℕ) → Offered k → ranged (plan m) (box m t) (sends k s) ≡ true
  send_ranged k o = lt-ltb k _ (unused_free m t k o.slot).0

  module _ (wide : (x : List ℕ) → valid x ≡ true → length x ≡ w) where
    pub offering : fits m.set.n m.set.w t ≡ true → valid s ≡ true → (k : ℕ) → takes (plan m) (box m t) s ≡ Some k → offer_of w valid m t s ≡ Ok (sends k s)
    offering long v k h =
        let p = only_if_some _ _ k h in
        let e = wide s v in
        rw (long, le-ltb (length s) w (omega arith), le-ltb w (length s) (omega arith), v, p.1, not-true _ p.0) refl

    by_offer : (r : Result (Stmt (List ℕ)) ℕ) → offer_of w valid m t s ≡ r → let p = heard m t m.set.me r in Submits valid m t s p.0 p.1 p.2
    by_offer (Ok st) e =
        let f = offers st e in
        let k = f.0 in
        let o = f.1 in
        let said : Sized m → (box (held_of m t m.set.me (sends k s)).0 (held_of m t m.set.me (sends k s)).1 ≡ small (says (sends k s)) (box m t)) × Sized (held_of m t m.set.me (sends k s)).0 =
        λ z. (box_held m t m.set.me z o.lent m.set.own (sends k s) (send_ranged k o) (unused_free m t k o.slot).1, sized_held m t m.set.me (sends k s) z) in
        record {
          accepted = λ ok. (k, o.entry, taken k o, subst (λ (x : Stmt (List ℕ)). Sized m → (box (held_of m t m.set.me x).0 (held_of m t m.set.me x).1 ≡ small (says (sends k s)) (box m t)) × Sized (held_of m t m.set.me x).0) f.2 said);
          accepting = λ long v x a. refl;
        }
    by_offer (Err n) e =
        record {
          accepted = λ h. absurd (ok≢err (sym h));
          accepting = λ long v k a. absurd (ok≢err (sym (offering long v k a) ∙ e));
        }

    pub submits_law : let p = submit_of w valid m t s in Submits valid m t s p.0 p.1 p.2
    submits_law = by_offer (offer_of w valid m t s) refl

    -- what answers and leaves that has the law
    pub submits_by : (answer : Result (Unit {0}) ℕ) (after : Replica) (left : Store) → ◌≡◌ {A = Result (Unit {0}) ℕ × Replica × Store} (answer, after, left) (submit_of w valid m t s) → Submits valid m t s answer after left
    submits_by answer after left e = subst (λ (p : Result (Unit {0}) ℕ × Replica × Store). Submits valid m t s p.0 p.1 p.2) (sym e) submits_law
