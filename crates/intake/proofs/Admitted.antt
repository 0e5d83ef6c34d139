-- What is admitted is what the message means, in range and of the current epoch; and no other check stands in the way.
use Rattle.std.proofs.Common.{◌≡◌, ℕ, Bool, true, false, cond, ◌&&◌, ◌||◌, eqb, ltb, leb, List, Some, None, Ok, Err, Option, Result, sym, refl, ap, ◌∙◌, subst, arith}
use Rattle.std.specs.Option.{option_map}
use Rattle.std.proofs.lemmas.Bool.{ltb-true, ltb-false, leb-false, lt-ltb, le-ltb, lt-leb, eqb-true, eq-eqb, and_parts, and_from, or_parts}
use Rattle.common.specs.Limits.{epochs, rounds}
use Rattle.theory.specs.Statement as theory
use Rattle.theory.specs.Statement.{Bits, Stmt}
use Rattle.theory.specs.Calls.{ranged}
use Rattle.wire.specs.Statements.{Message, send, echo, ready, have, value, seen, confirm, finish}
use Rattle.votes.specs.Sets.{set_numbered}
use Rattle.replica.specs.declared.state.Replica.{Replica}
use Rattle.replica.specs.Store.{Store}
use Rattle.replica.specs.View.{held, plan, box}
use Rattle.replica.proofs.Finding.{held_some, mapped_some}
use Rattle.intake.specs.Hearing.{and_then, bit_numbered, operand_of, item_of, timely_of, vote_of, admit_of}
use Rattle.intake.specs.Meaning.{means_of}

-- an answer that is not declined has passed each check
pub passed : {A : Type 0} (b : Bool) (e : ℕ) (r : Result A ℕ) (y : A) → cond b (Err e) r ≡ Ok y → (b ≡ false) × (r ≡ Ok y)
passed true e r y h = absurd (let z : ◌≡◌ {A = ℕ} 0 1 = cc in omega arith)
passed false e r y h = (refl, h)

pub passed_then : {A B : Type 0} (r : Result A ℕ) (f : A → Result B ℕ) (y : B) → and_then r f ≡ Ok y → (x : A) × (r ≡ Ok x) × (f x ≡ Ok y)
passed_then (Ok x) f y h = (x, refl, h)
passed_then (Err e) f y h = absurd (let z : ◌≡◌ {A = ℕ} 0 1 = cc in omega arith)

module _ (valid : List ℕ → Bool) (m : Replica) where
  item_passed : (q s : ℕ) (x y : List ℕ) → item_of valid m q s x ≡ Ok y → ((ltb q m.set.n && ltb s m.set.w) ≡ true) × (valid x ≡ true) × (x ≡ y)
  item_passed q s x y h =
      let p = passed _ _ _ y h in
      let o = or_parts _ _ p.0 in
      let v = kept (valid x) p.1 in
      (and_from _ _ (lt-ltb q _ (leb-false _ _ o.0)) (lt-ltb s _ (leb-false _ _ o.1)), v.0, v.1)
    where
      kept : (b : Bool) → cond {A = Result (List ℕ) ℕ} b (Ok x) (Err 11) ≡ Ok y → (b ≡ true) × (x ≡ y)
      kept true e = (refl, cc)
      kept false e = absurd (let z : ◌≡◌ {A = ℕ} 0 1 = cc in omega arith)

  item_passes : (q s : ℕ) (x : List ℕ) → (ltb q m.set.n && ltb s m.set.w) ≡ true → valid x ≡ true → item_of valid m q s x ≡ Ok x
  item_passes q s x r v =
      let p = and_parts _ _ r in
      rw (lt-leb m.set.n q (ltb-true _ _ p.0), lt-leb m.set.w s (ltb-true _ _ p.1), v) refl

  vote_passed : {A : Type 0} (e k : ℕ) (o : Option A) (v : A) → vote_of m e k (operand_of o) ≡ Ok v → ((ltb k rounds && (ltb e epochs && eqb e m.epoch)) ≡ true) × (o ≡ Some v)
  vote_passed e k None v h = absurd (let z : ◌≡◌ {A = ℕ} 0 1 = cc in omega arith)
  vote_passed e k (Some u) v h =
      let t = passed_then (timely_of m e k) (λ _. Ok u) v h in
      let p = passed (leb rounds k || leb epochs e) _ _ tt t.1 in
      let o = or_parts (leb rounds k) (leb epochs e) p.0 in
      let a = passed (ltb e m.epoch) _ _ tt p.1 in
      let b = passed (ltb m.epoch e) _ _ tt a.1 in
      let now : e ≡ m.epoch = omega (arith, ltb-false _ _ a.0, ltb-false _ _ b.0) in
      let same : Ok u ≡ Ok v = t.2 in
      (and_from _ _ (lt-ltb k _ (leb-false _ _ o.0)) (and_from _ _ (lt-ltb e _ (leb-false _ _ o.1)) (eq-eqb e _ now)), ap Some cc)

  vote_passes : {A : Type 0} (e k : ℕ) (v : A) → (ltb k rounds && (ltb e epochs && eqb e m.epoch)) ≡ true → vote_of m e k (operand_of (Some v)) ≡ Ok v
  vote_passes e k v r =
      let p = and_parts (ltb k rounds) _ r in
      let q = and_parts (ltb e epochs) _ p.1 in
      let now : e ≡ m.epoch = eqb-true e _ q.1 in
      rw (lt-leb rounds k (ltb-true k rounds p.0), lt-leb epochs e (ltb-true e epochs q.0), le-ltb e m.epoch (omega arith), le-ltb m.epoch e (omega arith)) refl

  module _ (t : Store) where
    abbrev Ranged : Stmt (List ℕ) → Type 0
    Ranged st = ranged (plan m) (box m t) st ≡ true

    item_admitted : (f : List ℕ → Stmt (List ℕ)) (q s : ℕ) (x : List ℕ) (st : Stmt (List ℕ)) → ((ltb q m.set.n && ltb s m.set.w) ≡ true → (y : List ℕ) → Ranged (f y)) → and_then (item_of valid m q s x) (λ y. Ok (f y)) ≡ Ok st
        → Ranged st × (held (valid x) (Some (f x)) ≡ Some st)
    item_admitted f q s x st imp h =
        let r = passed_then (item_of valid m q s x) (λ y. Ok (f y)) st h in
        let p = item_passed q s x r.0 r.1 in
        let same : ◌≡◌ {A = Result (Stmt (List ℕ)) ℕ} (Ok (f r.0)) (Ok st) = r.2 in
        let e : f r.0 ≡ st = cc in
        (subst Ranged e (imp p.0 r.0), rw p.1 (ap (λ y. Some (f y)) p.2 ∙ ap Some e))

    item_admits : (f : List ℕ → Stmt (List ℕ)) (q s : ℕ) (x : List ℕ) (st : Stmt (List ℕ)) → (Ranged (f x) → (ltb q m.set.n && ltb s m.set.w) ≡ true) → Ranged st → held (valid x) (Some (f x)) ≡ Some st → and_then (item_of valid m q s x) (λ y. Ok (f y)) ≡ Ok st
    item_admits f q s x st imp r h =
        let p = held_some (valid x) (Some (f x)) st h in
        let same : Some (f x) ≡ Some st = p.1 in
        let e : f x ≡ st = cc in
        ap (λ i. and_then i (λ y. Ok (f y))) (item_passes q s x (imp (subst Ranged (sym e) r)) p.0) ∙ ap Ok e

    vote_admitted : {A : Type 0} (f : A → Stmt (List ℕ)) (e k : ℕ) (o : Option A) (st : Stmt (List ℕ)) → ((ltb k rounds && (ltb e epochs && eqb e m.epoch)) ≡ true → (v : A) → Ranged (f v)) → and_then (vote_of m e k (operand_of o)) (λ v. Ok (f v)) ≡ Ok st
        → Ranged st × (option_map f o ≡ Some st)
    vote_admitted f e k o st imp h =
        let r = passed_then (vote_of m e k (operand_of o)) (λ v. Ok (f v)) st h in
        let p = vote_passed e k o r.0 r.1 in
        let same : ◌≡◌ {A = Result (Stmt (List ℕ)) ℕ} (Ok (f r.0)) (Ok st) = r.2 in
        let z : f r.0 ≡ st = cc in
        (subst Ranged z (imp p.0 r.0), ap (option_map f) p.1 ∙ ap Some z)

    vote_admits : {A : Type 0} (f : A → Stmt (List ℕ)) (e k : ℕ) (o : Option A) (st : Stmt (List ℕ)) → ((v : A) → Ranged (f v) → (ltb k rounds && (ltb e epochs && eqb e m.epoch)) ≡ true) → Ranged st → option_map f o ≡ Some st → and_then (vote_of m e k (operand_of o)) (λ v. Ok (f v)) ≡ Ok st
    vote_admits f e k o st imp r h =
        let p = mapped_some f o st h in
        ap (λ i. and_then (vote_of m e k (operand_of i)) (λ v. Ok (f v))) p.1 ∙ ap (λ i. and_then i (λ v. Ok (f v))) (vote_passes e k p.0 (imp p.0 (subst Ranged (sym p.2) r))) ∙ ap Ok p.2

    module _ (j : ℕ) where
      pub admitted : (x : Message) (st : Stmt (List ℕ)) → admit_of valid m j x ≡ Ok st → Ranged st × (means_of valid x ≡ Some st)
      admitted (send s x) st h = item_admitted (theory.sends s) j s x st (λ g y. (and_parts _ _ g).1) h
      admitted (echo q s x) st h = item_admitted (theory.echo q s) q s x st (λ g y. g) h
      admitted (ready q s x) st h = item_admitted (theory.ready q s) q s x st (λ g y. g) h
      admitted (have q s x) st h = item_admitted (theory.have q s) q s x st (λ g y. g) h
      admitted (value e k b) st h = vote_admitted (theory.value e k) e k (bit_numbered b) st (λ g v. g) h
      admitted (seen e k b) st h = vote_admitted (theory.seen e k) e k (bit_numbered b) st (λ g v. g) h
      admitted (confirm e k u) st h = vote_admitted (theory.confirm e k) e k (set_numbered u) st (λ g v. g) h
      admitted (finish e b) st h = vote_admitted (theory.finish e) e 0 (bit_numbered b) st (λ g v. g) h

      pub admits : (x : Message) (st : Stmt (List ℕ)) → ltb j m.set.n ≡ true → Ranged st → means_of valid x ≡ Some st → admit_of valid m j x ≡ Ok st
      admits (send s x) st l r h = item_admits (theory.sends s) j s x st (λ g. and_from _ _ l g) r h
      admits (echo q s x) st l r h = item_admits (theory.echo q s) q s x st (λ g. g) r h
      admits (ready q s x) st l r h = item_admits (theory.ready q s) q s x st (λ g. g) r h
      admits (have q s x) st l r h = item_admits (theory.have q s) q s x st (λ g. g) r h
      admits (value e k b) st l r h = vote_admits (theory.value e k) e k (bit_numbered b) st (λ v g. g) r h
      admits (seen e k b) st l r h = vote_admits (theory.seen e k) e k (bit_numbered b) st (λ v g. g) r h
      admits (confirm e k u) st l r h = vote_admits (theory.confirm e k) e k (set_numbered u) st (λ v g. g) r h
      admits (finish e b) st l r h = vote_admits (theory.finish e) e 0 (bit_numbered b) st (λ v g. g) r h
