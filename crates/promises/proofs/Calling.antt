-- One call at a whole replica is one call of the theory's box.
use Rattle.std.proofs.Common.{◌≡◌, ℕ, Bool, true, false, cond, not, ltb, leb, ◌⊎◌, List, [], ◌∷◌, length, Some, None, Ok, Err, Option, Result, sym, refl, ap, ◌∙◌, subst, inl, inr}
use Rattle.std.specs.List.{slice_get}
use Rattle.std.proofs.lemmas.Bool.{ltb-true, eq-eqb, and_right, cases_Bool}
use Rattle.common.specs.Limits.{epochs}
use Rattle.common.specs.Refusals.{declined}
use Rattle.common.specs.declared.refusal.Refusal.TheVariants.{Table, Over}
use Rattle.theory.specs.Statement.{Stmt, sends}
use Rattle.theory.specs.Book.{Page}
use Rattle.theory.specs.Machine.{Small, says, hears, stays, enters, leaves, small, Steps, does}
use Rattle.theory.specs.Search.{map}
use Rattle.theory.specs.Calls as theory
use Rattle.wire.specs.Codec.{parse_of}
use Rattle.replica.specs.declared.state.Replica.{Replica}
use Rattle.replica.specs.Store.{Store, fits}
use Rattle.replica.specs.View.{plan, book_of, box}
use Rattle.replica.specs.Holding.{held_of}
use Rattle.intake.specs.Hearing.{judge_of, heard}
use Rattle.intake.specs.Submitting.{offer_of}
use Rattle.replica.proofs.Putting.{box_held}
use Rattle.intake.proofs.Heard.{ok≢err}
use Rattle.intake.proofs.Judged.{judged, accepted, judges}
use Rattle.intake.proofs.Submitted.{offers, taken, offering, send_ranged, unused_free}
use Rattle.turns.specs.Stepping.{left_of, filed_of, step_of, steps_of}
use Rattle.turns.specs.Turning.{opened, open_of, turned, turn_of}
use Rattle.turns.specs.Ties.{Whole}
use Rattle.turns.proofs.Keeping.{held_rest, held_whole}
use Rattle.turns.proofs.Tied.{ties}
use Rattle.promises.specs.Runs.{Kind, Wide, Call, submit, opens, hear, turns, call_of}
use Rattle.promises.proofs.Typing.{meant, says_meant, meant_says, idle, heard_as, call_as}

-- the numbers of a replica stay
held_set : (m : Replica) (t : Store) (j : ℕ) (st : Stmt (List ℕ)) → (held_of m t j st).0.set ≡ m.set
held_set m t j st = ap (λ (k : Replica). k.set) (held_rest m t j st).0

step_set : (s : Small (List ℕ)) (m : Replica) (t : Store) → (step_of s m t).0.set ≡ m.set
step_set (says st) m t = held_set m t m.set.me st
step_set (hears j st) m t = held_set m t j st
step_set (stays g) m t = refl
step_set (enters e v) m t = refl
step_set (leaves l) m t = at (slice_get l.book (length (book_of m t)))
  where
    at : (o : Option (Page (List ℕ))) → (left_of (filed_of o m t).0).set ≡ m.set
    at None = refl
    at (Some p) = refl

steps_set : (l : Steps (List ℕ)) (m : Replica) (t : Store) → (steps_of l m t).0.set ≡ m.set
steps_set [] m t = refl
steps_set (s ∷ l) m t = steps_set l (step_of s m t).0 (step_of s m t).1 ∙ step_set s m t

turned_set : (m : Replica) (t : Store) (o : Option (theory.Turn × Steps (List ℕ))) → (turned m t o).1.set ≡ m.set
turned_set m t None = refl
turned_set m t (Some k) = steps_set k.1 m t

opened_set : (m : Replica) (t : Store) (o : Option Bool) → (opened m t o).1.set ≡ m.set
opened_set m t None = refl
opened_set m t (Some v) = refl

open_set : (m : Replica) (t : Store) → (open_of m t).1.set ≡ m.set
open_set m t = at (not (fits m.set.n m.set.w t)) (leb epochs m.epoch)
  where
    o : Option Bool
    o = theory.opening (plan m) (box m t) (box m t).stage

    at : (a b : Bool) → (cond a (declined Table, m, t) (cond b (declined Over, m, t) (opened m t o))).1.set ≡ m.set
    at true b = refl
    at false true = refl
    at false false = opened_set m t o

turn_set : (coin : ℕ → ℕ → Bool) (m : Replica) (t : Store) → (turn_of coin m t).1.set ≡ m.set
turn_set coin m t = at (not (fits m.set.n m.set.w t))
  where
    o : Option (theory.Turn × Steps (List ℕ))
    o = theory.turn (plan m) (box m t) coin

    at : (a : Bool) → (cond a (declined Table, m, t) (turned m t o)).1.set ≡ m.set
    at true = refl
    at false = turned_set m t o

module _ (K : Kind) (coin : ℕ → ℕ → Bool) (m : Replica) (t : Store) where
  -- what the call makes of the replica is what the theory's call makes of the box
  pub record Done (c : theory.Call (List ℕ)) (after : Replica) (left : Store) : Type 0 where
    pub whole : Whole after left
    pub set : after.set ≡ m.set
    pub box : box after left ≡ does (theory.steps (plan m) coin (box m t) c) (box m t)

  -- nobody accepts what is said to come from himself
  pub idle_does : does (theory.steps (plan m) coin (box m t) (idle K m.set.me)) (box m t) ≡ box m t
  idle_does = rw (eq-eqb m.set.me m.set.me refl, and_right (ltb m.set.me m.set.n) false refl) refl

  module _ (wide : Wide K) (W : Whole m t) where
    deaf : (j : ℕ) (x : Stmt (List ℕ)) → theory.accepts (plan m) (box m t) j x ≡ false → does (theory.steps (plan m) coin (box m t) (theory.hear j x)) (box m t) ≡ box m t
    deaf j x e = rw e refl

    hear_done : (j : ℕ) (s : List ℕ) (r : Result (Stmt (List ℕ)) ℕ) → judge_of K.width K.valid m t j s ≡ r → let p = heard m t j r in Done (call_as K m.set.me (hear j s)) p.1 p.2
    hear_done j s (Ok st) e =
        let g = judged K.width K.valid m t j s st e in
        let yes = accepted K.width K.valid m t j s st g in
        rw (says_meant K s st g.says) (record {
          whole = held_whole m t W j st;
          set = held_set m t j st;
          box = rw yes (box_held m t j W.sized W.lent (ltb-true _ _ g.from) st g.ranged g.free);
        })
    hear_done j s (Err n) e = record { whole = W; set = refl; box = sym (at (meant K (parse_of K.width s)) refl) }
      where
        at : (o : Option (Stmt (List ℕ))) → meant K (parse_of K.width s) ≡ o → does (theory.steps (plan m) coin (box m t) (heard_as K m.set.me j o)) (box m t) ≡ box m t
        at None h = idle_does
        at (Some x) h = deaf j x (no_hear (cases_Bool (theory.accepts (plan m) (box m t) j x)))
          where
            no_hear : (theory.accepts (plan m) (box m t) j x ≡ true) ⊎ (theory.accepts (plan m) (box m t) j x ≡ false) → theory.accepts (plan m) (box m t) j x ≡ false
            no_hear (inl y) = absurd (ok≢err (sym (judges K.width K.valid m t j s W.lent x (meant_says K s x h) y) ∙ e))
            no_hear (inr n) = n

    submit_done : (s : List ℕ) (r : Result (Stmt (List ℕ)) ℕ) → offer_of K.width K.valid m t s ≡ r → let p = heard m t m.set.me r in Done (call_as K m.set.me (submit s)) p.1 p.2
    unfolding map
    submit_done s (Ok st) e =
        let f = offers K.width K.valid m t s st e in
        let k = f.0 in
        let o = f.1 in
        rw o.entry (record {
          whole = held_whole m t W m.set.me st;
          set = held_set m t m.set.me st;
          box = rw (taken K.width K.valid m t s k o) (subst (λ (x : Stmt (List ℕ)). box (held_of m t m.set.me x).0 (held_of m t m.set.me x).1 ≡ small (says (sends k s)) (box m t)) f.2 (box_held m t m.set.me W.sized W.lent m.set.own (sends k s) (send_ranged K.width K.valid m t s k o) (unused_free m t k o.slot).1));
        })
    submit_done s (Err n) e = record { whole = W; set = refl; box = sym (at (cases_Bool (K.valid s))) }
      where
        none : K.valid s ≡ true → (o : Option ℕ) → theory.takes (plan m) (box m t) s ≡ o → theory.takes (plan m) (box m t) s ≡ None
        none v None h = h
        none v (Some k) h = absurd (ok≢err (sym (offering K.width K.valid m t s wide W.lent v k h) ∙ e))

        at : (K.valid s ≡ true) ⊎ (K.valid s ≡ false) → does (theory.steps (plan m) coin (box m t) (call_as K m.set.me (submit s))) (box m t) ≡ box m t
        at (inl v) = rw (v, none v (theory.takes (plan m) (box m t) s) refl) refl
        at (inr n) = rw n idle_does

    pub call_done : (c : Call) → let p = call_of K coin m t c in Done (call_as K m.set.me c) p.1 p.2
    call_done (submit s) = submit_done s (offer_of K.width K.valid m t s) refl
    call_done opens = let d = ties.opens coin m t W in record { whole = d.0; set = open_set m t; box = d.1 }
    call_done (hear j s) = hear_done j s (judge_of K.width K.valid m t j s) refl
    call_done turns = let d = ties.turns coin m t W in record { whole = d.0; set = turn_set coin m t; box = d.1 }

  -- with tables of which one is too short nothing is done
  pub short_stays : (u : Store) → fits m.set.n m.set.w u ≡ false → (c : Call) → (call_of K coin m u c).1 ≡ m
  short_stays u e (submit s) = rw e refl
  short_stays u e opens = rw e refl
  short_stays u e (hear j s) = rw e refl
  short_stays u e turns = rw e refl
