-- Steps of the theory's box that fit a whole replica are done to it, one after the other.
use Rattle.std.proofs.Common.{◌≡◌, ℕ, ◌<◌, Bool, true, false, ◌⊎◌, List, [], ◌∷◌, length, Some, Option, sym, refl, ap, ◌∙◌, subst, ⊎_elim, add-one, arith}
use Rattle.std.specs.List.{slice_get}
use Rattle.std.proofs.lemmas.Option.{slice_get_past}
use Rattle.std.proofs.lemmas.Bool.{lt-ltb, eq-eqb, and_from}
use Rattle.common.specs.Limits.{epochs, rounds}
use Rattle.theory.specs.Statement.{Stmt, value, Cell, at_send, at_echo, at_ready, at_have, at_value, at_seen, at_confirm, at_finish}
use Rattle.theory.specs.Book.{Page, Ledger}
use Rattle.theory.specs.Machine.{Stage, unopened, awaiting, running, drop, Small, says, hears, stays, enters, leaves, small, Steps, does}
use Rattle.theory.specs.Calls.{ranged}
use Rattle.replica.specs.declared.state.Replica.{Replica}
use Rattle.replica.specs.declared.state.Stage as declared
use Rattle.replica.specs.declared.state.Stage.TheVariants.{Open}
use Rattle.replica.specs.Store.{Store}
use Rattle.replica.specs.View.{stage_of, view, plan, book_of, box}
use Rattle.replica.proofs.Putting.{Vacant, box_put}
use Rattle.turns.specs.Stepping.{stage_in, with_stage, left_of, filed_of, step_of, steps_of}
use Rattle.turns.specs.Ties.{Whole, Tied}
use Rattle.turns.proofs.Leaving.{view_left, head_more, filed, next_some}
use Rattle.turns.proofs.Keeping.{held_whole, stage_whole, left_whole, Next, in_heads, book_more, page_whole}

stage_back : (g : Stage) → stage_of (stage_in g) ≡ g
stage_back unopened = refl
stage_back awaiting = refl
stage_back (running r d) = refl

stage_round : (g : Stage) (r : ℕ) (d : Bool) → stage_in g ≡ Open r d → g ≡ running r d
stage_round unopened r d e = absurd (let z : ◌≡◌ {A = ℕ} 0 1 = cc in omega arith)
stage_round awaiting r d e = absurd (let z : ◌≡◌ {A = ℕ} 0 1 = cc in omega arith)
stage_round (running q c) r d e = let a : q ≡ r = cc in let b : c ≡ d = cc in λ z. running (a z) (b z)

module _ (m : Replica) (t : Store) where
  -- what is held does not hang on the stage, nor on the book
  view_stage : (g : declared.Stage) (j : ℕ) (c : Cell) → view (with_stage m g) t j c ≡ view m t j c
  view_stage g j (at_send s) = refl
  view_stage g j (at_echo q s) = refl
  view_stage g j (at_ready q s) = refl
  view_stage g j (at_have q s) = refl
  view_stage g j (at_value e k v) = refl
  view_stage g j (at_seen e k) = refl
  view_stage g j (at_confirm e k) = refl
  view_stage g j (at_finish e) = refl

  view_page : (p : Page (List ℕ)) (j : ℕ) (c : Cell) → view (filed_of (Some p) m t).0 (filed_of (Some p) m t).1 j c ≡ view m t j c
  view_page p j (at_send s) = refl
  view_page p j (at_echo q s) = refl
  view_page p j (at_ready q s) = refl
  view_page p j (at_have q s) = refl
  view_page p j (at_value e k v) = refl
  view_page p j (at_seen e k) = refl
  view_page p j (at_confirm e k) = refl
  view_page p j (at_finish e) = refl

  box_stage : (g : declared.Stage) → box (with_stage m g) t ≡ small (stays (stage_of g)) (box m t)
  box_stage g = λ z. record { me = m.set.me; epoch = m.epoch; stage = stage_of g; mem = λ j c. view_stage g j c z; ledger = (box m t).ledger }

  -- what a small step needs
  abbrev pub Fit : Small (List ℕ) → Type 0
  Fit (says st) = (ranged (plan m) (box m t) st ≡ true) × Vacant m t m.set.me st
  Fit (hears j st) = ⊥
  Fit (stays g) = (r : ℕ) (d : Bool) → g ≡ running r d → r < rounds
  Fit (enters e v) = (e ≡ m.epoch) × (m.epoch < epochs)
  Fit (leaves l) = (m.epoch < epochs) × ((l ≡ (box m t).ledger) ⊎ ((p : Page (List ℕ)) × Next m t p × (l ≡ filed (Some p) (box m t).ledger)))

  module _ (W : Whole m t) where
    box_left : m.epoch < epochs → box (left_of m) t ≡ small (leaves (box m t).ledger) (box m t)
    box_left l = λ z. record { me = m.set.me; epoch = add-one m.epoch z; stage = unopened; mem = λ j c. view_left m t l W.past j c z; ledger = (box m t).ledger }

    box_page : (p : Page (List ℕ)) → Next m t p → m.epoch < epochs → box (left_of (filed_of (Some p) m t).0) (filed_of (Some p) m t).1 ≡ small (leaves (filed (Some p) (box m t).ledger)) (box m t)
    box_page p x l = λ z. record {
      me = m.set.me;
      epoch = add-one m.epoch z;
      stage = unopened;
      mem = λ j c. (view_left (filed_of (Some p) m t).0 (filed_of (Some p) m t).1 l W.past j c ∙ ap (λ (f : ℕ → Cell → Option (Stmt (List ℕ))). drop m.set.me f j c) (λ y i d. view_page p i d y)) z;
      ledger = record { book = book_more m t W p x z; heads = λ k. head_more m.heads p.queue p.slot k (in_heads m t W p x) z };
    }

    entered : (e : ℕ) (v : Bool) → e ≡ m.epoch → m.epoch < epochs → Tied m t (enters e v ∷ []) (step_of (enters e v) m t).0 (step_of (enters e v) m t).1
    entered e v h l =
        let k = with_stage m (Open 0 false) in
        let V = stage_whole m t W (Open 0 false) (λ r d q. let z : 0 ≡ r = cc in omega arith) in
        let r : ranged (plan k) (box k t) (value e 0 v) ≡ true = and_from _ _ refl (and_from _ _ (lt-ltb e epochs (omega arith)) (eq-eqb e m.epoch h)) in
        (held_whole k t V m.set.me (value e 0 v), box_put k t m.set.me V.sized V.lent m.set.own (value e 0 v) r tt ∙ ap (small (hears m.set.me (value e 0 v))) (box_stage (Open 0 false)))

    -- what is left when the ledger brings a page, or none
    abbrev Goes : Ledger (List ℕ) → Option (Page (List ℕ)) → Type 0
    Goes l o = Tied m t (leaves l ∷ []) (left_of (filed_of o m t).0) (filed_of o m t).1

    gone : (l : Ledger (List ℕ)) → Fit (leaves l) → Goes l (slice_get l.book (length (book_of m t)))
    gone l f = ⊎_elim
        (λ (e : l ≡ (box m t).ledger). subst (λ k. Goes k (slice_get k.book (length (book_of m t)))) (sym e)
        (subst (Goes (box m t).ledger) (sym (slice_get_past (book_of m t) (length (book_of m t)) (omega arith))) (left_whole m t W f.0, box_left f.0)))
        (λ (n : (p : Page (List ℕ)) × Next m t p × (l ≡ filed (Some p) (box m t).ledger)). let p = n.0 in let x = n.1 in
        subst (λ k. Goes k (slice_get k.book (length (book_of m t)))) (sym n.2)
        (subst (Goes (filed (Some p) (box m t).ledger)) (sym (next_some (book_of m t) p)) (left_whole _ _ (page_whole m t W p x) f.0, box_page p x f.0)))
        f.1

    pub tied : (s : Small (List ℕ)) → Fit s → Tied m t (s ∷ []) (step_of s m t).0 (step_of s m t).1
    tied (says st) f = (held_whole m t W m.set.me st, box_put m t m.set.me W.sized W.lent m.set.own st f.0 f.1)
    tied (hears j st) f = absurd f
    tied (stays g) f = (stage_whole m t W (stage_in g) (λ r d e. f r d (stage_round g r d e)), box_stage (stage_in g) ∙ ap (λ h. small (stays h) (box m t)) (stage_back g))
    tied (enters e v) f = entered e v f.0 f.1
    tied (leaves l) f = gone l f

-- each step fits, after those before it
abbrev pub Fits : Steps (List ℕ) → Replica → Store → Type 0
Fits [] m t = Unit {0}
Fits (s ∷ l) m t = Fit m t s × Fits l (step_of s m t).0 (step_of s m t).1

pub all_tied : (l : Steps (List ℕ)) (m : Replica) (t : Store) → Whole m t → Fits l m t → Tied m t l (steps_of l m t).0 (steps_of l m t).1
all_tied [] m t W f = (W, refl)
all_tied (s ∷ l) m t W f =
    let a = tied m t W s f.0 in
    let b = all_tied l (step_of s m t).0 (step_of s m t).1 a.0 f.1 in
    (b.0, b.1 ∙ ap (does l) a.1)
