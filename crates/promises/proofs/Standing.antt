-- The theorem over every list of calls.
use Rattle.std.proofs.Common.{◌≡◌, ℕ, ◌<◌, Bool, true, false, ◌⊎◌, List, [], ◌∷◌, ◌++◌, Some, None, Ok, Option, sym, refl, ap, ◌∙◌, subst, inl, inr, ⊎_elim, arith}
use Rattle.std.proofs.lemmas.Bool.{lt-leb, cases_Bool, cond_both}
use Rattle.common.specs.Limits.{epochs}
use Rattle.theory.specs.Statement.{Stmt}
use Rattle.theory.specs.Book.{Page, Begins, Once, Each}
use Rattle.theory.specs.Machine.{Box, Board, Steps}
use Rattle.theory.specs.Turns.{decides}
use Rattle.theory.specs.Calls as theory
use Rattle.theory.specs.Promises as theorem
use Rattle.theory.proofs.Searching.{only_if_some}
use Rattle.theory.proofs.Accepting.{open_law}
use Rattle.theory.proofs.Fairness.{box_sound}
use Rattle.theory.proofs.Quieting.{each_like, promise}
use Rattle.replica.specs.declared.state.Replica.{Replica}
use Rattle.replica.specs.Store.{Store}
use Rattle.replica.specs.View.{same_bytes, stage_of, plan, box}
use Rattle.intake.specs.Submitting.{unused_of, submit_of}
use Rattle.intake.proofs.Submitted.{submits_law}
use Rattle.turns.specs.Turning.{open_of}
use Rattle.turns.specs.Ties.{Whole, number_in}
use Rattle.turns.proofs.Tied.{ties}
use Rattle.promises.specs.Runs.{Kind, Call, submit, opens, hear, turns, Asked}
use Rattle.promises.specs.Promised.{Set, Honest, state, book, Lending, Fair, Submits, Submitted, Opens, Opened, Quiet, Promises, Promise}
use Rattle.promises.proofs.Typing.{heard_as, typed, calls}
use Rattle.promises.proofs.Following.{plan_is, follows}
use Rattle.promises.proofs.Transferring.{R, honest_box, box_honest, fair_lending, on_board, hears_it, fair_box}
use Rattle.promises.proofs.Valid.{board_says}

calls_append : (K : Kind) (more c : List Asked) → calls K (more ++ c) ≡ calls K more ++ calls K c
calls_append K [] c = refl
calls_append K (a ∷ more) c = ap (λ l. (a.at, typed K a.at a.lent a.call) ∷ l) (calls_append K more c)

lending_append : (S : Set) (more c : List Asked) → Lending S more → Lending S c → Lending S (more ++ c)
lending_append S [] c a b = b
lending_append S (x ∷ more) c a b = (lending_append S more c a.0 b, a.1)

-- no turn has the number 0
no_number : (o : Option (theory.Turn × Steps (List ℕ))) → number_in o ≡ 0 → o ≡ None
no_number None e = refl
no_number (Some k) e = absurd (counted k.0 e)
  where
    counted : (t : theory.Turn) → theory.number t ≡ 0 → ⊥
    counted theory.to_echo e = omega arith
    counted theory.to_ready e = omega arith
    counted theory.to_keep e = omega arith
    counted theory.to_follow e = omega arith
    counted theory.to_decide e = omega arith
    counted theory.to_write e = omega arith
    counted theory.to_second e = omega arith
    counted theory.to_see e = omega arith
    counted theory.to_confirm e = omega arith
    counted theory.to_close e = omega arith

-- what is true of a typed call, and of no hear and no turn, is true of an entry submitted or of an open, with the own tables
module _ (K : Kind) (F : theory.Call (List ℕ) → Type 0) (deaf : (j : ℕ) (x : Stmt (List ℕ)) → F (theory.hear j x) → ⊥) (still : F theory.turns → ⊥) where
  abbrev Came : Option Store → Call → Type 0
  Came o k = (o ≡ None) × (((y : List ℕ) × (k ≡ submit y) × (K.valid y ≡ true) × F (theory.submit y)) ⊎ ((k ≡ opens) × F theory.opens))

  heard_never : (i j : ℕ) (o : Option (Stmt (List ℕ))) → F (heard_as K i j o) → ⊥
  heard_never i j None t = deaf i _ t
  heard_never i j (Some x) t = deaf j x t

  came : (i : ℕ) (o : Option Store) (k : Call) → F (typed K i o k) → Came o k
  came i None (submit y) = cond_both (K.valid y) _ _ (λ d. F d → Came None (submit y)) (λ v t. (refl, inl (y, refl, v, t))) (λ v t. absurd (deaf i _ t))
  came i None opens = λ t. (refl, inr (refl, t))
  came i None (hear j z) = λ t. absurd (heard_never i j _ t)
  came i None turns = λ t. absurd (still t)
  came i (Some u) k = λ t. absurd (deaf i _ t)

-- what the theory's box submitted, the replica submitted
module _ (S : Set) (c : List Asked) (l : Lending S c) (q : ℕ) (h : Honest S q) (a : Asked) (s : ℕ) (x : List ℕ) where
  abbrev Asks : theory.Call (List ℕ) → Type 0
  Asks k = theorem.Submits (R S) (theorem.box (R S) (calls S.kind c) q) k s x

  taken_here : (y : List ℕ) → q ≡ a.at → a.lent ≡ None → a.call ≡ submit y → S.kind.valid y ≡ true → (y ≡ x) × (theory.takes (R S).plan (theorem.box (R S) (calls S.kind c) q) y ≡ Some s) → Submits S c q a s x
  taken_here y e o k v t =
      let f = follows S q h c l in
      let p = state S c q in
      let m = p.0 in
      let u = p.1 in
      let takes : theory.takes (plan m) (box m u) y ≡ Some s = (λ z. theory.takes (plan_is S q p _ f z) (f.box z) y) ∙ t.1 in
      let ok = (submits_law S.kind.width S.kind.valid m u y S.wide).accepting f.whole.lent v s takes in
      let slot : unused_of m u ≡ Some s = (only_if_some _ _ s takes).1 in
      (e, o, k ∙ ap submit t.0, ap (λ z. (submit_of S.kind.width S.kind.valid m u z).0) (sym t.0) ∙ ok, slot)

  submits_here : q ≡ a.at → Asks (typed S.kind a.at a.lent a.call) → Submits S c q a s x
  submits_here e t =
      let w = came S.kind Asks (λ j z t. t) (λ t. t) a.at a.lent a.call t in
      ⊎_elim (λ y. taken_here y.0 e w.0 y.1 y.2 y.3) (λ o. absurd o.1) w.1

submitted_here : (S : Set) (c : List Asked) → Lending S c → (q : ℕ) → Honest S q → (s : ℕ) (x : List ℕ) → theorem.Submitted (R S) (calls S.kind c) q s x → Submitted S c q s x
submitted_here S [] l q h s x t = absurd t
submitted_here S (a ∷ c) l q h s x (inl t) = inl (submitted_here S c l.0 q h s x t)
submitted_here S (a ∷ c) l q h s x (inr t) = inr (submits_here S c l.0 q h a s x t.0 t.1)

open_accepted : (m : Replica) (t : Store) → Whole m t → m.epoch < epochs → (v : Bool) → theory.opening (plan m) (box m t) (box m t).stage ≡ Some v → (open_of m t).0 ≡ Ok tt
open_accepted m t W l v e = rw (W.lent, lt-leb epochs m.epoch l, e) refl

-- and what it opened, the replica opened
module _ (S : Set) (c : List Asked) (l : Lending S c) (j : ℕ) (h : Honest S j) (a : Asked) (e : ℕ) (v : Bool) where
  abbrev B : Box (List ℕ)
  B = theorem.box (R S) (calls S.kind c) j

  begun_here : j ≡ a.at → a.lent ≡ None → a.call ≡ opens → (B.epoch ≡ e) × (theory.opening (R S).plan B B.stage ≡ Some v) → Opens S c j a e v
  begun_here q o k t =
      let f = follows S j h c l in
      let p = state S c j in
      let m = p.0 in
      let same : m.epoch ≡ B.epoch = ap (λ (b : Box (List ℕ)). b.epoch) f.box in
      let week = ((open_law (R S).plan B (box_sound (R S) (calls S.kind c) j).filed).sound v t.1).2.0.week in
      let bit : theory.opening (plan m) (box m p.1) (box m p.1).stage ≡ Some v = (λ z. theory.opening (plan_is S j p _ f z) (f.box z) (f.box z).stage) ∙ t.1 in
      (q, o, k, open_accepted m p.1 f.whole (rw same week) v bit, same ∙ t.0, bit)

  opens_here : j ≡ a.at → theorem.OpensWith (R S) B (typed S.kind a.at a.lent a.call) e v → Opens S c j a e v
  opens_here q t =
      let w = came S.kind (λ k. theorem.OpensWith (R S) B k e v) (λ i z t. t) (λ t. t) a.at a.lent a.call t in
      ⊎_elim (λ y. absurd y.3) (λ o. begun_here q w.0 o.0 o.1) w.1

opened_here : (S : Set) (c : List Asked) → Lending S c → (j : ℕ) → Honest S j → (e : ℕ) (v : Bool) → theorem.OpenedBy (R S) (calls S.kind c) j e v → Opened S c j e v
opened_here S [] l j h e v t = absurd t
opened_here S (a ∷ c) l j h e v (inl t) = inl (opened_here S c l.0 j h e v t)
opened_here S (a ∷ c) l j h e v (inr t) = inr (opens_here S c l.0 j h a e v t.0 t.1)

module _ (S : Set) (c : List Asked) (fair : Fair S c) where
  l : Lending S c
  l = fair_lending S c fair

  abbrev C : theory.Calls (List ℕ)
  C = calls S.kind c

  P : theorem.Promises (R S) C
  P = promise (List ℕ) (R S) C (fair_box S c fair)

  book_is : (i : ℕ) → Honest S i → book S c i ≡ theorem.book (R S) C i
  book_is i h = ap (λ (B : Box (List ℕ)). B.ledger.book) (follows S i h c l).box

  quiet_box : Quiet S c → theorem.Quiet (R S) C
  quiet_box q = record {
    heard = λ i j is js n x on. at i j (box_honest S i is) (box_honest S j js) n x on (cases_Bool (theory.accepts (R S).plan (theorem.box (R S) C i) j x));
    rest = λ i is. rests i (box_honest S i is);
  }
    where
      at : (i j : ℕ) → Honest S i → Honest S j → (i ≡ j → ⊥) → (x : Stmt (List ℕ)) → Board (theorem.box (R S) C j) x → (theory.accepts (R S).plan (theorem.box (R S) C i) j x ≡ true) ⊎ (theory.accepts (R S).plan (theorem.box (R S) C i) j x ≡ false) → theory.accepts (R S).plan (theorem.box (R S) C i) j x ≡ false
      at i j hi hj n x on (inl y) = absurd (q.heard i j hi hj n x (on_board S c l j hj x on) (hears_it S c l i hi j _ x (board_says S j hj c l x on) y))
      at i j hi hj n x on (inr e) = e

      rests : (i : ℕ) → Honest S i → theory.turn (R S).plan (theorem.box (R S) C i) S.coin ≡ None
      rests i hi =
          let f = follows S i hi c l in
          let p = state S c i in
          let zero = q.rest i hi _ (ties.answer S.coin p.0 p.1 f.whole) in
          (λ z. theory.turn (sym (plan_is S i p _ f) z) (sym f.box z) S.coin) ∙ no_number _ zero

  pub promises : Promises S c
  promises = record {
    agreement = λ i j hi hj.
        subst (λ (x : List (Page (List ℕ))). Begins x (book S c j) ⊎ Begins (book S c j) x) (sym (book_is i hi))
        (subst (λ (y : List (Page (List ℕ))). Begins (theorem.book (R S) C i) y ⊎ Begins y (theorem.book (R S) C i)) (sym (book_is j hj)) (P.agreement i j (honest_box S i hi) (honest_box S j hj)));
    no_repetition = λ i hi. subst (Once same_bytes) (sym (book_is i hi)) (P.no_repetition i (honest_box S i hi));
    as_submitted = λ i hi.
        subst (Each (λ p. Honest S p.queue → Submitted S c p.queue p.slot p.entry)) (sym (book_is i hi))
        (each_like _ _ (theorem.book (R S) C i) (λ p t hq. submitted_here S c l p.queue hq p.slot p.entry (t (honest_box S p.queue hq))) (P.as_submitted i (honest_box S i hi)));
    as_opened = λ i hi v d.
        let f = follows S i hi c l in
        let o = P.as_opened i (honest_box S i hi) v ((λ z. decides (sym (plan_is S i (state S c i) _ f) z) (sym f.box z)) ∙ d) in
        let j = box_honest S o.who o.is in
        (o.who, j, subst (λ (e : ℕ). Opened S c o.who e v) (sym (ap (λ (B : Box (List ℕ)). B.epoch) f.box)) (opened_here S c l o.who j _ v o.has));
    evening_out = λ q i j hi hj. book_is i hi ∙ P.evening_out (quiet_box q) i j (honest_box S i hi) (honest_box S j hj) ∙ sym (book_is j hj);
    nobody_awaits = λ q i hi e. P.nobody_awaits (quiet_box q) i (honest_box S i hi) (sym (ap (λ (B : Box (List ℕ)). B.stage) (follows S i hi c l).box) ∙ ap stage_of e);
    in_step = λ i j hi hj e.
        let ei = ap (λ (B : Box (List ℕ)). B.epoch) (follows S i hi c l).box in
        let ej = ap (λ (B : Box (List ℕ)). B.epoch) (follows S j hj c l).box in
        book_is i hi ∙ P.in_step i j (honest_box S i hi) (honest_box S j hj) (sym ei ∙ e ∙ ej) ∙ sym (book_is j hj);
    lasting = λ i hi more lent.
        let later = ap (λ (B : Box (List ℕ)). B.ledger.book) (follows S i hi (more ++ c) (lending_append S more c lent l)).box ∙ ap (λ k. theorem.book (R S) k i) (calls_append S.kind more c) in
        subst (λ (x : List (Page (List ℕ))). Begins x (book S (more ++ c) i)) (sym (book_is i hi)) (subst (Begins (theorem.book (R S) C i)) (sym later) (P.lasting i (calls S.kind more)));
  }

pub stands : Promise
stands S c f = promises S c f
