-- Where the theory's boxes meet a premise, the replicas of a set meet it.
use Rattle.std.proofs.Common.{◌≡◌, ℕ, Bool, true, false, ◌&&◌, List, [], ◌∷◌, Some, None, Ok, Option, Result, sym, refl, ap, ◌∙◌, subst, inl, inr}
use mathlib.Core.Bool.{false≢true}
use Rattle.std.proofs.lemmas.Bool.{and_parts}
use Rattle.theory.specs.Statement.{Stmt}
use Rattle.theory.specs.Machine.{Box, Holds}
use Rattle.theory.specs.Search.{absent}
use Rattle.theory.specs.Calls as theory
use Rattle.theory.specs.Promises as theorem
use Rattle.theory.proofs.Books.{none≢some}
use Rattle.theory.proofs.Searching.{absent_none}
use Rattle.replica.specs.Store.{Store, fits}
use Rattle.replica.specs.View.{plan, box}
use Rattle.intake.specs.Hearing.{hear_of}
use Rattle.intake.specs.Meaning.{Says}
use Rattle.intake.proofs.Heard.{hears_law}
use Rattle.turns.specs.Ties.{number_in}
use Rattle.turns.proofs.Tied.{ties}
use Rattle.promises.specs.Runs.{Kind, Call, submit, opens, hear, turns, Asked}
use Rattle.promises.specs.Promised.{Set, Honest, state, book, Shown, Authentic, Lent, Lending, Fair, Quiet}
use Rattle.promises.proofs.Typing.{says_meant, heard_as, call_as, typed, calls}
use Rattle.promises.proofs.Following.{plan_is, follows}
use Rattle.promises.proofs.Transferring.{R, honest_box, box_honest, on_box, on_board, accepts_same}
use Rattle.promises.proofs.Valid.{board_says}

-- bytes say one thing
one_meaning : (K : Kind) (s : List ℕ) (x y : Stmt (List ℕ)) → Says K.width K.valid s x → Says K.width K.valid s y → x ≡ y
one_meaning K s x y a b =
    let z : Some x ≡ Some y = sym (says_meant K s x a) ∙ says_meant K s y b in
    cc

-- each replica is lent its own tables
abbrev pub own : List Asked → Bool
own [] = true
own (a ∷ c) = absent a.lent && own c

ok_number : (a b : ℕ) → ◌≡◌ {A = Result ℕ ℕ} (Ok a) (Ok b) → a ≡ b
ok_number a b e = cc

module _ (S : Set) where
  pub own_lending : (c : List Asked) → own c ≡ true → Lending S c
  own_lending [] e = tt
  own_lending (a ∷ c) e =
      let p = and_parts (absent a.lent) (own c) e in
      (own_lending c p.1, λ t h. absurd (none≢some (sym (absent_none a.lent p.0) ∙ h)))

  shown_here : (c : List Asked) → Lending S c → (j : ℕ) → Honest S j → (x : Stmt (List ℕ)) → theorem.Shown (R S) (calls S.kind c) j x → Shown S c j x
  shown_here [] l j h x s = on_board S [] l j h x s
  shown_here (a ∷ c) l j h x (inl s) = inl (shown_here c l.0 j h x s)
  shown_here (a ∷ c) l j h x (inr s) = inr (on_board S (a ∷ c) l j h x s)

  module _ (c : List Asked) (l : Lending S c) (i : ℕ) (h : Honest S i) where
    abbrev C : theory.Calls (List ℕ)
    C = calls S.kind c

    -- bytes that a replica accepts say what its box accepts
    accepted_box : (j : ℕ) (s : List ℕ) (x : Stmt (List ℕ)) → Says S.kind.width S.kind.valid s x → (hear_of S.kind.width S.kind.valid (state S c i).0 (state S c i).1 j s).0 ≡ Ok tt → theory.accepts (R S).plan (theorem.box (R S) C i) j x ≡ true
    accepted_box j s x says ok =
        let p = state S c i in
        let a = (hears_law S.kind.width S.kind.valid p.0 p.1 j s).accepted ok in
        accepts_same S c l i h j x ∙ subst (λ (y : Stmt (List ℕ)). theory.accepts (plan p.0) (box p.0 p.1) j y ≡ true) (one_meaning S.kind s a.0 x a.1 says) a.2

    authentic_here : (a : Call) → theorem.Authentic (R S) C i (call_as S.kind i a) → Authentic S c i a
    authentic_here (submit s) u = tt
    authentic_here opens u = tt
    authentic_here (hear j s) u = λ ok hj x says.
        let v = subst (λ (o : Option (Stmt (List ℕ))). theorem.Authentic (R S) C i (heard_as S.kind i j o)) (says_meant S.kind s x says) u in
        shown_here c l j hj x (v (accepted_box j s x says ok) (honest_box S j hj))
    authentic_here turns u = tt

    lent_here : (o : Option Store) (a : Call) → ((t : Store) → o ≡ Some t → fits S.n S.w t ≡ false) → theorem.Authentic (R S) C i (typed S.kind i o a) → Lent S c i o a
    lent_here None a short u = authentic_here a u
    lent_here (Some t) a short u = short t refl

  pub fair_here : (c : List Asked) → Lending S c → theorem.Fair (R S) (calls S.kind c) → Fair S c
  fair_here [] l f = tt
  fair_here (a ∷ c) l f =
      let h = box_honest S a.at f.1 in
      (fair_here c l.0 f.0, h, lent_here c l.0 a.at h a.lent a.call l.1 f.2)

  module _ (c : List Asked) (l : Lending S c) where
    pub quiet_here : theorem.Quiet (R S) (calls S.kind c) → Quiet S c
    quiet_here q = record {
      heard = λ i j hi hj n x on ok.
          let there = on_box S c l j hj x on in
          false≢true (sym (q.heard i j (honest_box S i hi) (honest_box S j hj) n x there) ∙ accepted_box c l i hi j _ x (board_says S j hj c l x there) ok);
      rest = λ i hi k e.
          let f = follows S i hi c l in
          let p = state S c i in
          let none : theory.turn (plan p.0) (box p.0 p.1) S.coin ≡ None = (λ z. theory.turn (plan_is S i p _ f z) (f.box z) S.coin) ∙ q.rest i (honest_box S i hi) in
          ok_number k 0 (sym e ∙ ties.answer S.coin p.0 p.1 f.whole ∙ ap (λ o. Ok (number_in o)) none);
    }

    pub book_here : (i : ℕ) → Honest S i → book S c i ≡ theorem.book (R S) (calls S.kind c) i
    book_here i h = ap (λ (B : Box (List ℕ)). B.ledger.book) (follows S i h c l).box

    pub holds_here : (i : ℕ) → Honest S i → (j : ℕ) (x : Stmt (List ℕ)) → Holds (theorem.box (R S) (calls S.kind c) i) j x → Holds (box (state S c i).0 (state S c i).1) j x
    holds_here i h j x e = subst (λ (B : Box (List ℕ)). Holds B j x) (sym (follows S i h c l).box) e
