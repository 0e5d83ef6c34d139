-- What the theory promises of its boxes, the replicas of a set promise.
use Rattle.std.proofs.Common.{◌≡◌, ℕ, true, false, List, [], ◌∷◌, Some, None, Ok, Option, sym, refl, ap, ◌∙◌, subst, inl, inr}
use mathlib.Core.Bool.{false≢true}
use Rattle.std.specs.List.{ContainsAt}
use Rattle.std.proofs.lemmas.Bool.{eq-eqb, and_parts, not-true, cond_both}
use Rattle.theory.specs.Count as count
use Rattle.theory.specs.Statement.{Stmt, sends}
use Rattle.theory.specs.Plan.{Rule, boxes}
use Rattle.theory.specs.Machine.{Box, Board}
use Rattle.theory.specs.Calls as theory
use Rattle.theory.specs.Promises as theorem
use Rattle.theory.proofs.Books.{none≢some}
use Rattle.wire.specs.Codec.{parse_of}
use Rattle.replica.specs.Store.{Store, fits}
use Rattle.replica.specs.View.{plan, box}
use Rattle.showing.proofs.Filling.{board_all, board_only}
use Rattle.intake.specs.Hearing.{hear_of}
use Rattle.intake.specs.Meaning.{Says}
use Rattle.intake.proofs.Heard.{hears_law}
use Rattle.promises.specs.Runs.{Call, submit, opens, hear, turns, Asked}
use Rattle.promises.specs.Promised.{Set, Honest, state, board, Shown, Authentic, Lent, Lending, Fair}
use Rattle.promises.proofs.Typing.{rule, meant, meant_says, heard_as, call_as, typed, calls}
use Rattle.promises.proofs.Following.{Follows, plan_is, me_is, follows}

module _ (S : Set) where
  abbrev pub R : Rule (List ℕ)
  R = rule S

  pub honest_box : (i : ℕ) → Honest S i → count.Honest (boxes R) i
  honest_box i h = record { below = h.0; good = h.1 }

  pub box_honest : (i : ℕ) → count.Honest (boxes R) i → Honest S i
  box_honest i h = (h.below, h.good)

  -- fair lists lend what they may
  lent_short : (c : List Asked) (i : ℕ) (o : Option Store) (a : Call) → Lent S c i o a → (t : Store) → o ≡ Some t → fits S.n S.w t ≡ false
  lent_short c i None a l t e = absurd (none≢some e)
  lent_short c i (Some u) a l t e = let z : u ≡ t = cc in subst (λ (k : Store). fits S.n S.w k ≡ false) z l

  pub fair_lending : (c : List Asked) → Fair S c → Lending S c
  fair_lending [] f = tt
  fair_lending (a ∷ c) f = (fair_lending c f.0, lent_short c a.at a.lent a.call f.2)

  -- what stands on a replica's board stands on the box's, and the other way
  module _ (c : List Asked) (l : Lending S c) (j : ℕ) (h : Honest S j) where
    pub on_box : (x : Stmt (List ℕ)) → ContainsAt (board S c j) x → Board (theorem.box R (calls S.kind c) j) x
    on_box x e = subst (λ (B : Box (List ℕ)). Board B x) (follows S j h c l).box (board_only (state S c j).0 (state S c j).1 x e)

    pub on_board : (x : Stmt (List ℕ)) → Board (theorem.box R (calls S.kind c) j) x → ContainsAt (board S c j) x
    on_board x e = board_all (state S c j).0 (state S c j).1 x (subst (λ (B : Box (List ℕ)). Board B x) (sym (follows S j h c l).box) e)

  shown_box : (c : List Asked) → Lending S c → (j : ℕ) → Honest S j → (x : Stmt (List ℕ)) → Shown S c j x → theorem.Shown R (calls S.kind c) j x
  shown_box [] l j h x s = on_box [] l j h x s
  shown_box (a ∷ c) l j h x (inl s) = inl (shown_box c l.0 j h x s)
  shown_box (a ∷ c) l j h x (inr s) = inr (on_box (a ∷ c) l j h x s)

  module _ (c : List Asked) (l : Lending S c) (i : ℕ) (h : Honest S i) where
    abbrev B : Box (List ℕ)
    B = theorem.box R (calls S.kind c) i

    f : Follows S i (state S c i) B
    f = follows S i h c l

    -- the box is the replica: what it accepts, the replica does
    pub accepts_same : (j : ℕ) (x : Stmt (List ℕ)) → theory.accepts R.plan B j x ≡ theory.accepts (plan (state S c i).0) (box (state S c i).0 (state S c i).1) j x
    accepts_same j x = λ z. theory.accepts (sym (plan_is S i (state S c i) B f) z) (sym f.box z) j x

    pub hears_it : (j : ℕ) (s : List ℕ) (x : Stmt (List ℕ)) → Says S.kind.width S.kind.valid s x → theory.accepts R.plan B j x ≡ true → (hear_of S.kind.width S.kind.valid (state S c i).0 (state S c i).1 j s).0 ≡ Ok tt
    hears_it j s x says e = (hears_law S.kind.width S.kind.valid (state S c i).0 (state S c i).1 j s).accepting f.whole.lent x says (sym (accepts_same j x) ∙ e)

    -- nobody accepts from himself
    pub never_own : (x : Stmt (List ℕ)) → theory.accepts R.plan B i x ≡ true → ⊥
    never_own x e =
        let me : B.me ≡ i = sym (ap (λ (b : Box (List ℕ)). b.me) f.box) ∙ me_is S i (state S c i) B f in
        let p = and_parts _ _ (and_parts _ _ e).0 in
        false≢true (sym (not-true _ p.1) ∙ eq-eqb i B.me (sym me))

    -- an authentic call is one of the theory's
    heard_box : (j : ℕ) (s : List ℕ) → Authentic S c i (hear j s) → (o : Option (Stmt (List ℕ))) → meant S.kind (parse_of S.kind.width s) ≡ o → theorem.Authentic R (calls S.kind c) i (heard_as S.kind i j o)
    heard_box j s a None e = λ y js. absurd (never_own (sends 0 []) y)
    heard_box j s a (Some x) e = λ y js. let says = meant_says S.kind s x e in shown_box c l j (box_honest j js) x (a (hears_it j s x says y) (box_honest j js) x says)

    call_box : (a : Call) → Authentic S c i a → theorem.Authentic R (calls S.kind c) i (call_as S.kind i a)
    call_box (submit s) u = cond_both (S.kind.valid s) _ _ (theorem.Authentic R (calls S.kind c) i) (λ e. tt) (λ e y js. absurd (never_own (sends 0 []) y))
    call_box opens u = tt
    call_box (hear j s) u = heard_box j s u (meant S.kind (parse_of S.kind.width s)) refl
    call_box turns u = tt

    pub authentic_box : (o : Option Store) (a : Call) → Lent S c i o a → theorem.Authentic R (calls S.kind c) i (typed S.kind i o a)
    authentic_box None a u = call_box a u
    authentic_box (Some t) a u = λ y js. absurd (never_own (sends 0 []) y)

  pub fair_box : (c : List Asked) → Fair S c → theorem.Fair R (calls S.kind c)
  fair_box [] f = tt
  fair_box (a ∷ c) f = (fair_box c f.0, honest_box a.at f.1, authentic_box c (fair_lending c f.0) a.at f.1 a.lent a.call f.2)
