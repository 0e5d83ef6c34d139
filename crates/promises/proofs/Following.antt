-- After every list of calls, each honest replica is the theory's box after the same calls by statements.
use Rattle.std.proofs.Common.{◌≡◌, ℕ, Bool, true, false, eqb, List, [], ◌∷◌, Some, None, Option, sym, refl, ap, ◌∙◌, subst}
use Rattle.std.proofs.lemmas.Bool.{eqb-true}
use Rattle.theory.specs.Plan.{Plan}
use Rattle.theory.specs.Machine.{Box, does}
use Rattle.theory.specs.Calls as theory
use Rattle.replica.specs.declared.state.Replica.{Replica}
use Rattle.replica.specs.Store.{Store, fits}
use Rattle.replica.specs.View.{plan, box}
use Rattle.replica.specs.Making.{Numbers, numbers}
use Rattle.replica.proofs.Freshness.{accepted_numbers}
use Rattle.turns.specs.Ties.{Whole}
use Rattle.promises.specs.Runs.{Call, Asked, State, left}
use Rattle.promises.specs.Promised.{Set, Honest, state, Lending}
use Rattle.promises.proofs.Typing.{plan_from, numbers_in, idle, typed, calls}
use Rattle.promises.proofs.Calling.{idle_does, call_done, short_stays}
use Rattle.promises.proofs.Starting.{begins_made, set_is, whole_made, box_made}

module _ (S : Set) where
  abbrev P : Plan (List ℕ)
  P = plan_from (numbers_in S 0)

  -- replica i of the set is whole, has its numbers, and is the box B
  pub record Follows (i : ℕ) (p : State) (B : Box (List ℕ)) : Type 0 where
    pub whole : Whole p.0 p.1
    pub set : numbers p.0.set ≡ numbers_in S i
    pub box : box p.0 p.1 ≡ B

  module _ (i : ℕ) where
    -- its terms are the set's
    pub plan_is : (p : State) (B : Box (List ℕ)) → Follows i p B → plan p.0 ≡ P
    plan_is p B f = ap plan_from f.set

    pub me_is : (p : State) (B : Box (List ℕ)) → Follows i p B → p.0.set.me ≡ i
    me_is p B f = ap (λ (k : Numbers). k.me) f.set

    follow_call : (p : State) (B : Box (List ℕ)) → Follows i p B → (o : Option Store) (c : Call) → ((t : Store) → o ≡ Some t → fits S.n S.w t ≡ false)
        → Follows i (left S.kind S.coin p o c) (does (theory.steps P S.coin B (typed S.kind i o c)) B)
    follow_call p B f None c short =
        let d = call_done S.kind S.coin p.0 p.1 S.wide f.whole c in
        record {
          whole = d.whole;
          set = ap numbers d.set ∙ f.set;
          box = d.box ∙ (λ z. does (theory.steps (plan_is p B f z) S.coin (f.box z) (typed S.kind (me_is p B f z) None c)) (f.box z));
        }
    follow_call p B f (Some t) c short =
        let e : fits p.0.set.n p.0.set.w t ≡ false = (λ z. fits (f.set z).n (f.set z).w t) ∙ short t refl in
        let stays = short_stays S.kind S.coin p.0 p.1 t e c in
        subst (λ (k : Replica). Follows i (k, p.1) (does (theory.steps P S.coin B (idle S.kind i)) B)) (sym stays) (record {
          whole = f.whole;
          set = f.set;
          box = sym (idle_does S.kind S.coin p.0 p.1) ∙ (λ z. does (theory.steps (plan_is p B f z) S.coin (f.box z) (idle S.kind (me_is p B f z))) (f.box z));
        })

    module _ (h : Honest S i) where
      start_follows : Follows i (S.start i) (theory.state P S.coin [] i)
      start_follows =
          let x = S.made i h.0 h.1 in
          let b = begins_made S.n i S.w (S.start i).0 (S.start i).1 x.0 x.1 in
          record {
            whole = whole_made S.n i S.w (S.start i).0 (S.start i).1 b;
            set = set_is S.n i S.w (S.start i).0 (S.start i).1 b ∙ accepted_numbers S.n i S.w b.set b.is_set;
            box = box_made S.n i S.w (S.start i).0 (S.start i).1 b;
          }

      pub follows : (c : List Asked) → Lending S c → Follows i (state S c i) (theory.state P S.coin (calls S.kind c) i)
      follows [] l = start_follows
      follows (a ∷ c) l = at (eqb i a.at) refl (follows c l.0)
        where
          at : (b : Bool) → eqb i a.at ≡ b → Follows i (state S c i) (theory.state P S.coin (calls S.kind c) i) → Follows i (state S (a ∷ c) i) (theory.state P S.coin (calls S.kind (a ∷ c)) i)
          at true e f = rw (e, ← eqb-true i a.at e) (follow_call (state S c i) _ f a.lent a.call l.1)
          at false e f = rw e f
