-- What each turn and call makes of a box, and all laws of turns and calls together.
use Rattle.std.proofs.Common.{◌≡◌, ℕ, Bool, [], ◌∷◌, Some, Option, sym, refl, ap, ◌∙◌, subst, ⊎_elim}
use mathlib.Core.Bool.{false≢true}
use Rattle.std.proofs.lemmas.Bool.{not-true}
use Rattle.theory.specs.Statement.{Stmt, sends, echo, ready, have, value, seen, confirm, finish, at_send, at_echo, at_ready, at_have, at_seen, at_confirm, at_finish, cell}
use Rattle.theory.specs.Plan.{Plan}
use Rattle.theory.specs.Machine.{Box, says, small, Steps, does}
use Rattle.theory.specs.Search.{map}
use Rattle.theory.specs.Calls.{Turn, to_echo, to_ready, to_keep, to_follow, to_decide, to_write, to_second, to_see, to_confirm, to_close, stated, deciding, closing, in_round, in_week, way}
use Rattle.theory.specs.Rules.{EchoRule, ReadyRule, KeepRule, CloseRule}
use Rattle.theory.specs.Effects.{Gains, Leaves, Decides, Pages, Closes}
use Rattle.theory.specs.Laws.{Filed, Ten, SlotLaw, SlotDone, RoundDone, Done, CallLaw, TurnLaws}
use Rattle.theory.proofs.Searching.{only_if_some, absent_none, map_some}
use Rattle.theory.proofs.Cells.{sort_send, sort_echo, sort_ready, sort_have, sort_seen, sort_confirm, sort_finish}
use Rattle.theory.proofs.Turning.{unsaid_is, value_unsaid}
use Rattle.theory.proofs.Accepting.{empty_is, hear_is, open_law, submit_law}
use Rattle.theory.proofs.Choosing.{ten, round_some, turn_some, turn_law, alone_filed}
use Rattle.theory.proofs.Effecting.{gains, states, value_holds, decides_done, writes_done, closes_done}

module _ {X : Type 0} (P : Plan X) (B : Box X) (coin : ℕ → ℕ → Bool) (filed : Filed B.mem) (laws : Ten P B coin) where
  -- the steps l are that s is stated
  moved : (s u : Stmt X) (l : Steps X) → s ≡ u → says s ∷ [] ≡ l → (Q : Box X → Type 0) → Q (small (says u) B) → Q (does l B)
  moved s u l p m Q q = subst (λ (k : Steps X). Q (does k B)) (ap (λ (t : Stmt X). says t ∷ []) (sym p) ∙ m) q

  slot_done : {o : Option (Stmt X)} (st : ℕ → ℕ → X → Stmt X) (Rule : ℕ → ℕ → X → Type 0) → SlotLaw P B o st Rule → ((q s : ℕ) (x : X) → Rule q s x → Gains P B B.me (st q s x) (small (says (st q s x)) B)) → (l : Steps X) → stated o ≡ Some l → SlotDone P B st Rule (does l B)
  slot_done st Rule law f l e =
      let m = map_some _ _ l e in
      let i = law.sound m.0 m.1 in
      (i.0, i.2, moved m.0 _ l i.1 m.2 (Gains P B B.me (st i.0.0 i.0.1.0 i.0.1.1)) (f i.0.0 i.0.1.0 i.0.1.1 i.2.0.2))

  in_a_round : {φ : ℕ → Bool → Type 0} (f : ℕ → Bool → Option (Steps X)) (l : Steps X) → ((r : ℕ) (d : Bool) → f r d ≡ Some l → φ r d) → in_week P B (in_round B.stage f) ≡ Some l → RoundDone P B φ
  in_a_round f l g e = let t = round_some B.stage f l (only_if_some _ _ l e).1 in (t.0, t.1, t.2, g t.0 t.1 t.3)

  closed : (r : ℕ) (n f : Bool) → CloseRule P B (coin B.epoch r) r n f → Closes P B r n f (does (closing P B r (n, f)) B)
  closed r n f c = closes_done P B filed r n f (λ t. ⊎_elim
      (λ s. (unsaid_is P B filed (sort_finish B.epoch)).1 (s.2 t).1)
      (λ d. absurd (false≢true (sym d.3 ∙ t)))
      c.settled)

  way_done : (t : Turn) (l : Steps X) → way P B coin t ≡ Some l → Done P B coin t (does l B)
  way_done to_echo l = slot_done echo (EchoRule P B) laws.echoes (λ q s x r. states P B filed (at_echo q s) (echo q s) (sort_echo q s) r.0 x) l
  way_done to_ready l = slot_done ready (ReadyRule P B) laws.readies (λ q s x r. states P B filed (at_ready q s) (ready q s) (sort_ready q s) r.0 x) l
  way_done to_keep l = slot_done have (KeepRule P B) laws.keeps (λ q s x r. states P B filed (at_have q s) (have q s) (sort_have q s) r.0 x) l
  way_done to_follow l = λ e.
      let m = map_some _ _ l (only_if_some _ _ l e).1 in
      let i = laws.follows.sound m.0 m.1 in
      (i.0, i.2, moved m.0 _ l i.1 m.2 (Gains P B B.me (finish B.epoch i.0)) (states P B filed (at_finish B.epoch) (finish B.epoch) (sort_finish B.epoch) i.2.0.0 i.0))
  way_done to_decide l = λ e.
      let m = map_some _ _ l (only_if_some _ _ l (only_if_some _ _ l e).1).1 in
      let i = laws.decides.sound m.0 m.1 in
      (i.0, i.2, subst (λ (k : Steps X). Decides P B i.0 (does k B)) (ap (deciding P B) (sym i.1) ∙ m.2) (decides_done P B filed i.0))
  way_done to_write l = λ e.
      let m = map_some _ _ l (only_if_some _ _ l (only_if_some _ _ l e).1).1 in
      let i = laws.writes.sound m.0 m.1 in
      let w = writes_done P B filed m.0.0 m.0.1 in
      (m.0.0, m.0.1, rw (sym i.1) at i.2.0, subst (λ (k : Steps X). Leaves P B (does k B)) m.2 w.0, subst (λ (k : Steps X). Pages P B m.0.0 m.0.1 (does k B)) m.2 w.1)
  way_done to_second l = in_a_round _ l (λ r d e.
      let m = map_some _ _ l e in
      let i = (laws.seconds r).sound m.0 m.1 in
      (i.0, i.2, moved m.0 _ l i.1 m.2 (Gains P B B.me (value B.epoch i.0.0 i.0.1)) (gains P B filed B.me (value B.epoch i.0.0 i.0.1) ((value_unsaid P B filed B.epoch i.0.0 i.0.1).1 i.2.0.1))))
  way_done to_see l = in_a_round _ l (λ r d e.
      let m = map_some _ _ l e in
      let i = (laws.sees r).sound m.0 m.1 in
      (i.0, i.2, moved m.0 _ l i.1 m.2 (Gains P B B.me (seen B.epoch r i.0)) (states P B filed (at_seen B.epoch r) (seen B.epoch r) (sort_seen B.epoch r) i.2.0.0 i.0)))
  way_done to_confirm l = in_a_round _ l (λ r d e.
      let m = map_some _ _ l e in
      let i = (laws.confirms r).sound m.0 m.1 in
      (i.0, i.2.0, moved m.0 _ l i.1 m.2 (Gains P B B.me (confirm B.epoch r i.0)) (states P B filed (at_confirm B.epoch r) (confirm B.epoch r) (sort_confirm B.epoch r) i.2.0.unsaid i.0)))
  way_done to_close l = in_a_round _ l (λ r d e.
      let o = only_if_some _ _ l e in
      let m = map_some _ _ l o.1 in
      let i = (laws.closes r).sound m.0 m.1 in
      let c = rw (sym i.1) at i.2.0 in
      (m.0.0, m.0.1, not-true d o.0, c, subst (λ (k : Steps X). Closes P B r m.0.0 m.0.1 (does k B)) m.2 (closed r m.0.0 m.0.1 c)))

  call_law : CallLaw P B coin
  unfolding map
  call_law = record {
    hear_law = hear_is P B filed;
    open_law = open_law P B filed;
    submit_law = submit_law P B filed;
    heard = λ j s e. rw e (gains P B filed j s (absent_none (B.mem j (cell s)) ((empty_is P B filed j s).1 ((hear_is P B filed j s).0 e).3)));
    opened = λ v e. rw e (record { me = refl; epoch = refl; stage = refl; holds = value_holds P B filed B.epoch 0 v }, refl);
    submitted = λ x s e. let i = (submit_law P B filed x).sound s e in rw e (states P B filed (at_send s) (sends s) (sort_send s) (rw (sym i.1) at i.2.0.1) x);
    turned = λ t l e. rw e (way_done t l (turn_some P B coin laws t l e).0);
    deaf = λ j s e. rw e refl;
    shut = λ e. rw e refl;
    full = λ x e. rw e refl;
    idle = λ e. rw e refl;
  }

pub turn_laws : (X : Type 0) → TurnLaws X
turn_laws X = record { filed = alone_filed; ten = ten; turn = λ P B coin lt f. turn_law P B coin (ten P B coin lt f); calls = λ P B coin lt f. call_law P B coin f (ten P B coin lt f) }
