-- Each call of a sound box is a list of small steps that are fine.
use Rattle.std.proofs.Common.{◌≡◌, ℕ, suc, ◌<◌, Bool, true, false, cond, eqb, ltb, [], ◌∷◌, Some, None, Option, sym, refl, ◌∙◌, subst, inl, inr, arith}
use mathlib.Core.Bool.{false≢true}
use Rattle.std.proofs.lemmas.Bool.{and_parts, eq-eqb, ltb-true, not-true, cond_both}
use Rattle.theory.specs.Count.{Honest}
use Rattle.theory.specs.Statement.{Stmt, sends, echo, ready, have, value, finish, at_finish, cell}
use Rattle.theory.specs.Plan.{Rule, boxes, most}
use Rattle.theory.specs.History.{Due}
use Rattle.theory.specs.Machine.{Stage, unopened, awaiting, running, Box, Holds, Board, own, Small, says, hears, stays, enters, small, Steps}
use Rattle.theory.specs.Search.{map}
use Rattle.theory.specs.Turns.{writes}
use Rattle.theory.specs.Calls.{Turn, to_echo, to_ready, to_keep, to_follow, to_decide, to_write, to_second, to_see, to_confirm, to_close, number, in_round, stated, deciding, writing, finishing, closing, in_week, way, turn, accepts, opening, takes, Call, submit, opens, hear, turns, or_none, steps}
use Rattle.theory.specs.Laws.{Ten, SlotLaw}
use Rattle.theory.specs.Rules.{Heard, EchoRule, ReadyRule, KeepRule}
use Rattle.theory.specs.Promises.{Submits, OpensWith}
use Rattle.theory.proofs.Books.{none≢some}
use Rattle.theory.proofs.Growth.{due_grows}
use Rattle.theory.proofs.Cells.{finish≢value}
use Rattle.theory.proofs.Memory.{put_keeps, put_away}
use Rattle.theory.proofs.Searching.{first_some, guard_some, map_empty, only_if_some, unless_some, map_some, absent_none, not_absent}
use Rattle.theory.proofs.Choosing.{ten, awaits_is, round_some, applies_way, turn_some}
use Rattle.theory.proofs.Standing.{running≢awaiting, Sound, Fine}
use Rattle.theory.proofs.Dues.{heard_fewer, Good, echo_good, ready_good, keep_good, follow_good, second_good, see_good, confirm_good, Closing, close_good, decided_good, finds_good, finish_stated}

-- what a call accepts in an honest box's name, that box has stated
abbrev pub Heeds : {X : Type 0} → Rule X → (ℕ → Stmt X → Type 0) → Box X → Call X → Type 0
Heeds R Sd B (submit x) = Unit {0}
Heeds R Sd B opens = Unit {0}
Heeds R Sd B (hear j s) = accepts R.plan B j s ≡ true → Honest (boxes R) j → Sd j s
Heeds R Sd B turns = Unit {0}

module _ {X : Type 0} (R : Rule X) (Sd : ℕ → Stmt X → Type 0) (Sub : Small X → Type 0) (B : Box X) (S : Sound R B) where
  abbrev Ok : Steps X → Type 0
  Ok l = Fine R Sd Sub B l

  laws : Ten R.plan B R.coin
  laws = ten R.plan B R.coin (omega (arith, R.room)) S.filed

  says_ok : (s : Stmt X) → Good R B S s → Ok (says s ∷ [])
  says_ok s g = ((g.0, tt, inl g.1), tt)

  stated_ok : (o : Option (Stmt X)) → ((s : Stmt X) → o ≡ Some s → Good R B S s) → (l : Steps X) → stated o ≡ Some l → Ok l
  stated_ok o g l e = let t = map_some _ o l e in subst Ok t.2 (says_ok t.0 (g t.0 t.1))

  slot_good : {o : Option (Stmt X)} (st : ℕ → ℕ → X → Stmt X) (Rule : ℕ → ℕ → X → Type 0) → SlotLaw R.plan B o st Rule → ((q s : ℕ) (x : X) → q < R.plan.size → s < R.plan.width → Rule q s x → Good R B S (st q s x)) → (t : Stmt X) → o ≡ Some t → Good R B S t
  slot_good st Rule law f t e = let i = law.sound t e in subst (Good R B S) (sym i.1) (f i.0.0 i.0.1.0 i.0.1.1 i.2.0.0 i.2.0.1 i.2.0.2)

  -- Follow before Decide and Write: who leaves an epoch has finished it
  has_finished : B.epoch < R.plan.epochs → way R.plan B R.coin to_follow ≡ None → (v : Bool) → Heard R.plan B (most R.plan) (finish B.epoch v) → (u : Bool) × Board B (finish B.epoch u)
  has_finished lt f v h =
      finish_stated R B S v (λ r. none≢some (sym f ∙ (applies_way R.plan B R.coin laws to_follow (lt, (v, r))).1)) (heard_fewer R.plan B _ _ (finish B.epoch v) (omega arith) h)

  deciding_ok : B.epoch < R.plan.epochs → way R.plan B R.coin to_follow ≡ None → (v : Bool) → Heard R.plan B (most R.plan) (finish B.epoch v) → Ok (deciding R.plan B v)
  deciding_ok lt f true h = ((λ e. decided_good R B S true h, (λ e. (lt, h), S.short, omega arith, λ r d e. absurd (running≢awaiting (sym e))), tt), tt)
  deciding_ok lt f false h = (((inl (decided_good R B S false h, refl), has_finished lt f false h), lt, tt), tt)

  writing_ok : B.epoch < R.plan.epochs → way R.plan B R.coin to_follow ≡ None → B.stage ≡ awaiting → (p : ℕ × X) → writes R.plan B ≡ Some p → Ok (writing R.plan B p)
  writing_ok lt f g p e =
      let h = (S.waiting g).1 in
      (((inr (record { decided = decided_good R B S true h; finds = finds_good R B S p e; result = refl }), has_finished lt f true h), lt, tt), tt)

  -- a finish, in a box C that holds all that B holds
  finishing_ok : (C : Box X) → C.me ≡ B.me → C.epoch ≡ B.epoch → (c : Bool × Bool) → (c.1 ≡ true → Due R (Holds C) (finish C.epoch c.0) × (own C (at_finish C.epoch) ≡ None)) → Fine R Sd Sub C (finishing R.plan B c)
  finishing_ok C m e c due =
      cond_both c.1 _ _ (Fine R Sd Sub C)
      (λ t. let d = due t in rw (sym e) (((d.1, d.0, tt, omega arith, tt), tt, inl tt), tt))
      (λ t. tt)

  closing_ok : (r : ℕ) (d : Bool) → B.stage ≡ running r d → (c : Bool × Bool) → Closing R B S r c → Ok (closing R.plan B r c)
  closing_ok r d g c k =
      cond_both (ltb (suc r) R.plan.rounds) _ _ Ok
      (λ t. let lt = ltb-true (suc r) R.plan.rounds t in
      let C = small (stays (running (suc r) false)) B in
      let V : Stmt X = value B.epoch (suc r) c.0 in
      let free : own B (cell V) ≡ None = S.rounds (suc r) (rw g (omega arith)) c.0 in
      let entered = S.entered r d g in (
        (λ x. absurd (running≢awaiting x), (λ x. absurd (running≢awaiting x), rw g (omega arith), omega arith, λ n z e. entered), tt),
        (
          ((free, inl k.0, refl, omega arith, (omega arith, entered)), tt, inl tt),
          finishing_ok (small (says V) C) refl refl c
              (λ f. (
                due_grows R (Holds B) (Holds (small (says V) C)) (λ i is s h. put_keeps B.me V B.mem free i s h) (finish B.epoch c.0) (inl (r, (k.1 f).0)),
                put_away B.me V B.mem B.me (at_finish B.epoch) finish≢value ∙ (k.1 f).1,
              )),
        ),
      ))
      (λ t. (
        (λ x. absurd (running≢awaiting x), (λ x. absurd (running≢awaiting x), rw g (omega arith), rw g at S.short, λ n z e. S.entered r d g), tt),
        finishing_ok (small (stays (running r true)) B) refl refl c (λ f. (inl (r, (k.1 f).0), (k.1 f).1)),
      ))

  -- in the week; and in a round
  week_ok : (o : Option (Steps X)) → (B.epoch < R.plan.epochs → (l : Steps X) → o ≡ Some l → Ok l) → (l : Steps X) → in_week R.plan B o ≡ Some l → Ok l
  week_ok o f l e = let w = only_if_some _ o l e in f (ltb-true B.epoch R.plan.epochs w.0) l w.1

  round_ok : (f : ℕ → Bool → Option (Steps X)) → ((r : ℕ) (d : Bool) → B.stage ≡ running r d → (l : Steps X) → f r d ≡ Some l → Ok l) → (l : Steps X) → in_week R.plan B (in_round B.stage f) ≡ Some l → Ok l
  round_ok f g = week_ok _ (λ lt l e. let t = round_some B.stage f l e in g t.0 t.1 t.2 l t.3)

  way_ok : (t : Turn) → ((u : Turn) → number u < number t → way R.plan B R.coin u ≡ None) → (l : Steps X) → way R.plan B R.coin t ≡ Some l → Ok l
  way_ok to_echo n = stated_ok _ (slot_good echo (EchoRule R.plan B) laws.echoes (λ q s x lq ls. echo_good R B S q s x))
  way_ok to_ready n = stated_ok _ (slot_good ready (ReadyRule R.plan B) laws.readies (ready_good R B S))
  way_ok to_keep n = stated_ok _ (slot_good have (KeepRule R.plan B) laws.keeps (keep_good R B S))
  way_ok to_follow n = week_ok _ (λ lt. stated_ok _ (λ s e. let i = laws.follows.sound s e in subst (Good R B S) (sym i.1) (follow_good R B S i.0 i.2.0)))
  way_ok to_decide n = week_ok _ (λ lt l e.
      let m = map_some _ _ l (only_if_some _ _ l e).1 in
      let i = laws.decides.sound m.0 m.1 in
      subst Ok m.2 (deciding_ok lt (n to_follow (omega arith)) m.0 (rw (sym i.1) at i.2.0)))
  way_ok to_write n = week_ok _ (λ lt l e.
      let o = only_if_some _ _ l e in
      let m = map_some _ _ l o.1 in
      subst Ok m.2 (writing_ok lt (n to_follow (omega arith)) (awaits_is B.stage o.0) m.0 m.1))
  way_ok to_second n = round_ok _ (λ r d g. stated_ok _ (λ s e. let i = (laws.seconds r).sound s e in subst (Good R B S) (sym i.1) (second_good R B S r (rw g (omega arith)) (S.entered r d g) i.0.0 i.0.1 i.2.0)))
  way_ok to_see n = round_ok _ (λ r d g. stated_ok _ (λ s e. let i = (laws.sees r).sound s e in subst (Good R B S) (sym i.1) (see_good R B S r i.0 i.2.0)))
  way_ok to_confirm n = round_ok _ (λ r d g. stated_ok _ (λ s e. let i = (laws.confirms r).sound s e in subst (Good R B S) (sym i.1) (confirm_good R B S r i.0 i.2.0)))
  way_ok to_close n = round_ok _ (λ r d g l e.
      let m = map_some _ _ l (only_if_some _ _ l e).1 in
      let i = (laws.closes r).sound m.0 m.1 in
      subst Ok m.2 (closing_ok r d g m.0 (close_good R B S r m.0 (rw (sym i.1) at i.2.0))))

  or_none_ok : (o : Option (Steps X)) → ((l : Steps X) → o ≡ Some l → Ok l) → Ok (or_none o)
  or_none_ok None f = tt
  or_none_ok (Some l) f = f l refl

  turn_ok : (l : Steps X) → map (λ (a : Turn × Steps X). a.1) (turn R.plan B R.coin) ≡ Some l → Ok l
  turn_ok l e =
      let m = map_some _ _ l e in
      let t = turn_some R.plan B R.coin laws m.0.0 m.0.1 m.1 in
      subst Ok m.2 (way_ok m.0.0 t.1 m.0.1 t.0)

  open_ok : (g : Stage) → B.stage ≡ g → ((v : Bool) → opening R.plan B g ≡ Some v → Sub (enters B.epoch v)) → (l : Steps X) → map (λ (v : Bool). enters B.epoch v ∷ []) (opening R.plan B g) ≡ Some l → Ok l
  open_ok unopened g sub l e =
      let m = map_some _ (opening R.plan B unopened) l e in
      let w = guard_some _ _ m.0 m.1 in
      subst Ok m.2 (((refl, λ u. S.rounds 0 (rw g (omega arith)) u, λ v. let p = not_absent (writes R.plan B) (not-true _ (w.1 ∙ v)) in finds_good R B S p.0 p.1), g, sub m.0 m.1), tt)
  open_ok awaiting g sub l e = absurd (none≢some (sym (map_empty _ _ refl) ∙ e))
  open_ok (running r d) g sub l e = absurd (none≢some (sym (map_empty _ _ refl) ∙ e))

  submit_ok : (x : X) → ((s : ℕ) → takes R.plan B x ≡ Some s → Sub (says (sends s x))) → (l : Steps X) → map (λ (s : ℕ). says (sends s x) ∷ []) (takes R.plan B x) ≡ Some l → Ok l
  submit_ok x sub l e =
      let m = map_some _ (takes R.plan B x) l e in
      let s = first_some _ _ m.0 (only_if_some _ _ m.0 m.1).1 in
      let u = unless_some _ _ m.0 s.2.0 in
      let w : s.0 ≡ m.0 = cc in
      subst Ok m.2 (((rw w at u.0, tt, tt, tt, tt), tt, inr (sub m.0 m.1)), tt)

  hear_ok : (j : ℕ) (s : Stmt X) → (accepts R.plan B j s ≡ true → Honest (boxes R) j → Sd j s) → Ok (cond (accepts R.plan B j s) (hears j s ∷ []) [])
  hear_ok j s heeds =
      cond_both (accepts R.plan B j s) _ _ Ok
      (λ t. let p = and_parts _ _ t in
      let q = and_parts _ _ p.0 in
      let u = and_parts _ _ p.1 in
      (((λ (e : j ≡ B.me). false≢true (sym (not-true (eqb j B.me) q.1) ∙ eq-eqb j B.me e), absent_none (B.mem j (cell s)) u.1, heeds t), tt, tt), tt))
      (λ t. tt)

  pub call_ok : (c : Call X) → Heeds R Sd B c → ((s : ℕ) (x : X) → Submits R B c s x → Sub (says (sends s x))) → ((e : ℕ) (v : Bool) → OpensWith R B c e v → Sub (enters e v)) → Ok (steps R.plan R.coin B c)
  call_ok (submit x) h sub begin = or_none_ok _ (submit_ok x (λ s e. sub s x (refl, e)))
  call_ok opens h sub begin = or_none_ok _ (open_ok B.stage refl (λ v e. begin B.epoch v (refl, e)))
  call_ok (hear j s) h sub begin = hear_ok j s h
  call_ok turns h sub begin = or_none_ok _ turn_ok
