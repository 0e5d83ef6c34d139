-- Each of the ten turns, and open, fits a whole replica.
use Rattle.std.proofs.Common.{◌≡◌, ℕ, suc, ◌<◌, Bool, true, false, ◌&&◌, eqb, ltb, List, [], ◌∷◌, get_or, Some, None, Option, sym, refl, ap, ◌∙◌, subst, inl, inr, arith}
use mathlib.Core.Bool.{false≢true}
use Rattle.std.specs.Option.{option_map}
use Rattle.std.proofs.lemmas.Bool.{ltb-true, lt-ltb, eq-eqb, and_from, and_parts, cond_both}
use Rattle.common.specs.Limits.{epochs, rounds}
use Rattle.theory.specs.Statement.{Bits, only, both, Stmt, sends, echo, ready, have, value, seen, confirm, finish, Cell, at_send, at_echo, at_ready, at_have, at_value, at_seen, at_confirm, at_finish, cell}
use Rattle.theory.specs.Plan.{Plan}
use Rattle.theory.specs.Book.{Page}
use Rattle.theory.specs.Machine.{running, Box, says, enters, Steps}
use Rattle.theory.specs.Search.{map}
use Rattle.theory.specs.Turns.{set_of, same_bit, outcome, queue, writes, joined, closes}
use Rattle.theory.specs.Calls.{ranged, Turn, to_echo, to_ready, to_keep, to_follow, to_decide, to_write, to_second, to_see, to_confirm, to_close, stated, in_round, deciding, writing, finishing, closing, in_week, way, turn, opening, or_none}
use Rattle.theory.specs.Rules.{WriteRule}
use Rattle.theory.specs.Laws.{Filed, Ten, SlotLaw}
use Rattle.theory.proofs.Searching.{only_if_some, map_some, unless_some, given_some, guard_some, absent_none}
use Rattle.theory.proofs.Choosing.{ten, round_some, turn_some}
use Rattle.votes.specs.declared.marks.Marks.{Marks}
use Rattle.votes.specs.declared.ballot.Round.{Round}
use Rattle.votes.specs.Votes.{no_round, marks, bit_of, set_for}
use Rattle.cells.specs.Rows.{Cells, slot_of, place_of}
use Rattle.replica.specs.declared.state.Replica.{Replica}
use Rattle.replica.specs.declared.state.Stage as declared
use Rattle.replica.specs.declared.state.Stage.TheVariants.{Unopened, Open, Awaiting}
use Rattle.replica.specs.Store.{Store}
use Rattle.replica.specs.View.{held, row_cell, vote_cell, value_in, stage_of, view, plan, box}
use Rattle.replica.proofs.Finding.{held_some, mapped_some}
use Rattle.replica.proofs.Putting.{Vacant}
use Rattle.replica.specs.Holding.{held_of}
use Rattle.turns.specs.Stepping.{with_stage}
use Rattle.turns.specs.Turning.{opened, turned}
use Rattle.turns.specs.Ties.{Whole, Tied}
use Rattle.turns.proofs.Tying.{Fit, Fits, tied, all_tied}

-- a close finishes only where no finish is stated
outcome_free : (u : Option Bits) (toss free : Bool) (c : Bool × Bool) → outcome u toss free ≡ c → c.1 ≡ true → free ≡ true
outcome_free None toss free c e f = absurd (false≢true (ap (λ (p : Bool × Bool). p.1) e ∙ f))
outcome_free (Some (only v)) toss free c e f = (and_parts (same_bit v toss) free (ap (λ (p : Bool × Bool). p.1) e ∙ f)).1
outcome_free (Some both) toss free c e f = absurd (false≢true (ap (λ (p : Bool × Bool). p.1) e ∙ f))

-- what is in sight stands in its own cell
module _ (m : Replica) (t : Store) where
  filed_as : {A : Type 0} (b : Bool) (f : A → Stmt (List ℕ)) (c : Cell) (o : Option A) (u : Stmt (List ℕ)) → ((a : A) → o ≡ Some a → cell (f a) ≡ c) → held b (option_map f o) ≡ Some u → cell u ≡ c
  filed_as b f c o u same e =
      let p = mapped_some f o u (held_some b (option_map f o) u e).1 in
      ap cell (sym p.2) ∙ same p.0 p.1

  row_filed : (cells : Cells) (f : List ℕ → Stmt (List ℕ)) (c : Cell) → ((x : List ℕ) → cell (f x) ≡ c) → (q s j : ℕ) (u : Stmt (List ℕ)) → row_cell m.set.n m.set.w cells f q s j ≡ Some u → cell u ≡ c
  row_filed cells f c same q s j u e = filed_as (ltb j m.set.n && (ltb q m.set.n && ltb s m.set.w)) f c (get_or cells (place_of m.set.n m.set.w q s j) None) u (λ a h. same a) e

  vote_filed : {A : Type 0} (read : Round → Option A) (f : A → Stmt (List ℕ)) (c : Cell) (n k j : ℕ) → ((a : A) → read (get_or m.votes.rounds k no_round) ≡ Some a → cell (f a) ≡ c) → (u : Stmt (List ℕ)) → vote_cell m read f n k j ≡ Some u → cell u ≡ c
  vote_filed read f c n k j same u e = filed_as (ltb j m.set.n && (ltb k rounds && (ltb n epochs && eqb n m.epoch))) f c (read (get_or m.votes.rounds k no_round)) u same e

  -- a value cell has its own bit
  value_bit : (v : Bool) (j : ℕ) (p : Marks) (a : Bool) → value_in v j p ≡ Some a → v ≡ a
  value_bit v j p a h = let z : Some v ≡ Some a = (held_some (marks p v j) (Some v) a h).1 in cc

  pub filed_view : Filed (view m t)
  filed_view j (at_send s) u e = filed_as (ltb j m.set.n && ltb s m.set.w) (sends s) (at_send s) (get_or t.sends (slot_of m.set.w j s) None) u (λ a h. refl) e
  filed_view j (at_echo q s) u e = row_filed t.echoes (echo q s) (at_echo q s) (λ x. refl) q s j u e
  filed_view j (at_ready q s) u e = row_filed t.readies (ready q s) (at_ready q s) (λ x. refl) q s j u e
  filed_view j (at_have q s) u e = row_filed t.haves (have q s) (at_have q s) (λ x. refl) q s j u e
  filed_view j (at_value n k v) u e = vote_filed (λ r. value_in v j r.values) (value n k) (at_value n k v) n k j (λ a h. ap (at_value n k) (sym (value_bit v j _ a h))) u e
  filed_view j (at_seen n k) u e = vote_filed (λ r. bit_of r.seens j) (seen n k) (at_seen n k) n k j (λ a h. refl) u e
  filed_view j (at_confirm n k) u e = vote_filed (λ r. set_for r.confirms j) (confirm n k) (at_confirm n k) n k j (λ a h. refl) u e
  filed_view j (at_finish n) u e = let p = mapped_some (finish n) _ u e in ap cell (sym p.2)

  pub laws : (coin : ℕ → ℕ → Bool) → Ten (plan m) (box m t) coin
  laws coin = ten (plan m) (box m t) coin (omega (arith, m.set.faulty, m.set.least)) filed_view

module _ (m : Replica) (t : Store) (coin : ℕ → ℕ → Bool) (W : Whole m t) where
  abbrev P : Plan (List ℕ)
  P = plan m

  abbrev B : Box (List ℕ)
  B = box m t

  -- the steps are that a statement is stated
  stated_fits : (o : Option (Stmt (List ℕ))) → ((s : Stmt (List ℕ)) → o ≡ Some s → Fit m t (says s)) → (l : Steps (List ℕ)) → stated o ≡ Some l → Fits l m t
  stated_fits o f l e = let p = map_some _ o l e in subst (λ (k : Steps (List ℕ)). Fits k m t) p.2 (f p.0 p.1, tt)

  slot_fits : {o : Option (Stmt (List ℕ))} (st : ℕ → ℕ → List ℕ → Stmt (List ℕ)) (Rule : ℕ → ℕ → List ℕ → Type 0) → SlotLaw P B o st Rule → ((q s : ℕ) (x : List ℕ) → (ranged P B (st q s x) ≡ (ltb q m.set.n && ltb s m.set.w)) × Vacant m t m.set.me (st q s x)) → (u : Stmt (List ℕ)) → o ≡ Some u → Fit m t (says u)
  slot_fits st Rule law plain u e =
      let i = law.sound u e in
      let k = plain i.0.0 i.0.1.0 i.0.1.1 in
      subst (λ (x : Stmt (List ℕ)). Fit m t (says x)) (sym i.1) (k.0 ∙ and_from _ _ (lt-ltb _ _ i.2.0.0) (lt-ltb _ _ i.2.0.1), k.1)

  week_fits : (o : Option (Steps (List ℕ))) → (m.epoch < epochs → (l : Steps (List ℕ)) → o ≡ Some l → Fits l m t) → (l : Steps (List ℕ)) → in_week P B o ≡ Some l → Fits l m t
  week_fits o f l e = let w = only_if_some _ o l e in f (ltb-true m.epoch epochs w.0) l w.1

  stage_open : (r : ℕ) (d : Bool) → stage_of m.stage ≡ running r d → m.stage ≡ Open r d
  stage_open r d = at m.stage refl
    where
      at : (g : declared.Stage) → m.stage ≡ g → stage_of g ≡ running r d → m.stage ≡ Open r d
      at Unopened h e = absurd (let z : ◌≡◌ {A = ℕ} 0 1 = cc in omega arith)
      at Awaiting h e = absurd (let z : ◌≡◌ {A = ℕ} 0 1 = cc in omega arith)
      at (Open q c) h e = let a : q ≡ r = cc in let b : c ≡ d = cc in h ∙ (λ z. Open (a z) (b z))

  round_fits : (f : ℕ → Bool → Option (Steps (List ℕ))) → (m.epoch < epochs → (r : ℕ) (d : Bool) → r < rounds → (l : Steps (List ℕ)) → f r d ≡ Some l → Fits l m t) → (l : Steps (List ℕ)) → in_week P B (in_round B.stage f) ≡ Some l → Fits l m t
  round_fits f g = week_fits _ (λ lt l e. let p = round_some B.stage f l e in g lt p.0 p.1 (W.round p.0 p.1 (stage_open p.0 p.1 p.2)) l p.3)

  -- a vote of the current epoch is in range
  vote_ranged : (k : ℕ) → k < rounds → m.epoch < epochs → (ltb k rounds && (ltb m.epoch epochs && eqb m.epoch m.epoch)) ≡ true
  vote_ranged k l w = and_from _ _ (lt-ltb k rounds l) (and_from _ _ (lt-ltb m.epoch epochs w) (eq-eqb m.epoch m.epoch refl))

  deciding_fits : m.epoch < epochs → (v : Bool) → Fits (deciding P B v) m t
  deciding_fits lt true = (λ r d e. absurd (let z : ◌≡◌ {A = ℕ} 0 1 = cc in omega arith), tt)
  deciding_fits lt false = ((lt, inl refl), tt)

  writing_fits : m.epoch < epochs → (p : ℕ × List ℕ) → writes P B ≡ Some p → Fits (writing P B p) m t
  writing_fits lt p e =
      let i = (laws m t coin).writes.sound p e in
      let rule = subst (λ (k : ℕ × List ℕ). WriteRule P B k.0 k.1) (sym i.1) i.2.0 in
      let page : Page (List ℕ) = record { epoch = m.epoch; queue = queue P B; slot = p.0; entry = p.1 } in
      ((lt, inr (page, record { queue = omega (arith, m.set.least); above = rule.from; below = rule.below }, refl)), tt)

  -- a finish after a close, where none was stated
  finishing_fits : (k : Replica) (c : Bool × Bool) → (ranged (plan k) (box k t) (finish m.epoch c.0) ≡ true) → (c.1 ≡ true → Vacant k t k.set.me (finish m.epoch c.0)) → Fits (finishing P B c) k t
  finishing_fits k c r free = cond_both c.1 _ _ (λ l. Fits l k t) (λ e. ((r, free e), tt)) (λ e. tt)

  closing_fits : m.epoch < epochs → (r : ℕ) → r < rounds → (c : Bool × Bool) → closes P B coin r ≡ Some c → Fits (closing P B r c) m t
  closing_fits lt r lr c e =
      let g = guard_some _ _ c (given_some _ _ c e).1 in
      let free : c.1 ≡ true → view m t m.set.me (at_finish m.epoch) ≡ None = λ f. absent_none _ (outcome_free (set_of (joined P B r false) (joined P B r true)) (coin m.epoch r) _ c g.1 f) in
      let now : (ltb m.epoch epochs && eqb m.epoch m.epoch) ≡ true = and_from _ _ (lt-ltb m.epoch epochs lt) (eq-eqb m.epoch m.epoch refl) in
      cond_both (ltb (suc r) rounds) _ _ (λ l. Fits l m t)
      (λ h. (
        (λ q d z. let a : suc r ≡ q = cc in omega (arith, ltb-true (suc r) rounds h)),
        ((vote_ranged (suc r) (ltb-true (suc r) rounds h) lt, tt), finishing_fits (held_of (with_stage m (Open (suc r) false)) t m.set.me (value m.epoch (suc r) c.0)).0 c now free),
      ))
      (λ h. ((λ q d z. let a : r ≡ q = cc in omega arith), finishing_fits (with_stage m (Open r true)) c now free))

  way_fits : (k : Turn) (l : Steps (List ℕ)) → way P B coin k ≡ Some l → Fits l m t
  way_fits to_echo = stated_fits _ (slot_fits echo _ (laws m t coin).echoes (λ q s x. (refl, tt)))
  way_fits to_ready = stated_fits _ (slot_fits ready _ (laws m t coin).readies (λ q s x. (refl, tt)))
  way_fits to_keep = stated_fits _ (slot_fits have _ (laws m t coin).keeps (λ q s x. (refl, tt)))
  way_fits to_follow = week_fits _ (λ lt. stated_fits _ (λ u e.
      let i = (laws m t coin).follows.sound u e in
      let free = unless_some _ _ u e in
      subst (λ (x : Stmt (List ℕ)). Fit m t (says x)) (sym i.1) (and_from _ _ (lt-ltb m.epoch epochs lt) (eq-eqb m.epoch m.epoch refl), free.0)))
  way_fits to_decide = week_fits _ (λ lt l e. let p = map_some _ _ l (only_if_some _ _ l e).1 in subst (λ (k : Steps (List ℕ)). Fits k m t) p.2 (deciding_fits lt p.0))
  way_fits to_write = week_fits _ (λ lt l e. let p = map_some _ _ l (only_if_some _ _ l e).1 in subst (λ (k : Steps (List ℕ)). Fits k m t) p.2 (writing_fits lt p.0 p.1))
  way_fits to_second = round_fits _ (λ lt r d lr. stated_fits _ (λ u e.
      let i = ((laws m t coin).seconds r).sound u e in
      subst (λ (x : Stmt (List ℕ)). Fit m t (says x)) (sym i.1) (vote_ranged i.0.0 (omega (arith, i.2.0.0)) lt, tt)))
  way_fits to_see = round_fits _ (λ lt r d lr. stated_fits _ (λ u e.
      let i = ((laws m t coin).sees r).sound u e in
      let free = unless_some _ _ u e in
      subst (λ (x : Stmt (List ℕ)). Fit m t (says x)) (sym i.1) (vote_ranged r lr lt, free.0)))
  way_fits to_confirm = round_fits _ (λ lt r d lr. stated_fits _ (λ u e.
      let i = ((laws m t coin).confirms r).sound u e in
      let free = unless_some _ _ u (given_some _ _ u e).1 in
      subst (λ (x : Stmt (List ℕ)). Fit m t (says x)) (sym i.1) (vote_ranged r lr lt, free.0)))
  way_fits to_close = round_fits _ (λ lt r d lr l e. let p = map_some _ _ l (only_if_some _ _ l e).1 in subst (λ (k : Steps (List ℕ)). Fits k m t) p.2 (closing_fits lt r lr p.0 p.1))

  -- turn and open, done
  pub turn_tied : (o : Option (Turn × Steps (List ℕ))) → turn P B coin ≡ o → Tied m t (or_none (map (λ (a : Turn × Steps (List ℕ)). a.1) o)) (turned m t o).1 (turned m t o).2
  unfolding map
  turn_tied None e = (W, refl)
  turn_tied (Some k) e = all_tied k.1 m t W (way_fits k.0 k.1 (turn_some P B coin (laws m t coin) k.0 k.1 e).0)

  pub open_tied : m.epoch < epochs → (o : Option Bool) → opening P B B.stage ≡ o → Tied m t (or_none (map (λ (v : Bool). enters m.epoch v ∷ []) o)) (opened m t o).1 (opened m t o).2
  unfolding map
  open_tied lt None e = (W, refl)
  open_tied lt (Some v) e = tied m t W (enters m.epoch v) (refl, lt)
