-- Turn answers the first of the ten that applies; and in every run each statement stands in its cell.
use Rattle.std.proofs.Common.{◌≡◌, ℕ, suc, ◌-◌, ◌<◌, ◌≤◌, Bool, true, false, not, eqb, List, [], ◌∷◌, length, get_or, Some, None, Option, sym, refl, ap, ◌∙◌, subst, ⊎_elim, arith}
use mathlib.Core.Bool.{false≢true}
use Rattle.std.proofs.lemmas.Bool.{eqb-true, ltb-true, lt-ltb, not-true, not-false, not_from_false, cases_Bool}
use Rattle.theory.specs.Statement.{Stmt, echo, ready, have, value}
use Rattle.theory.specs.Plan.{Plan}
use Rattle.theory.specs.Machine.{Stage, unopened, awaiting, running, Box, Small, says, hears, stays, enters, leaves, small, Steps, does}
use Rattle.theory.specs.Search.{map}
use Rattle.theory.specs.Calls.{Turn, to_echo, to_ready, to_keep, to_follow, to_decide, to_write, to_second, to_see, to_confirm, to_close, order, number, awaits, in_round, stated, in_week, way, turn, Call, steps, alone}
use Rattle.theory.specs.Rules.{EchoRule, ReadyRule, KeepRule}
use Rattle.theory.specs.Laws.{Filed, First, Law, SlotLaw, Ten, Week, Round, Applies, TurnLaw}
use Rattle.theory.proofs.Books.{none≢some}
use Rattle.theory.proofs.Counting.{count_none}
use Rattle.theory.proofs.Memory.{put_filed, drop_some}
use Rattle.theory.proofs.Searching.{cases_option, first_none, first_some, first_hit, only_if_some, only_if_true, map_some, map_none, map_full, map_empty}
use Rattle.theory.proofs.Turning.{echoes_law, readies_law, keeps_law, follow_law, decide_law, second_law, see_law}
use Rattle.theory.proofs.Candidates.{write_law}
use Rattle.theory.proofs.Rounding.{confirm_law, close_law}

pub ten : {X : Type 0} (P : Plan X) (B : Box X) (coin : ℕ → ℕ → Bool) → P.faults < P.size → Filed B.mem → Ten P B coin
ten P B coin lt filed = record {
  echoes = echoes_law P B filed;
  readies = readies_law P B filed;
  keeps = keeps_law P B filed;
  follows = follow_law P B filed;
  decides = decide_law P B filed;
  writes = write_law P B filed;
  seconds = second_law P B filed;
  sees = see_law P B filed;
  confirms = confirm_law P B filed;
  closes = λ r. close_law P B filed r coin lt;
}

law_some : {I A : Type 0} {o : Option A} {Before : I → I → Type 0} {says : I → A} {Rule : I → Type 0} → Law o Before says Rule → (i : I) → Rule i → (a : A) × (o ≡ Some a)
law_some {o} l i r = ⊎_elim (λ e. absurd (l.none e i r)) (λ a. a) (cases_option o)

-- stages
pub not_awaits : (g : Stage) → awaits g ≡ false → g ≡ awaiting → ⊥
not_awaits g e h = false≢true (sym e ∙ ap awaits h)

pub awaits_is : (g : Stage) → awaits g ≡ true → g ≡ awaiting
awaits_is unopened e = absurd (false≢true e)
awaits_is awaiting e = refl
awaits_is (running r d) e = absurd (false≢true e)

awaits_not : (g : Stage) → (g ≡ awaiting → ⊥) → awaits g ≡ false
awaits_not g n = ⊎_elim (λ t. absurd (n (awaits_is g t))) (λ e. e) (cases_Bool (awaits g))

pub round_some : {A : Type 0} (g : Stage) (f : ℕ → Bool → Option A) (a : A) → in_round g f ≡ Some a → (r : ℕ) × (d : Bool) × (g ≡ running r d) × (f r d ≡ Some a)
round_some unopened f a e = absurd (none≢some e)
round_some awaiting f a e = absurd (none≢some e)
round_some (running r d) f a e = (r, d, refl, e)

round_at : {A : Type 0} (g : Stage) (f : ℕ → Bool → Option A) (r : ℕ) (d : Bool) → g ≡ running r d → in_round g f ≡ f r d
round_at g f r d e = ap (λ (s : Stage). in_round s f) e

module _ {X : Type 0} (P : Plan X) (B : Box X) (coin : ℕ → ℕ → Bool) (laws : Ten P B coin) where
  -- turns 1 to 3, with their queue and slot
  spot : {o : Option (Stmt X)} (st : ℕ → ℕ → X → Stmt X) (Rule : ℕ → ℕ → X → Type 0) → SlotLaw P B o st Rule → (l : Steps X) → stated o ≡ Some l → (q s : ℕ) × (x : X) × (q < P.size) × (s < P.width) × Rule q s x
  spot st Rule law l e = let t = map_some _ _ l e in let i = law.sound t.0 t.1 in (i.0.0, i.0.1.0, i.0.1.1, i.2.0.0, i.2.0.1, i.2.0.2)

  spotted : {o : Option (Stmt X)} (st : ℕ → ℕ → X → Stmt X) (Rule : ℕ → ℕ → X → Type 0) → SlotLaw P B o st Rule → (q s : ℕ) × (x : X) × (q < P.size) × (s < P.width) × Rule q s x → (l : Steps X) × (stated o ≡ Some l)
  spotted st Rule law a = let t = law_some law (a.0, (a.1, a.2)) (a.3, a.4, a.5) in (_, map_full _ _ t.0 t.1)

  week : {φ : Type 0} (o : Option (Steps X)) → ((l : Steps X) → o ≡ Some l → φ) → (l : Steps X) → in_week P B o ≡ Some l → Week P B φ
  week o f l e = let w = only_if_some _ o l e in (ltb-true B.epoch P.epochs w.0, f l w.1)

  weekly : {φ : Type 0} (o : Option (Steps X)) → (φ → (l : Steps X) × (o ≡ Some l)) → Week P B φ → (l : Steps X) × (in_week P B o ≡ Some l)
  weekly o f w = let t = f w.1 in (t.0, only_if_true _ o (lt-ltb B.epoch P.epochs w.0) ∙ t.1)

  round : {φ : ℕ → Bool → Type 0} (f : ℕ → Bool → Option (Steps X)) → ((r : ℕ) (d : Bool) (l : Steps X) → f r d ≡ Some l → φ r d) → (l : Steps X) → in_week P B (in_round B.stage f) ≡ Some l → Round P B φ
  round f g = week _ (λ l e. let t = round_some B.stage f l e in (t.0, t.1, t.2, g t.0 t.1 l t.3))

  rounded : {φ : ℕ → Bool → Type 0} (f : ℕ → Bool → Option (Steps X)) → ((r : ℕ) (d : Bool) → φ r d → (l : Steps X) × (f r d ≡ Some l)) → Round P B φ → (l : Steps X) × (in_week P B (in_round B.stage f) ≡ Some l)
  rounded f g = weekly _ (λ w. let t = g w.0 w.1 w.3 in (t.0, round_at B.stage f w.0 w.1 w.2 ∙ t.1))

  pub way_applies : (t : Turn) (l : Steps X) → way P B coin t ≡ Some l → Applies P B coin t
  way_applies to_echo = spot echo (EchoRule P B) laws.echoes
  way_applies to_ready = spot ready (ReadyRule P B) laws.readies
  way_applies to_keep = spot have (KeepRule P B) laws.keeps
  way_applies to_follow = week _ (λ l e. let t = map_some _ _ l e in let i = laws.follows.sound t.0 t.1 in (i.0, i.2.0))
  way_applies to_decide = week _ (λ l e. let o = only_if_some _ _ l e in let t = map_some _ _ l o.1 in let i = laws.decides.sound t.0 t.1 in (not_awaits B.stage (not-true _ o.0), (i.0, i.2.0)))
  way_applies to_write = week _ (λ l e. let o = only_if_some _ _ l e in let t = map_some _ _ l o.1 in let i = laws.writes.sound t.0 t.1 in (awaits_is B.stage o.0, (i.0.0, i.0.1, i.2.0)))
  way_applies to_second = round _ (λ r d l e. let t = map_some _ _ l e in let i = (laws.seconds r).sound t.0 t.1 in (i.0.0, i.0.1, i.2.0))
  way_applies to_see = round _ (λ r d l e. let t = map_some _ _ l e in let i = (laws.sees r).sound t.0 t.1 in (i.0, i.2.0))
  way_applies to_confirm = round _ (λ r d l e. let t = map_some _ _ l e in let i = (laws.confirms r).sound t.0 t.1 in (i.0, i.2.0))
  way_applies to_close = round _ (λ r d l e. let o = only_if_some _ _ l e in let t = map_some _ _ l o.1 in let i = (laws.closes r).sound t.0 t.1 in (not-true d o.0, (i.0.0, i.0.1, i.2.0)))

  pub applies_way : (t : Turn) → Applies P B coin t → (l : Steps X) × (way P B coin t ≡ Some l)
  applies_way to_echo = spotted echo (EchoRule P B) laws.echoes
  applies_way to_ready = spotted ready (ReadyRule P B) laws.readies
  applies_way to_keep = spotted have (KeepRule P B) laws.keeps
  applies_way to_follow = weekly _ (λ a. let t = law_some laws.follows a.0 a.1 in (_, map_full _ _ t.0 t.1))
  applies_way to_decide = weekly _ (λ a. let t = law_some laws.decides a.1.0 a.1.1 in (_, only_if_true _ _ (not_from_false _ (awaits_not B.stage a.0)) ∙ map_full _ _ t.0 t.1))
  applies_way to_write = weekly _ (λ a. let t = law_some laws.writes (a.1.0, a.1.1) a.1.2 in (_, only_if_true _ _ (ap awaits a.0) ∙ map_full _ _ t.0 t.1))
  applies_way to_second = rounded _ (λ r d a. let t = law_some (laws.seconds r) (a.0, a.1) a.2 in (_, map_full _ _ t.0 t.1))
  applies_way to_see = rounded _ (λ r d a. let t = law_some (laws.sees r) a.0 a.1 in (_, map_full _ _ t.0 t.1))
  applies_way to_confirm = rounded _ (λ r d a. let t = law_some (laws.confirms r) a.0 a.1 in (_, map_full _ _ t.0 t.1))
  applies_way to_close = rounded _ (λ r d a. let t = law_some (laws.closes r) (a.1.0, a.1.1) a.1.2 in (_, only_if_true _ _ (not_from_false d a.0) ∙ map_full _ _ t.0 t.1))

-- the turns by number
abbrev nth : ℕ → Turn
nth k = get_or order k to_close

nth_number : (t : Turn) → (number t - 1 < length order) × (nth (number t - 1) ≡ t)
nth_number to_echo = (omega arith, refl)
nth_number to_ready = (omega arith, refl)
nth_number to_keep = (omega arith, refl)
nth_number to_follow = (omega arith, refl)
nth_number to_decide = (omega arith, refl)
nth_number to_write = (omega arith, refl)
nth_number to_second = (omega arith, refl)
nth_number to_see = (omega arith, refl)
nth_number to_confirm = (omega arith, refl)
nth_number to_close = (omega arith, refl)

number_least : (t : Turn) → 1 ≤ number t
number_least t = elim t as (λ u. 1 ≤ number u) [ to_echo ↦ omega arith | to_ready ↦ omega arith | to_keep ↦ omega arith | to_follow ↦ omega arith | to_decide ↦ omega arith | to_write ↦ omega arith | to_second ↦ omega arith | to_see ↦ omega arith | to_confirm ↦ omega arith | to_close ↦ omega arith ]

number_nth : (k : ℕ) → k < length order → number (nth k) ≡ suc k
number_nth k l = eqb-true _ _ (not-false _ (count_none (length order) (λ k. not (eqb (number (nth k)) (suc k))) refl k l))

module _ {X : Type 0} (P : Plan X) (B : Box X) (coin : ℕ → ℕ → Bool) (laws : Ten P B coin) where
  abbrev tagged : ℕ → Option (Turn × Steps X)
  tagged k = map (λ (l : Steps X). (nth k, l)) (way P B coin (nth k))

  -- a turn found: it has its steps, and none before it has any
  pub turn_some : (t : Turn) (l : Steps X) → turn P B coin ≡ Some (t, l) → (way P B coin t ≡ Some l) × ((u : Turn) → number u < number t → way P B coin u ≡ None)
  turn_some t l e =
      let k = first_some (length order) tagged (t, l) e in
      let m = map_some (λ (l : Steps X). (nth k.0, l)) _ (t, l) k.2.0 in
      let eq : nth k.0 ≡ t = ap (λ (p : Turn × Steps X). p.0) m.2 in
      let n : number t ≡ suc k.0 = ap number (sym eq) ∙ number_nth k.0 k.1 in (
        rw (sym eq) (m.1 ∙ ap (λ (p : Turn × Steps X). Some p.1) m.2),
        λ u h. subst (λ (w : Turn). way P B coin w ≡ None) (nth_number u).1 (map_none _ _ (k.2.1 (number u - 1) (omega (arith, number_least u)))),
      )

  pub turn_none : turn P B coin ≡ None → (t : Turn) → way P B coin t ≡ None
  turn_none e t = subst (λ (w : Turn). way P B coin w ≡ None) (nth_number t).1 (map_none _ _ (first_none (length order) tagged e (number t - 1) (nth_number t).0))

  pub turn_law : TurnLaw P B coin
  turn_law = record {
    sound = sound;
    whole = whole;
    none = λ e t a. none≢some (sym (turn_none e t) ∙ (applies_way P B coin laws t a).1);
    rests = λ n. ⊎_elim (λ e. e) (λ a. absurd (n a.0.0 (sound a.0.0 a.0.1 a.1).1.0)) (cases_option (turn P B coin));
  }
    where
      sound : (t : Turn) (l : Steps X) → turn P B coin ≡ Some (t, l) → (way P B coin t ≡ Some l) × First (λ u t. number u < number t) (Applies P B coin) t
      sound t l e =
          let s = turn_some t l e in
          (s.0, (way_applies P B coin laws t l s.0, λ u h a. none≢some (sym (s.1 u h) ∙ (applies_way P B coin laws u a).1)))

      no_way : (t : Turn) → (Applies P B coin t → ⊥) → way P B coin t ≡ None
      no_way t n = ⊎_elim (λ e. e) (λ l. absurd (n (way_applies P B coin laws t l.0 l.1))) (cases_option (way P B coin t))

      whole : (t : Turn) → First (λ u t. number u < number t) (Applies P B coin) t → (l : Steps X) × (turn P B coin ≡ Some (t, l))
      whole t f =
          let w = applies_way P B coin laws t f.0 in
          let at : tagged (number t - 1) ≡ Some (t, w.0) = subst (λ (u : Turn). map {A = Turn × Steps X} (λ (l : Steps X). (u, l)) (way P B coin u) ≡ Some (t, w.0)) (sym (nth_number t).1) (map_full _ _ w.0 w.1) in (
            w.0,
            first_hit (length order) tagged (t, w.0) (number t - 1) (nth_number t).0
                (at, λ j l. map_empty _ _ (no_way (nth j) (f.1 (nth j) (omega (arith, number_nth j (omega (arith, (nth_number t).0)), l))))),
          )

-- each small step leaves each statement in its cell
pub small_filed : {X : Type 0} (m : Small X) (B : Box X) → Filed B.mem → Filed (small m B).mem
small_filed (says s) B f = put_filed B.me s B.mem f
small_filed (hears j s) B f = put_filed j s B.mem f
small_filed (stays g) B f = f
small_filed (enters e v) B f = put_filed B.me (value e 0 v) B.mem f
small_filed (leaves l) B f = λ j c t e. f j c t (drop_some B.me B.mem j c t e)

does_filed : {X : Type 0} (ms : Steps X) (B : Box X) → Filed B.mem → Filed (does ms B).mem
does_filed [] B f = f
does_filed (m ∷ ms) B f = does_filed ms (small m B) (small_filed m B f)

pub alone_filed : {X : Type 0} (P : Plan X) (coin : ℕ → ℕ → Bool) (i : ℕ) (cs : List (Call X)) → Filed (alone P coin i cs).mem
alone_filed P coin i [] = λ j c t e. absurd (none≢some e)
alone_filed P coin i (c ∷ cs) = does_filed (steps P coin (alone P coin i cs) c) (alone P coin i cs) (alone_filed P coin i cs)
