-- Entries that a box holds came to it by a call: a test that all entries of calls pass, all that it holds pass.
use Rattle.std.proofs.Common.{◌≡◌, ℕ, suc, ◌<◌, Bool, true, false, ◌&&◌, eqb, ltb, [], ◌∷◌, Some, None, Option, sym, refl, ap, ◌∙◌, subst, inl, inr}
use Rattle.std.proofs.lemmas.Bool.{cond_both}
use Rattle.theory.specs.Statement.{Stmt, sends, echo, ready, have, value, Cell, cell, entry_stated}
use Rattle.theory.specs.Plan.{Plan}
use Rattle.theory.specs.Machine.{same_cell, Mem, put, Box, Small, says, hears, stays, enters, leaves, small, Steps, does}
use Rattle.theory.specs.Search.{map}
use Rattle.theory.specs.Calls.{Turn, to_echo, to_ready, to_keep, to_follow, to_decide, to_write, to_second, to_see, to_confirm, to_close, stated, in_round, in_week, deciding, finishing, closing, way, turn, accepts, opening, takes, Call, submit, opens, hear, turns, or_none, steps}
use Rattle.theory.specs.Rules.{FromElse}
use Rattle.theory.specs.Laws.{Filed, Ten, SlotLaw}
use Rattle.theory.proofs.Books.{none≢some}
use Rattle.theory.proofs.Memory.{drop_some}
use Rattle.theory.proofs.Searching.{only_if_some, map_some}
use Rattle.theory.proofs.Choosing.{ten, round_some, turn_some}

module _ {X : Type 0} (good : X → Type 0) where
  -- its entry is good, if it has one
  abbrev pub Good : Stmt X → Type 0
  Good s = (x : X) → entry_stated s ≡ Some x → good x

  pub record Holding (B : Box X) : Type 0 where
    pub holds : (j : ℕ) (c : Cell) (s : Stmt X) → B.mem j c ≡ Some s → Good s

  put_good : (i : ℕ) (t : Stmt X) (mem : Mem X) → Good t → ((j : ℕ) (c : Cell) (s : Stmt X) → mem j c ≡ Some s → Good s) → (j : ℕ) (c : Cell) (s : Stmt X) → put i t mem j c ≡ Some s → Good s
  put_good i t mem g old j c s = cond_both (eqb j i && same_cell c (cell t)) (Some t) (mem j c) (λ o. o ≡ Some s → Good s) (λ e h. let z : t ≡ s = cc in subst Good z g) (λ e h. old j c s h)

  -- what a small step adds is good
  abbrev Adds : Small X → Type 0
  Adds (says s) = Good s
  Adds (hears j s) = Good s
  Adds (stays g) = Unit {0}
  Adds (enters e v) = Unit {0}
  Adds (leaves o) = Unit {0}

  abbrev AllAdd : Steps X → Type 0
  AllAdd [] = Unit {0}
  AllAdd (s ∷ l) = Adds s × AllAdd l

  small_holds : (s : Small X) (B : Box X) → Adds s → Holding B → Holding (small s B)
  small_holds (says t) B g h = record { holds = put_good B.me t B.mem g h.holds }
  small_holds (hears i t) B g h = record { holds = put_good i t B.mem g h.holds }
  small_holds (stays k) B g h = record { holds = h.holds }
  small_holds (enters e v) B g h = record { holds = put_good B.me (value e 0 v) B.mem (λ x k. absurd (none≢some k)) h.holds }
  small_holds (leaves o) B g h = record { holds = λ j c s e. h.holds j c s (drop_some B.me B.mem j c s e) }

  does_holds : (l : Steps X) (B : Box X) → AllAdd l → Holding B → Holding (does l B)
  does_holds [] B g h = h
  does_holds (s ∷ l) B g h = does_holds l (small s B) g.1 (small_holds s B g.0 h)

  module _ (P : Plan X) (B : Box X) (coin : ℕ → ℕ → Bool) (lt : P.faults < P.size) (filed : Filed B.mem) (h : Holding B) where
    laws : Ten P B coin
    laws = ten P B coin lt filed

    stated_adds : (o : Option (Stmt X)) → ((s : Stmt X) → o ≡ Some s → Good s) → (l : Steps X) → stated o ≡ Some l → AllAdd l
    stated_adds o g l e = let p = map_some _ o l e in subst AllAdd p.2 (g p.0 p.1, tt)

    -- an entry that is stated for a slot was held
    slot_good : {o : Option (Stmt X)} (st : ℕ → ℕ → X → Stmt X) (Rule : ℕ → ℕ → X → Type 0) → SlotLaw P B o st Rule → ((q s : ℕ) (x : X) → Rule q s x → Good (st q s x)) → (u : Stmt X) → o ≡ Some u → Good u
    slot_good st Rule law g u e = let i = law.sound u e in subst Good (sym i.1) (g i.0.0 i.0.1.0 i.0.1.1 i.2.0.2)

    same_entry : (s t : Stmt X) → entry_stated s ≡ entry_stated t → Good s → Good t
    same_entry s t e g x k = g x (e ∙ k)

    from_good : (k : ℕ) (st also : X → Stmt X) (x : X) (t : Stmt X) → entry_stated (st x) ≡ entry_stated t → entry_stated (also x) ≡ entry_stated t → FromElse P B k st also x → Good t
    from_good k st also x t a b (inl l) = same_entry (st x) t a (h.holds l.sender (cell (st x)) (st x) l.states)
    from_good k st also x t a b (inr l) = same_entry (also x) t b (h.holds l.1.sender (cell (also x)) (also x) l.1.states)

    vote_good : (s t : Stmt X) → entry_stated t ≡ None → s ≡ t → Good s
    vote_good s t n e x k = absurd (none≢some (sym n ∙ ap entry_stated (sym e) ∙ k))

    round_adds : (f : ℕ → Bool → Option (Steps X)) → ((r : ℕ) (d : Bool) (l : Steps X) → f r d ≡ Some l → AllAdd l) → (l : Steps X) → in_week P B (in_round B.stage f) ≡ Some l → AllAdd l
    round_adds f g l e = let p = round_some B.stage f l (only_if_some _ _ l e).1 in g p.0 p.1 l p.3

    deciding_adds : (v : Bool) → AllAdd (deciding P B v)
    deciding_adds true = (tt, tt)
    deciding_adds false = (tt, tt)

    finishing_adds : (c : Bool × Bool) → AllAdd (finishing P B c)
    finishing_adds c = cond_both c.1 _ _ AllAdd (λ e. ((λ x k. absurd (none≢some k)), tt)) (λ e. tt)

    closing_adds : (r : ℕ) (c : Bool × Bool) → AllAdd (closing P B r c)
    closing_adds r c = cond_both (ltb (suc r) P.rounds) _ _ AllAdd (λ e. (tt, ((λ x k. absurd (none≢some k)), finishing_adds c))) (λ e. (tt, finishing_adds c))

    way_adds : (k : Turn) (l : Steps X) → way P B coin k ≡ Some l → AllAdd l
    way_adds to_echo = stated_adds _ (slot_good echo _ laws.echoes (λ q s x r. same_entry (sends s x) (echo q s x) refl (h.holds q (cell (sends s x)) (sends s x) r.1)))
    way_adds to_ready = stated_adds _ (slot_good ready _ laws.readies (λ q s x r. from_good P.quorum (echo q s) (ready q s) x (ready q s x) refl refl r.1))
    way_adds to_keep = stated_adds _ (slot_good have _ laws.keeps (λ q s x r. from_good _ (ready q s) (have q s) x (have q s x) refl refl r.1))
    way_adds to_follow = λ l e. stated_adds _ (λ u k. let i = laws.follows.sound u k in vote_good u _ refl i.1) l (only_if_some _ _ l e).1
    way_adds to_decide = λ l e. let p = map_some _ _ l (only_if_some _ _ l (only_if_some _ _ l e).1).1 in subst AllAdd p.2 (deciding_adds p.0)
    way_adds to_write = λ l e. let p = map_some _ _ l (only_if_some _ _ l (only_if_some _ _ l e).1).1 in subst AllAdd p.2 (tt, tt)
    way_adds to_second = round_adds _ (λ r d. stated_adds _ (λ u k. let i = (laws.seconds r).sound u k in vote_good u _ refl i.1))
    way_adds to_see = round_adds _ (λ r d. stated_adds _ (λ u k. let i = (laws.sees r).sound u k in vote_good u _ refl i.1))
    way_adds to_confirm = round_adds _ (λ r d. stated_adds _ (λ u k. let i = (laws.confirms r).sound u k in vote_good u _ refl i.1))
    way_adds to_close = round_adds _ (λ r d l e. let p = map_some _ _ l (only_if_some _ _ l e).1 in subst AllAdd p.2 (closing_adds r p.0))

    -- the entry of a call is good, if the box takes it
    abbrev pub Clean : Call X → Type 0
    Clean (submit x) = good x
    Clean opens = Unit {0}
    Clean (hear j s) = accepts P B j s ≡ true → Good s
    Clean turns = Unit {0}

    option_adds : {A : Type 0} (f : A → Steps X) (o : Option A) → ((a : A) → o ≡ Some a → AllAdd (f a)) → AllAdd (or_none (map f o))
    unfolding map
    option_adds f None g = tt
    option_adds f (Some a) g = g a refl

    pub call_holds : (c : Call X) → Clean c → Holding (does (steps P coin B c) B)
    call_holds (submit x) g = does_holds _ B (option_adds _ (takes P B x) (λ s e. ((λ y k. let z : x ≡ y = cc in subst good z g), tt))) h
    call_holds opens g = does_holds _ B (option_adds _ (opening P B B.stage) (λ v e. (tt, tt))) h
    call_holds (hear j s) g = does_holds _ B (cond_both (accepts P B j s) _ _ AllAdd (λ e. (g e, tt)) (λ e. tt)) h
    call_holds turns g = does_holds _ B (option_adds _ (turn P B coin) (λ k e. way_adds k.0 k.1 (turn_some P B coin laws k.0 k.1 e).0)) h
