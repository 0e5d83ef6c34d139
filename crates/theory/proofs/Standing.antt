-- What stands of each box after small steps that are fine where they come; and a set's run by small steps.
use Rattle.std.proofs.Common.{◌≡◌, ℕ, ◌<◌, ◌≤◌, Bool, true, false, cond, eqb, ◌⊎◌, [], ◌∷◌, None, sym, refl, ap, ◌∙◌, arith}
use Rattle.std.proofs.lemmas.Bool.{eqb-true}
use Rattle.theory.specs.Statement.{Stmt, sends, echo, ready, have, value, seen, confirm, finish, at_value}
use Rattle.theory.specs.Plan.{Plan, Rule, most}
use Rattle.theory.specs.Machine.{unopened, awaiting, running, Box, made, Holds, own, Small, says, hears, stays, enters, leaves, small, Steps, does}
use Rattle.theory.specs.Calls.{Calls, steps, state}
use Rattle.theory.specs.Rules.{Heard}
use Rattle.theory.specs.Laws.{Filed}
use Rattle.theory.proofs.Books.{none≢some}
use Rattle.theory.proofs.Memory.{put_keeps, put_other, put_away, put_new}
use Rattle.theory.proofs.Runs.{Run, world, begun, Entered, Allowed}
use Rattle.theory.proofs.Several.{several_map}
use Rattle.theory.proofs.Choosing.{small_filed}

unopened≢awaiting : unopened ≡ awaiting → ⊥
unopened≢awaiting e = let z : ◌≡◌ {A = ℕ} 0 1 = cc in omega arith

unopened≢running : {r : ℕ} {d : Bool} → unopened ≡ running r d → ⊥
unopened≢running e = let z : ◌≡◌ {A = ℕ} 0 1 = cc in omega arith

pub running≢awaiting : {r : ℕ} {d : Bool} → running r d ≡ awaiting → ⊥
running≢awaiting e = let z : ◌≡◌ {A = ℕ} 0 1 = cc in omega arith

-- said by turns: all but a Send
abbrev pub Voiced : {X : Type 0} → Stmt X → Type 0
Voiced (sends s x) = ⊥
Voiced (echo q s x) = Unit {0}
Voiced (ready q s x) = Unit {0}
Voiced (have q s x) = Unit {0}
Voiced (value e k v) = Unit {0}
Voiced (seen e k v) = Unit {0}
Voiced (confirm e k u) = Unit {0}
Voiced (finish e v) = Unit {0}

module _ {X : Type 0} (R : Rule X) where
  pub record Sound (B : Box X) : Type 0 where
    pub filed : Filed B.mem
    pub waiting : B.stage ≡ awaiting → (B.epoch < R.plan.epochs) × Heard R.plan B (most R.plan) (finish B.epoch true)
    pub rounds : (k : ℕ) → begun R.plan.rounds B.stage ≤ k → (v : Bool) → own B (at_value B.epoch k v) ≡ None
    pub short : begun R.plan.rounds B.stage ≤ R.plan.rounds
    pub entered : (r : ℕ) (d : Bool) → B.stage ≡ running r d → Entered B B.epoch
    pub bound : B.epoch ≤ R.plan.epochs

  -- what a change of stage needs to leave a box sound
  abbrev pub Neat : Box X → Small X → Type 0
  Neat B (says s) = Unit {0}
  Neat B (hears j s) = Unit {0}
  Neat B (stays g) = (g ≡ awaiting → (B.epoch < R.plan.epochs) × Heard R.plan B (most R.plan) (finish B.epoch true)) × (begun R.plan.rounds B.stage ≤ begun R.plan.rounds g) × (begun R.plan.rounds g ≤ R.plan.rounds) × ((r : ℕ) (d : Bool) → g ≡ running r d → Entered B B.epoch)
  Neat B (enters e v) = B.stage ≡ unopened
  Neat B (leaves l) = B.epoch < R.plan.epochs

  heard_grows : (B C : Box X) → ((j : ℕ) (s : Stmt X) → Holds B j s → Holds C j s) → (k : ℕ) (s : Stmt X) → Heard R.plan B k s → Heard R.plan C k s
  heard_grows B C g k s h = several_map (λ j. g j s) k R.plan.size h

  pub made_sound : (i : ℕ) → Sound (made i)
  made_sound i = record {
    filed = λ j c t e. absurd (none≢some e);
    waiting = λ e. absurd (unopened≢awaiting e);
    rounds = λ k l v. refl;
    short = omega arith;
    entered = λ r d e. absurd (unopened≢running e);
    bound = omega arith;
  }

  module _ (Sd : ℕ → Stmt X → Type 0) (B : Box X) (S : Sound B) where
    pub sound_step : (m : Small X) → Allowed R Sd B m → Neat B m → Sound (small m B)
    sound_step (says s) a n = record {
      filed = small_filed (says s) B S.filed;
      waiting = λ e. let w = S.waiting e in (w.0, heard_grows B (small (says s) B) (λ i t h. put_keeps B.me s B.mem a.0 i t h) (most R.plan) (finish B.epoch true) w.1);
      rounds = λ k l v. put_away B.me s B.mem B.me (at_value B.epoch k v) (λ e. let o = rw (sym e) at a.4 in omega (arith, o.0)) ∙ S.rounds k l v;
      short = S.short;
      entered = λ r d e. let u = S.entered r d e in (u.0, put_keeps B.me s B.mem a.0 B.me _ u.1);
      bound = S.bound;
    }
    sound_step (hears j s) a n = record {
      filed = small_filed (hears j s) B S.filed;
      waiting = λ e. let w = S.waiting e in (w.0, heard_grows B (small (hears j s) B) (λ i t h. put_keeps j s B.mem a.1 i t h) (most R.plan) (finish B.epoch true) w.1);
      rounds = λ k l v. put_other j s B.mem B.me (at_value B.epoch k v) (λ e. a.0 (sym e)) ∙ S.rounds k l v;
      short = S.short;
      entered = λ r d e. let u = S.entered r d e in (u.0, put_keeps j s B.mem a.1 B.me _ u.1);
      bound = S.bound;
    }
    sound_step (stays g) a n = record { filed = S.filed; waiting = n.0; rounds = λ k l v. S.rounds k (omega (arith, n.1)) v; short = n.2; entered = n.3; bound = S.bound }
    sound_step (enters e v) a n = record {
      filed = small_filed (enters e v) B S.filed;
      waiting = λ e. absurd (running≢awaiting e);
      rounds = λ k l u. put_away B.me (value e 0 v) B.mem B.me (at_value B.epoch k u) (λ q. let z : k ≡ 0 = cc in omega arith) ∙ S.rounds k (rw n (omega arith)) u;
      short = R.rounded;
      entered = λ r d q. (v, rw (sym a.0) (put_new B.me (value e 0 v) B.mem));
      bound = S.bound;
    }
    sound_step (leaves l) a n = record {
      filed = small_filed (leaves l) B S.filed;
      waiting = λ e. absurd (unopened≢awaiting e);
      rounds = λ k l v. refl;
      short = omega arith;
      entered = λ r d e. absurd (unopened≢running e);
      bound = n;
    }

  -- a statement of a turn, or a step of the call's own
  abbrev pub Source : (Small X → Type 0) → Small X → Type 0
  Source Sub (says s) = Voiced s ⊎ Sub (says s)
  Source Sub (hears j s) = Unit {0}
  Source Sub (stays g) = Unit {0}
  Source Sub (enters e v) = Sub (enters e v)
  Source Sub (leaves l) = Unit {0}

  -- a list of steps, each fine where it comes
  abbrev pub Fine : (ℕ → Stmt X → Type 0) → (Small X → Type 0) → Box X → Steps X → Type 0
  Fine Sd Sub B [] = Unit {0}
  Fine Sd Sub B (m ∷ ms) = (Allowed R Sd B m × Neat B m × Source Sub m) × Fine Sd Sub (small m B) ms

  pub fine_sound : (Sd : ℕ → Stmt X → Type 0) (Sub : Small X → Type 0) (B : Box X) (ms : Steps X) → Sound B → Fine Sd Sub B ms → Sound (does ms B)
  fine_sound Sd Sub B [] S f = S
  fine_sound Sd Sub B (m ∷ ms) S f = fine_sound Sd Sub (small m B) ms (sound_step Sd B S m f.0.0 f.0.1) f.1

  allowed_grows : (Sd Se : ℕ → Stmt X → Type 0) → ((i : ℕ) (s : Stmt X) → Sd i s → Se i s) → (B : Box X) (m : Small X) → Allowed R Sd B m → Allowed R Se B m
  allowed_grows Sd Se g B (says s) a = a
  allowed_grows Sd Se g B (hears j s) a = (a.0, a.1, λ js. g j s (a.2 js))
  allowed_grows Sd Se g B (stays s) a = a
  allowed_grows Sd Se g B (enters e v) a = a
  allowed_grows Sd Se g B (leaves l) a = a

  pub fine_grows : (Sd Se : ℕ → Stmt X → Type 0) (Sub : Small X → Type 0) → ((i : ℕ) (s : Stmt X) → Sd i s → Se i s) → (B : Box X) (ms : Steps X) → Fine Sd Sub B ms → Fine Se Sub B ms
  fine_grows Sd Se Sub g B [] f = tt
  fine_grows Sd Se Sub g B (m ∷ ms) f = ((allowed_grows Sd Se g B m f.0.0, f.0.1, f.0.2), fine_grows Sd Se Sub g (small m B) ms f.1)

-- a set's run by small steps: the calls' steps, one after the other
abbrev pub push : {X : Type 0} → ℕ → Steps X → Run X → Run X
push i [] r = r
push i (m ∷ ms) r = push i ms ((i, m) ∷ r)

abbrev pub run : {X : Type 0} → Plan X → (ℕ → ℕ → Bool) → Calls X → Run X
run P coin [] = []
run P coin (p ∷ c) = push p.0 (steps P coin (state P coin c p.0) p.1) (run P coin c)

world_push : {X : Type 0} (k : ℕ) (ms : Steps X) (r : Run X) (i : ℕ) (v : Bool) → eqb i k ≡ v → world (push k ms r) i ≡ cond v (does ms (world r i)) (world r i)
world_push k [] r i true e = refl
world_push k [] r i false e = refl
world_push k (m ∷ ms) r i true e = world_push k ms ((k, m) ∷ r) i true e ∙ ap (does ms) (rw e)
world_push k (m ∷ ms) r i false e = world_push k ms ((k, m) ∷ r) i false e ∙ rw e

-- box i after a set's calls is box i alone after the calls that went to it
pub world_state : {X : Type 0} (P : Plan X) (coin : ℕ → ℕ → Bool) (c : Calls X) (i : ℕ) → world (run P coin c) i ≡ state P coin c i
world_state P coin [] i = refl
world_state P coin (p ∷ c) i = at (eqb i p.0) refl (world_state P coin c i)
  where
    at : (v : Bool) → eqb i p.0 ≡ v → world (run P coin c) i ≡ state P coin c i → world (run P coin (p ∷ c)) i ≡ state P coin (p ∷ c) i
    at true e ih =
        let q : i ≡ p.0 = eqb-true i p.0 e in
        world_push p.0 (steps P coin (state P coin c p.0) p.1) (run P coin c) i true e ∙ ap (does (steps P coin (state P coin c p.0) p.1)) ih ∙ rw (e, sym q) refl
    at false e ih = world_push p.0 (steps P coin (state P coin c p.0) p.1) (run P coin c) i false e ∙ ih ∙ rw e refl
