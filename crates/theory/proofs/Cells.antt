-- What stands in a cell: of memories in which each statement stands in its own cell.
use Rattle.std.proofs.Common.{◌≡◌, ℕ, Bool, true, Some, None, Option, sym, refl, ap, ◌∙◌, arith}
use mathlib.Core.Bool.{false≢true}
use Rattle.theory.specs.Statement.{Bits, Stmt, sends, echo, ready, have, value, seen, confirm, finish, Cell, at_send, at_echo, at_ready, at_have, at_value, at_seen, at_confirm, at_finish, cell, entry_stated}
use Rattle.theory.specs.Machine.{Mem}
use Rattle.theory.specs.Search.{entry}
use Rattle.theory.specs.Turns.{is}
use Rattle.theory.specs.Laws.{Filed}
use Rattle.theory.proofs.Books.{none≢some}
use Rattle.theory.proofs.Memory.{decided_true, decided_yes}

pub is_true : {X : Type 0} (d : Discrete (Stmt X)) (o : Option (Stmt X)) (s : Stmt X) → is d o s ≡ true → o ≡ Some s
is_true d None s e = absurd (false≢true e)
is_true d (Some t) s e = ap Some (decided_true (d t s) e)

pub is_yes : {X : Type 0} (d : Discrete (Stmt X)) (o : Option (Stmt X)) (s : Stmt X) → o ≡ Some s → is d o s ≡ true
is_yes d None s e = absurd (none≢some e)
is_yes d (Some t) s e = decided_yes (d t s) cc

pub finish≢value : {e n k : ℕ} {v : Bool} → at_finish e ≡ at_value n k v → ⊥
finish≢value e = let z : ◌≡◌ {A = ℕ} 0 1 = cc in omega arith

-- the statements that can stand in a cell, by what they say
abbrev pub Fills : {X : Type 0} → Cell → Stmt X → Type 0
Fills {X} (at_send s) t = (x : X) × (t ≡ sends s x)
Fills {X} (at_echo q s) t = (x : X) × (t ≡ echo q s x)
Fills {X} (at_ready q s) t = (x : X) × (t ≡ ready q s x)
Fills {X} (at_have q s) t = (x : X) × (t ≡ have q s x)
Fills (at_value e k v) t = t ≡ value e k v
Fills (at_seen e k) t = (v : Bool) × (t ≡ seen e k v)
Fills (at_confirm e k) t = (u : Bits) × (t ≡ confirm e k u)
Fills (at_finish e) t = (v : Bool) × (t ≡ finish e v)

own_cell : {X : Type 0} (t : Stmt X) → Fills (cell t) t
own_cell (sends s x) = (x, refl)
own_cell (echo q s x) = (x, refl)
own_cell (ready q s x) = (x, refl)
own_cell (have q s x) = (x, refl)
own_cell (value e k v) = refl
own_cell (seen e k v) = (v, refl)
own_cell (confirm e k u) = (u, refl)
own_cell (finish e v) = (v, refl)

-- the statements st a are those that stand in cell c
pub record Sort {A X : Type 0} (c : Cell) (st : A → Stmt X) : Type 0 where
  pub cells : (a : A) → cell (st a) ≡ c
  pub fill : (t : Stmt X) → Fills c t → (a : A) × (t ≡ st a)

pub sort_send : {X : Type 0} (s : ℕ) → Sort {A = X} (at_send s) (sends s)
sort_send s = record { cells = λ x. refl; fill = λ t f. f }

pub sort_finish : {X : Type 0} (e : ℕ) → Sort {X = X} (at_finish e) (finish e)
sort_finish e = record { cells = λ v. refl; fill = λ t f. f }

module _ {X : Type 0} (q s : ℕ) where
  pub sort_echo : Sort {A = X} (at_echo q s) (echo q s)
  sort_echo = record { cells = λ x. refl; fill = λ t f. f }

  pub sort_ready : Sort {A = X} (at_ready q s) (ready q s)
  sort_ready = record { cells = λ x. refl; fill = λ t f. f }

  pub sort_have : Sort {A = X} (at_have q s) (have q s)
  sort_have = record { cells = λ x. refl; fill = λ t f. f }

  pub sort_seen : Sort {X = X} (at_seen q s) (seen q s)
  sort_seen = record { cells = λ v. refl; fill = λ t f. f }

  pub sort_confirm : Sort {X = X} (at_confirm q s) (confirm q s)
  sort_confirm = record { cells = λ u. refl; fill = λ t f. f }

module _ {X : Type 0} (mem : Mem X) (filed : Filed mem) where
  pub fills : (j : ℕ) (c : Cell) (t : Stmt X) → mem j c ≡ Some t → Fills c t
  fills j c t e = rw (filed j c t e) at (own_cell t)

  -- what stands in a cell is of its sort
  pub of_sort : {A : Type 0} {c : Cell} {st : A → Stmt X} → Sort c st → (j : ℕ) (t : Stmt X) → mem j c ≡ Some t → (a : A) × (mem j (cell (st a)) ≡ Some (st a))
  of_sort {c} k j t e =
      let f = k.fill t (fills j c t e) in
      (f.0, rw (k.cells f.0, sym f.1) e)

  entry_some : (j : ℕ) (c : Cell) (x : X) → entry (mem j c) ≡ Some x → (t : Stmt X) × (mem j c ≡ Some t) × (entry_stated t ≡ Some x)
  unfolding entry
  entry_some j c x e = at (mem j c) refl e
    where
      at : (o : Option (Stmt X)) → mem j c ≡ o → entry o ≡ Some x → (t : Stmt X) × (mem j c ≡ Some t) × (entry_stated t ≡ Some x)
      at None q e = absurd (none≢some e)
      at (Some t) q e = (t, q, e)

  -- an entry in a cell, and the statement that stands there
  pub entry_held : {c : Cell} {st : X → Stmt X} → Sort c st → ((x : X) → entry_stated (st x) ≡ Some x) → (j : ℕ) (x : X) → entry (mem j c) ≡ Some x → mem j (cell (st x)) ≡ Some (st x)
  entry_held {c} {st} k has j x e =
      let t = entry_some j c x e in
      let f = k.fill t.0 (fills j c t.0 t.1) in
      let same : Some f.0 ≡ Some x = sym (has f.0) ∙ ap entry_stated (sym f.1) ∙ t.2 in
      let z : f.0 ≡ x = cc in
      rw (k.cells x, sym z, sym f.1) t.1

  pub held_entry : {c : Cell} {st : X → Stmt X} → Sort c st → ((x : X) → entry_stated (st x) ≡ Some x) → (j : ℕ) (x : X) → mem j (cell (st x)) ≡ Some (st x) → entry (mem j c) ≡ Some x
  unfolding entry
  held_entry k has j x e = rw (rw (k.cells x) at e) (has x)
