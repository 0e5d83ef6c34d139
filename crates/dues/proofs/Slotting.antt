-- What the theory's searches of entries are at a replica's view.
use Rattle.std.proofs.Common.{◌≡◌, ℕ, ◌+◌, ◌*◌, ◌<◌, ◌≤◌, Bool, true, false, leb, List, map, length, get_or, Some, None, Option, sym, refl, ap, ◌∙◌, ap₂, arith}
use Rattle.std.specs.Option.{option_map, is_some}
use Rattle.std.proofs.lemmas.Bool.{lt-ltb, leb-true, and_from, and_parts}
use Rattle.theory.specs.Statement.{Stmt, sends, echo, ready, have, Cell, at_echo, at_ready, at_have, at_send, cell, entry_stated}
use Rattle.theory.specs.Plan.{some_honest}
use Rattle.theory.specs.Machine.{own}
use Rattle.theory.specs.Search.{or_else, unless, bind, entry}
use Rattle.theory.specs.Turns.{backed, echo_at, ready_at, have_at, kept_at}
use Rattle.theory.proofs.Searching.{or_else_left, or_else_right, unless_empty}
use Rattle.cells.specs.Rows.{Cells, slot_of, place_of, row_of, part, lowest_in}
use Rattle.cells.proofs.Cellrows.{map_read}
use Rattle.replica.specs.declared.set.Set.{Set}
use Rattle.replica.specs.declared.state.Replica.{Replica}
use Rattle.replica.specs.Store.{Store, fits}
use Rattle.replica.specs.View.{held, row_cell, view, plan, box}
use Rattle.dues.specs.Slots.{unstated, vouched_of}
use Rattle.dues.proofs.Finding.{nothing, some_mapped, stated}
use Rattle.dues.proofs.Backing.{entry_in, mapped_else, backed_row, row_at, row_size}

-- a cell that is free, and one that is not, seen by bytes
pub cell_free : {K : Type 0} (b : K → List ℕ) (cells : List (Option K)) (at place : ℕ) (o : Option K) → o ≡ get_or cells at None → at ≡ place → is_some o ≡ false → get_or (map (option_map b) cells) place None ≡ None
cell_free b cells at place o is e free = ap (λ k. get_or (map (option_map b) cells) k None) (sym e) ∙ map_read b cells at ∙ ap (option_map b) (sym is ∙ nothing o free)

pub cell_taken : {K : Type 0} (b : K → List ℕ) (cells : List (Option K)) (at place : ℕ) (o : Option K) → o ≡ get_or cells at None → at ≡ place → is_some o ≡ true → is_some (get_or (map (option_map b) cells) place None) ≡ true
cell_taken b cells at place o is e some = ap is_some (ap (λ k. get_or (map (option_map b) cells) k None) (sym e) ∙ map_read b cells at ∙ ap (option_map b) (sym is)) ∙ some_mapped b o ∙ some

-- tables that fit have room for each row
rooms : (n w : ℕ) (t : Store) → fits n w t ≡ true → (n * w * n ≤ length t.echoes) × (n * w * n ≤ length t.readies) × (n * w * n ≤ length t.haves)
rooms n w t e =
    let a = and_parts (leb (n * w) (length t.sends)) _ e in
    let b = and_parts (leb (n * w * n) (length t.echoes)) _ a.1 in
    let c = and_parts (leb (n * w * n) (length t.readies)) _ b.1 in
    let d = and_parts (leb (n * w * n) (length t.haves)) _ c.1 in
    (leb-true _ _ b.0, leb-true _ _ c.0, leb-true _ _ d.0)

module _ (set : Set) (q s : ℕ) (mine heard : Cells) (enough : ℕ) (free : get_or mine (place_of set.n set.w q s set.me) None ≡ None) where
  open_search : vouched_of set q s mine heard enough ≡ or_else (lowest_in enough (part (row_of set.n set.w q s) set.n heard)) (lowest_in (set.f + 1) (part (row_of set.n set.w q s) set.n mine))
  open_search = rw free refl

  pub vouched_first : (x : List ℕ) → Some x ≡ lowest_in enough (part (row_of set.n set.w q s) set.n heard) → Some x ≡ vouched_of set q s mine heard enough
  vouched_first x e = sym (open_search ∙ or_else_left _ _ x (sym e))

  pub vouched_else : None ≡ lowest_in enough (part (row_of set.n set.w q s) set.n heard) → lowest_in (set.f + 1) (part (row_of set.n set.w q s) set.n mine) ≡ vouched_of set q s mine heard enough
  vouched_else e = sym (open_search ∙ or_else_right _ _ (sym e))

unstated_mapped : (st : List ℕ → Stmt (List ℕ)) (own o : Option (List ℕ)) → option_map st (unstated own o) ≡ unless (option_map st own) (option_map st o)
unfolding unless
unstated_mapped st None o = refl
unstated_mapped st (Some x) o = refl

bind_some : (st : List ℕ → Stmt (List ℕ)) (o : Option (List ℕ)) → bind o (λ x. Some (st x)) ≡ option_map st o
unfolding bind
bind_some st None = refl
bind_some st (Some x) = refl

in_sight : {A : Type 0} (b : Bool) (o : Option A) → b ≡ true → held b o ≡ o
in_sight b o e = rw e refl

module _ (m : Replica) (t : Store) (q s : ℕ) (lq : q < m.set.n) (ls : s < m.set.w) where
  row_view : (cells : Cells) (st : ℕ → ℕ → List ℕ → Stmt (List ℕ)) (j : ℕ) → j < m.set.n → row_cell m.set.n m.set.w cells (st q s) q s j ≡ option_map (st q s) (get_or cells (place_of m.set.n m.set.w q s j) None)
  row_view cells st j l = in_sight _ _ (and_from _ _ (lt-ltb j m.set.n l) (and_from _ _ (lt-ltb q m.set.n lq) (lt-ltb s m.set.w ls)))

  send_view : view m t q (at_send s) ≡ option_map (sends s) (get_or t.sends (slot_of m.set.w q s) None)
  send_view = in_sight _ _ (and_from _ _ (lt-ltb q m.set.n lq) (lt-ltb s m.set.w ls))

  -- turn 1
  pub echo_stated : is_some (get_or t.echoes (place_of m.set.n m.set.w q s m.set.me) None) ≡ true → None ≡ echo_at (plan m) (box m t) q s
  echo_stated e = stated _ _ (ap is_some (row_view t.echoes echo m.set.me m.set.own) ∙ some_mapped (echo q s) _ ∙ e)

  pub echo_is : get_or t.echoes (place_of m.set.n m.set.w q s m.set.me) None ≡ None → option_map (echo q s) (get_or t.sends (slot_of m.set.w q s) None) ≡ echo_at (plan m) (box m t) q s
  echo_is free =
      sym (
      unless_empty _ _ (row_view t.echoes echo m.set.me m.set.own ∙ ap (option_map (echo q s)) free)
      ∙ ap (λ o. bind o (λ x. Some (echo q s x))) (ap entry send_view ∙ entry_in (sends s) (λ x. refl) _)
      ∙ bind_some (echo q s) _
      )

  -- what is kept
  pub kept_is : get_or t.haves (place_of m.set.n m.set.w q s m.set.me) None ≡ kept_at (plan m) (box m t) q s
  kept_is = sym (ap entry (row_view t.haves have m.set.me m.set.own) ∙ entry_in (have q s) (λ x. refl) _)

  -- turns 2 and 3: what is vouched for
  module _ (st heard_as : ℕ → ℕ → List ℕ → Stmt (List ℕ)) (mine heard : Cells) (c d : Cell)
      (inj : (x y : List ℕ) → st q s x ≡ st q s y → x ≡ y) (what : (x : List ℕ) → entry_stated (st q s x) ≡ Some x) (at : (x : List ℕ) → cell (st q s x) ≡ c)
      (heard_inj : (x y : List ℕ) → heard_as q s x ≡ heard_as q s y → x ≡ y) (heard_what : (x : List ℕ) → entry_stated (heard_as q s x) ≡ Some x) (heard_at : (x : List ℕ) → cell (heard_as q s x) ≡ d)
      (room : m.set.n * m.set.w * m.set.n ≤ length mine) (space : m.set.n * m.set.w * m.set.n ≤ length heard)
      (sees : (j : ℕ) → view m t j c ≡ row_cell m.set.n m.set.w mine (st q s) q s j) (hears : (j : ℕ) → view m t j d ≡ row_cell m.set.n m.set.w heard (heard_as q s) q s j) where
    abbrev row : Cells → Cells
    row cells = part (row_of m.set.n m.set.w q s) m.set.n cells

    sized : (cells : Cells) → m.set.n * m.set.w * m.set.n ≤ length cells → length (row cells) ≡ m.set.n
    sized cells = row_size m.set.n m.set.w cells q s lq ls (omega (arith, m.set.least))

    own_backed : option_map (st q s) (lowest_in (m.set.f + 1) (row mine)) ≡ backed (plan m) (box m t) (some_honest (plan m)) c (st q s) (st q s)
    own_backed = backed_row m t (st q s) c (row mine) inj what at (sized mine room) (λ j l. sees j ∙ row_view mine st j l ∙ ap (option_map (st q s)) (sym (row_at m.set.n m.set.w mine q s j l))) (m.set.f + 1) (st q s)

    heard_backed : (k : ℕ) → option_map (st q s) (lowest_in k (row heard)) ≡ backed (plan m) (box m t) k d (heard_as q s) (st q s)
    heard_backed k = backed_row m t (heard_as q s) d (row heard) heard_inj heard_what heard_at (sized heard space) (λ j l. hears j ∙ row_view heard heard_as j l ∙ ap (option_map (heard_as q s)) (sym (row_at m.set.n m.set.w heard q s j l))) k (st q s)

    pub vouched_is : (k : ℕ) → option_map (st q s) (vouched_of m.set q s mine heard k) ≡ unless (own (box m t) c) (or_else (backed (plan m) (box m t) k d (heard_as q s) (st q s)) (backed (plan m) (box m t) (some_honest (plan m)) c (st q s) (st q s)))
    vouched_is k =
        unstated_mapped (st q s) (get_or mine (place_of m.set.n m.set.w q s m.set.me) None) _
        ∙ (λ i. unless (sym (sees m.set.me ∙ row_view mine st m.set.me m.set.own) i) ((mapped_else (st q s) _ _ ∙ ap₂ or_else (heard_backed k) own_backed) i))

  module _ (long : fits m.set.n m.set.w t ≡ true) where
    abbrev room : (m.set.n * m.set.w * m.set.n ≤ length t.echoes) × (m.set.n * m.set.w * m.set.n ≤ length t.readies) × (m.set.n * m.set.w * m.set.n ≤ length t.haves)
    room = rooms m.set.n m.set.w t long

    pub ready_is : (k : ℕ) → k ≡ m.set.q → option_map (ready q s) (vouched_of m.set q s t.readies t.echoes k) ≡ ready_at (plan m) (box m t) q s
    ready_is k e = ap (λ k. option_map (ready q s) (vouched_of m.set q s t.readies t.echoes k)) e ∙ vouched_is ready echo t.readies t.echoes (at_ready q s) (at_echo q s) (λ x y h. cc) (λ x. refl) (λ x. refl) (λ x y h. cc) (λ x. refl) (λ x. refl) room.1 room.0 (λ j. refl) (λ j. refl) m.set.q

    pub have_is : (k : ℕ) → k ≡ 2 * m.set.f + 1 → option_map (have q s) (vouched_of m.set q s t.haves t.readies k) ≡ have_at (plan m) (box m t) q s
    have_is k e = ap (λ k. option_map (have q s) (vouched_of m.set q s t.haves t.readies k)) e ∙ vouched_is have ready t.haves t.readies (at_have q s) (at_ready q s) (λ x y h. cc) (λ x. refl) (λ x. refl) (λ x y h. cc) (λ x. refl) (λ x. refl) room.2 room.1 (λ j. refl) (λ j. refl) (2 * m.set.f + 1)
