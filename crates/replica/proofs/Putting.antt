-- To hold a statement in its cell is, in the theory's words, to hear it.
use Rattle.std.proofs.Common.{◌≡◌, ℕ, ◌*◌, ◌<◌, ◌≤◌, Bool, true, false, not, ◌&&◌, eqb, ltb, ◌⊎◌, List, length, get_or, Some, None, Option, sym, refl, ap, ◌∙◌, subst, inl, inr, arith, rules}
use Rattle.std.specs.Option.{option_map}
use Rattle.std.proofs.lemmas.List.{length-set}
use Rattle.std.proofs.lemmas.Nat.{mul-add-lt}
use Rattle.std.proofs.lemmas.Bool.{ltb-true, lt-ltb, eqb-true, and_parts, and_from, cond-true, cases_eq}
use Rattle.common.specs.Limits.{epochs, rounds}
use Rattle.theory.specs.Statement.{Bits, only, both, Stmt, sends, echo, ready, have, value, seen, confirm, finish, Cell, at_send, at_echo, at_ready, at_have, at_value, at_seen, at_confirm, at_finish, CellDiscrete, cell}
use Rattle.theory.specs.Machine.{Mem, put, small, hears}
use Rattle.theory.specs.Calls.{ranged}
use Rattle.theory.specs.Turns.{set_of}
use Rattle.theory.proofs.Memory.{put_new, put_other, put_away}
use Rattle.votes.specs.declared.marks.Marks.{Marks}
use Rattle.votes.specs.declared.ballot.Round.{Round}
use Rattle.votes.specs.Sets.{in_set}
use Rattle.votes.specs.Votes.{no_round, marks, bit_of, set_for, mark, with_set}
use Rattle.votes.proofs.Marking.{bit_other, bit_own, set_other, set_own, marks_own, marks_rest, marked}
use Rattle.cells.specs.Rows.{Cells, slot_of, place_of}
use Rattle.replica.specs.declared.state.Replica.{Replica}
use Rattle.replica.specs.Store.{Store, fits}
use Rattle.replica.specs.View.{held, row_cell, value_in, vote_cell, view, plan, box}
use Rattle.replica.specs.Holding.{Heard, Sized, values_marked, seens_marked, confirms_marked, entered, held_of}
use Rattle.replica.proofs.Placing.{send_own, send_other, row_own, row_other, vote_own, vote_other, cond_same}

-- the tables are long enough
pub record Long (n w : ℕ) (t : Store) : Type 0 where
  pub sends : n * w ≤ length t.sends
  pub echoes : n * w * n ≤ length t.echoes
  pub readies : n * w * n ≤ length t.readies
  pub haves : n * w * n ≤ length t.haves
  pub pages : n * w ≤ length t.pages

pub lengths : (n w : ℕ) (t : Store) → fits n w t ≡ true → Long n w t
lengths n w t h = record { sends = search rules; echoes = search rules; readies = search rules; haves = search rules; pages = search rules }

-- a memory with one statement more
put_by : {X : Type 0} (old new : Mem X) (j : ℕ) (st : Stmt X) → new j (cell st) ≡ Some st → ((i : ℕ) (c : Cell) → ((i ≡ j) × (c ≡ cell st) → ⊥) → new i c ≡ old i c) → (i : ℕ) (c : Cell) → new i c ≡ put j st old i c
put_by old new j st own other i c = at (cases_eq i j) (CellDiscrete c (cell st))
  where
    at : (i ≡ j) ⊎ (i ≡ j → ⊥) → Dec (c ≡ cell st) → new i c ≡ put j st old i c
    at (inl e) (yes h) = rw (e, h) (own ∙ sym (put_new j st old))
    at (inl e) (no n) = other i c (λ p. n p.1) ∙ sym (put_away j st old i c n)
    at (inr n) d = other i c (λ p. n p.0) ∙ sym (put_other j st old i c n)

-- a cell is of one of the eight letters
by_letter : (P : Cell → Type 0) (c : Cell) → ((s : ℕ) → c ≡ at_send s → P (at_send s)) → ((q s : ℕ) → c ≡ at_echo q s → P (at_echo q s)) → ((q s : ℕ) → c ≡ at_ready q s → P (at_ready q s)) → ((q s : ℕ) → c ≡ at_have q s → P (at_have q s))
    → ((e k : ℕ) (v : Bool) → c ≡ at_value e k v → P (at_value e k v)) → ((e k : ℕ) → c ≡ at_seen e k → P (at_seen e k)) → ((e k : ℕ) → c ≡ at_confirm e k → P (at_confirm e k)) → ((e : ℕ) → c ≡ at_finish e → P (at_finish e)) → P c
by_letter P (at_send s) a b d e f g h k = a s refl
by_letter P (at_echo q s) a b d e f g h k = b q s refl
by_letter P (at_ready q s) a b d e f g h k = d q s refl
by_letter P (at_have q s) a b d e f g h k = e q s refl
by_letter P (at_value n k v) a b d e f g h l = f n k v refl
by_letter P (at_seen n k) a b d e f g h l = g n k refl
by_letter P (at_confirm n k) a b d e f g h l = h n k refl
by_letter P (at_finish n) a b d e f g h k = k n refl

none_mapped : {A B : Type 0} (f : A → B) (o : Option A) → option_map f o ≡ None → o ≡ None
none_mapped f None e = refl
none_mapped f (Some a) e = cc

slot_within : (n w q s : ℕ) → q < n → s < w → slot_of w q s < n * w
slot_within n w q s a b = omega (arith, mul-add-lt q w s n a b)

in_round : (k : ℕ) (table : List Round) → length table ≡ rounds → ltb k rounds ≡ true → k < length table
in_round k table e r = omega (arith, e, ltb-true k rounds r)

-- a bit that was not marked, or a sender that did not mark
value_other : (p : Marks) (v : Bool) (j i : ℕ) (u : Bool) → ((i ≡ j) × (u ≡ v) → ⊥) → marks (mark p v j) u i ≡ marks p u i
value_other p v j i u ne = at (cases_eq i j)
  where
    at : (i ≡ j) ⊎ (i ≡ j → ⊥) → marks (mark p v j) u i ≡ marks p u i
    at (inl e) = rw e (marks_rest p v j u (λ h. ne (e, h)))
    at (inr n) = (marked p (not v) v j).others u i n

-- what set both marks make is the set
set_in : (u : Bits) → set_of (in_set u false) (in_set u true) ≡ Some u
set_in (only true) = refl
set_in (only false) = refl
set_in both = refl

-- what is needed of the cell: a bit or a set must not be held there already
abbrev pub Vacant : Replica → Store → ℕ → Stmt (List ℕ) → Type 0
Vacant m t j (sends s x) = Unit {0}
Vacant m t j (echo q s x) = Unit {0}
Vacant m t j (ready q s x) = Unit {0}
Vacant m t j (have q s x) = Unit {0}
Vacant m t j (value e k v) = Unit {0}
Vacant m t j (seen e k v) = view m t j (at_seen e k) ≡ None
Vacant m t j (confirm e k u) = view m t j (at_confirm e k) ≡ None
Vacant m t j (finish e v) = view m t j (at_finish e) ≡ None

vacated : (m : Replica) (t : Store) (j : ℕ) (st : Stmt (List ℕ)) → view m t j (cell st) ≡ None → Vacant m t j st
vacated m t j (sends s x) e = tt
vacated m t j (echo q s x) e = tt
vacated m t j (ready q s x) e = tt
vacated m t j (have q s x) e = tt
vacated m t j (value e k v) h = tt
vacated m t j (seen e k v) h = h
vacated m t j (confirm e k u) h = h
vacated m t j (finish e v) h = h

module _ (m : Replica) (t : Store) (j : ℕ) (sized : Sized m) (lent : fits m.set.n m.set.w t ≡ true) (lj : j < m.set.n) where
  long : Long m.set.n m.set.w t
  long = lengths m.set.n m.set.w t lent

  abbrev Own : Stmt (List ℕ) → Type 0
  Own st = view (held_of m t j st).0 (held_of m t j st).1 j (cell st) ≡ Some st

  abbrev Else : Stmt (List ℕ) → Type 0
  Else st = (i : ℕ) (c : Cell) → ((i ≡ j) × (c ≡ cell st) → ⊥) → view (held_of m t j st).0 (held_of m t j st).1 i c ≡ view m t i c

  guard : (k e : ℕ) → (ltb k rounds && (ltb e epochs && eqb e m.epoch)) ≡ true → (ltb j m.set.n && (ltb k rounds && (ltb e epochs && eqb e m.epoch))) ≡ true
  guard k e r = and_from _ _ (lt-ltb j m.set.n lj) r

  -- the epoch is the current one
  current : (e : ℕ) → (ltb e epochs && eqb e m.epoch) ≡ true → e ≡ m.epoch
  current e r = eqb-true e m.epoch (and_parts (ltb e epochs) _ r).1

  free_round : {A : Type 0} (read : Round → Option A) (st : A → Stmt (List ℕ)) (k e : ℕ) → (ltb k rounds && (ltb e epochs && eqb e m.epoch)) ≡ true → vote_cell m read st e k j ≡ None → read (get_or m.votes.rounds k no_round) ≡ None
  free_round read st k e r free = none_mapped st _ (sym (cond-true _ _ None (guard k e r)) ∙ free)

  own : (st : Stmt (List ℕ)) → ranged (plan m) (box m t) st ≡ true → Vacant m t j st → Own st
  own (sends s x) r free = send_own m.set.w t.sends j s x sends m.set.n lj (ltb-true s _ r) (omega (arith, slot_within m.set.n m.set.w j s lj (ltb-true s _ r), long.sends))
  own (echo q s x) r free = let p = and_parts _ _ r in row_own m.set.n m.set.w t.echoes j q s x echo lj (ltb-true q _ p.0) (ltb-true s _ p.1) long.echoes
  own (ready q s x) r free = let p = and_parts _ _ r in row_own m.set.n m.set.w t.readies j q s x ready lj (ltb-true q _ p.0) (ltb-true s _ p.1) long.readies
  own (have q s x) r free = let p = and_parts _ _ r in row_own m.set.n m.set.w t.haves j q s x have lj (ltb-true q _ p.0) (ltb-true s _ p.1) long.haves
  own (value e k v) r free =
      vote_own m k (values_marked (λ p. mark p v j)) (λ x. value_in v j x.values) (value e k) e j v (in_round k m.votes.rounds sized.long (and_parts (ltb k rounds) _ r).0) (guard k e r) (rw (marks_own (get_or m.votes.rounds k no_round).values v j) refl)
  own (seen e k v) r free =
      vote_own m k (seens_marked (λ p. mark p v j)) (λ x. bit_of x.seens j) (seen e k) e j v (in_round k m.votes.rounds sized.long (and_parts (ltb k rounds) _ r).0) (guard k e r)
      (bit_own (get_or m.votes.rounds k no_round).seens v j (free_round (λ x. bit_of x.seens j) (seen e k) k e r free))
  own (confirm e k u) r free =
      vote_own m k (confirms_marked (λ p. with_set p (in_set u false) (in_set u true) j)) (λ x. set_for x.confirms j) (confirm e k) e j u (in_round k m.votes.rounds sized.long (and_parts (ltb k rounds) _ r).0) (guard k e r)
      (set_own (get_or m.votes.rounds k no_round).confirms (in_set u false) (in_set u true) j (free_round (λ x. set_for x.confirms j) (confirm e k) k e r free) ∙ set_in u)
  own (finish e v) r free =
      let p = and_parts (ltb e epochs) _ r in
      let g : (ltb j m.set.n && ltb e epochs) ≡ true = and_from _ _ (lt-ltb j m.set.n lj) p.0 in
      let none : bit_of m.votes.finish j ≡ None = none_mapped (finish e) _ (ap (option_map (finish e)) (sym (cond-true _ _ None g ∙ cond-true _ _ _ p.1)) ∙ free) in
      ap (option_map (finish e)) (cond-true _ _ None g ∙ cond-true _ _ _ p.1 ∙ bit_own m.votes.finish v j none)

  -- what is held in another row, or of another sender
  row_else : (st : ℕ → ℕ → List ℕ → Stmt (List ℕ)) (at : ℕ → ℕ → Cell) (cells : Cells) (q s : ℕ) (x : List ℕ) → (ltb q m.set.n && ltb s m.set.w) ≡ true → (i : ℕ) (c : Cell) → ((i ≡ j) × (c ≡ at q s) → ⊥) → (a b : ℕ) → c ≡ at a b
      → row_cell m.set.n m.set.w (entered cells (place_of m.set.n m.set.w q s j) x) (st a b) a b i ≡ row_cell m.set.n m.set.w cells (st a b) a b i
  row_else st at cells q s x r i c ne a b h =
      let p = and_parts _ _ r in
      row_other m.set.n m.set.w cells j q s x st lj (ltb-true q _ p.0) (ltb-true s _ p.1) i a b (λ k. ne (k.0, h ∙ (λ z. at (k.1 z) (k.2 z))))

  -- the same cell of a vote, if its epoch and round are
  at_vote : (at : ℕ → ℕ → Cell) (e k : ℕ) → (ltb k rounds && (ltb e epochs && eqb e m.epoch)) ≡ true → (c : Cell) (a b : ℕ) → c ≡ at a b → a ≡ m.epoch → b ≡ k → c ≡ at e k
  at_vote at e k r c a b h now here = h ∙ (λ z. at ((now ∙ sym (current e (and_parts (ltb k rounds) _ r).1)) z) (here z))

  -- what is held elsewhere; each vote's line says what it reads, and a lemma over them would take it again
  other : (st : Stmt (List ℕ)) → ranged (plan m) (box m t) st ≡ true → Else st
  other (sends s x) r i c ne = by_letter (λ d. view m (held_of m t j (sends s x)).1 i d ≡ view m t i d) c
      (λ b e. send_other m.set.w t.sends j s x sends m.set.n lj (ltb-true s _ r) i b (λ p. ne (p.0, e ∙ ap at_send p.1)))
      (λ a b e. refl) (λ a b e. refl) (λ a b e. refl) (λ a b v e. refl) (λ a b e. refl) (λ a b e. refl) (λ a e. refl)
  other (echo q s x) r i c ne = by_letter (λ d. view m (held_of m t j (echo q s x)).1 i d ≡ view m t i d) c
      (λ b h. refl) (row_else echo at_echo t.echoes q s x r i c ne) (λ a b h. refl) (λ a b h. refl) (λ a b v h. refl) (λ a b h. refl) (λ a b h. refl) (λ a h. refl)
  other (ready q s x) r i c ne = by_letter (λ d. view m (held_of m t j (ready q s x)).1 i d ≡ view m t i d) c
      (λ b h. refl) (λ a b h. refl) (row_else ready at_ready t.readies q s x r i c ne) (λ a b h. refl) (λ a b v h. refl) (λ a b h. refl) (λ a b h. refl) (λ a h. refl)
  other (have q s x) r i c ne = by_letter (λ d. view m (held_of m t j (have q s x)).1 i d ≡ view m t i d) c
      (λ b h. refl) (λ a b h. refl) (λ a b h. refl) (row_else have at_have t.haves q s x r i c ne) (λ a b v h. refl) (λ a b h. refl) (λ a b h. refl) (λ a h. refl)
  other (value e k v) r i c ne = by_letter (λ d. view (held_of m t j (value e k v)).0 t i d ≡ view m t i d) c
      (λ b h. refl) (λ a b h. refl) (λ a b h. refl) (λ a b h. refl)
      (λ a b u h. vote_other m k (values_marked (λ p. mark p v j)) (λ x. value_in u i x.values) (value a b) a b i (λ now here x.
      ap (λ y. held y (Some u)) (value_other x.values v j i u (λ same. ne (same.0, at_vote (λ y z. at_value y z v) e k r c a b (h ∙ ap (at_value a b) same.1) now here)))))
      (λ a b h. vote_other m k (values_marked (λ p. mark p v j)) (λ x. bit_of x.seens i) (seen a b) a b i (λ now here x. refl))
      (λ a b h. vote_other m k (values_marked (λ p. mark p v j)) (λ x. set_for x.confirms i) (confirm a b) a b i (λ now here x. refl))
      (λ a h. refl)
  other (seen e k v) r i c ne = by_letter (λ d. view (held_of m t j (seen e k v)).0 t i d ≡ view m t i d) c
      (λ b h. refl) (λ a b h. refl) (λ a b h. refl) (λ a b h. refl)
      (λ a b u h. vote_other m k (seens_marked (λ p. mark p v j)) (λ x. value_in u i x.values) (value a b) a b i (λ now here x. refl))
      (λ a b h. vote_other m k (seens_marked (λ p. mark p v j)) (λ x. bit_of x.seens i) (seen a b) a b i (λ now here x.
      bit_other x.seens (not v) v j i (λ same. ne (same, at_vote at_seen e k r c a b h now here))))
      (λ a b h. vote_other m k (seens_marked (λ p. mark p v j)) (λ x. set_for x.confirms i) (confirm a b) a b i (λ now here x. refl))
      (λ a h. refl)
  other (confirm e k u) r i c ne = by_letter (λ d. view (held_of m t j (confirm e k u)).0 t i d ≡ view m t i d) c
      (λ b h. refl) (λ a b h. refl) (λ a b h. refl) (λ a b h. refl)
      (λ a b v h. vote_other m k (confirms_marked (λ p. with_set p (in_set u false) (in_set u true) j)) (λ x. value_in v i x.values) (value a b) a b i (λ now here x. refl))
      (λ a b h. vote_other m k (confirms_marked (λ p. with_set p (in_set u false) (in_set u true) j)) (λ x. bit_of x.seens i) (seen a b) a b i (λ now here x. refl))
      (λ a b h. vote_other m k (confirms_marked (λ p. with_set p (in_set u false) (in_set u true) j)) (λ x. set_for x.confirms i) (confirm a b) a b i (λ now here x.
      set_other x.confirms (in_set u false) (in_set u true) j i (λ same. ne (same, at_vote at_confirm e k r c a b h now here))))
      (λ a h. refl)
  other (finish e v) r i c ne = by_letter (λ d. view (held_of m t j (finish e v)).0 t i d ≡ view m t i d) c
      (λ b h. refl) (λ a b h. refl) (λ a b h. refl) (λ a b h. refl) (λ a b u h. refl) (λ a b h. refl) (λ a b h. refl)
      (λ a h. ap (λ o. option_map (finish a) (held (ltb i m.set.n && ltb a epochs) o)) (cond_same (eqb a m.epoch) _ _ _ (λ now.
      bit_other m.votes.finish (not v) v j i (λ same. ne (same, h ∙ ap at_finish (eqb-true a m.epoch now ∙ sym (current e r)))))))

  view_held : (st : Stmt (List ℕ)) → ranged (plan m) (box m t) st ≡ true → Vacant m t j st → (i : ℕ) (c : Cell) → view (held_of m t j st).0 (held_of m t j st).1 i c ≡ put j st (view m t) i c
  view_held st r free = put_by (view m t) (view (held_of m t j st).0 (held_of m t j st).1) j st (own st r free) (other st r)

  -- nothing but a cell is altered
  rest_held : (st : Stmt (List ℕ)) → box (held_of m t j st).0 (held_of m t j st).1 ≡ record { me = m.set.me; epoch = m.epoch; stage = (box m t).stage; mem = view (held_of m t j st).0 (held_of m t j st).1; ledger = (box m t).ledger }
  rest_held (sends s x) = refl
  rest_held (echo q s x) = refl
  rest_held (ready q s x) = refl
  rest_held (have q s x) = refl
  rest_held (value e k v) = refl
  rest_held (seen e k v) = refl
  rest_held (confirm e k u) = refl
  rest_held (finish e v) = refl

  pub box_put : (st : Stmt (List ℕ)) → ranged (plan m) (box m t) st ≡ true → Vacant m t j st → box (held_of m t j st).0 (held_of m t j st).1 ≡ small (hears j st) (box m t)
  box_put st r free = rest_held st ∙ (λ z. record { me = m.set.me; epoch = m.epoch; stage = (box m t).stage; mem = λ i c. view_held st r free i c z; ledger = (box m t).ledger })

  pub box_held : (st : Stmt (List ℕ)) → ranged (plan m) (box m t) st ≡ true → view m t j (cell st) ≡ None → box (held_of m t j st).0 (held_of m t j st).1 ≡ small (hears j st) (box m t)
  box_held st r free = box_put st r (vacated m t j st free)

pub sized_held : (m : Replica) (t : Store) (j : ℕ) (st : Stmt (List ℕ)) → Sized m → Sized (held_of m t j st).0
sized_held m t j (sends s x) z = z
sized_held m t j (echo q s x) z = z
sized_held m t j (ready q s x) z = z
sized_held m t j (have q s x) z = z
sized_held m t j (value e k v) z = record { long = length-set m.votes.rounds k (values_marked (λ p. mark p v j) (get_or m.votes.rounds k no_round)) ∙ z.long }
sized_held m t j (seen e k v) z = record { long = length-set m.votes.rounds k (seens_marked (λ p. mark p v j) (get_or m.votes.rounds k no_round)) ∙ z.long }
sized_held m t j (confirm e k u) z = record { long = length-set m.votes.rounds k (confirms_marked (λ p. with_set p (in_set u false) (in_set u true) j) (get_or m.votes.rounds k no_round)) ∙ z.long }
sized_held m t j (finish e v) z = record { long = z.long }

-- what holds the statement so has heard it
pub heard_by :
    (m : Replica) (t : Store) (j : ℕ) (st : Stmt (List ℕ)) (after : Replica) (left : Store)
    → fits m.set.n m.set.w t ≡ true → j < m.set.n → ranged (plan m) (box m t) st ≡ true → ◌≡◌ {A = Replica × Store} (after, left) (held_of m t j st) → Heard m t j st after left
heard_by m t j st after left lent lj r e = subst (λ (p : Replica × Store). Heard m t j st p.0 p.1) (sym e) (record { hears = λ z free. (box_held m t j z lent lj st r free, sized_held m t j st z) })
