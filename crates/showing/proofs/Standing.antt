-- What stands in a cell belongs there, can be written, and the cell has a place on the board.
use Rattle.std.proofs.Common.{◌≡◌, ℕ, zero, suc, ◌+◌, ◌*◌, ◌<◌, Bool, true, false, ◌&&◌, eqb, ltb, List, [], ◌∷◌, ◌++◌, map, length, get_or, Some, None, Option, sym, refl, ap, ◌∙◌, subst, zero-add, arith}
use Rattle.std.specs.List.{range_with_len, ContainsAt}
use Rattle.std.specs.Option.{option_map}
use Rattle.std.proofs.lemmas.Nat.{mul-add-lt, div-mul-add, mod-mul-add}
use Rattle.std.proofs.lemmas.List.FromFn.{length-map-range_with_len, get_or-map-range_with_len}
use Rattle.std.proofs.ByRecursion.{has_get_or, has_append_left, has_append_right}
use Rattle.std.proofs.lemmas.Bool.{and_parts, ltb-true, eqb-true, le-ltb}
use Rattle.common.specs.Limits.{epochs, rounds}
use Rattle.theory.specs.Statement.{Stmt, sends, echo, ready, have, value, seen, confirm, finish, Cell, cell, at_send, at_echo, at_ready, at_have, at_value, at_seen, at_confirm, at_finish, entry_stated}
use Rattle.votes.specs.declared.ballot.Round.{Round}
use Rattle.votes.specs.Votes.{no_round, bit_of, set_for}
use Rattle.cells.specs.Rows.{Cells}
use Rattle.wire.specs.Codec.{unfit, misfit, oversize}
use Rattle.wire.proofs.Reading.{byte_fits}
use Rattle.replica.specs.declared.state.Replica.{Replica}
use Rattle.replica.specs.declared.lent.Tables.{Tables}
use Rattle.replica.specs.Store.{Store, store}
use Rattle.replica.specs.View.{view, held, row_cell, vote_cell, value_in}
use Rattle.showing.specs.Boards.{run, by_slot, by_kind, by_round, order, places}
use Rattle.showing.specs.Spoken.{spoken}

-- the entries of a table have w bytes each
abbrev pub Entries : ℕ → Cells → Type 0
Entries w cells = (i : ℕ) (x : List ℕ) → get_or cells i None ≡ Some x → length x ≡ w

pub entries_wide : {K : Type 0} (bytes : K → List ℕ) (w : ℕ) → ((k : K) → length (bytes k) ≡ w) → (cells : List (Option K)) → Entries w (map (option_map bytes) cells)
entries_wide bytes w wide [] i x e = absurd (let z : ◌≡◌ {A = ℕ} 0 1 = cc in omega arith)
entries_wide bytes w wide (None ∷ cells) zero x e = absurd (let z : ◌≡◌ {A = ℕ} 0 1 = cc in omega arith)
entries_wide bytes w wide (Some k ∷ cells) zero x e = let same : bytes k ≡ x = cc in sym (ap length same) ∙ wide k
entries_wide bytes w wide (o ∷ cells) (suc i) x e = entries_wide bytes w wide cells i x e

pub record Wide (w : ℕ) (t : Store) : Type 0 where
  pub sends : Entries w t.sends
  pub echoes : Entries w t.echoes
  pub readies : Entries w t.readies
  pub haves : Entries w t.haves

-- what there is, where a test holds
pub record Found {A B : Type 0} (b : Bool) (o : Option A) (f : A → B) (r : B) : Type 0 where
  pub holds : b ≡ true
  pub part : A
  pub is : o ≡ Some part
  pub makes : f part ≡ r

module _ {A B : Type 0} (f : A → B) (r : B) where
  mapped_found : (o : Option A) → option_map f o ≡ Some r → Found true o f r
  mapped_found None e = absurd (let z : ◌≡◌ {A = ℕ} 0 1 = cc in omega arith)
  mapped_found (Some x) e = record { holds = refl; part = x; is = refl; makes = cc }

  pub held_found : (b : Bool) (o : Option A) → held b (option_map f o) ≡ Some r → Found b o f r
  held_found true o e = mapped_found o e
  held_found false o e = absurd (let z : ◌≡◌ {A = ℕ} 0 1 = cc in omega arith)

  pub found_held : (b : Bool) (o : Option A) → option_map f (held b o) ≡ Some r → Found b o f r
  found_held true o e = mapped_found o e
  found_held false o e = absurd (let z : ◌≡◌ {A = ℕ} 0 1 = cc in omega arith)

held_same : {A : Type 0} (b : Bool) (x y : A) → held b (Some y) ≡ Some x → x ≡ y
held_same true x y e = cc
held_same false x y e = absurd (let z : ◌≡◌ {A = ℕ} 0 1 = cc in omega arith)

pub run_has : (k : ℕ) (f : ℕ → Cell) (i : ℕ) (c : Cell) → i < k → f i ≡ c → ContainsAt (run k f) c
unfolding run
run_has k f i c h e =
    subst (ContainsAt (map f (range_with_len 0 k))) (get_or-map-range_with_len f 0 k i i c h (zero-add i) ∙ e)
    (has_get_or (map f (range_with_len 0 k)) i c (omega (arith, length-map-range_with_len f 0 k)))

entry_fits : (w : ℕ) (x : List ℕ) → length x ≡ w → misfit w x ≡ None
entry_fits w x e = rw (le-ltb (length x) w (omega arith), le-ltb w (length x) (omega arith)) refl

row_index : (n w q s : ℕ) → q < n → s < w → q * w + s < n * w
row_index n w q s low inside = omega (arith, mul-add-lt q w s n low inside)

vote_index : (k d : ℕ) → k < rounds → d < 4 → k * 4 + d < 4 * rounds
vote_index k d round low = omega arith

-- its entry, if it has one, has w bytes
abbrev pub Broad : ℕ → Stmt (List ℕ) → Type 0
Broad w s = (x : List ℕ) → entry_stated s ≡ Some x → length x ≡ w

-- what holds of a statement that stands in a cell of any sender
pub record Stands (m : Replica) (c : Cell) (s : Stmt (List ℕ)) : Type 0 where
  pub own : cell s ≡ c
  pub fits : (w : ℕ) → Broad w s → unfit w (spoken s) ≡ None
  pub listed : ContainsAt (order m) c

module _ (m : Replica) (c : Cell) where
  abbrev rows : (ℕ → ℕ → Cell) → List Cell
  rows f = run (m.set.n * m.set.w) (by_slot m.set.w f)

  abbrev votes : List Cell
  votes = run (4 * rounds) (by_round m.epoch)

  abbrev ends : List Cell
  ends = run epochs at_finish ++ votes

  abbrev haves : List Cell
  haves = rows at_have ++ ends

  abbrev readies : List Cell
  readies = rows at_ready ++ haves

  in_sends : ContainsAt (run m.set.w at_send) c → ContainsAt (order m) c
  in_sends h = has_append_left (run m.set.w at_send) (rows at_echo ++ readies) c h

  past_sends : ContainsAt (rows at_echo ++ readies) c → ContainsAt (order m) c
  past_sends h = has_append_right (run m.set.w at_send) (rows at_echo ++ readies) c h

  past_echoes : ContainsAt readies c → ContainsAt (order m) c
  past_echoes h = past_sends (has_append_right (rows at_echo) readies c h)

  past_readies : ContainsAt haves c → ContainsAt (order m) c
  past_readies h = past_echoes (has_append_right (rows at_ready) haves c h)

  past_haves : ContainsAt ends c → ContainsAt (order m) c
  past_haves h = past_readies (has_append_right (rows at_have) ends c h)

  in_votes : ContainsAt votes c → ContainsAt (order m) c
  in_votes h = past_haves (has_append_right (run epochs at_finish) votes c h)

module _ (m : Replica) (r : Stmt (List ℕ)) (j : ℕ) where
  row_stands :
      (f : ℕ → ℕ → Cell) (st : ℕ → ℕ → List ℕ → Stmt (List ℕ)) (cells : Cells) (q s : ℕ)
      → ((x : List ℕ) → cell (st q s x) ≡ f q s) → ((x : List ℕ) → entry_stated (st q s x) ≡ Some x) → ((w : ℕ) (x : List ℕ) → unfit w (spoken (st q s x)) ≡ misfit w x)
      → (ContainsAt (rows m (f q s) f) (f q s) → ContainsAt (order m) (f q s))
      → row_cell m.set.n m.set.w cells (st q s) q s j ≡ Some r → Stands m (f q s) r
  row_stands f st cells q s cell_of entry_of unfitOf lift e =
      let n = m.set.n in
      let W = m.set.w in
      let d = held_found (st q s) r _ _ e in
      let p = and_parts _ _ (and_parts _ _ d.holds).1 in
      let low = ltb-true q n p.0 in
      let inside = ltb-true s W p.1 in
      record {
        own = ap cell (sym d.makes) ∙ cell_of d.part;
        fits = λ w ok. ap (λ t. unfit w (spoken t)) (sym d.makes) ∙ unfitOf w d.part ∙ entry_fits w d.part (ok d.part (ap entry_stated (sym d.makes) ∙ entry_of d.part));
        listed = lift (run_has (n * W) (by_slot W f) (q * W + s) (f q s) (row_index n W q s low inside) (λ i. f (div-mul-add q W s inside i) (mod-mul-add q W s inside i)));
      }

  vote_stands :
      {A : Type 0} (read : Round → Option A) (st : A → Stmt (List ℕ)) (e k d : ℕ) → d < 4
      → ((x : A) → read (get_or m.votes.rounds k no_round) ≡ Some x → cell (st x) ≡ by_kind e k d) → ((w : ℕ) (x : A) → unfit w (spoken (st x)) ≡ oversize e)
      → vote_cell m read st e k j ≡ Some r → Stands m (by_kind e k d) r
  vote_stands read st e k d low cell_of unfitOf is =
      let f = held_found st r _ _ is in
      let p = and_parts _ _ (and_parts _ _ f.holds).1 in
      let q = and_parts _ _ p.1 in
      let round = ltb-true k rounds p.0 in
      let epoch = eqb-true e m.epoch q.1 in
      record {
        own = ap cell (sym f.makes) ∙ cell_of f.part f.is;
        fits = λ w ok. ap (λ t. unfit w (spoken t)) (sym f.makes) ∙ unfitOf w f.part ∙ byte_fits e (ltb-true e epochs q.0);
        listed = in_votes m (by_kind e k d) (run_has (4 * rounds) (by_round m.epoch) (k * 4 + d) (by_kind e k d) (vote_index k d round low) (λ i. by_kind (sym epoch i) (div-mul-add k 4 d low i) (mod-mul-add k 4 d low i)));
      }

  pub stands : (t : Store) (c : Cell) → view m t j c ≡ Some r → Stands m c r
  stands t (at_send s) e =
      let d = held_found (sends s) r _ _ e in
      record {
        own = ap cell (sym d.makes);
        fits = λ w ok. ap (λ t. unfit w (spoken t)) (sym d.makes) ∙ entry_fits w d.part (ok d.part (ap entry_stated (sym d.makes)));
        listed = in_sends m (at_send s) (run_has m.set.w at_send s (at_send s) (ltb-true _ _ (and_parts _ _ d.holds).1) refl);
      }
  stands t (at_echo q s) e = row_stands at_echo echo t.echoes q s (λ x. refl) (λ x. refl) (λ w x. refl) (λ h. past_sends m (at_echo q s) (has_append_left (rows m (at_echo q s) at_echo) (readies m (at_echo q s)) (at_echo q s) h)) e
  stands t (at_ready q s) e = row_stands at_ready ready t.readies q s (λ x. refl) (λ x. refl) (λ w x. refl) (λ h. past_echoes m (at_ready q s) (has_append_left (rows m (at_ready q s) at_ready) (haves m (at_ready q s)) (at_ready q s) h)) e
  stands t (at_have q s) e = row_stands at_have have t.haves q s (λ x. refl) (λ x. refl) (λ w x. refl) (λ h. past_readies m (at_have q s) (has_append_left (rows m (at_have q s) at_have) (ends m (at_have q s)) (at_have q s) h)) e
  stands t (at_value e k false) is = vote_stands (λ x. value_in false j x.values) (value e k) e k 0 (omega arith) (λ x h. ap (at_value e k) (held_same _ x false h)) (λ w x. refl) is
  stands t (at_value e k true) is = vote_stands (λ x. value_in true j x.values) (value e k) e k 1 (omega arith) (λ x h. ap (at_value e k) (held_same _ x true h)) (λ w x. refl) is
  stands t (at_seen e k) is = vote_stands (λ x. bit_of x.seens j) (seen e k) e k 2 (omega arith) (λ x _. refl) (λ w x. refl) is
  stands t (at_confirm e k) is = vote_stands (λ x. set_for x.confirms j) (confirm e k) e k 3 (omega arith) (λ x _. refl) (λ w x. refl) is
  stands t (at_finish e) is =
      let d = found_held (finish e) r _ _ is in
      let low = ltb-true _ _ (and_parts _ _ d.holds).1 in
      record {
        own = ap cell (sym d.makes);
        fits = λ w ok. ap (λ t. unfit w (spoken t)) (sym d.makes) ∙ byte_fits e low;
        listed = past_haves m (at_finish e) (has_append_left (run epochs at_finish) (votes m (at_finish e)) (at_finish e) (run_has epochs at_finish e (at_finish e) low refl));
      }

-- an entry in sight lies in a table
module _ (w : ℕ) (m : Replica) (t : Store) (wide : Wide w t) (r : Stmt (List ℕ)) (j : ℕ) where
  entry_broad : (f : List ℕ → Stmt (List ℕ)) → ((y : List ℕ) → entry_stated (f y) ≡ Some y) → (cells : Cells) (at : ℕ) → Entries w cells → (b : Bool) → held b (option_map f (get_or cells at None)) ≡ Some r → Broad w r
  entry_broad f entry_of cells at broad b e x h =
      let d = held_found f r b (get_or cells at None) e in
      let same : Some d.part ≡ Some x = sym (entry_of d.part) ∙ ap entry_stated d.makes ∙ h in
      let z : d.part ≡ x = cc in
      sym (ap length z) ∙ broad at d.part d.is

  vote_broad : {A : Type 0} (f : A → Stmt (List ℕ)) → ((y : A) → entry_stated (f y) ≡ None) → (b : Bool) (o : Option A) → held b (option_map f o) ≡ Some r → Broad w r
  vote_broad f none b o e x h =
      let d = held_found f r b o e in
      let clash : None ≡ Some x = sym (none d.part) ∙ ap entry_stated d.makes ∙ h in
      absurd (let z : ◌≡◌ {A = ℕ} 0 1 = cc in omega arith)

  pub broad : (c : Cell) → view m t j c ≡ Some r → Broad w r
  broad (at_send s) e = entry_broad (sends s) (λ y. refl) t.sends _ wide.sends (ltb j m.set.n && ltb s m.set.w) e
  broad (at_echo q s) e = entry_broad (echo q s) (λ y. refl) t.echoes _ wide.echoes (ltb j m.set.n && (ltb q m.set.n && ltb s m.set.w)) e
  broad (at_ready q s) e = entry_broad (ready q s) (λ y. refl) t.readies _ wide.readies (ltb j m.set.n && (ltb q m.set.n && ltb s m.set.w)) e
  broad (at_have q s) e = entry_broad (have q s) (λ y. refl) t.haves _ wide.haves (ltb j m.set.n && (ltb q m.set.n && ltb s m.set.w)) e
  broad (at_value n k v) e = vote_broad (value n k) (λ y. refl) (ltb j m.set.n && (ltb k rounds && (ltb n epochs && eqb n m.epoch))) (value_in v j (get_or m.votes.rounds k no_round).values) e
  broad (at_seen n k) e = vote_broad (seen n k) (λ y. refl) (ltb j m.set.n && (ltb k rounds && (ltb n epochs && eqb n m.epoch))) (bit_of (get_or m.votes.rounds k no_round).seens j) e
  broad (at_confirm n k) e = vote_broad (confirm n k) (λ y. refl) (ltb j m.set.n && (ltb k rounds && (ltb n epochs && eqb n m.epoch))) (set_for (get_or m.votes.rounds k no_round).confirms j) e
  broad (at_finish n) e = vote_broad (finish n) (λ y. refl) true _ e

-- the cell at the place where something stands
pub cell_at : (g : Cell → Option (Stmt (List ℕ))) (cs : List Cell) (i : ℕ) (s : Stmt (List ℕ)) → Some s ≡ get_or (map g cs) i None → (i < length cs) × (g (get_or cs i (cell s)) ≡ Some s)
cell_at g [] i s e = absurd (let z : ◌≡◌ {A = ℕ} 0 1 = cc in omega arith)
cell_at g (c ∷ cs) zero s e = (omega arith, sym e)
cell_at g (c ∷ cs) (suc i) s e = let r = cell_at g cs i s e in (omega (arith, r.0), r.1)

pub place_fits : (w : ℕ) (m : Replica) (t : Store) (i : ℕ) (s : Stmt (List ℕ)) → Wide w t → Some s ≡ get_or (places m t) i None → unfit w (spoken s) ≡ None
unfolding places
place_fits w m t i s wide e = let p = cell_at (view m t m.set.me) (order m) i s e in (stands m s m.set.me t _ p.1).fits w (broad w m t wide s m.set.me _ p.1)

-- a store of entries of one kind
pub store_wide :
    {K : Type 0} (bytes : K → List ℕ) (valid : List ℕ → Bool) (w : ℕ) (tables : Tables K)
    → ((s : List ℕ) → valid s ≡ true → length s ≡ w) → ((k : K) → valid (bytes k) ≡ true) → Wide w (store bytes tables)
store_wide {K} bytes valid w t wide sound =
    let each = λ (k : K). wide (bytes k) (sound k) in
    record {
      sends = entries_wide bytes w each t.sends.cells.now;
      echoes = entries_wide bytes w each t.echoes.cells.now;
      readies = entries_wide bytes w each t.readies.cells.now;
      haves = entries_wide bytes w each t.haves.cells.now;
    }
