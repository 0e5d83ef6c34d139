-- A replica as make leaves it is the theory's box as it begins.
use Rattle.std.proofs.Common.{◌≡◌, ℕ, zero, suc, ◌*◌, Bool, true, false, cond, ◌&&◌, ◌||◌, eqb, ltb, leb, List, length, get_or, take, replicate, Some, None, Ok, Err, Option, Result, sym, refl, ap, ◌∙◌, subst, arith}
use Rattle.std.specs.Option.{option_map}
use Rattle.std.proofs.lemmas.Bool.{ltb-true, and_parts}
use Rattle.std.proofs.lemmas.Nat.{mul-add-lt}
use Rattle.common.specs.Limits.{least_replicas, most_replicas, most_slots, epochs, rounds}
use Rattle.common.specs.Quorums.{faults, echoes}
use Rattle.theory.specs.Statement.{Stmt, sends, echo, ready, have, value, seen, confirm, finish, Cell, at_send, at_echo, at_ready, at_have, at_value, at_seen, at_confirm, at_finish}
use Rattle.theory.specs.Machine.{made}
use Rattle.votes.specs.declared.ballot.Round.{Round}
use Rattle.votes.specs.Votes.{no_round, bit_of, set_for as markedSet}
use Rattle.votes.proofs.Marking.{marks_none, bit_none, set_none}
use Rattle.cells.specs.declared.grid.Grid.{Grid}
use Rattle.cells.specs.Rows.{Cells, slot_of, place_of}
use Rattle.cells.proofs.Cellrows.{place_within}
use Rattle.replica.specs.declared.state.Replica.{Replica}
use Rattle.replica.specs.Store.{Store, Empty, Wiped}
use Rattle.replica.specs.Making.{Numbers, Plain, plain, fresh, set_for, Begins}
use Rattle.replica.specs.View.{held, row_cell, vote_cell, value_in, stage_of, leading, view, box}
use Rattle.replica.specs.Holding.{Sized}

pub held_none : {A : Type 0} (b : Bool) (o : Option A) → (b ≡ true → o ≡ None) → held b o ≡ None
held_none true o h = h refl
held_none false o h = refl

pub cond_none : {A : Type 0} (b : Bool) (x y : Option A) → x ≡ None → y ≡ None → cond b x y ≡ None
cond_none true x y e h = e
cond_none false x y e h = h

pub all_same : {A : Type 0} (n : ℕ) (x : A) (k : ℕ) → get_or (replicate n x) k x ≡ x
all_same zero x k = refl
all_same (suc n) x zero = refl
all_same (suc n) x (suc k) = all_same n x k

row_none : (n w : ℕ) (before cells : Cells) → Empty (n * w * n) before cells → (st : List ℕ → Stmt (List ℕ)) (q s j : ℕ) → row_cell n w cells st q s j ≡ None
row_none n w before cells empty st q s j = held_none _ _ (λ g.
    let p = and_parts (ltb j n) _ g in let r = and_parts (ltb q n) _ p.1 in
    ap (option_map st) (empty.empty (place_of n w q s j) (place_within n w q s j (ltb-true q n r.0) (ltb-true s w r.1) (ltb-true j n p.0))))

-- no votes are held where nothing is marked
pub vote_none : {A : Type 0} (m : Replica) → m.votes.rounds ≡ replicate rounds no_round → (read : Round → Option A) → read no_round ≡ None → (st : A → Stmt (List ℕ)) (e k j : ℕ) → vote_cell m read st e k j ≡ None
vote_none m t read none st e k j = held_none _ _ (λ g. ap (option_map st) (ap read (ap (λ x. get_or x k no_round) t ∙ all_same rounds no_round k) ∙ none))

module _ (m : Replica) (s : Numbers) (is : plain m ≡ fresh s) where
  pub sized : Sized m
  sized = record { long = ap (λ (p : Plain). length p.votes.rounds) is }

  module _ (before t : Store) (wiped : Wiped m.set.n m.set.w before t) where
    view_none : (j : ℕ) (c : Cell) → view m t j c ≡ None
    view_none j (at_send b) = held_none _ _ (λ g.
        let p = and_parts (ltb j m.set.n) _ g in
        ap (option_map (sends b)) (wiped.sends.empty (slot_of m.set.w j b) (omega (arith, mul-add-lt j m.set.w b m.set.n (ltb-true j _ p.0) (ltb-true b _ p.1)))))
    view_none j (at_echo q b) = row_none m.set.n m.set.w before.echoes t.echoes wiped.echoes (echo q b) q b j
    view_none j (at_ready q b) = row_none m.set.n m.set.w before.readies t.readies wiped.readies (ready q b) q b j
    view_none j (at_have q b) = row_none m.set.n m.set.w before.haves t.haves wiped.haves (have q b) q b j
    view_none j (at_value e k v) = vote_none m (ap (λ (p : Plain). p.votes.rounds) is) (λ r. value_in v j r.values) (ap (λ b. held b (Some v)) (marks_none v j)) (value e k) e k j
    view_none j (at_seen e k) = vote_none m (ap (λ (p : Plain). p.votes.rounds) is) (λ r. bit_of r.seens j) (bit_none j) (seen e k) e k j
    view_none j (at_confirm e k) = vote_none m (ap (λ (p : Plain). p.votes.rounds) is) (λ r. markedSet r.confirms j) (set_none j) (confirm e k) e k j
    view_none j (at_finish e) =
        let past : held (eqb j m.set.me && ltb e m.epoch) (get_or m.past e None) ≡ None = held_none _ (get_or m.past e None) (λ h. ap (λ (p : Plain). get_or p.past e None) is ∙ all_same epochs None e) in
        let now : bit_of m.votes.finish j ≡ None = ap (λ (p : Plain). bit_of p.votes.finish j) is ∙ bit_none j in
        ap (option_map (finish e)) (held_none (ltb j m.set.n && ltb e epochs) _ (λ g. cond_none (eqb e m.epoch) _ _ now past))

    heads : (q : ℕ) → get_or m.heads q 0 ≡ 0
    heads q = ap (λ (p : Plain). get_or p.heads q 0) is ∙ all_same most_replicas 0 q

    pub begins : box m t ≡ made m.set.me
    begins = λ z. record {
      me = m.set.me;
      epoch = (is z).epoch;
      stage = stage_of (is z).stage;
      mem = λ j c. view_none j c z;
      ledger = record { book = leading (take (is z).pages t.pages); heads = λ q. heads q z };
    }

-- the numbers of a set that was accepted
pub accepted_numbers : (n me w : ℕ) (s : Numbers) → Ok s ≡ set_for n me w → s ≡ record { n = n; w = w; f = faults n; q = echoes n; me = me }
accepted_numbers n me w s h = at (ltb n least_replicas || ltb most_replicas n) (leb n me) (ltb w 1 || ltb most_slots w) h
  where
    at : (a b c : Bool) → ◌≡◌ {A = Result Numbers ℕ} (Ok s) (cond a (Err 1) (cond b (Err 2) (cond c (Err 3) (Ok (record { n = n; w = w; f = faults n; q = echoes n; me = me }))))) → s ≡ record { n = n; w = w; f = faults n; q = echoes n; me = me }
    at true b c e = absurd (let z : ◌≡◌ {A = ℕ} 0 1 = cc in omega arith)
    at false true c e = absurd (let z : ◌≡◌ {A = ℕ} 0 1 = cc in omega arith)
    at false false true e = absurd (let z : ◌≡◌ {A = ℕ} 0 1 = cc in omega arith)
    at false false false e = cc

-- and the grid that such a set goes by
pub accepted_grid : (n me w : ℕ) (s : Numbers) → Ok s ≡ set_for n me w → (g : Grid) → g ≡ record { n = s.n; w = s.w } → g ≡ record { n = n; w = w }
accepted_grid n me w s h g e = e ∙ ap (λ (x : Numbers). record { n = x.n; w = x.w }) (accepted_numbers n me w s h)

pub fresh_begins : (m : Replica) (n me w : ℕ) (s : Numbers) (before t : Store) → plain m ≡ fresh s → Ok s ≡ set_for n me w → Wiped n w before t → Begins me m t
fresh_begins m n me w s before t is h wiped =
    let k = ap (λ (p : Plain). p.set) is ∙ accepted_numbers n me w s h in
    let en : m.set.n ≡ n = ap (λ (x : Numbers). x.n) k in
    let ew : m.set.w ≡ w = ap (λ (x : Numbers). x.w) k in
    let em : m.set.me ≡ me = ap (λ (x : Numbers). x.me) k in
    (begins m s is before t (subst (λ (a : ℕ). Wiped a m.set.w before t) (sym en) (subst (λ (b : ℕ). Wiped n b before t) (sym ew) wiped)) ∙ ap made em, sized m s is)
