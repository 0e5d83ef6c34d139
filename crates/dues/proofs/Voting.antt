-- What the theory's counts and searches of votes are at a replica's view.
use Rattle.std.proofs.Common.{◌≡◌, ℕ, ◌+◌, ◌*◌, ◌-◌, ◌<◌, ◌≤◌, Bool, true, false, not, ◌&&◌, ◌||◌, leb, ◌⊎◌, inl, inr, List, get_or, Some, None, Option, sym, refl, ap, ◌∙◌, ap₂}
use Rattle.std.specs.Option.{option_map, is_some}
use Rattle.std.proofs.lemmas.Bool.{lt-ltb, le-ltb, lt-leb, le-leb, eq-eqb, cases_lt}
use Rattle.common.specs.Limits.{epochs, rounds}
use Rattle.theory.specs.Count.{count}
use Rattle.theory.specs.Statement.{Bits, only, both, Stmt, value, seen, confirm, finish, StmtEq, at_value, at_seen, at_confirm, at_finish}
use Rattle.theory.specs.Plan.{some_honest, most, all_honest}
use Rattle.theory.specs.Search.{bits, guard, unless, bind, absent}
use Rattle.theory.proofs.Searching.{unless_empty, given_full, only_if_true, guard_true}
use Rattle.theory.specs.Turns.{is, same_bit, set_of, tally, many, told, follow, decides, in_values, sees, seen_in, confirms, stands, within, joined, outcome, closes}
use Rattle.votes.specs.declared.ballot.Round.{Round}
use Rattle.votes.specs.declared.bits.Bits as declared
use Rattle.votes.specs.Votes as votes
use Rattle.votes.specs.Sets.{bits_of, bit_in}
use Rattle.votes.specs.Votes.{unmarked, no_round, marks, is_bit, bit_of, is_set, same_set, set_for, among, seen_inside, confirmed_in, union_has}
use Rattle.votes.proofs.Bitwise.{count_same}
use Rattle.votes.proofs.Marking.{marks_none, bit_none, set_none}
use Rattle.replica.specs.declared.state.Replica.{Replica}
use Rattle.replica.specs.Store.{Store}
use Rattle.replica.specs.View.{held, vote_cell, value_in, view, plan, box, bytes_same}
use Rattle.dues.specs.Lowest.{lowest}
use Rattle.dues.specs.Seconds.{second_in}
use Rattle.dues.proofs.Telling.{is_bit_told, is_set_told}
use Rattle.dues.proofs.Finding.{found, chosen, stated, nothing, some_mapped, unless_held, absent_mapped, twice, guard_false, only_if_false, given_none, given_empty, unless_empties, bound, inside, bit_inside, inside_of, enough}

module _ (m : Replica) (t : Store) (week : m.epoch < epochs) where
  finish_view : (j : ℕ) → j < m.set.n → view m t j (at_finish m.epoch) ≡ option_map (finish m.epoch) (bit_of m.votes.finish j)
  finish_view j l = rw (lt-ltb j m.set.n l, lt-ltb m.epoch epochs week, eq-eqb m.epoch m.epoch refl) refl

  tally_finish : (v : Bool) → tally (plan m) (box m t) (finish m.epoch v) ≡ count m.set.n (λ j. is_bit v (bit_of m.votes.finish j))
  tally_finish v = count_same m.set.n _ _ (λ j l. ap (λ o. is (StmtEq bytes_same) o (finish m.epoch v)) (finish_view j l) ∙ is_bit_told (finish m.epoch) (λ u w e. cc) (bit_of m.votes.finish j) v)

  own_finish : view m t m.set.me (at_finish m.epoch) ≡ option_map (finish m.epoch) (bit_of m.votes.finish m.set.me)
  own_finish = finish_view m.set.me m.set.own

  pub follow_stated : is_some (bit_of m.votes.finish m.set.me) ≡ true → None ≡ follow (plan m) (box m t)
  follow_stated e = stated _ _ (ap is_some own_finish ∙ some_mapped (finish m.epoch) (bit_of m.votes.finish m.set.me) ∙ e)

  -- of the bits of the finishes, the lowest that enough have
  module _ (e a b : ℕ) (zeros : a ≡ count m.set.n (λ j. is_bit false (bit_of m.votes.finish j))) (ones : b ≡ count m.set.n (λ j. is_bit true (bit_of m.votes.finish j))) (s : Option Bits) (of : s ≡ set_of (leb e a) (leb e b)) where
    finishes : (k : ℕ) → e ≡ k → s ≡ set_of (many (plan m) (box m t) k (finish m.epoch false)) (many (plan m) (box m t) k (finish m.epoch true))
    finishes k is = of ∙ ap₂ set_of (enough e k a _ is (zeros ∙ sym (tally_finish false))) (enough e k b _ is (ones ∙ sym (tally_finish true)))

    pub decided_is : e ≡ 2 * m.set.f + 1 → lowest s ≡ decides (plan m) (box m t)
    decided_is is = same (lowest s) ∙ found (λ v. v) (λ v. many (plan m) (box m t) (most (plan m)) (finish m.epoch v)) s (finishes (most (plan m)) is)
      where
        same : (o : Option Bool) → o ≡ option_map (λ v. v) o
        same None = refl
        same (Some v) = refl

    pub follow_is : e ≡ m.set.f + 1 → is_some (bit_of m.votes.finish m.set.me) ≡ false → option_map (finish m.epoch) (lowest s) ≡ follow (plan m) (box m t)
    follow_is is free = chosen _ (finish m.epoch) (λ v. many (plan m) (box m t) (some_honest (plan m)) (finish m.epoch v)) s (own_finish ∙ ap (option_map (finish m.epoch)) (nothing _ free)) (finishes (some_honest (plan m)) is)

-- the votes of a round, behind the last of which there are none
module _ (m : Replica) (t : Store) (week : m.epoch < epochs) (k : ℕ) (p : Round) (at_k : p ≡ get_or m.votes.rounds k no_round) (past : rounds ≤ k → p ≡ no_round) where
  vote_view : {A : Type 0} (read : Round → Option A) → read no_round ≡ None → (st : A → Stmt (List ℕ)) (j : ℕ) → j < m.set.n → vote_cell m read st m.epoch k j ≡ option_map st (read p)
  vote_view read none st j l = at (cases_lt k rounds)
    where
      at : (k < rounds) ⊎ (rounds ≤ k) → vote_cell m read st m.epoch k j ≡ option_map st (read p)
      at (inl h) = rw (lt-ltb j m.set.n l, lt-ltb k rounds h, lt-ltb m.epoch epochs week, eq-eqb m.epoch m.epoch refl, at_k) refl
      at (inr h) = rw (lt-ltb j m.set.n l, le-ltb k rounds h, past h, none) refl

  own_value : (v : Bool) → view m t m.set.me (at_value m.epoch k v) ≡ option_map (value m.epoch k) (held (marks p.values v m.set.me) (Some v))
  own_value v = vote_view (λ r. value_in v m.set.me r.values) (ap (λ b. held b (Some v)) (marks_none v m.set.me)) (value m.epoch k) m.set.me m.set.own

  own_seen : view m t m.set.me (at_seen m.epoch k) ≡ option_map (seen m.epoch k) (bit_of p.seens m.set.me)
  own_seen = vote_view (λ r. bit_of r.seens m.set.me) (bit_none m.set.me) (seen m.epoch k) m.set.me m.set.own

  value_told : (j : ℕ) (v : Bool) → j < m.set.n → told (plan m) (box m t) j (value m.epoch k v) ≡ marks p.values v j
  value_told j v l = ap (λ o. is (StmtEq bytes_same) o (value m.epoch k v)) (vote_view (λ r. value_in v j r.values) (ap (λ b. held b (Some v)) (marks_none v j)) (value m.epoch k) j l) ∙ at (marks p.values v j)
    where
      at : (b : Bool) → is (StmtEq bytes_same) (option_map (value m.epoch k) (held b (Some v))) (value m.epoch k v) ≡ b
      at true = is_bit_told (value m.epoch k) (λ u w e. cc) (Some v) v ∙ same v
        where
          same : (u : Bool) → same_bit u u ≡ true
          same true = refl
          same false = refl
      at false = refl

  seen_told : (j : ℕ) (v : Bool) → j < m.set.n → told (plan m) (box m t) j (seen m.epoch k v) ≡ is_bit v (bit_of p.seens j)
  seen_told j v l = ap (λ o. is (StmtEq bytes_same) o (seen m.epoch k v)) (vote_view (λ r. bit_of r.seens j) (bit_none j) (seen m.epoch k) j l) ∙ is_bit_told (seen m.epoch k) (λ u w e. cc) (bit_of p.seens j) v

  tally_value : (v : Bool) → tally (plan m) (box m t) (value m.epoch k v) ≡ count m.set.n (marks p.values v)
  tally_value v = count_same m.set.n _ _ (λ j l. value_told j v l)

  -- of the bits of the values, those that enough have
  module _ (e a b : ℕ) (zeros : a ≡ count m.set.n (marks p.values false)) (ones : b ≡ count m.set.n (marks p.values true)) where
    pub values_is : e ≡ 2 * m.set.f + 1 → set_of (leb e a) (leb e b) ≡ set_of (in_values (plan m) (box m t) k false) (in_values (plan m) (box m t) k true)
    values_is is = ap₂ set_of (enough e _ a _ is (zeros ∙ sym (tally_value false))) (enough e _ b _ is (ones ∙ sym (tally_value true)))

  -- turn 7 in this round
  abbrev pub wanted : Bool → Bool
  wanted v = not (marks p.values v m.set.me) && leb (m.set.f + 1) (count m.set.n (marks p.values v))

  wanted_is : (v : Bool) → ◌≡◌ {A = Option (Stmt (List ℕ))} (guard (wanted v) (value m.epoch k v)) (unless (view m t m.set.me (at_value m.epoch k v)) (guard (many (plan m) (box m t) (some_honest (plan m)) (value m.epoch k v)) (value m.epoch k v)))
  wanted_is v =
      sym ((λ i. unless (own_value v i) (guard (leb (m.set.f + 1) (tally_value v i)) (value m.epoch k v))) ∙ unless_held (value m.epoch k) v (value m.epoch k v) (marks p.values v m.set.me) (leb (m.set.f + 1) (count m.set.n (marks p.values v))))

  pub second_is : (z o : Bool) (s : Option Bits) → z ≡ wanted false → o ≡ wanted true → s ≡ set_of z o → option_map (value m.epoch k) (lowest s) ≡ second_in (plan m) (box m t) k
  second_is z o s e h of = found (value m.epoch k) wanted s (of ∙ ap₂ set_of e h) ∙ (λ i. bits (λ v. wanted_is v i))

  -- turn 8
  pub seen_stated : is_some (bit_of p.seens m.set.me) ≡ true → None ≡ sees (plan m) (box m t) k
  seen_stated e = stated _ _ (ap is_some own_seen ∙ some_mapped (seen m.epoch k) (bit_of p.seens m.set.me) ∙ e)

  pub seen_is : is_some (bit_of p.seens m.set.me) ≡ false → (s : Option Bits) → s ≡ set_of (in_values (plan m) (box m t) k false) (in_values (plan m) (box m t) k true) → option_map (seen m.epoch k) (lowest s) ≡ sees (plan m) (box m t) k
  seen_is free s of = chosen _ (seen m.epoch k) (in_values (plan m) (box m t) k) s (own_seen ∙ ap (option_map (seen m.epoch k)) (nothing _ free)) of

  own_confirm : view m t m.set.me (at_confirm m.epoch k) ≡ option_map (confirm m.epoch k) (set_for p.confirms m.set.me)
  own_confirm = vote_view (λ r. set_for r.confirms m.set.me) (set_none m.set.me) (confirm m.epoch k) m.set.me m.set.own

  -- turn 9
  pub confirm_unseen : bit_of p.seens m.set.me ≡ None → None ≡ confirms (plan m) (box m t) k
  confirm_unseen e = sym (given_empty _ _ (own_seen ∙ ap (option_map (seen m.epoch k)) e))

  pub confirm_stated : is_some (set_for p.confirms m.set.me) ≡ true → None ≡ confirms (plan m) (box m t) k
  confirm_stated e = sym (given_none _ _ (sym (stated _ _ (ap is_some own_confirm ∙ some_mapped (confirm m.epoch k) (set_for p.confirms m.set.me) ∙ e))))

  confirm_told : (j : ℕ) (u : Bits) → j < m.set.n → told (plan m) (box m t) j (confirm m.epoch k u) ≡ is_set u (set_for p.confirms j)
  confirm_told j u l = ap (λ o. is (StmtEq bytes_same) o (confirm m.epoch k u)) (vote_view (λ r. set_for r.confirms j) (set_none j) (confirm m.epoch k) j l) ∙ is_set_told (confirm m.epoch k) (λ x y e. cc) (set_for p.confirms j) u

  -- turn 10, where no set is confirmed
  pub close_unstated : (coin : ℕ → ℕ → Bool) → set_for p.confirms m.set.me ≡ None → None ≡ closes (plan m) (box m t) coin k
  close_unstated coin e = sym (given_empty _ _ (own_confirm ∙ ap (option_map (confirm m.epoch k)) e))

  -- the values of the round, as they were found
  module _ (s : Option declared.Bits) (of : option_map bits_of s ≡ set_of (in_values (plan m) (box m t) k false) (in_values (plan m) (box m t) k true)) where
    inner : (v : Bool) → in_values (plan m) (box m t) k v ≡ bit_in s v
    inner v = sym (bit_inside s v ∙ ap (λ o. inside o v) of ∙ inside_of (in_values (plan m) (box m t) k) v)

    seen_count : count m.set.n (seen_in (plan m) (box m t) k) ≡ count m.set.n (seen_inside p.seens (bit_in s false) (bit_in s true))
    seen_count = count_same m.set.n _ _ (λ j l. λ i. (inner false i && seen_told j false l i) || (inner true i && seen_told j true l i))

    -- enough have seen a bit in the values, or too few
    module _ (e a : ℕ) (is : e ≡ m.set.n - m.set.f) (many : a ≡ count m.set.n (seen_inside p.seens (bit_in s false) (bit_in s true))) where
      seen_test : leb e a ≡ leb (all_honest (plan m)) (count m.set.n (seen_in (plan m) (box m t) k))
      seen_test = enough e _ a _ is (many ∙ sym seen_count)

      pub confirm_few : a < e → None ≡ confirms (plan m) (box m t) k
      confirm_few l = sym (given_none _ _ (unless_empties _ _ (only_if_false _ _ (sym seen_test ∙ lt-leb e a l))))

      pub confirm_is : (u : Bool) → bit_of p.seens m.set.me ≡ Some u → is_some (set_for p.confirms m.set.me) ≡ false → e ≤ a → option_map (λ u. confirm m.epoch k (bits_of u)) s ≡ confirms (plan m) (box m t) k
      confirm_is u seen_one free l =
          sym (
          given_full _ _ (seen m.epoch k u) (own_seen ∙ ap (option_map (seen m.epoch k)) seen_one)
          ∙ unless_empty _ _ (own_confirm ∙ ap (option_map (confirm m.epoch k)) (nothing _ free))
          ∙ only_if_true _ _ (sym seen_test ∙ le-leb e a l)
          ∙ ap (λ o. bind o (λ u. Some (confirm m.epoch k u))) (sym of)
          ∙ bound (confirm m.epoch k) s
          )

    -- turn 10
    stands_at : (j : ℕ) (u : Bits) → j < m.set.n → stands (plan m) (box m t) k u j ≡ votes.stands p.confirms (bit_in s false) (bit_in s true) u j
    stands_at j (only true) l = λ i. inner true i && confirm_told j (only true) l i
    stands_at j (only false) l = λ i. inner false i && confirm_told j (only false) l i
    stands_at j both l = λ i. (inner false i && inner true i) && confirm_told j both l i

    within_count : count m.set.n (within (plan m) (box m t) k) ≡ count m.set.n (confirmed_in p.confirms (bit_in s false) (bit_in s true))
    within_count = count_same m.set.n _ _ (λ j l. λ i. (stands_at j (only false) l i || stands_at j (only true) l i) || stands_at j both l i)

    joined_is : (v : Bool) → joined (plan m) (box m t) k v ≡ union_has p.confirms (bit_in s false) (bit_in s true) m.set.n v
    joined_is v = ap (leb 1) (count_same m.set.n _ _ (λ j l. λ i. stands_at j (only v) l i || stands_at j both l i))

    module _ (coin : ℕ → ℕ → Bool) where
      module _ (e a : ℕ) (is : e ≡ m.set.n - m.set.f) (many : a ≡ count m.set.n (confirmed_in p.confirms (bit_in s false) (bit_in s true))) where
        close_test : leb e a ≡ leb (all_honest (plan m)) (count m.set.n (within (plan m) (box m t) k))
        close_test = enough e _ a _ is (many ∙ sym within_count)

        pub close_few : a < e → None ≡ closes (plan m) (box m t) coin k
        close_few l = sym (given_none _ _ (guard_false _ _ (sym close_test ∙ lt-leb e a l)))

        pub close_is : (u : Bits) → set_for p.confirms m.set.me ≡ Some u → e ≤ a → (o : Option Bits) → o ≡ set_of (union_has p.confirms (bit_in s false) (bit_in s true) m.set.n false) (union_has p.confirms (bit_in s false) (bit_in s true) m.set.n true)
            → (free : Bool) → is_some (bit_of m.votes.finish m.set.me) ≡ not free → (toss : Bool) → toss ≡ coin m.epoch k → Some (outcome o toss free) ≡ closes (plan m) (box m t) coin k
        close_is u one l o union free unsaid toss tossed =
            sym (
            given_full _ _ (confirm m.epoch k u) (own_confirm ∙ ap (option_map (confirm m.epoch k)) one)
            ∙ guard_true _ _ (sym close_test ∙ le-leb e a l)
            ∙ (λ i. Some (outcome (set_of (joined_is false i) (joined_is true i)) (coin m.epoch k) (absent {A = Stmt (List ℕ)} (own_finish m t week i))))
            ∙ (λ i. Some (outcome (sym union i) (sym tossed i) (absent_mapped {B = Stmt (List ℕ)} (finish m.epoch) (bit_of m.votes.finish m.set.me) i)))
            ∙ ap (λ b. Some (outcome o toss b)) (ap not unsaid ∙ twice free)
            )
