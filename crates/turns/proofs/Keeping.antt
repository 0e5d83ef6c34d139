-- Each small step on a whole replica is the theory's, and leaves a whole replica.
use Rattle.std.proofs.Common.{◌≡◌, ℕ, zero, suc, ◌+◌, ◌*◌, ◌<◌, ◌≤◌, Bool, ◌⊎◌, List, [], ◌∷◌, ◌++◌, length, get_or, take, set, Some, sym, refl, ap, ◌∙◌, subst, inl, inr, arith, length-append, get_or-set_other, get_or-set_same}
use Rattle.std.proofs.Math.Nat.{min-eq_left, mul-le-mul}
use Rattle.std.proofs.lemmas.List.{length-set}
use Rattle.std.proofs.lemmas.Bool.{cases_eq}
use Rattle.common.specs.Limits.{epochs, rounds}
use Rattle.theory.specs.Statement.{Stmt, sends, echo, ready, have, value, seen, confirm, finish}
use Rattle.theory.specs.Book.{Page}
use Rattle.replica.specs.declared.state.Replica.{Replica}
use Rattle.replica.specs.declared.state.Stage as declared
use Rattle.replica.specs.declared.state.Stage.TheVariants.{Open}
use Rattle.replica.specs.Store.{Store, fits}
use Rattle.replica.specs.View.{leading, book_of}
use Rattle.replica.specs.Holding.{Sized, with_votes, held_of}
use Rattle.replica.proofs.Putting.{lengths, sized_held}
use Rattle.turns.specs.Stepping.{one_more, with_stage, left_of, filed_of}
use Rattle.turns.specs.Ties.{total, Whole}
use Rattle.turns.proofs.Leaving.{lead_more}

-- the sum of the heads, where one moves up
total_out : (n : ℕ) (heads : List ℕ) (q v : ℕ) → n ≤ q → total n (set heads q v) ≡ total n heads
total_out zero heads q v l = refl
total_out (suc n) heads q v l = omega (arith, get_or-set_other heads q n v 0 (λ e. omega arith), total_out n heads q v (omega arith))

total_set : (n : ℕ) (heads : List ℕ) (q v : ℕ) → q < n → q < length heads → total n (set heads q v) + get_or heads q 0 ≡ total n heads + v
total_set zero heads q v l k = absurd (omega arith)
total_set (suc n) heads q v l k = at (cases_eq q n) (total_set n heads q v)
  where
    at : (q ≡ n) ⊎ (q ≡ n → ⊥) → (q < n → q < length heads → total n (set heads q v) + get_or heads q 0 ≡ total n heads + v) → total (suc n) (set heads q v) + get_or heads q 0 ≡ total (suc n) heads + v
    at (inl e) ih = rw e (omega (arith, get_or-set_same heads n v 0 (omega arith), total_out n heads n v (omega arith)))
    at (inr ne) ih = omega (arith, get_or-set_other heads q n v 0 (λ e. ne (sym e)), ih (omega arith) k)

-- so it is at most N × W, and less while a head is below W
total_most : (n w : ℕ) (heads : List ℕ) → ((q : ℕ) → get_or heads q 0 ≤ w) → total n heads ≤ n * w
total_most zero w heads low = omega arith
total_most (suc n) w heads low = omega (arith, low n, total_most n w heads low)

total_less : (n w : ℕ) (heads : List ℕ) → ((q : ℕ) → get_or heads q 0 ≤ w) → (q : ℕ) → q < n → get_or heads q 0 < w → total n heads < n * w
total_less zero w heads low q l k = absurd (omega arith)
total_less (suc n) w heads low q l k = at (cases_eq q n) (total_less n w heads low q)
  where
    at : (q ≡ n) ⊎ (q ≡ n → ⊥) → (q < n → get_or heads q 0 < w → total n heads < n * w) → total (suc n) heads < suc n * w
    at (inl e) ih = omega (arith, total_most n w heads low, rw e at k)
    at (inr ne) ih = omega (arith, low n, ih (omega arith) k)

module _ (m : Replica) (t : Store) where
  -- a statement is held in the votes or in the tables of entries, and nothing else is altered
  pub held_rest : (j : ℕ) (st : Stmt (List ℕ)) → ((held_of m t j st).0 ≡ with_votes m (held_of m t j st).0.votes) × ((held_of m t j st).1.pages ≡ t.pages) × (fits m.set.n m.set.w (held_of m t j st).1 ≡ fits m.set.n m.set.w t)
  held_rest j (sends s x) = (refl, refl, simp length-set)
  held_rest j (echo q s x) = (refl, refl, simp length-set)
  held_rest j (ready q s x) = (refl, refl, simp length-set)
  held_rest j (have q s x) = (refl, refl, simp length-set)
  held_rest j (value e k v) = (refl, refl, refl)
  held_rest j (seen e k v) = (refl, refl, refl)
  held_rest j (confirm e k u) = (refl, refl, refl)
  held_rest j (finish e v) = (refl, refl, refl)

  -- a page that moves the head of its queue up
  pub record Next (p : Page (List ℕ)) : Type 0 where
    pub queue : p.queue < m.set.n
    pub above : get_or m.heads p.queue 0 ≤ p.slot
    pub below : p.slot < m.set.w

  module _ (W : Whole m t) where
    pub held_whole : (j : ℕ) (st : Stmt (List ℕ)) → Whole (held_of m t j st).0 (held_of m t j st).1
    held_whole j st =
        let r = held_rest j st in
        let v = (held_of m t j st).0.votes in
        subst (λ (k : Replica). Whole k (held_of m t j st).1) (sym r.0) (record {
          sized = subst Sized r.0 (sized_held m t j st W.sized);
          past = W.past;
          heads = W.heads;
          lent = r.2 ∙ W.lent;
          week = W.week;
          round = W.round;
          filled = ap (λ ps. length (leading (take m.pages ps))) r.1 ∙ W.filled;
          low = W.low;
          room = W.room;
        })

    pub stage_whole : (g : declared.Stage) → ((r : ℕ) (d : Bool) → g ≡ Open r d → r < rounds) → Whole (with_stage m g) t
    stage_whole g h = record { sized = record { long = W.sized.long }; past = W.past; heads = W.heads; lent = W.lent; week = W.week; round = h; filled = W.filled; low = W.low; room = W.room }

    pub left_whole : m.epoch < epochs → Whole (left_of m) t
    left_whole l = record {
      sized = record { long = refl };
      past = length-set m.past m.epoch _ ∙ W.past;
      heads = W.heads;
      lent = W.lent;
      week = omega arith;
      round = λ r d e. absurd (let z : ◌≡◌ {A = ℕ} 0 1 = cc in omega arith);
      filled = W.filled;
      low = W.low;
      room = W.room;
    }

    module _ (p : Page (List ℕ)) (x : Next p) where
      pub in_heads : p.queue < length m.heads
      in_heads = omega (arith, W.heads, x.queue, m.set.most)

      free_cell : m.pages < length t.pages
      free_cell = omega (arith, W.room, total_less m.set.n m.set.w m.heads W.low p.queue x.queue (omega (arith, x.above, x.below)), (lengths m.set.n m.set.w t W.lent).pages)

      -- the count does not stop here
      counted : one_more m.pages ≡ m.pages + 1
      counted = min-eq_left (omega (arith, W.room, total_most m.set.n m.set.w m.heads W.low, size))
        where
          size : m.set.n * m.set.w ≤ 256
          size = mul-le-mul m.set.most m.set.slots

      pub book_more : book_of (filed_of (Some p) m t).0 (filed_of (Some p) m t).1 ≡ book_of m t ++ (p ∷ [])
      book_more = ap (λ k. leading (take k (set t.pages m.pages (Some p)))) counted ∙ lead_more t.pages m.pages p W.filled free_cell

      pub page_whole : Whole (filed_of (Some p) m t).0 (filed_of (Some p) m t).1
      page_whole = record {
        sized = record { long = W.sized.long };
        past = W.past;
        heads = length-set m.heads p.queue _ ∙ W.heads;
        lent = simp length-set W.lent;
        week = W.week;
        round = W.round;
        filled = ap length book_more ∙ length-append (book_of m t) (p ∷ []) ∙ ap (λ k. k + 1) W.filled ∙ sym counted;
        low = λ q. at q (cases_eq q p.queue);
        room = omega (arith, counted, W.room, x.above, total_set m.set.n m.heads p.queue (p.slot + 1) x.queue in_heads);
      }
        where
          at : (q : ℕ) → (q ≡ p.queue) ⊎ (q ≡ p.queue → ⊥) → get_or (set m.heads p.queue (p.slot + 1)) q 0 ≤ m.set.w
          at q (inl e) = omega (arith, ap (λ i. get_or (set m.heads p.queue (p.slot + 1)) i 0) e, get_or-set_same m.heads p.queue (p.slot + 1) 0 in_heads, x.below)
          at q (inr n) = omega (arith, get_or-set_other m.heads p.queue q (p.slot + 1) 0 n, W.low q)
