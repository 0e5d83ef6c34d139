-- Laws of searches, put together as the searches are.
use Rattle.std.proofs.Common.{◌≡◌, ℕ, ◌<◌, Bool, true, false, ◌⊎◌, Some, None, Option, sym, refl, ◌∙◌, inl, inr, ⊎_elim, arith}
use Rattle.theory.specs.Search.{or_else, first, bits, guard, unless}
use Rattle.theory.specs.Laws.{Iff, Never, BitFirst, LowFirst, First, Law}
use Rattle.theory.proofs.Books.{none≢some}
use Rattle.theory.proofs.Searching.{cases_option, or_else_some, or_else_none, or_else_left, or_else_right, first_none, first_some, first_hit, guard_some, guard_true, bits_none, bits_some, bits_hit, unless_some, unless_none, unless_empty}

module _ {I A : Type 0} where
  -- what finds all that there is rests only if there is nothing
  pub law : {o : Option A} {Before : I → I → Type 0} {says : I → A} {Rule : I → Type 0} → ((a : A) → o ≡ Some a → (i : I) × (a ≡ says i) × First Before Rule i) → ((i : I) → First Before Rule i → o ≡ Some (says i)) → (o ≡ None → (i : I) → Rule i → ⊥) → Law o Before says Rule
  law {o} f g h = record { sound = f; whole = g; none = h; rests = λ n. ⊎_elim (λ e. e) (λ a. let i = f a.0 a.1 in absurd (n i.0 i.2.0)) (cases_option o) }

  -- a rule in other words
  pub law_like : {o : Option A} {Before : I → I → Type 0} {says : I → A} {Rule Like : I → Type 0} → ((i : I) → Iff (Rule i) (Like i)) → Law o Before says Rule → Law o Before says Like
  law_like {o} {Before} {says} {Rule} {Like} f l = law
      (λ a e. let i = l.sound a e in (i.0, i.1, ((f i.0).0 i.2.0, λ j b r. i.2.1 j b ((f j).1 r))))
      (λ i r. l.whole i ((f i).1 r.0, λ j b k. r.1 j b ((f j).0 k)))
      (λ e i r. l.none e i ((f i).1 r))

module _ {I A : Type 0} where
  -- lowest number first
  pub law_first : {Before : I → I → Type 0} {says : ℕ → I → A} {Rule : ℕ → I → Type 0} (n : ℕ) (g : ℕ → Option A) → ((k : ℕ) → Law (g k) Before (says k) (Rule k)) → Law {I = ℕ × I} (first n g) (LowFirst Before) (λ i. says i.0 i.1) (λ i. (i.0 < n) × Rule i.0 i.1)
  law_first {Before} {says} {Rule} n g l = law {o = first n g} {Before = LowFirst Before}
      (λ a e. let k = first_some n g a e in
      let i = (l k.0).sound a k.2.0 in (
        (k.0, i.0),
        i.1,
        (
          (k.1, i.2.0),
          λ j b r. ⊎_elim
              (λ less. (l j.0).none (k.2.1 j.0 less) j.1 r.1)
              (λ same. i.2.1 j.1 same.1 (rw same.0 at r.1)) b,
        ),
      ))
      (λ i r. first_hit n g (says i.0 i.1) i.0 r.0.0 (
        (l i.0).whole i.1 (r.0.1, λ j b k. r.1 (i.0, j) (inr (refl, b)) (r.0.0, k)),
        λ j less. (l j).rests (λ c k. r.1 (j, c) (inl less) (omega (arith, less, r.0.0), k)),
      ))
      (λ e i r. (l i.0).none (first_none n g e i.0 r.0) i.1 r.1)

-- o answers a exactly if φ, and nothing else
pub record Tells {A : Type 0} (o : Option A) (a : A) (φ : Type 0) : Type 0 where
  pub so : φ → o ≡ Some a
  pub why : (c : A) → o ≡ Some c → (c ≡ a) × φ

module _ {A : Type 0} where
  pub tells_guard : {v : Bool} {φ : Type 0} (a : A) → Iff (v ≡ true) φ → Tells (guard v a) a φ
  tells_guard {v} a f = record { so = λ p. guard_true v a (f.1 p); why = λ c e. let g = guard_some v a c e in (sym g.1, f.0 g.0) }

  pub tells_unless : {X : Type 0} {c : Option X} {o : Option A} {a : A} {U φ : Type 0} → Iff (c ≡ None) U → Tells o a φ → Tells (unless c o) a (U × φ)
  tells_unless {c} {o} f t = record {
    so = λ p. unless_empty c o (f.1 p.0) ∙ t.so p.1;
    why = λ d e. let u = unless_some c o d e in let w = t.why d u.1 in (w.0, (f.0 u.0, w.1));
  }

  tells_none : {o : Option A} {a : A} {φ : Type 0} → Tells o a φ → (φ → ⊥) → o ≡ None
  tells_none {o} t n = ⊎_elim (λ e. e) (λ c. absurd (n (t.why c.0 c.1).1)) (cases_option o)

  -- bit 0 first
  pub law_bits : {says : Bool → A} {Rule : Bool → Type 0} (g : Bool → Option A) → ((v : Bool) → Tells (g v) (says v) (Rule v)) → Law (bits g) BitFirst says Rule
  law_bits {says} {Rule} g t = law {o = bits g} {Before = BitFirst}
      (λ a e. let v = bits_some g a e in
      let w = (t v.0).why a v.1.0 in
      (v.0, w.0, (w.1, λ j b r. none≢some (sym (v.1.1 b.1) ∙ rw b.0 at ((t j).so r)))))
      (λ v r. bits_hit g (says v) v ((t v).so r.0, λ e. tells_none (t false) (λ z. r.1 false (refl, e) z)))
      (λ e v r. none≢some (sym (bits_none g e v) ∙ (t v).so r))

  pub law_unless : {I X : Type 0} {Before : I → I → Type 0} {says : I → A} {Rule : I → Type 0} {c : Option X} {o : Option A} {U : Type 0} → Iff (c ≡ None) U → Law o Before says Rule → Law (unless c o) Before says (λ i. U × Rule i)
  law_unless {c} {o} f l = law
      (λ a e. let u = unless_some c o a e in
      let i = l.sound a u.1 in
      (i.0, i.1, ((f.0 u.0, i.2.0), λ j b r. i.2.1 j b r.1)))
      (λ i r. unless_empty c o (f.1 r.0.0) ∙ l.whole i (r.0.1, λ j b k. r.1 j b (r.0.0, k)))
      (λ e i r. ⊎_elim (λ u. none≢some (sym (f.1 r.0) ∙ u.1)) (λ n. l.none n i r.1) (unless_none c o e))

  -- the one, else the other, of which there is one at most
  pub law_else : {I : Type 0} {says : I → A} {Rule Also : I → Type 0} {o u : Option A} → Law o Never says Rule → Law u Never says Also → Law (or_else o u) Never says (λ i. Rule i ⊎ (((j : I) → Rule j → ⊥) × Also i))
  law_else {I} {says} {Rule} {Also} {o} {u} l m = law
      (λ a e. ⊎_elim
      (λ s. let i = l.sound a s in (i.0, i.1, (inl i.2.0, λ j b. absurd b)))
      (λ s. let i = m.sound a s.1 in (i.0, i.1, (inr (l.none s.0, i.2.0), λ j b. absurd b)))
      (or_else_some o u a e))
      (λ i r. ⊎_elim
      (λ k. or_else_left o u (says i) (l.whole i (k, λ j b. absurd b)))
      (λ k. or_else_right o u (l.rests k.0) ∙ m.whole i (k.1, λ j b. absurd b))
      r.0)
      (λ e i r. let n = or_else_none o u e in ⊎_elim (l.none n.0 i) (λ k. m.none n.1 i k.1) r)
