-- The rows of a list account for each byte of the frame up to its fault.
use Rattle.std.proofs.Common.{◌≡◌, ℕ, ◌+◌, ◌≤◌, ◌⊎◌, List, [], ◌∷◌, ◌++◌, length, take, drop, Some, None, Ok, Err, Option, sym, refl, ap, ◌∙◌, subst, inl, inr, append_assoc, zero-add, arith, length-append}
use Rattle.std.proofs.lemmas.List.{take_at, drop_at}
use Rattle.common.specs.Refusals.{number_of}
use Rattle.common.specs.declared.refusal.Refusal.TheVariants as refusals
use Rattle.wire.specs.Statements.{Message}
use Rattle.wire.specs.Codec.{parse_of}
use Rattle.wire.specs.Frames.{first_of, next_of, walk_of, joined, Statements}
use Rattle.wire.proofs.Walking.{first_joined, joined_append, next_first, walks}
use Rattle.listing.specs.Rows.{Kind}
use Rattle.listing.specs.Lists.{part_row, Listed, onto, list_from, Rows, Accounts}

-- why a list ends at a fault: the walk stopped there, or the statement there is not sound
abbrev Why : Kind → ℕ → List (List ℕ) → List (List ℕ) → Option ℕ → ℕ → Type 0
Why k q ts sound stop e =
    ((sound ≡ ts) × (stop ≡ Some e))
    ⊎ ((e ≡ number_of refusals.Entry) × ((t : List ℕ) × (us : List (List ℕ)) × (ts ≡ sound ++ (t ∷ us)) × (part_row k q t ≡ None)))

-- which statements of a walk are listed
record Told (k : Kind) (p : ℕ) (ts : List (List ℕ)) (stop : Option ℕ) (l : Listed) : Type 0 where
  sound : List (List ℕ)
  rows : Rows k p sound l.rows
  count : l.count ≡ length sound
  whole : l.fault ≡ None → (sound ≡ ts) × (stop ≡ None)
  torn : (e q : ℕ) → l.fault ≡ Some (e, q) → (q ≡ p + length (joined sound)) × Why k q ts sound stop e

same_fault : (r e p q : ℕ) → ◌≡◌ {A = Option (ℕ × ℕ)} (Some (r, p)) (Some (e, q)) → (r ≡ e) × (p ≡ q)
same_fault r e p q f =
    let x : ◌≡◌ {A = ℕ × ℕ} (r, p) (e, q) = cc in
    (ap (λ (y : ℕ × ℕ). y.0) x, ap (λ (y : ℕ × ℕ). y.1) x)

-- one statement more in front
before : (k : Kind) (q : ℕ) (t : List ℕ) (ts sound : List (List ℕ)) (stop : Option ℕ) (e : ℕ) → Why k q ts sound stop e → Why k q (t ∷ ts) (t ∷ sound) stop e
before k q t ts sound stop e (inl w) = inl (ap (λ us. t ∷ us) w.0, w.1)
before k q t ts sound stop e (inr w) = inr (w.0, (w.1.0, w.1.1, ap (λ us. t ∷ us) w.1.2, w.1.3))

told : (k : Kind) (p : ℕ) (ts : List (List ℕ)) (stop : Option ℕ) → Told k p ts stop (list_from k p ts stop)
told k p [] None = record {
  sound = [];
  rows = refl;
  count = refl;
  whole = λ _. (refl, refl);
  torn = λ e q f. absurd (let z : ◌≡◌ {A = ℕ} 0 1 = cc in omega arith);
}
told k p [] (Some r) = record {
  sound = [];
  rows = refl;
  count = refl;
  whole = λ f. absurd (let z : ◌≡◌ {A = ℕ} 0 1 = cc in omega arith);
  torn = λ e q f. let x = same_fault r e p q f in (omega (arith, x.1), inl (refl, ap Some x.0));
}
told k p (t ∷ ts) stop = by (part_row k p t) refl (told k (p + length t) ts stop)
  where
    by : (o : Option (List ℕ)) → part_row k p t ≡ o → Told k (p + length t) ts stop (list_from k (p + length t) ts stop)
        → Told k p (t ∷ ts) stop (onto o p (list_from k (p + length t) ts stop))
    by None e more = record {
      sound = [];
      rows = refl;
      count = refl;
      whole = λ f. absurd (let z : ◌≡◌ {A = ℕ} 0 1 = cc in omega arith);
      torn = λ r q f.
          let x = same_fault (number_of refusals.Entry) r p q f in
          (omega (arith, x.1), inr (sym x.0, (t, ts, refl, subst (λ n. part_row k n t ≡ None) x.1 e)));
    }
    by (Some row) e more = record {
      sound = t ∷ more.sound;
      rows = (row, (list_from k (p + length t) ts stop).rows, e, refl, more.rows);
      count = omega (arith, more.count);
      whole = λ f. let w = more.whole f in (ap (λ us. t ∷ us) w.0, w.1);
      torn = λ r q f.
          let m = more.torn r q f in
          (omega (arith, m.0, length-append t (joined more.sound)), before k q t ts more.sound stop r m.1);
    }

-- the statement behind some others is whole
whole_at : (w : ℕ) (ts : List (List ℕ)) (t : List ℕ) (us : List (List ℕ)) → Statements w (ts ++ (t ∷ us)) → (m : Message) × (parse_of w t ≡ Ok m)
whole_at w [] t us ok = ok.0
whole_at w (u ∷ ts) t us ok = whole_at w ts t us ok.1

-- the bytes of a frame before and behind those of the statements that are listed
pub record Split (s : List ℕ) (q : ℕ) (front rest : List ℕ) : Type 0 where
  pub is : s ≡ front ++ rest
  pub long : q ≡ length front

taken : {s : List ℕ} {q : ℕ} {front rest : List ℕ} → Split s q front rest → (q ≤ length s) × (front ≡ take q s) × (drop q s ≡ rest)
taken {s} {q} {front} {rest} c = (
  omega (arith, ap length c.is ∙ length-append front rest, c.long),
  sym (ap (take q) c.is ∙ take_at front rest q (sym c.long)),
  ap (drop q) c.is ∙ drop_at front rest q (sym c.long),
)

-- what stands at a fault
at_fault :
    (k : Kind) (s : List ℕ) (sound : List (List ℕ)) (e q : ℕ) → q ≡ length (joined sound)
    → Why k q (walk_of k.width s).found sound (walk_of k.width s).stop e
    → (q ≤ length s) × (joined sound ≡ take q s)
    × ((next_of k.width s q ≡ Err e) ⊎ ((e ≡ number_of refusals.Entry) × ((t : List ℕ) × (next_of k.width s q ≡ Ok (Some t)) × (part_row k q t ≡ None))))
at_fault k s sound e q long (inl h) =
    let all = walks k.width s in
    let found = (walk_of k.width s).found in
    let cut : s ≡ joined sound ++ drop (length (joined found)) s = all.front ∙ ap (λ ts. joined ts ++ drop (length (joined found)) s) (sym h.0) in
    let c = taken (record { is = cut; long = long }) in
    (c.0, c.1, inl (ap (next_of k.width s) (long ∙ ap (λ ts. length (joined ts)) h.0) ∙ all.stopped e h.1))
at_fault k s sound e q long (inr h) =
    let all = walks k.width s in
    let found = (walk_of k.width s).found in
    let t = h.1.0 in
    let us = h.1.1 in
    let rest = drop (length (joined found)) s in
    let m = whole_at k.width sound t us (subst (Statements k.width) h.1.2 all.whole) in
    let cut : s ≡ joined sound ++ (t ++ (joined us ++ rest)) =
    all.front ∙ ap (λ j. j ++ rest) (ap joined h.1.2 ∙ joined_append sound (t ∷ us)) ∙ simp append_assoc in
    let c = taken (record { is = cut; long = long }) in (
      c.0,
      c.1,
      inr (h.0, (t, next_first k.width q s c.0 ∙ ap (first_of k.width) c.2 ∙ first_joined k.width t (joined us ++ rest) m.0 m.1, h.1.3)),
    )

pub accounts : (k : Kind) (s : List ℕ) → Accounts k s
accounts k s =
    let w = k.width in
    let walk = walk_of w s in
    let all = walks w s in
    let l = told k 0 walk.found walk.stop in
    record {
      sound = l.sound;
      rows = l.rows;
      count = l.count;
      whole = λ f. let h = l.whole f in all.ended h.1 ∙ ap joined (sym h.0);
      torn = λ e q f. let h = l.torn e q f in at_fault k s l.sound e q (h.0 ∙ zero-add (length (joined l.sound))) h.1;
    }
