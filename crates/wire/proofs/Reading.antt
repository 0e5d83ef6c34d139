-- One statement: what is read writes the same bytes, and what is written reads as it was.
use Rattle.std.proofs.Common.{◌≡◌, ℕ, ◌+◌, ◌<◌, ◌≤◌, Bool, true, false, cond, eqb, ltb, List, [], ◌∷◌, length, get_or, drop, Some, None, Ok, Err, Option, sym, refl, ap, ◌∙◌, arith, length-drop, ltb-false, eqb-true}
use Rattle.std.proofs.lemmas.Bool.Decides.{nat_tests}
use Rattle.common.specs.Refusals.{declined}
use Rattle.common.specs.declared.refusal.Refusal.TheVariants as refusals
use Rattle.entry.specs.Bytes.{fronted, spelled}
use Rattle.wire.specs.Letters.{byte_of, letter_of, length_of}
use Rattle.wire.specs.Statements.{Message, send, echo, ready, have, value, seen, confirm, finish, bytes_of}
use Rattle.wire.specs.Codec.{read_of, whole_of, parse_of, misfit, oversize, unfit}
use Rattle.wire.specs.declared.letter.Letter.{Letter}
use Rattle.wire.specs.declared.letter.Letter.TheVariants.{Send, Echo, Ready, Have, Value, Seen, Confirm, Finish}

pub lengths : (w : ℕ) (l : Letter) → 2 ≤ length_of w l
lengths w Send = omega arith
lengths w Echo = omega arith
lengths w Ready = omega arith
lengths w Have = omega arith
lengths w Value = omega arith
lengths w Seen = omega arith
lengths w Confirm = omega arith
lengths w Finish = omega arith

-- a byte is the letter m, or one of the rest
one_letter : (b : ℕ) (l m : Letter) (rest : Option Letter) → cond (eqb b (byte_of m)) (Some m) rest ≡ Some l → (rest ≡ Some l → b ≡ byte_of l) → b ≡ byte_of l
one_letter b l m rest e more = by (eqb b (byte_of m)) refl
  where
    by : (t : Bool) → eqb b (byte_of m) ≡ t → b ≡ byte_of l
    by true t = let same : m ≡ l = (let f : Some m ≡ Some l = rw t at e in cc) in eqb-true b (byte_of m) t ∙ ap byte_of same
    by false t = more (rw t at e)

letter_back : (b : ℕ) (l : Letter) → letter_of b ≡ Some l → b ≡ byte_of l
letter_back b l e =
    one_letter b l Send _ e (λ e. one_letter b l Echo _ e (λ e. one_letter b l Ready _ e (λ e. one_letter b l Have _ e
    (λ e. one_letter b l Value _ e (λ e. one_letter b l Seen _ e (λ e. one_letter b l Confirm _ e (λ e. one_letter b l Finish _ e
    (λ (e : None ≡ Some l). absurd (let z : ◌≡◌ {A = ℕ} 0 1 = cc in omega arith)))))))))

-- bytes of a letter's length are the statement that they say
pub whole_read : (w b : ℕ) (s : List ℕ) (l : Letter) → letter_of b ≡ Some l → length (b ∷ s) ≡ length_of w l → parse_of w (b ∷ s) ≡ Ok (read_of l (b ∷ s))
whole_read w b s l is long =
    let a : ltb (length (b ∷ s)) (length_of w l) ≡ false = grind (arith, nat_tests) in
    let c : ltb (length_of w l) (length (b ∷ s)) ≡ false = grind (arith, nat_tests) in
    ap (whole_of w (b ∷ s)) is ∙ rw (a, c) refl

-- the letter and length of what was read
pub record Read (w : ℕ) (t : List ℕ) (m : Message) : Type 0 where
  pub first : ℕ
  pub more : List ℕ
  pub letter : Letter
  pub is : t ≡ first ∷ more
  pub begins : letter_of first ≡ Some letter
  pub long : length t ≡ length_of w letter
  pub says : m ≡ read_of letter t

pub reading_of : (w : ℕ) (t : List ℕ) (m : Message) → parse_of w t ≡ Ok m → Read w t m
reading_of w [] m e = absurd (let z : ◌≡◌ {A = ℕ} 0 1 = cc in omega arith)
reading_of w (b ∷ s) m e = by_letter (letter_of b) refl
  where
    by_letter : (o : Option Letter) → letter_of b ≡ o → Read w (b ∷ s) m
    by_letter None is = let f : Err _ ≡ Ok m = sym (ap (whole_of w (b ∷ s)) is) ∙ e in absurd (let z : ◌≡◌ {A = ℕ} 0 1 = cc in omega arith)
    by_letter (Some l) is = by_length (ltb (length (b ∷ s)) (length_of w l)) (ltb (length_of w l) (length (b ∷ s))) refl refl
      where
        whole : cond (ltb (length (b ∷ s)) (length_of w l)) (declined refusals.Short) (cond (ltb (length_of w l) (length (b ∷ s))) (declined refusals.Long) (Ok (read_of l (b ∷ s)))) ≡ Ok m
        whole = sym (ap (whole_of w (b ∷ s)) is) ∙ e

        by_length : (x y : Bool) → ltb (length (b ∷ s)) (length_of w l) ≡ x → ltb (length_of w l) (length (b ∷ s)) ≡ y → Read w (b ∷ s) m
        by_length true y p q = absurd (let f = rw p at whole in let z : ◌≡◌ {A = ℕ} 0 1 = cc in omega arith)
        by_length false true p q = absurd (let f = rw (p, q) at whole in let z : ◌≡◌ {A = ℕ} 0 1 = cc in omega arith)
        by_length false false p q =
            let f = rw (p, q) at whole in
            record { first = b; more = s; letter = l; is = refl; begins = is; long = omega (arith, ltb-false _ _ p, ltb-false _ _ q); says = cc }

-- the bytes of what was read
bytes_back : (w : ℕ) (s : List ℕ) (l : Letter) → get_or s 0 0 ≡ byte_of l → length s ≡ length_of w l → bytes_of (read_of l s) ≡ s
bytes_back w s Send first long = ap (λ b. b ∷ get_or s 1 0 ∷ drop 2 s) (sym first) ∙ sym (fronted 2 0 s (omega arith))
bytes_back w s Echo first long = ap (λ b. b ∷ get_or s 1 0 ∷ get_or s 2 0 ∷ drop 3 s) (sym first) ∙ sym (fronted 3 0 s (omega arith))
bytes_back w s Ready first long = ap (λ b. b ∷ get_or s 1 0 ∷ get_or s 2 0 ∷ drop 3 s) (sym first) ∙ sym (fronted 3 0 s (omega arith))
bytes_back w s Have first long = ap (λ b. b ∷ get_or s 1 0 ∷ get_or s 2 0 ∷ drop 3 s) (sym first) ∙ sym (fronted 3 0 s (omega arith))
bytes_back w s Value first long = ap (λ b. b ∷ get_or s 1 0 ∷ get_or s 2 0 ∷ get_or s 3 0 ∷ []) (sym first) ∙ sym (spelled 4 s long)
bytes_back w s Seen first long = ap (λ b. b ∷ get_or s 1 0 ∷ get_or s 2 0 ∷ get_or s 3 0 ∷ []) (sym first) ∙ sym (spelled 4 s long)
bytes_back w s Confirm first long = ap (λ b. b ∷ get_or s 1 0 ∷ get_or s 2 0 ∷ get_or s 3 0 ∷ []) (sym first) ∙ sym (spelled 4 s long)
bytes_back w s Finish first long = ap (λ b. b ∷ get_or s 1 0 ∷ get_or s 2 0 ∷ []) (sym first) ∙ sym (spelled 3 s long)

fitting : (w : ℕ) (x : List ℕ) → misfit w x ≡ None → length x ≡ w
fitting w x h = by (ltb (length x) w) (ltb w (length x)) refl refl
  where
    by : (a b : Bool) → ltb (length x) w ≡ a → ltb w (length x) ≡ b → length x ≡ w
    by true b p q = absurd (let f = rw p at h in let z : ◌≡◌ {A = ℕ} 0 1 = cc in omega arith)
    by false true p q = absurd (let f = rw (p, q) at h in let z : ◌≡◌ {A = ℕ} 0 1 = cc in omega arith)
    by false false p q = omega (arith, ltb-false _ _ p, ltb-false _ _ q)

-- what has bytes is read from them again
pub written_read : (w : ℕ) (m : Message) → unfit w m ≡ None → parse_of w (bytes_of m) ≡ Ok m
written_read w (send s x) h = whole_read w 83 (s ∷ x) Send refl (omega (arith, fitting w x h))
written_read w (echo q s x) h = whole_read w 69 (q ∷ s ∷ x) Echo refl (omega (arith, fitting w x h))
written_read w (ready q s x) h = whole_read w 82 (q ∷ s ∷ x) Ready refl (omega (arith, fitting w x h))
written_read w (have q s x) h = whole_read w 72 (q ∷ s ∷ x) Have refl (omega (arith, fitting w x h))
written_read w (value e r b) h = whole_read w 86 (e ∷ r ∷ b ∷ []) Value refl refl
written_read w (seen e r b) h = whole_read w 65 (e ∷ r ∷ b ∷ []) Seen refl refl
written_read w (confirm e r u) h = whole_read w 67 (e ∷ r ∷ u ∷ []) Confirm refl refl
written_read w (finish e b) h = whole_read w 70 (e ∷ b ∷ []) Finish refl refl

pub read_written : (w : ℕ) (t : List ℕ) (m : Message) → parse_of w t ≡ Ok m → bytes_of m ≡ t
read_written w t m e =
    let r = reading_of w t m e in
    ap bytes_of r.says ∙ bytes_back w t r.letter (ap (λ l. get_or l 0 0) r.is ∙ letter_back r.first r.letter r.begins) r.long

fits_from : (w n : ℕ) (t : List ℕ) → length t ≡ n + w → misfit w (drop n t) ≡ None
fits_from w n t long =
    let k : length (drop n t) ≡ w = length-drop n t ∙ omega arith in
    let a : ltb (length (drop n t)) w ≡ false = grind (arith, nat_tests) in
    let b : ltb w (length (drop n t)) ≡ false = grind (arith, nat_tests) in
    rw (a, b) refl

pub byte_fits : (e : ℕ) → e < 256 → oversize e ≡ None
byte_fits e h = let a : ltb 255 e ≡ false = grind (arith, nat_tests) in rw a refl

-- what was read from bytes can be written
pub read_fits : (w : ℕ) (t : List ℕ) (m : Message) → ((i : ℕ) → get_or t i 0 < 256) → parse_of w t ≡ Ok m → unfit w m ≡ None
read_fits w t m small e = let r = reading_of w t m e in ap (unfit w) r.says ∙ by r.letter r.long
  where
    by : (l : Letter) → length t ≡ length_of w l → unfit w (read_of l t) ≡ None
    by Send long = fits_from w 2 t long
    by Echo long = fits_from w 3 t long
    by Ready long = fits_from w 3 t long
    by Have long = fits_from w 3 t long
    by Value long = byte_fits (get_or t 1 0) (small 1)
    by Seen long = byte_fits (get_or t 1 0) (small 1)
    by Confirm long = byte_fits (get_or t 1 0) (small 1)
    by Finish long = byte_fits (get_or t 1 0) (small 1)
