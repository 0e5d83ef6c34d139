-- Byte strings laid one behind the other into the room that there is.
use Rattle.std.proofs.Common.{◌≡◌, ℕ, ◌+◌, ◌-◌, ◌<◌, ◌≤◌, Bool, true, false, ltb, List, [], ◌∷◌, ◌++◌, length, take, drop, None, Ok, Err, Result, sym, refl, ap, ◌∙◌, append_assoc, append-nil, arith, length-append, length-drop, take-append-drop, drop-drop}
use borrow.Rule.Slice.PartMut.{put_mid}
use Rattle.std.proofs.lemmas.List.{take_at, drop_at, drop_all, take_rest, nil_from_length}
use Rattle.std.proofs.lemmas.Bool.{lt-ltb, le-ltb, ltb-true, ltb-false}
use Rattle.wire.specs.Codec.{placed}
use Rattle.wire.specs.Frames.{joined}
use Rattle.wire.proofs.Walking.{joined_append}
use Rattle.showing.specs.Showing.{fitting, written, lay_of}

-- what was written to the front of the rest
pub rest_put : (out last : List ℕ) (at : ℕ) → put_mid at (length out - at) out last ≡ take at out ++ last
rest_put out last at =
    ap (λ l. take at out ++ (last ++ l)) (drop_all (length out - at) (drop at out) (omega (arith, length-drop at out)))
    ∙ ap (λ l. take at out ++ l) (append-nil last)

-- what placing answers
pub record Fits (bs out last : List ℕ) (n : ℕ) : Type 0 where
  pub room : length bs ≤ length out
  pub size : n ≡ length bs
  pub after : last ≡ bs ++ drop (length bs) out

pub record Full (bs out last : List ℕ) (e : ℕ) : Type 0 where
  pub room : length out < length bs
  pub number : e ≡ 21
  pub after : last ≡ out

abbrev Answer : Type 0
Answer = Result ℕ ℕ × List ℕ

module _ (bs out last : List ℕ) where
  pub placed_fits : (n : ℕ) → (Ok n, last) ≡ placed None bs out → Fits bs out last n
  placed_fits n is = by (ltb (length out) (length bs)) refl
    where
      by : (t : Bool) → ltb (length out) (length bs) ≡ t → Fits bs out last n
      by true t = absurd (let f = ap (λ (p : Answer). p.0) (rw t at is) in let z : ◌≡◌ {A = ℕ} 0 1 = cc in omega arith)
      by false t =
          let f = rw t at is in
          let a : Ok n ≡ Ok (length bs) = ap (λ (p : Answer). p.0) f in
          record { room = ltb-false _ _ t; size = cc; after = ap (λ (p : Answer). p.1) f }

  pub placed_full : (e : ℕ) → (Err e, last) ≡ placed None bs out → Full bs out last e
  placed_full e is = by (ltb (length out) (length bs)) refl
    where
      by : (t : Bool) → ltb (length out) (length bs) ≡ t → Full bs out last e
      by false t = absurd (let f = ap (λ (p : Answer). p.0) (rw t at is) in let z : ◌≡◌ {A = ℕ} 0 1 = cc in omega arith)
      by true t =
          let f = rw t at is in
          let a : Err e ≡ Err 21 = ap (λ (p : Answer). p.0) f in
          record { room = ltb-true _ _ t; number = cc; after = ap (λ (p : Answer). p.1) f }

-- those that were written are all that fit, if of the rest none fits into what is left
pub fitting_done : (room left : ℕ) (done rest : List (List ℕ)) → room ≡ length (joined done) + left → fitting left rest ≡ [] → fitting room (done ++ rest) ≡ done
fitting_done room left [] rest e none = ap (λ n. fitting n rest) (e ∙ omega arith) ∙ none
fitting_done room left (d ∷ ds) rest e none =
    let long = length-append d (joined ds) in
    let more = fitting_done (room - length d) left ds rest (omega arith) none in
    rw (le-ltb room (length d) (omega arith)) (ap (λ l. d ∷ l) more)

fitting_full : (room : ℕ) (s : List ℕ) (ss : List (List ℕ)) → room < length s → fitting room (s ∷ ss) ≡ []
fitting_full room s ss h = rw (lt-ltb room (length s) h) refl

-- of all the byte strings some were written, and the rest are to come
pub record Laid (was : List ℕ) (all rest : List (List ℕ)) (number at next : ℕ) (out : List ℕ) : Type 0 where
  pub done : List (List ℕ)
  pub split : all ≡ done ++ rest
  pub bytes : at ≡ length (joined done)
  pub count : next ≡ number + length done
  pub room : at ≤ length was
  pub holds : out ≡ joined done ++ drop at was

pub laid_start : (was : List ℕ) (all : List (List ℕ)) (number : ℕ) → Laid was all all number 0 number was
laid_start was all number = record { done = []; split = refl; bytes = refl; count = omega arith; room = omega arith; holds = refl }

-- so many statements are numbered in all
pub laid_count : (was : List ℕ) (all rest : List (List ℕ)) (number at next : ℕ) (out : List ℕ) → Laid was all rest number at next out → next + length rest ≡ number + length all
laid_count was all rest number at next out l = omega (arith, l.count, ap length l.split, length-append l.done rest)

-- what is answered when no more is written
pub answered_done :
    (number : ℕ) (done rest : List (List ℕ)) (was : List ℕ) → fitting (length was) (done ++ rest) ≡ done → (done ≡ [] → rest ≡ [])
    → (Ok (length (joined done), number + length done), joined done ++ drop (length (joined done)) was) ≡ lay_of number (done ++ rest) was
answered_done number [] rest was fit end = rw (end refl) (ap (λ n. (Ok (0, n), was)) (omega arith))
answered_done number (d ∷ ds) rest was fit end = sym (ap (λ ts. written number ((d ∷ ds) ++ rest) ts was) fit)

module _ (was : List ℕ) (all rest : List (List ℕ)) (number at next : ℕ) (out : List ℕ) (l : Laid was all rest number at next out) where
  long : length out ≡ length was
  long = omega (arith, ap length l.holds, length-append (joined l.done) (drop at was), length-drop at was, l.bytes, l.room)

  front : take at out ≡ joined l.done
  front = ap (take at) l.holds ∙ take_at (joined l.done) (drop at was) at (sym l.bytes)

  -- the room behind what was written
  behind : take (length out - at) (drop at out) ≡ drop at was
  behind = take_rest out at ∙ ap (drop at) l.holds ∙ drop_at (joined l.done) (drop at was) at (sym l.bytes)

  left : length (drop at was) ≡ length was - at
  left = length-drop at was

  pub laid_answer : fitting (length was - at) rest ≡ [] → (next ≡ number → rest ≡ []) → (Ok (at, next), out) ≡ lay_of number all was
  laid_answer none end =
      let fit = fitting_done (length was) (length was - at) l.done rest (omega (arith, l.bytes, l.room)) none in
      let e = answered_done number l.done rest was fit (λ d. end (l.count ∙ ap (λ ts. number + length ts) d ∙ omega arith)) in
      (λ i. (Ok (l.bytes i, l.count i), (l.holds ∙ ap (λ n. joined l.done ++ drop n was) l.bytes) i)) ∙ e ∙ ap (λ ts. lay_of number ts was) (sym l.split)

  pub laid_end : rest ≡ [] → (Ok (at, next), out) ≡ lay_of number all was
  laid_end end = laid_answer (ap (fitting (length was - at)) end) (λ _. end)

module _ (was s : List ℕ) (all rest : List (List ℕ)) (number at next : ℕ) (out last : List ℕ) (l : Laid was all (s ∷ rest) number at next out) where
  abbrev after : List ℕ
  after = put_mid at (length out - at) out last

  abbrev part : List ℕ
  part = take (length out - at) (drop at out)

  -- one more is written
  pub laid_more : (n : ℕ) → (Ok n, last) ≡ placed None s part → Laid was all rest number (at + n) (next + 1) after
  laid_more n is =
      let f = placed_fits s part last n is in
      let b = behind was all (s ∷ rest) number at next out l in
      let k = left was all (s ∷ rest) number at next out l in
      let js = joined l.done in
      let push = joined_append l.done (s ∷ []) ∙ ap (λ r. joined l.done ++ r) (append-nil s) in
      record {
        done = l.done ++ s ∷ [];
        split = l.split ∙ sym (append_assoc l.done (s ∷ []) rest);
        bytes = omega (arith, ap length push, length-append js s, l.bytes, f.size);
        count = omega (arith, length-append l.done (s ∷ []), l.count);
        room = omega (arith, f.room, f.size, ap length b, k, l.room);
        holds =
            rest_put out last at
            ∙ (λ i. front was all (s ∷ rest) number at next out l i ++ (f.after ∙ ap (λ r. s ++ drop (length s) r) b) i)
            ∙ ap (λ r. js ++ (s ++ r)) (drop-drop (length s) at was ∙ ap (λ j. drop (at + j) was) (sym f.size))
            ∙ sym (append_assoc js s (drop (at + n) was)) ∙ ap (λ r. r ++ drop (at + n) was) (sym push);
      }

  module _ (e : ℕ) (is : (Err e, last) ≡ placed None s part) where
    abbrev full : Full s part last e
    full = placed_full s part last e is

    none : fitting (length was - at) (s ∷ rest) ≡ []
    none = fitting_full (length was - at) s rest (omega (arith, full.room, ap length (behind was all (s ∷ rest) number at next out l), left was all (s ∷ rest) number at next out l))

    -- nothing has changed
    same : after ≡ out
    same = rest_put out last at ∙ ap (λ r. take at out ++ r) (full.after ∙ take_rest out at) ∙ take-append-drop at out

    pub laid_stop : (next ≡ number → ⊥) → (Ok (at, next), after) ≡ lay_of number all was
    laid_stop some = ap (λ o. (Ok (at, next), o)) same ∙ laid_answer was all (s ∷ rest) number at next out l none (λ z. absurd (some z))

    pub laid_first : next ≡ number → (Err e, after) ≡ lay_of number all was
    laid_first z =
        let d : l.done ≡ [] = nil_from_length l.done (omega (arith, l.count, z)) in
        let start : at ≡ 0 = l.bytes ∙ ap (λ ts. length (joined ts)) d in
        let whole : out ≡ was = l.holds ∙ (λ i. joined (d i) ++ drop (start i) was) in
        let fit : fitting (length was) (s ∷ rest) ≡ [] = ap (λ n. fitting n (s ∷ rest)) (omega arith) ∙ none in
        (λ i. (Err (full.number i), (same ∙ whole) i))
        ∙ sym (ap (λ ts. lay_of number ts was) (l.split ∙ ap (λ ts. ts ++ (s ∷ rest)) d) ∙ ap (λ ts. written number (s ∷ rest) ts was) fit)
