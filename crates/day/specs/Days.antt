-- A day of frames, replayed into one replica.
use Rattle.std.specs.Prelude.{◌≡◌, ℕ, zero, suc, ◌+◌, ◌*◌, Bool, cond, List, [], ◌∷◌, ◌++◌, length, take, drop, Some, None, Ok, Err, codes, decimal, Option, Result, ◌==◌, nat_le, nat_lt, slice_index}
use Rattle.wire.specs.Frames.{next_of, walk_of}
use Rattle.replica.specs.declared.state.Replica.{Replica}
use Rattle.replica.specs.Store.{Store}
use Rattle.intake.specs.Hearing.{hear_of}
use Rattle.intake.specs.Submitting.{submit_of}
use Rattle.day.specs.declared.record.Record.{Record}
use Rattle.day.specs.declared.record.Torn.{Torn}

-- the line of what is declined with number e at place p, and of a record at p that the day ends inside of
abbrev pub refused_line : ℕ → ℕ → List ℕ
refused_line e p = codes "refused;" ++ (decimal e ++ (59 ∷ decimal p ++ (10 ∷ [])))

abbrev pub torn_line : ℕ → List ℕ
torn_line p = codes "torn;" ++ (decimal p ++ (10 ∷ []))

-- the line of an answer: none if it is accepted
abbrev pub line_of : ℕ → Result (Unit {0}) ℕ → List ℕ
line_of p (Ok _) = []
line_of p (Err e) = refused_line e p

-- what a replay has come to: the text so far, the replica, the store
abbrev pub Run : Type 0
Run = List ℕ × Replica × Store

-- a line more, and nothing else changes
abbrev pub noted : Run → List ℕ → Run
noted r line = (r.0 ++ line, r.1, r.2)

-- a call at place p, behind the text so far: its line, and the replica and the store that it leaves
abbrev pub called : List ℕ → ℕ → Result (Unit {0}) ℕ × Replica × Store → Run
called text p a = (text ++ line_of p a.0, a.1, a.2)

-- a statement from sender j, which stands at place p
abbrev pub heard_at : ℕ → (List ℕ → Bool) → ℕ → ℕ → List ℕ → Run → Run
heard_at w valid j p s r = called r.0 p (hear_of w valid r.1 r.2 j s)

-- what next answers at place p: a refusal ends the frame with its line, a statement goes on
abbrev pub onward : Result (Option (List ℕ)) ℕ → ℕ → Run → (List ℕ → Run) → Run
onward (Err e) p r more = noted r (refused_line e p)
onward (Ok None) p r more = r
onward (Ok (Some t)) p r more = more t

-- at most n statements of a frame that begins at place b of the day, from place p of the frame on
unfoldable pub frame_from : ℕ → ℕ → (List ℕ → Bool) → ℕ → ℕ → List ℕ → ℕ → Run → Run
frame_from zero w valid j b s p r = r
frame_from (suc n) w valid j b s p r =
    onward (next_of w s p) (b + p) r (λ t. frame_from n w valid j b s (p + length t) (heard_at w valid j (b + p) t r))

-- a whole frame: it has fewer statements than one more than its bytes
abbrev pub frame_of : ℕ → (List ℕ → Bool) → ℕ → ℕ → List ℕ → Run → Run
frame_of w valid j b s r = frame_from (suc (length s)) w valid j b s 0 r

-- statements from place p on, heard one behind the other, and then the line of what stopped the walk, if something did
abbrev pub heard_all : ℕ → (List ℕ → Bool) → ℕ → ℕ → List (List ℕ) → Option ℕ → Run → Run
heard_all w valid j p [] None r = r
heard_all w valid j p [] (Some e) r = noted r (refused_line e p)
heard_all w valid j p (t ∷ ts) stop r = heard_all w valid j (p + length t) ts stop (heard_at w valid j p t r)

-- Every statement that a walk finds in a frame is heard, in order and at its place, whatever became of those before it.
abbrev pub Heard : ℕ → (List ℕ → Bool) → Type 0
Heard w valid =
    (j b : ℕ) (s : List ℕ) (r : Run) → frame_of w valid j b s r ≡ heard_all w valid j b (walk_of w s).found (walk_of w s).stop r

-- the bytes of one record, which begin at place b: an entry if the box is the replica itself, else a frame
abbrev pub taken_of : ℕ → (List ℕ → Bool) → ℕ → ℕ → List ℕ → Run → Run
taken_of w valid j b s r =
    cond (j == r.1.set.me) (called r.0 b (submit_of w valid r.1 r.2 s)) (frame_of w valid j b s r)

-- what stands at a place of a day: nothing, a record that the day ends inside of, or a record of a box
pub data Cut : Type 0 where
  end torn : Cut
  whole : (sender : ℕ) → List ℕ → Cut

abbrev pub cut_of : Option Record → Cut
cut_of None = torn
cut_of (Some x) = whole x.sender x.bytes.now

-- the length of the record at place p: two bytes behind its first, high first
abbrev pub size_at : List ℕ → ℕ → ℕ
size_at d p = slice_index d (p + 1) * 256 + slice_index d (p + 2)

abbrev pub cut_at : List ℕ → ℕ → Cut
cut_at d p =
    cond (nat_le (length d) p) end
    (cond (nat_lt (length d) (p + 3)) torn
    (cond (nat_lt (length d) (p + 3 + size_at d p)) torn
    (whole (slice_index d p) (take (size_at d p) (drop (p + 3) d)))))

-- what is found in a day: a record's sender, the place where its bytes begin, and its bytes; or the place of one that the day ends inside of
abbrev pub Found : Type 0
Found = Result (ℕ × ℕ × List ℕ) ℕ

abbrev pub found_of : Result Record Torn → Found
found_of (Ok x) = Ok (x.sender, x.start, x.bytes.now)
found_of (Err x) = Err x.place

-- what is found at place p, and behind a whole record what is found further on
abbrev pub found_on : Cut → ℕ → (List ℕ → List Found) → List Found
found_on end p more = []
found_on torn p more = Err p ∷ []
found_on (whole j s) p more = Ok (j, p + 3, s) ∷ more s

-- the first n finds, from place p on
unfoldable pub found_from : ℕ → List ℕ → ℕ → List Found
found_from zero d p = []
found_from (suc n) d p = found_on (cut_at d p) p (λ s. found_from n d (p + 3 + length s))

-- all of them: a day has fewer records than one more than its bytes
abbrev pub found_left : List ℕ → ℕ → List Found
found_left d p = found_from (suc (length d)) d p

-- what stands at place p: a torn record ends the day with its line, a whole one goes on
abbrev pub further : Cut → ℕ → Run → (ℕ → List ℕ → Run) → Run
further end p r more = r
further torn p r more = noted r (torn_line p)
further (whole j s) p r more = more j s

-- at most n records, from place p on
unfoldable pub day_from : ℕ → ℕ → (List ℕ → Bool) → List ℕ → ℕ → Run → Run
day_from zero w valid d p r = r
day_from (suc n) w valid d p r =
    further (cut_at d p) p r (λ j s. day_from n w valid d (p + 3 + length s) (taken_of w valid j (p + 3) s r))

-- a whole day: it has fewer records than one more than its bytes
abbrev pub day_of : ℕ → (List ℕ → Bool) → Replica → Store → List ℕ → Run
day_of w valid m t d = day_from (suc (length d)) w valid d 0 ([], m, t)
