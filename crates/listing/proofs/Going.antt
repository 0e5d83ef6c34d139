-- The list of a frame, one step of its walk after the other.
use Rattle.std.proofs.Common.{◌≡◌, ℕ, ◌+◌, Bool, true, false, cond, List, [], ◌∷◌, ◌++◌, length, Some, None, Ok, Err, Option, Result, MatchResult, sym, refl, ap, ◌∙◌, append_assoc, add_assoc, zero-add, arith}
use Rattle.std.specs.Option.{option_map}
use Rattle.common.specs.Refusals.{number_of}
use Rattle.common.specs.declared.refusal.Refusal.TheVariants as refusals
use Rattle.wire.specs.Statements.{Message, item_in}
use Rattle.wire.specs.Codec.{parse_of}
use Rattle.wire.specs.Frames.{Statements}
use Rattle.wire.specs.Steps.{Step, step_of, steps_from, parts_in}
use Rattle.wire.specs.declared.part.Part.{Part}
use Rattle.wire.specs.declared.part.Fault.{Fault}
use Rattle.listing.specs.Rows.{Kind, row_of}
use Rattle.listing.specs.Lists.{item_read, message_row, part_row, holds, sound_at, part_read, Listed, grown, onto, list_from}

-- a list behind one that has no fault
abbrev pub behind : Listed → Listed → Listed
behind l more = record { rows = l.rows ++ more.rows; count = l.count + more.count; fault = more.fault }

pub behind_none : (l : Listed) → behind (record { rows = []; count = 0; fault = None }) l ≡ l
behind_none l = λ i. record { rows = l.rows; count = zero-add l.count i; fault = l.fault }

-- the list of a walk's steps
abbrev pub listed : Kind → List Step → Listed
listed k [] = record { rows = []; count = 0; fault = None }
listed k (Ok part ∷ more) = onto (part_row k part.0 part.1) part.0 (listed k more)
listed k (Err fault ∷ more) = record { rows = []; count = 0; fault = Some fault }

pub listed_walk : (k : Kind) (p : ℕ) (ts : List (List ℕ)) (stop : Option ℕ) → listed k (steps_from p ts stop) ≡ list_from k p ts stop
listed_walk k p [] None = refl
listed_walk k p [] (Some e) = refl
listed_walk k p (t ∷ ts) stop = ap (onto (part_row k p t) p) (listed_walk k (p + length t) ts stop)

-- a sound statement, with its place or not
item_holds : (valid : List ℕ → Bool) (o : Option (List ℕ)) → holds valid o ≡ true → item_read valid o ≡ Some o
item_holds valid None h = refl
item_holds valid (Some x) h = rw h refl

module _ (k : Kind) (p : ℕ) (t : List ℕ) where
  sound_found : (b : Bool) (q : ℕ) (m n : Message) → holds k.valid (item_in n) ≡ b → cond {A = Result (ℕ × Message) (ℕ × ℕ)} b (Ok (p, n)) (Err (number_of refusals.Entry, p)) ≡ Ok (q, m)
      → message_row k p (Ok n) ≡ Some (row_of k q m)
  sound_found true q m n h e =
      let same : ◌≡◌ {A = ℕ × Message} (p, n) (q, m) = cc in
      ap (option_map (λ _. row_of k p n)) (item_holds k.valid (item_in n) h) ∙ ap (λ (x : ℕ × Message). Some (row_of k x.0 x.1)) same
  sound_found false q m n h e = absurd (let z : ◌≡◌ {A = ℕ} 0 1 = cc in omega arith)

  pub row_found : (q : ℕ) (m : Message) → part_read k p t ≡ Ok (q, m) → part_row k p t ≡ Some (row_of k q m)
  row_found q m e = by (parse_of k.width t) refl
    where
      by : (v : Result Message ℕ) → parse_of k.width t ≡ v → part_row k p t ≡ Some (row_of k q m)
      by (Ok n) is = ap (message_row k p) is ∙ sound_found (holds k.valid (item_in n)) q m n refl (sym (ap (sound_at k p) is) ∙ e)
      by (Err r) is = absurd (let f = sym (ap (sound_at k p) is) ∙ e in let z : ◌≡◌ {A = ℕ} 0 1 = cc in omega arith)

-- one turn of the list: a step is a fault, or a part that is read
module _ (k : Kind) (l : Listed) (more : List Step) where
  pub at_row :
      (step : Result Part Fault) (p : ℕ) (m : Message)
      → MatchResult step (λ part. part_read k part.place part.bytes.now ≡ Ok (p, m)) (λ e. ⊥)
      → behind l (listed k (step_of step ∷ more)) ≡ behind (grown (row_of k p m) l) (listed k more)
  at_row (Err e) p m is = absurd is
  at_row (Ok part) p m is =
      let row = row_of k p m in
      let r = listed k more in
      ap (λ o. behind l (onto o part.place r)) (row_found k part.place part.bytes.now p m is)
      ∙ (λ i. record { rows = sym (append_assoc l.rows row r.rows) i; count = sym (add_assoc l.count 1 r.count) i; fault = r.fault })

  pub whole_after : (step : Result Part Fault) → Statements k.width (parts_in (step_of step ∷ more)) → Statements k.width (parts_in more)
  whole_after (Ok part) whole = whole.1
  whole_after (Err e) whole = whole
