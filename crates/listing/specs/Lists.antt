-- The statements of a frame as rows, up to its end or its first fault.
use Rattle.std.specs.Prelude.{◌≡◌, ℕ, ◌+◌, ◌≤◌, Bool, true, cond, ◌⊎◌, List, [], ◌∷◌, ◌++◌, length, take, Some, None, Ok, Err, Option, Result}
use Rattle.std.specs.Option.{option_map}
use Rattle.common.specs.Refusals.{number_of}
use Rattle.common.specs.declared.refusal.Refusal.TheVariants as refusals
use Rattle.wire.specs.Statements.{Message, item_in}
use Rattle.wire.specs.Codec.{parse_of}
use Rattle.wire.specs.Frames.{next_of, walk_of, joined}
use Rattle.listing.specs.Rows.{Kind, row_of}

-- the entry of a statement, if it has one; nothing where its bytes are no entry
abbrev pub item_read : (List ℕ → Bool) → Option (List ℕ) → Option (Option (List ℕ))
item_read valid None = Some None
item_read valid (Some x) = cond (valid x) (Some (Some x)) None

-- the row of one statement's bytes, if they are one and its entry is of the kind
abbrev pub message_row : Kind → ℕ → Result Message ℕ → Option (List ℕ)
message_row k p (Ok m) = option_map (λ _. row_of k p m) (item_read k.valid (item_in m))
message_row k p (Err e) = None

abbrev pub part_row : Kind → ℕ → List ℕ → Option (List ℕ)
part_row k p t = message_row k p (parse_of k.width t)

-- its entry, if it has one, is of the kind
abbrev pub holds : (List ℕ → Bool) → Option (List ℕ) → Bool
holds valid None = true
holds valid (Some x) = valid x

abbrev pub sound_at : Kind → ℕ → Result Message ℕ → Result (ℕ × Message) (ℕ × ℕ)
sound_at k p (Ok m) = cond (holds k.valid (item_in m)) (Ok (p, m)) (Err (number_of refusals.Entry, p))
sound_at k p (Err e) = Err (e, p)

-- what is read of one statement's bytes: the statement, or why it is not sound, each with its place
abbrev pub part_read : Kind → ℕ → List ℕ → Result (ℕ × Message) (ℕ × ℕ)
part_read k p t = sound_at k p (parse_of k.width t)

-- the rows of the sound statements, how many they are, and the refusal's number and the place where no more follow,
-- if that is no end
pub record Listed : Type 0 where
  pub rows : List ℕ
  pub count : ℕ
  pub fault : Option (ℕ × ℕ)

-- a list with one row more behind the others
abbrev pub grown : List ℕ → Listed → Listed
grown row l = record { rows = l.rows ++ row; count = l.count + 1; fault = l.fault }

abbrev pub onto : Option (List ℕ) → ℕ → Listed → Listed
onto None p more = record { rows = []; count = 0; fault = Some (number_of refusals.Entry, p) }
onto (Some row) p more = record { rows = row ++ more.rows; count = 1 + more.count; fault = more.fault }

-- the statements of a walk that begins at the place p
abbrev pub list_from : Kind → ℕ → List (List ℕ) → Option ℕ → Listed
list_from k p [] stop = record { rows = []; count = 0; fault = option_map (λ e. (e, p)) stop }
list_from k p (t ∷ ts) stop = onto (part_row k p t) p (list_from k (p + length t) ts stop)

abbrev pub list_of : Kind → List ℕ → Listed
list_of k s = list_from k 0 (walk_of k.width s).found (walk_of k.width s).stop

-- the rows of these statements, from the place p on, are rs
abbrev pub Rows : Kind → ℕ → List (List ℕ) → List ℕ → Type 0
Rows k p [] rs = rs ≡ []
Rows k p (t ∷ ts) rs = (row more : List ℕ) × (part_row k p t ≡ Some row) × (rs ≡ row ++ more) × Rows k (p + length t) ts more

-- The rows account for each byte of the frame up to the fault: the statements that are listed, joined, are
-- all that stands before it, and at the fault either next declines or the statement holds no entry.
pub record Accounts (k : Kind) (s : List ℕ) : Type 0 where
  pub sound : List (List ℕ)
  pub rows : Rows k 0 sound (list_of k s).rows
  pub count : (list_of k s).count ≡ length sound
  pub whole : (list_of k s).fault ≡ None → s ≡ joined sound
  pub torn :
      (e p : ℕ) → (list_of k s).fault ≡ Some (e, p)
      → (p ≤ length s) × (joined sound ≡ take p s)
      × ((next_of k.width s p ≡ Err e) ⊎ ((e ≡ number_of refusals.Entry) × ((t : List ℕ) × (next_of k.width s p ≡ Ok (Some t)) × (part_row k p t ≡ None))))
