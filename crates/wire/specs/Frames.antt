-- A frame is statements joined without gaps.
use Rattle.std.specs.Prelude.{◌≡◌, ℕ, zero, suc, ◌+◌, cond, List, [], ◌∷◌, ◌++◌, length, take, drop, Some, None, Ok, Err, Option, Result, nat_lt}
use Rattle.common.specs.Refusals.{declined}
use Rattle.common.specs.declared.refusal.Refusal.TheVariants as refusals
use Rattle.wire.specs.Letters.{letter_of, length_of}
use Rattle.wire.specs.Statements.{Message}
use Rattle.wire.specs.Codec.{parse_of}
use Rattle.wire.specs.declared.letter.Letter.{Letter}

abbrev pub cut_of : ℕ → List ℕ → Option Letter → Result (Option (List ℕ)) ℕ
cut_of w s None = declined refusals.Letter
cut_of w s (Some l) = cond (nat_lt (length s) (length_of w l)) (declined refusals.Short) (Ok (Some (take (length_of w l) s)))

-- the first statement of what is left of a frame, or its end
abbrev pub first_of : ℕ → List ℕ → Result (Option (List ℕ)) ℕ
first_of w [] = Ok None
first_of w (b ∷ s) = cut_of w (b ∷ s) (letter_of b)

-- the next statement from a place on
abbrev pub next_of : ℕ → List ℕ → ℕ → Result (Option (List ℕ)) ℕ
next_of w s p = cond (nat_lt (length s) p) (declined refusals.Place) (first_of w (drop p s))

-- the statements of a frame, in order, and why no more follow, if that is not its end
pub record Walk : Type 0 where
  pub found : List (List ℕ)
  pub stop : Option ℕ

abbrev pub onward : Result (Option (List ℕ)) ℕ → (List ℕ → Walk) → Walk
onward (Err e) more = record { found = []; stop = Some e }
onward (Ok None) more = record { found = []; stop = None }
onward (Ok (Some t)) more = record { found = t ∷ (more t).found; stop = (more t).stop }

-- at most n statements
unfoldable pub walked : ℕ → ℕ → List ℕ → Walk
walked zero w s = record { found = []; stop = None }
walked (suc n) w s = onward (first_of w s) (λ t. walked n w (drop (length t) s))

abbrev pub walk_of : ℕ → List ℕ → Walk
walk_of w s = walked (length s) w s

abbrev pub joined : List (List ℕ) → List ℕ
joined [] = []
joined (t ∷ ts) = t ++ joined ts

-- each of these is one whole statement
abbrev pub Statements : ℕ → List (List ℕ) → Type 0
Statements w [] = Unit {0}
Statements w (t ∷ ts) = ((m : Message) × (parse_of w t ≡ Ok m)) × Statements w ts

-- these are what next hands out from the place p on
abbrev pub Handed : ℕ → List ℕ → ℕ → List (List ℕ) → Type 0
Handed w s p [] = Unit {0}
Handed w s p (t ∷ ts) = (next_of w s p ≡ Ok (Some t)) × Handed w s (p + length t) ts

-- To walk a frame with next is to cut it into its statements: what is found are whole statements, joined they are
-- the frame's beginning, all of it if nothing stops the walk, and else next declines right behind them;
-- and a frame joined of whole statements is cut into just these.
pub record Walks (w : ℕ) (s : List ℕ) : Type 0 where
  pub handed : Handed w s 0 (walk_of w s).found
  pub whole : Statements w (walk_of w s).found
  pub front : s ≡ joined (walk_of w s).found ++ drop (length (joined (walk_of w s).found)) s
  pub ended : (walk_of w s).stop ≡ None → s ≡ joined (walk_of w s).found
  pub stopped : (e : ℕ) → (walk_of w s).stop ≡ Some e → next_of w s (length (joined (walk_of w s).found)) ≡ Err e
  pub cut : (ts : List (List ℕ)) → Statements w ts → s ≡ joined ts → ((walk_of w s).found ≡ ts) × ((walk_of w s).stop ≡ None)
