-- A frame is walked, one statement after the other.
use Rattle.std.specs.Prelude.{◌≡◌, ℕ, ◌+◌, ◌≤◌, List, [], ◌∷◌, length, take, All, Some, None, Ok, Err, Option, Result}
use Rattle.common.specs.Refusals.{number_of}
use Rattle.wire.specs.Frames.{next_of, walk_of, joined, Statements}
use Rattle.wire.specs.declared.part.Part.{Part}
use Rattle.wire.specs.declared.part.Fault.{Fault}
use Rattle.wire.specs.declared.parts.Parts.{Parts}

-- a statement, or the number of what follows instead, each with its place
abbrev pub Step : Type 0
Step = Result (ℕ × List ℕ) (ℕ × ℕ)

-- what a walk hands out
abbrev pub step_of : Result Part Fault → Step
step_of (Ok part) = Ok (part.place, part.bytes.now)
step_of (Err fault) = Err (number_of fault.refusal, fault.place)

-- the steps of a walk that begins at the place p
abbrev pub steps_from : ℕ → List (List ℕ) → Option ℕ → List Step
steps_from p [] None = []
steps_from p [] (Some e) = Err (e, p) ∷ []
steps_from p (t ∷ ts) stop = Ok (p, t) ∷ steps_from (p + length t) ts stop

abbrev pub steps_of : ℕ → ℕ → List ℕ → List Step
steps_of w p s = steps_from p (walk_of w s).found (walk_of w s).stop

-- what is still to be handed out
abbrev pub left : {K : Type 0} → ℕ → Parts K → List Step
left w it = steps_of w it.place it.rest.now

-- the statements among these steps
abbrev pub parts_in : List Step → List (List ℕ)
parts_in [] = []
parts_in (Ok part ∷ more) = part.1 ∷ parts_in more
parts_in (Err fault ∷ more) = parts_in more

-- the fault among these steps, if there is one
abbrev pub fault_among : List Step → Option (ℕ × ℕ)
fault_among [] = None
fault_among (Ok part ∷ more) = fault_among more
fault_among (Err fault ∷ more) = Some fault

-- the step lies inside of n bytes
abbrev pub Inside : ℕ → Step → Type 0
Inside n (Ok part) = part.0 + length part.1 ≤ n
Inside n (Err fault) = fault.1 ≤ n

-- these are what next hands out from the place p on, up to where it declines or hands out none
abbrev pub Given : ℕ → List ℕ → ℕ → List Step → Type 0
Given w s p [] = next_of w s p ≡ Ok None
Given w s p (Ok part ∷ more) = (part.0 ≡ p) × (next_of w s p ≡ Ok (Some part.1)) × Given w s (p + length part.1) more
Given w s p (Err fault ∷ more) = (fault.1 ≡ p) × (next_of w s p ≡ Err fault.0) × (more ≡ [])

-- To walk a frame is to go over it with next: the statements that are handed out are whole; joined they are the
-- frame up to the fault, and all of it if there is none.
pub record Walked (w : ℕ) (s : List ℕ) : Type 0 where
  pub given : Given w s 0 (steps_of w 0 s)
  pub whole : Statements w (parts_in (steps_of w 0 s))
  pub ended : fault_among (steps_of w 0 s) ≡ None → s ≡ joined (parts_in (steps_of w 0 s))
  pub stopped : (e p : ℕ) → fault_among (steps_of w 0 s) ≡ Some (e, p) → joined (parts_in (steps_of w 0 s)) ≡ take p s
  pub inside : All (Inside (length s)) (steps_of w 0 s)
  pub few : length (steps_of w 0 s) ≤ length s
