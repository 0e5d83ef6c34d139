-- The votes of an epoch: what two masks of senders mean, marking, and counts of senders.
use Rattle.std.specs.Prelude.{◌≡◌, ℕ, ◌/◌, ◌%◌, ◌^◌, Bool, true, false, cond, not, ◌&&◌, ◌||◌, replicate, Some, None, Option, ◌==◌, ◌≢◌, bit_or, nat_le}
use Rattle.theory.specs.Count.{count}
use Rattle.theory.specs.Statement.{Bits, only, both}
use Rattle.theory.specs.Turns.{set_of, same_bit}
use Rattle.votes.specs.declared.mask.Mask.{Mask}
use Rattle.votes.specs.declared.marks.Marks.{Marks}
use Rattle.votes.specs.declared.ballot.Round.{Round}
use Rattle.votes.specs.declared.ballot.Votes as declared

-- sender j is in the mask
unfoldable pub has : ℕ → ℕ → Bool
has mask j = mask / 2 ^ j % 2 == 1

-- the mask with sender j
abbrev pub with : ℕ → ℕ → ℕ
with mask j = bit_or mask (2 ^ j)

abbrev pub senders : ℕ → Mask
senders mask = record { 0 = mask }

abbrev pub unmarked : Marks
unmarked = record { zero = senders 0; one = senders 0 }

abbrev pub no_round : Round
no_round = record { values = unmarked; seens = unmarked; confirms = unmarked }

abbrev pub no_votes : declared.Votes
no_votes = record { rounds = replicate 16 no_round; finish = unmarked }

-- who has marked bit v
abbrev pub mask_of : Marks → Bool → ℕ
mask_of p true = p.one.0
mask_of p false = p.zero.0

-- a value: sender j has marked bit v
abbrev pub marks : Marks → Bool → ℕ → Bool
marks p v j = has (mask_of p v) j

-- a seen or a finish: the one bit of sender j, which is 0 if both are marked
abbrev pub one_bit : Bool → Bool → Option Bool
one_bit true o = Some false
one_bit false true = Some true
one_bit false false = None

abbrev pub bit_of : Marks → ℕ → Option Bool
bit_of p j = one_bit (marks p false j) (marks p true j)

abbrev pub is_bit : Bool → Option Bool → Bool
is_bit v None = false
is_bit v (Some u) = same_bit v u

-- a confirm: the set of sender j
abbrev pub set_for : Marks → ℕ → Option Bits
set_for p j = set_of (marks p false j) (marks p true j)

abbrev pub same_set : Bits → Bits → Bool
same_set (only v) (only u) = same_bit v u
same_set (only v) both = false
same_set both (only u) = false
same_set both both = true

abbrev pub is_set : Bits → Option Bits → Bool
is_set u None = false
is_set u (Some s) = same_set u s

-- sender j marks the bits of a set as well, or one bit
abbrev pub with_set : Marks → Bool → Bool → ℕ → Marks
with_set p zero one j = record { zero = senders (cond zero (with p.zero.0 j) p.zero.0); one = senders (cond one (with p.one.0 j) p.one.0) }

abbrev pub mark : Marks → Bool → ℕ → Marks
mark p v j = with_set p (not v) v j

-- bit v is among some bits: bit 0 is if zero, bit 1 is if one
abbrev pub among : Bool → Bool → Bool → Bool
among zero one true = one
among zero one false = zero

-- after that sender has these bits besides its own, and every other has what it had
pub record Marked (p : Marks) (zero one : Bool) (j : ℕ) (q : Marks) : Type 0 where
  pub own : (v : Bool) → marks q v j ≡ (marks p v j || among zero one v)
  pub others : (v : Bool) (i : ℕ) → (i ≢ j) → marks q v i ≡ marks p v i

-- the one bit of sender j is among the given ones
abbrev pub seen_inside : Marks → Bool → Bool → ℕ → Bool
seen_inside p zero one j = (zero && is_bit false (bit_of p j)) || (one && is_bit true (bit_of p j))

-- the set lies within the given bits
abbrev pub fits : Bool → Bool → Bits → Bool
fits zero one (only v) = among zero one v
fits zero one both = zero && one

-- sender j has the set u, and it lies within the given bits; or some such set
abbrev pub stands : Marks → Bool → Bool → Bits → ℕ → Bool
stands p zero one u j = fits zero one u && is_set u (set_for p j)

abbrev pub confirmed_in : Marks → Bool → Bool → ℕ → Bool
confirmed_in p zero one j = (stands p zero one (only false) j || stands p zero one (only true) j) || stands p zero one both j

-- bit v is in the union of such sets of the first n senders
abbrev pub union_has : Marks → Bool → Bool → ℕ → Bool → Bool
union_has p zero one n v = nat_le 1 (count n (λ j. stands p zero one (only v) j || stands p zero one both j))
