-- What each case of a claim states, with the values that it carries.
use Rattle.std.specs.Prelude.{ℕ, List}
use Rattle.theory.specs.Statement.{Stmt, sends, echo, ready, have, value, seen, confirm, finish}
use Rattle.votes.specs.Sets.{bits_of}
use Rattle.replica.specs.declared.claim.Claim as declared
use Rattle.replica.specs.declared.claim.Claim.TheVariants.{Send, Echo, Ready, Have, Value, Seen, Confirm, Finish}

abbrev pub claim_of : {K : Type 0} → (K → List ℕ) → declared.Claim K → Stmt (List ℕ)
claim_of bytes (Send s x) = sends s (bytes x)
claim_of bytes (Echo q s x) = echo q s (bytes x)
claim_of bytes (Ready q s x) = ready q s (bytes x)
claim_of bytes (Have q s x) = have q s (bytes x)
claim_of bytes (Value e k v) = value e k v
claim_of bytes (Seen e k v) = seen e k v
claim_of bytes (Confirm e k u) = confirm e k (bits_of u)
claim_of bytes (Finish e v) = finish e v
