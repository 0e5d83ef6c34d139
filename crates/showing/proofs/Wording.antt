-- A claim's entry, written and stated.
use Rattle.std.proofs.Common.{◌≡◌, ℕ, List, Some, sym, ap, ◌∙◌}
use Rattle.theory.specs.Statement.{entry_stated}
use Rattle.wire.specs.Statements.{Message}
use Rattle.replica.specs.declared.claim.Claim.{Claim}
use Rattle.replica.specs.Claims.{claim_of}
use Rattle.showing.specs.Spoken.{spoken}

-- a statement of the entry's bytes
pub item_stated :
    {K : Type 0} (b : K → List ℕ) (st : List ℕ → Message) (claim is : Claim K) (item x : List ℕ)
    → claim ≡ is → ((y : List ℕ) → entry_stated (claim_of b claim) ≡ Some y → item ≡ y)
    → entry_stated (claim_of b is) ≡ Some x → spoken (claim_of b is) ≡ st x → st item ≡ spoken (claim_of b claim)
item_stated b st claim is item x e given has says =
    ap st (given x (ap (λ c. entry_stated (claim_of b c)) e ∙ has)) ∙ sym (ap (λ c. spoken (claim_of b c)) e ∙ says)
