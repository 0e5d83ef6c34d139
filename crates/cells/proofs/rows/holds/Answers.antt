use Rattle.std.proofs.Common.{◌≡◌, ℕ, Bool, false, List, Some, None, Option, Decides, ◌∙◌, rules}
use Rattle.std.specs.Option.{option_map, MatchOption}
use Rattle.std.proofs.lemmas.Bool.Decides.{same_from_decides}
use Rattle.std.proofs.lemmas.Slice.Eq.{bytes_eq-Decides}
use Rattle.cells.specs.Rows.{holds}
use Rattle.cells.proofs.rows.holds.Goals as goal

held : {K : Type 0} (b : K → List ℕ) (eq : K → K → Bool) → ((x y : K) → Decides (eq x y) (b x ≡ b y)) → (x : K) (r : Bool) (o : Option K) → MatchOption o (r ≡ false) (λ y. r ≡ eq y x) → r ≡ holds (b x) (option_map b o)
held b eq same x r None h = h
held b eq same x r (Some y) h = h ∙ same_from_decides (eq y x) _ (same y x) (bytes_eq-Decides (b y) (b x))

pub returns : goal.returns
returns g c = held g.K.Entry.bytes _ g.met.K.Entry.same c.args.x.now c.is_some_and.result c.args.cell.now (search rules)
