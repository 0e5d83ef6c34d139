-- What there is, where something was found.
use Rattle.std.proofs.Common.{◌≡◌, Bool, true, false, Some, None, Option, refl}
use Rattle.std.specs.Option.{option_map}
use Rattle.theory.proofs.Books.{none≢some}
use Rattle.replica.specs.View.{held}

pub held_some : {A : Type 0} (b : Bool) (o : Option A) (x : A) → held b o ≡ Some x → (b ≡ true) × (o ≡ Some x)
held_some true o x e = (refl, e)
held_some false o x e = absurd (none≢some e)

pub mapped_some : {A B : Type 0} (f : A → B) (o : Option A) (x : B) → option_map f o ≡ Some x → (a : A) × (o ≡ Some a) × (f a ≡ x)
mapped_some f None x e = absurd (none≢some e)
mapped_some f (Some a) x e = (a, refl, cc)
