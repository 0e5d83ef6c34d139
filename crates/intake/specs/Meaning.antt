-- What hearing comes to, in the theory's words.
use Rattle.std.specs.Prelude.{◌≡◌, ℕ, Bool, true, List, Some, Ok, Option, Result}
use Rattle.std.specs.Option.{option_map}
use Rattle.theory.specs.Statement as theory
use Rattle.theory.specs.Statement.{Stmt}
use Rattle.theory.specs.Machine.{small, hears}
use Rattle.theory.specs.Calls.{accepts}
use Rattle.wire.specs.Statements.{Message, send, echo, ready, have, value, seen, confirm, finish}
use Rattle.wire.specs.Codec.{parse_of}
use Rattle.votes.specs.Sets.{set_numbered}
use Rattle.replica.specs.declared.state.Replica.{Replica}
use Rattle.replica.specs.Store.{Store, fits}
use Rattle.replica.specs.View.{held, plan, box}
use Rattle.replica.specs.Holding.{Sized}
use Rattle.intake.specs.Hearing.{bit_numbered}

-- the statement that a message means, whatever the replica: its entry is one of the kind, its bit a bit, its set a set
abbrev pub means_of : (List ℕ → Bool) → Message → Option (Stmt (List ℕ))
means_of valid (send s x) = held (valid x) (Some (theory.sends s x))
means_of valid (echo q s x) = held (valid x) (Some (theory.echo q s x))
means_of valid (ready q s x) = held (valid x) (Some (theory.ready q s x))
means_of valid (have q s x) = held (valid x) (Some (theory.have q s x))
means_of valid (value e k b) = option_map (theory.value e k) (bit_numbered b)
means_of valid (seen e k b) = option_map (theory.seen e k) (bit_numbered b)
means_of valid (confirm e k u) = option_map (theory.confirm e k) (set_numbered u)
means_of valid (finish e b) = option_map (theory.finish e) (bit_numbered b)

-- the bytes are the statement x
pub record Says (w : ℕ) (valid : List ℕ → Bool) (s : List ℕ) (x : Stmt (List ℕ)) : Type 0 where
  pub message : Message
  pub parsed : parse_of w s ≡ Ok message
  pub meant : means_of valid message ≡ Some x

-- Of bytes s from sender j: accepted, they are a statement that the theory's box accepts and then has heard;
-- and every such statement is accepted, where the tables are long enough.
pub record Hears (w : ℕ) (valid : List ℕ → Bool) (m : Replica) (t : Store) (j : ℕ) (s : List ℕ) (answer : Result (Unit {0}) ℕ) (after : Replica) (left : Store) : Type 0 where
  pub accepted : answer ≡ Ok tt → (x : Stmt (List ℕ)) × Says w valid s x × (accepts (plan m) (box m t) j x ≡ true) × (Sized m → (box after left ≡ small (hears j x) (box m t)) × Sized after)
  pub accepting : fits m.set.n m.set.w t ≡ true → (x : Stmt (List ℕ)) → Says w valid s x → accepts (plan m) (box m t) j x ≡ true → answer ≡ Ok tt
