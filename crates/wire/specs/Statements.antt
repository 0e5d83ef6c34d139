-- A statement and its bytes.
use Rattle.std.specs.Prelude.{ℕ, List, [], ◌∷◌, Some, None, Option}
use Rattle.wire.specs.Letters.{byte_of}
use Rattle.wire.specs.declared.letter.Letter.{Letter}
use Rattle.wire.specs.declared.letter.Letter.TheVariants as letters
use Rattle.wire.specs.declared.statement.Statement as declared
use Rattle.wire.specs.declared.statement.Statement.TheVariants.{Send, Echo, Ready, Have, Value, Seen, Confirm, Finish}

-- a statement, with its entry as a byte string of its own
pub data Message : Type 0 where
  send : (slot : ℕ) → List ℕ → Message
  echo ready have : (queue slot : ℕ) → List ℕ → Message
  value seen : (epoch round bit : ℕ) → Message
  confirm : (epoch round set : ℕ) → Message
  finish : (epoch bit : ℕ) → Message

-- what is said by each case of the type, and the values that it carries
abbrev pub message_of : declared.Statement → Message
message_of (Send s x) = send s x.now
message_of (Echo q s x) = echo q s x.now
message_of (Ready q s x) = ready q s x.now
message_of (Have q s x) = have q s x.now
message_of (Value e r b) = value e r b
message_of (Seen e r b) = seen e r b
message_of (Confirm e r u) = confirm e r u
message_of (Finish e b) = finish e b

abbrev pub letter_in : Message → Letter
letter_in (send s x) = letters.Send
letter_in (echo q s x) = letters.Echo
letter_in (ready q s x) = letters.Ready
letter_in (have q s x) = letters.Have
letter_in (value e r b) = letters.Value
letter_in (seen e r b) = letters.Seen
letter_in (confirm e r u) = letters.Confirm
letter_in (finish e b) = letters.Finish

-- its operands, a byte each, and the entry last
abbrev pub operands_in : Message → List ℕ
operands_in (send s x) = s ∷ x
operands_in (echo q s x) = q ∷ s ∷ x
operands_in (ready q s x) = q ∷ s ∷ x
operands_in (have q s x) = q ∷ s ∷ x
operands_in (value e r b) = e ∷ r ∷ b ∷ []
operands_in (seen e r b) = e ∷ r ∷ b ∷ []
operands_in (confirm e r u) = e ∷ r ∷ u ∷ []
operands_in (finish e b) = e ∷ b ∷ []

-- a letter and operands
abbrev pub bytes_of : Message → List ℕ
bytes_of m = byte_of (letter_in m) ∷ operands_in m

-- its entry, if it has one
abbrev pub item_in : Message → Option (List ℕ)
item_in (send s x) = Some x
item_in (echo q s x) = Some x
item_in (ready q s x) = Some x
item_in (have q s x) = Some x
item_in (value e r b) = None
item_in (seen e r b) = None
item_in (confirm e r u) = None
item_in (finish e b) = None
