-- A statement as it goes over the wire.
use Rattle.std.specs.Prelude.{ℕ, List}
use Rattle.theory.specs.Count.{bit}
use Rattle.theory.specs.Statement.{Stmt, sends, echo, ready, have, value, seen, confirm, finish}
use Rattle.wire.specs.Statements.{Message, bytes_of}
use Rattle.wire.specs.Statements as message
use Rattle.votes.specs.Sets.{number_of_set}

abbrev pub spoken : Stmt (List ℕ) → Message
spoken (sends s x) = message.send s x
spoken (echo q s x) = message.echo q s x
spoken (ready q s x) = message.ready q s x
spoken (have q s x) = message.have q s x
spoken (value e k v) = message.value e k (bit v)
spoken (seen e k v) = message.seen e k (bit v)
spoken (confirm e k u) = message.confirm e k (number_of_set u)
spoken (finish e v) = message.finish e (bit v)

-- its bytes
abbrev pub spelled : Stmt (List ℕ) → List ℕ
spelled s = bytes_of (spoken s)
