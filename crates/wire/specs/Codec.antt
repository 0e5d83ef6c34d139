-- Reading and writing one statement.
use Rattle.std.specs.Prelude.{ℕ, cond, List, [], ◌∷◌, ◌++◌, length, drop, Some, None, Ok, Err, Option, Result, nat_lt, slice_index}
use Rattle.common.specs.Refusals.{number_of, declined}
use Rattle.common.specs.declared.refusal.Refusal.TheVariants as refusals
use Rattle.wire.specs.Letters.{letter_of, length_of}
use Rattle.wire.specs.Statements.{Message, send, echo, ready, have, value, seen, confirm, finish, bytes_of}
use Rattle.wire.specs.declared.letter.Letter.{Letter}
use Rattle.wire.specs.declared.letter.Letter.TheVariants.{Send, Echo, Ready, Have, Value, Seen, Confirm, Finish}

-- what the bytes of a statement say
abbrev pub read_of : Letter → List ℕ → Message
read_of Send s = send (slice_index s 1) (drop 2 s)
read_of Echo s = echo (slice_index s 1) (slice_index s 2) (drop 3 s)
read_of Ready s = ready (slice_index s 1) (slice_index s 2) (drop 3 s)
read_of Have s = have (slice_index s 1) (slice_index s 2) (drop 3 s)
read_of Value s = value (slice_index s 1) (slice_index s 2) (slice_index s 3)
read_of Seen s = seen (slice_index s 1) (slice_index s 2) (slice_index s 3)
read_of Confirm s = confirm (slice_index s 1) (slice_index s 2) (slice_index s 3)
read_of Finish s = finish (slice_index s 1) (slice_index s 2)

abbrev pub whole_of : ℕ → List ℕ → Option Letter → Result Message ℕ
whole_of w s None = declined refusals.Letter
whole_of w s (Some l) =
    cond (nat_lt (length s) (length_of w l)) (declined refusals.Short)
    (cond (nat_lt (length_of w l) (length s)) (declined refusals.Long) (Ok (read_of l s)))

-- one statement, where an entry has w bytes
abbrev pub parse_of : ℕ → List ℕ → Result Message ℕ
parse_of w [] = declined refusals.Short
parse_of w (b ∷ s) = whole_of w (b ∷ s) (letter_of b)

-- there are as many bytes as wanted
abbrev pub measured : ℕ → List ℕ → Result (Unit {0}) ℕ
measured n s = cond (nat_lt (length s) n) (declined refusals.Short) (cond (nat_lt n (length s)) (declined refusals.Long) (Ok tt))

-- the entry is too short or too long for its kind; one test with `measured` above would need a map from an answer to
-- an option, which is no plainer
abbrev pub misfit : ℕ → List ℕ → Option ℕ
misfit w x = cond (nat_lt (length x) w) (Some (number_of refusals.Short)) (cond (nat_lt w (length x)) (Some (number_of refusals.Long)) None)

-- the epoch is too large for its byte
abbrev pub oversize : ℕ → Option ℕ
oversize e = cond (nat_lt 255 e) (Some (number_of refusals.Range)) None

-- why a statement has no bytes, by its number
abbrev pub unfit : ℕ → Message → Option ℕ
unfit w (send s x) = misfit w x
unfit w (echo q s x) = misfit w x
unfit w (ready q s x) = misfit w x
unfit w (have q s x) = misfit w x
unfit w (value e r b) = oversize e
unfit w (seen e r b) = oversize e
unfit w (confirm e r u) = oversize e
unfit w (finish e b) = oversize e

-- bytes laid over the front of others, if they fit
abbrev pub placed : Option ℕ → List ℕ → List ℕ → Result ℕ ℕ × List ℕ
placed (Some e) bs out = (Err e, out)
placed None bs out = cond (nat_lt (length out) (length bs)) (declined refusals.Room, out) (Ok (length bs), bs ++ drop (length bs) out)

abbrev pub write_of : ℕ → Message → List ℕ → Result ℕ ℕ × List ℕ
write_of w m out = placed (unfit w m) (bytes_of m) out
