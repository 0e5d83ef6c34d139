-- The theory's small steps on a replica and its tables, cell by cell.
use Rattle.std.specs.Prelude.{ℕ, ◌+◌, min, false, List, [], ◌∷◌, length, set, Some, None, Option}
use Rattle.std.specs.List.{slice_get}
use Rattle.theory.specs.Statement.{value}
use Rattle.theory.specs.Book.{Page}
use Rattle.theory.specs.Machine.{Stage, unopened, awaiting, running, Small, says, hears, stays, enters, leaves, Steps}
use Rattle.votes.specs.Votes.{no_votes}
use Rattle.replica.specs.declared.state.Replica.{Replica}
use Rattle.replica.specs.declared.state.Stage as declared
use Rattle.replica.specs.declared.state.Stage.TheVariants.{Unopened, Open, Awaiting}
use Rattle.replica.specs.Store.{Store}
use Rattle.replica.specs.Finishing.{finish_kept}
use Rattle.replica.specs.View.{book_of}
use Rattle.replica.specs.Holding.{held_of}

abbrev pub stage_in : Stage → declared.Stage
stage_in unopened = Unopened
stage_in awaiting = Awaiting
stage_in (running r d) = Open r d

abbrev pub with_stage : Replica → declared.Stage → Replica
with_stage m g = record { set = m.set; epoch = m.epoch; stage = g; votes = m.votes; past = m.past; heads = m.heads; pages = m.pages }

-- the epoch is left: its votes go, but the own finish stays; the next begins, not open
abbrev pub left_of : Replica → Replica
left_of m = record {
  set = m.set;
  epoch = m.epoch + 1;
  stage = Unopened;
  votes = no_votes;
  past = (finish_kept m).past;
  heads = m.heads;
  pages = m.pages;
}

-- how many pages there are with one more; the count stops where it has no more room, which no set's book comes to
abbrev pub one_more : ℕ → ℕ
one_more pages = min (pages + 1) 65535

-- a page is written behind the others, and the head of its queue is its slot plus 1
abbrev pub with_page : Replica → Page (List ℕ) → Replica
with_page m p = record { set = m.set; epoch = m.epoch; stage = m.stage; votes = m.votes; past = m.past; heads = set m.heads p.queue (p.slot + 1); pages = one_more m.pages }

abbrev pub filed_of : Option (Page (List ℕ)) → Replica → Store → Replica × Store
filed_of None m t = (m, t)
filed_of (Some p) m t = (with_page m p, record { sends = t.sends; echoes = t.echoes; readies = t.readies; haves = t.haves; pages = set t.pages m.pages (Some p) })

abbrev pub step_of : Small (List ℕ) → Replica → Store → Replica × Store
step_of (says st) m t = held_of m t m.set.me st
step_of (hears j st) m t = held_of m t j st
step_of (stays g) m t = (with_stage m (stage_in g), t)
step_of (enters e v) m t = held_of (with_stage m (Open 0 false)) t m.set.me (value e 0 v)
-- the page that the ledger has behind the replica's book, if any, is written
step_of (leaves l) m t = let p = filed_of (slice_get l.book (length (book_of m t))) m t in (left_of p.0, p.1)

-- one after the other
abbrev pub steps_of : Steps (List ℕ) → Replica → Store → Replica × Store
steps_of [] m t = (m, t)
steps_of (s ∷ l) m t = let p = step_of s m t in steps_of l p.0 p.1
