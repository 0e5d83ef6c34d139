-- The own finishes of the epochs that were left.
use Rattle.std.specs.Prelude.{ℕ, Bool, None, Option, slice_index_or, slice_set}
use Rattle.votes.specs.Votes.{bit_of}
use Rattle.replica.specs.declared.state.Replica.{Replica}

-- the one of an epoch, if any was kept
abbrev pub past_of : Replica → ℕ → Option Bool
past_of m e = slice_index_or m.past e None

-- that of the current epoch is kept as well
abbrev pub finish_kept : Replica → Replica
finish_kept m = record {
  set = m.set;
  epoch = m.epoch;
  stage = m.stage;
  votes = m.votes;
  past = slice_set m.past m.epoch (bit_of m.votes.finish m.set.me);
  heads = m.heads;
  pages = m.pages;
}
