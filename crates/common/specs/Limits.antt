-- The limits of a set of replicas.
use Rattle.std.specs.Prelude.{ℕ}

-- how many replicas a set has
abbrev pub least_replicas : ℕ
least_replicas = 4

abbrev pub most_replicas : ℕ
most_replicas = 16

-- how many slots a queue has at most
abbrev pub most_slots : ℕ
most_slots = 16

-- how many epochs a week has
abbrev pub epochs : ℕ
epochs = 256

-- how many rounds an epoch has
abbrev pub rounds : ℕ
rounds = 16
