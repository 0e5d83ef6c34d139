-- Calls by bytes as the theory's calls by statements, and a set of replicas as the theory's rule.
use Rattle.std.proofs.Common.{◌≡◌, ℕ, ◌+◌, ◌*◌, ◌%◌, ◌<◌, ◌≤◌, cond, List, [], ◌∷◌, Some, None, Ok, Err, Option, Result, refl, ap, ◌∙◌, arith}
use Rattle.common.specs.Limits.{epochs, rounds}
use Rattle.common.specs.Quorums.{faults, echoes}
use Rattle.theory.specs.Statement.{Stmt, sends}
use Rattle.theory.specs.Plan.{Plan, Rule}
use Rattle.theory.specs.Calls as theory
use Rattle.theory.proofs.Books.{none≢some}
use Rattle.wire.specs.Statements.{Message}
use Rattle.wire.specs.Codec.{parse_of}
use Rattle.replica.specs.Store.{Store}
use Rattle.replica.specs.View.{bytes_same}
use Rattle.replica.specs.Making.{Numbers}
use Rattle.intake.specs.Meaning.{means_of, Says}
use Rattle.promises.specs.Runs.{Kind, Call, submit, opens, hear, turns, Asked}
use Rattle.promises.specs.Promised.{Set}

-- the terms of a replica with these numbers
abbrev pub plan_from : Numbers → Plan (List ℕ)
plan_from s = record { size = s.n; faults = s.f; quorum = s.q; width = s.w; epochs = epochs; rounds = rounds; queue = λ e. e % s.n; eq = bytes_same }

abbrev pub numbers_in : Set → ℕ → Numbers
numbers_in S i = record { n = S.n; w = S.w; f = faults S.n; q = echoes S.n; me = i }

pub few_room : (n : ℕ) → 4 ≤ n → 3 * faults n < n
few_room n h = omega arith

pub quorums_cross : (n : ℕ) → 4 ≤ n → n + faults n < 2 * echoes n
quorums_cross n h = omega arith

pub some_round : 1 ≤ rounds
some_round = omega arith

abbrev pub rule : Set → Rule (List ℕ)
rule S = record {
  plan = plan_from (numbers_in S 0);
  coin = S.coin;
  honest = S.honest;
  few = S.few;
  room = few_room S.n S.least;
  cross = quorums_cross S.n S.least;
  rounded = some_round;
}

module _ (K : Kind) where
  -- the statement that bytes say
  abbrev pub meant : Result Message ℕ → Option (Stmt (List ℕ))
  meant (Ok x) = means_of K.valid x
  meant (Err e) = None

  pub says_meant : (s : List ℕ) (x : Stmt (List ℕ)) → Says K.width K.valid s x → meant (parse_of K.width s) ≡ Some x
  says_meant s x h = ap meant h.parsed ∙ h.meant

  pub meant_says : (s : List ℕ) (x : Stmt (List ℕ)) → meant (parse_of K.width s) ≡ Some x → Says K.width K.valid s x
  meant_says s x h = at (parse_of K.width s) refl h
    where
      at : (r : Result Message ℕ) → parse_of K.width s ≡ r → meant r ≡ Some x → Says K.width K.valid s x
      at (Ok y) e h = record { message = y; parsed = e; meant = h }
      at (Err n) e h = absurd (none≢some h)

  -- a call that nobody accepts: to hear something from oneself
  abbrev pub idle : ℕ → theory.Call (List ℕ)
  idle i = theory.hear i (sends 0 [])

  abbrev pub heard_as : ℕ → ℕ → Option (Stmt (List ℕ)) → theory.Call (List ℕ)
  heard_as i j None = idle i
  heard_as i j (Some x) = theory.hear j x

  abbrev pub call_as : ℕ → Call → theory.Call (List ℕ)
  call_as i (submit s) = cond (K.valid s) (theory.submit s) (idle i)
  call_as i opens = theory.opens
  call_as i (hear j s) = heard_as i j (meant (parse_of K.width s))
  call_as i turns = theory.turns

  abbrev pub typed : ℕ → Option Store → Call → theory.Call (List ℕ)
  typed i None c = call_as i c
  typed i (Some t) c = idle i

  abbrev pub calls : List Asked → theory.Calls (List ℕ)
  calls [] = []
  calls (a ∷ c) = (a.at, typed a.at a.lent a.call) ∷ calls c
