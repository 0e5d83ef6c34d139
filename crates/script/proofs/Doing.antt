-- A script, one command after the other.
use Rattle.std.proofs.Common.{◌≡◌, ℕ, ◌≤◌, Bool, List, [], ◌∷◌, ◌++◌, length, Some, None, sym, refl, ap, ◌∙◌, subst, append-nil, arith, fold}
use Rattle.promises.specs.Runs.{Kind, submit, opens, hear, turns}
use Rattle.promises.specs.Promised.{Set}
use Rattle.group.specs.Groups.{Group}
use Rattle.group.specs.Traces.{Ran, Fairly}
use Rattle.group.proofs.Keeping.{called_long, settled_long}
use Rattle.group.proofs.Resting.{true≢false}
use Rattle.group.proofs.Fairing.{call_fair, settled_fair}
use Rattle.group.proofs.Tracing.{nothing_ran, call_ran, settled_ran}
use Rattle.script.specs.Commands.{Command, calls, prints, settles, first_of}
use Rattle.script.specs.Scripts.{Form, Run, read_of, fault_line, done, ended, played, Runs, Unforged, Plays}
use Rattle.script.proofs.Cutting.{read_none, read_more, read_stop}

-- commands that forge nothing in an honest name make fair calls
module _ (S : Set) (heading : List ℕ) (columns : List ℕ → List ℕ) where
  abbrev F : Form
  F = record { kind = S.kind; heading = heading; columns = columns }

  all_fair : (cs : List Command) (r : Run) → Unforged S.honest cs → Fairly S r.1 → Fairly S (fold (done F S.coin) r cs).1
  all_fair [] r u f = f
  all_fair (calls i (hear j s) ∷ cs) r u f = all_fair cs (done F S.coin r (calls i (hear j s))) u.1 (call_fair S r.1 i (hear j s) f (λ hi ok hj. absurd (true≢false (sym hj.1 ∙ u.0))))
  all_fair (calls i (submit x) ∷ cs) r u f = all_fair cs (done F S.coin r (calls i (submit x))) u (call_fair S r.1 i (submit x) f (λ hi. tt))
  all_fair (calls i opens ∷ cs) r u f = all_fair cs (done F S.coin r (calls i opens)) u (call_fair S r.1 i opens f (λ hi. tt))
  all_fair (calls i turns ∷ cs) r u f = all_fair cs (done F S.coin r (calls i turns)) u (call_fair S r.1 i turns f (λ hi. tt))
  all_fair (prints i ∷ cs) r u f = all_fair cs (done F S.coin r (prints i)) u f
  all_fair (settles ∷ cs) r u f = all_fair cs (done F S.coin r settles) u (settled_fair S r.1 f)

module _ (F : Form) (coin : ℕ → ℕ → Bool) where
  -- nobody comes or goes
  pub done_long : (r : Run) (c : Command) → length (done F coin r c).1 ≡ length r.1
  done_long r (calls i c) = called_long F.kind coin r.1 i c
  done_long r (prints i) = refl
  done_long r settles = settled_long F.kind coin r.1

  -- a command is a list of calls, and so is a script
  done_ran : (g : Group) (r : Run) (c : Command) → Ran F.kind coin g r.1 → Ran F.kind coin g (done F coin r c).1
  done_ran g r (calls i c) ran = call_ran F.kind coin g r.1 i c ran
  done_ran g r (prints i) ran = ran
  done_ran g r settles ran = settled_ran F.kind coin g r.1 ran

  all_ran : (g : Group) (cs : List Command) (r : Run) → Ran F.kind coin g r.1 → Ran F.kind coin g (fold (done F coin) r cs).1
  all_ran g [] r ran = ran
  all_ran g (c ∷ cs) r ran = all_ran g cs (done F coin r c) (done_ran g r c ran)

  played_ran : (s : List ℕ) (r : Run) → Ran F.kind coin r.1 (played F coin s r).1
  played_ran s r = all_ran r.1 (read_of F.kind.width (length r.1) s).commands r (nothing_ran F.kind coin r.1)

  pub runs : (s : List ℕ) (g : Group) → Runs F coin s g
  runs s g = played_ran s ([], g)

  pub plays : (s : List ℕ) (g : Group) → Plays F coin s g
  plays s g S kind same named unforged =
      let cs = (read_of F.kind.width (length g) s).commands in
      let form : Kind → Form = λ K. record { kind = K; heading = F.heading; columns = F.columns } in
      let start : Fairly S g = record { calls = []; fair = tt; ends = named } in
      subst (λ (c : ℕ → ℕ → Bool). Fairly S (fold (done F c) ([], g) cs).1) same
      (subst (λ (K : Kind). Fairly S (fold (done (form K) S.coin) ([], g) cs).1) kind
      (all_fair S F.heading F.columns cs ([], g) unforged start))

  module _ (n total : ℕ) (s : List ℕ) (r : Run) where
    pub ended_more :
        (d : ℕ → ℕ → Bool) (p : Command × List ℕ) (q : Run) → first_of F.kind.width n s ≡ Some p → d ≡ coin → q ≡ done F d r p.0
        → ended F coin total q (read_of F.kind.width n p.1) ≡ ended F coin total r (read_of F.kind.width n s)
    ended_more d p q is same h =
        ap (λ x. ended F coin total x (read_of F.kind.width n p.1)) (h ∙ ap (λ m. done F m r p.0) same)
        ∙ sym (ap (ended F coin total r) (read_more F.kind.width n s p is))

    pub ended_stop : 1 ≤ length s → first_of F.kind.width n s ≡ None → (r.0 ++ fault_line total (Some s), r.1) ≡ ended F coin total r (read_of F.kind.width n s)
    ended_stop some is = sym (ap (ended F coin total r) (read_stop F.kind.width n s some is))

  pub ended_end : (n total : ℕ) (r : Run) → r ≡ ended F coin total r (read_of F.kind.width n [])
  ended_end n total r = sym (ap (ended F coin total r) (read_none F.kind.width n) ∙ ap (λ l. (l, r.1)) (append-nil r.0))

pub none_left : (s : List ℕ) → length s ≡ 0 → s ≡ []
none_left [] e = refl
none_left (b ∷ s) e = absurd (omega arith)
