-- A list of calls, one call more at a time.
use Rattle.std.proofs.Common.{◌≡◌, ℕ, ◌+◌, ◌<◌, Bool, List, [], ◌∷◌, ◌++◌, length, get_or, take, set, Result, sym, refl, ap, ◌∙◌, add-one, arith}
use Rattle.std.proofs.Math.Seq.{take-suc}
use Rattle.std.proofs.lemmas.Grind.{take-set_at}
use Rattle.replica.specs.declared.state.Replica.{Replica}
use Rattle.replica.specs.Store.{Store}
use Rattle.promises.specs.Runs.{Kind, Asked, call_of, after}
use Rattle.serving.specs.declared.call.Call as declared
use Rattle.serving.specs.Serves.{call_in, asked, behind, answers_of, served}

behind_last : (l : List Asked) (cs : List declared.Call) (c : declared.Call) → behind l (cs ++ (c ∷ [])) ≡ asked c ∷ behind l cs
behind_last l [] c = refl
behind_last l (x ∷ cs) c = behind_last (asked x ∷ l) cs c

module _ (kind : Kind) (coin : ℕ → ℕ → Bool) (m : Replica) (t : Store) where
  -- what was answered and is left, with one call more
  abbrev more : declared.Call → List (Result ℕ ℕ) × Replica × Store → List (Result ℕ ℕ) × Replica × Store
  more c p = let q = call_of kind coin p.1 p.2 (call_in c) in (p.0 ++ (q.0 ∷ []), q.1, q.2)

  served_more :
      (cs : List declared.Call) (c : declared.Call) (told : List (Result ℕ ℕ)) (m' m'' : Replica) (t' t'' : Store) (r : Result ℕ ℕ) → served kind coin m t cs ≡ (told, m', t')
      → (r, m'', t'') ≡ call_of kind coin m' t' (call_in c) → served kind coin m t (cs ++ (c ∷ [])) ≡ (told ++ (r ∷ []), m'', t'')
  served_more cs c told m' m'' t' t'' r was is =
      ap (λ l. let p = after kind coin (λ _. (m, t)) l 0 in (answers_of kind coin (m, t) l, p.0, p.1)) (behind_last [] cs c)
      ∙ ap (more c) was
      ∙ ap (λ (q : Result ℕ ℕ × Replica × Store). (told ++ (q.0 ∷ []), q.1, q.2)) (sym is)

  -- the call at a place, by a coin that means the same, whose answer is put down there
  pub served_step :
      (cs : List declared.Call) (i : ℕ) (d : declared.Call) → i < length cs → (told : List (Result ℕ ℕ)) → length told ≡ length cs
      → (m' m'' : Replica) (t' t'' : Store) (r : Result ℕ ℕ) → served kind coin m t (take i cs) ≡ (take i told, m', t')
      → (f : ℕ → ℕ → Bool) → f ≡ coin → (r, m'', t'') ≡ call_of kind f m' t' (call_in (get_or cs i d))
      → served kind coin m t (take (i + 1) cs) ≡ (take (i + 1) (set told i r), m'', t'')
  served_step cs i d l told size m' m'' t' t'' r was f same is =
      ap (served kind coin m t) (ap (λ k. take k cs) (add-one i) ∙ take-suc cs i d l)
      ∙ served_more (take i cs) (get_or cs i d) (take i told) m' m'' t' t'' r was (is ∙ ap (λ f. call_of kind f m' t' (call_in (get_or cs i d))) same)
      ∙ ap (λ l. (l, m'', t'')) (sym (take-set_at told i (i + 1) r refl (omega (arith, l, size))))
