-- A call at one replica of a group.
use Rattle.std.proofs.Common.{◌≡◌, ℕ, ◌<◌, ◌≤◌, Bool, List, length, map, get_or, Result, slice_set, refl, sym, ap, ◌∙◌}
use Rattle.std.specs.Option.{option_map}
use Rattle.std.proofs.lemmas.List.{map-set}
use Rattle.std.proofs.lemmas.Option.{slice_get-map, slice_get_read, slice_get_past}
use Rattle.common.specs.Refusals.{declined}
use Rattle.common.specs.declared.refusal.Refusal.TheVariants as refusals
use Rattle.replica.specs.declared.state.Replica.{Replica}
use Rattle.replica.specs.declared.lent.Tables.{Tables}
use Rattle.replica.specs.Store.{Store, store}
use Rattle.promises.specs.Runs.{Kind, Call, call_of}
use Rattle.group.specs.declared.member.Member.{Member}
use Rattle.group.specs.Groups.{state_of, called_on, called}

module _ {K : Type 0} (bytes : K → List ℕ) (kind : Kind) (coin : ℕ → ℕ → Bool) (xs : List (Member K)) (i : ℕ) (c : Call) where
  pub called_none : length xs ≤ i → (declined refusals.Sender, map (state_of bytes) xs) ≡ called kind coin (map (state_of bytes) xs) i c
  called_none h = sym (ap (called_on kind coin (map (state_of bytes) xs) i c) (slice_get-map (state_of bytes) xs i ∙ ap (option_map (state_of bytes)) (slice_get_past xs i h)))

  pub called_done :
      (x : Member K) (r : Result ℕ ℕ) (m : Replica) (t : Tables K) → i < length xs → x ≡ get_or xs i x
      → (r, m, store bytes t) ≡ call_of kind coin x.replica (store bytes x.tables) c
      → (r, map (state_of bytes) (slice_set xs i (record { replica = m; tables = t }))) ≡ called kind coin (map (state_of bytes) xs) i c
  called_done x r m t l e h =
      ap (λ g. (r, g)) (map-set (state_of bytes) xs i (record { replica = m; tables = t }))
      ∙ ap (λ (q : Result ℕ ℕ × Replica × Store). (q.0, slice_set (map (state_of bytes) xs) i (q.1, q.2))) h
      ∙ sym (ap (called_on kind coin (map (state_of bytes) xs) i c) (slice_get-map (state_of bytes) xs i ∙ ap (option_map (state_of bytes)) (slice_get_read xs (length xs) i x refl l e)))
