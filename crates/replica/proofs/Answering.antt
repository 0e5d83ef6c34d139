-- What make and page answer, case by case.
use Rattle.std.proofs.Common.{◌≡◌, ℕ, ◌<◌, ◌≤◌, true, false, List, get_or, None, Ok, Err, Some, Option, Result, refl, ap}
use Rattle.std.proofs.lemmas.Bool.{le-leb, lt-leb}
use Rattle.std.specs.Option.{option_map, ok_or}
use Rattle.common.specs.Refusals.{answered, declined}
use Rattle.common.specs.declared.refusal.Refusal.{Refusal}
use Rattle.common.specs.declared.refusal.Refusal.TheVariants as refusal
use Rattle.theory.specs.Book.{Page}
use Rattle.replica.specs.declared.state.Replica.{Replica}
use Rattle.replica.specs.declared.lent.Page as declared
use Rattle.replica.specs.Store.{Store, fits, cleared, paged}
use Rattle.replica.specs.Making.{Numbers, set_for, fresh, make_of}
use Rattle.replica.specs.Paging.{found, page_of}

module _ (n me w : ℕ) (t : Store) where
  pub make_declined : (e : ℕ) → Err e ≡ set_for n me w → (Err e, t) ≡ make_of n me w t
  unfolding make_of
  make_declined e h = rw (← h) refl

  pub make_short : (s : Numbers) → Ok s ≡ set_for n me w → false ≡ fits n w t → (declined refusal.Table, t) ≡ make_of n me w t
  unfolding make_of
  make_short s h k = rw (← h, ← k) refl

  pub make_fresh : (s : Numbers) → Ok s ≡ set_for n me w → true ≡ fits n w t → (Ok (fresh s), cleared n w t) ≡ make_of n me w t
  unfolding make_of
  make_fresh s h k = rw (← h, ← k) refl

module _ (m : Replica) (t : Store) (place : ℕ) where
  pub page_short : false ≡ fits m.set.n m.set.w t → declined refusal.Table ≡ page_of m t place
  unfolding page_of
  page_short h = rw (← h) refl

  pub page_past : true ≡ fits m.set.n m.set.w t → m.pages ≤ place → declined refusal.Page ≡ page_of m t place
  unfolding page_of
  page_past h l = rw (← h, le-leb _ _ l) refl

  pub page_found : true ≡ fits m.set.n m.set.w t → place < m.pages → (o : Option (Page (List ℕ))) → o ≡ get_or t.pages place None → found o ≡ page_of m t place
  unfolding page_of
  page_found h l o e = rw (← h, lt-leb _ _ l, ← e) refl

-- a page or the refusal, with the page seen by its bytes
pub answered_found : {K : Type 0} (b : K → List ℕ) (o : Option (declared.Page K)) (r : Result (declared.Page K) Refusal) → r ≡ ok_or o refusal.Page → answered (paged b) r ≡ found (option_map (paged b) o)
answered_found b None r e = ap (answered (paged b)) e
answered_found b (Some p) r e = ap (answered (paged b)) e
