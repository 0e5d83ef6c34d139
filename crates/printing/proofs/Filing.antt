-- What print answers.
use Rattle.std.proofs.Common.{◌≡◌, ℕ, ◌<◌, true, List, Err, Result, ◌++◌, map, length, take, drop, Ok, Option, sym, refl, ap, ◌∙◌, arith}
use Rattle.std.specs.Option.{option_map}
use Rattle.std.proofs.lemmas.List.{take_at}
use Rattle.std.proofs.lemmas.Bool.{lt-ltb, le-ltb}
use Rattle.common.specs.Refusals.{declined, numbered}
use Rattle.common.specs.declared.refusal.Refusal.{Refusal}
use Rattle.common.specs.declared.refusal.Refusal.TheVariants as refusal
use Rattle.theory.specs.Book as theory
use Rattle.replica.specs.declared.state.Replica.{Replica}
use Rattle.replica.specs.declared.lent.Tables.{Tables}
use Rattle.replica.specs.declared.lent.Page.{Page}
use Rattle.replica.specs.Fitting.{fitted_of}
use Rattle.replica.specs.Store.{fits, store, paged}
use Rattle.replica.specs.View.{leading, book_of}
use Rattle.replica.proofs.Accepting.{refused, accepted}
use Rattle.replica.proofs.Leading.{book_is}
use Rattle.printing.specs.Texts.{Laid}
use Rattle.printing.specs.Files.{file_of, placed_of, print_of}
use Rattle.printing.specs.Grids.{grid_in, grid_of}
use Rattle.printing.proofs.Rows.{grid}

module _ {K : Type 0} (bytes : K → List ℕ) (heading : List ℕ) (columns : List ℕ → List ℕ) (m : Replica) (t : Tables K) (out : List ℕ) where
  pub print_unfit : (e : Refusal) (r : Result ℕ Refusal) → r ≡ Err e → declined e ≡ fitted_of bytes m t → (numbered r, out) ≡ print_of heading columns m (store bytes t) out
  unfolding print_of
  print_unfit e r is h =
      let f = refused bytes m t e h in
      ap (λ x. (numbered x, out)) is ∙ rw (← f.0) (ap (λ k. (Err k, out)) f.1)

  -- a replica and tables that were found to fit, and the cells that it counts
  module _ (n : Replica) (u : Tables K) (long : fits n.set.n n.set.w (store bytes u) ≡ true) (same : Ok (n, u) ≡ fitted_of bytes m t) (cells : List (Option (Page K))) (counted : cells ≡ take n.pages u.pages.cells.now) where
    abbrev book : List (theory.Page (List ℕ))
    book = leading (map (option_map (paged bytes)) cells)

    abbrev file : List ℕ
    file = file_of heading columns n.set.n book

    these : ◌≡◌ {A = Replica × Tables K} (n, u) (m, t)
    these = (accepted bytes m t (n, u) same).0

    is : book ≡ book_of n (store bytes u)
    is = book_is bytes n u cells counted

    past : placed_of file out ≡ print_of heading columns m (store bytes t) out
    unfolding print_of
    past =
        ap (λ b. placed_of (file_of heading columns n.set.n b) out) is ∙ rw long refl
        ∙ ap (λ p. print_of heading columns p.0 (store bytes p.1) out) these

    pub print_long : length out < length file → (declined refusal.File, out) ≡ print_of heading columns m (store bytes t) out
    print_long l = rw (← past) (rw (lt-ltb (length out) (length file) l) refl)

    module _ (r : ℕ) (last : List ℕ) (x : Laid out 0 file r last) where
      size : r ≡ length file
      size = omega (arith, x.value)

      text : last ≡ file ++ drop (length file) out
      text = x.after ∙ ap (λ k. file ++ drop k out) (sym x.value ∙ size)

      pub print_done : (Ok r, last) ≡ print_of heading columns m (store bytes t) out
      print_done = rw (← past) (rw (le-ltb (length out) (length file) (omega (arith, x.fits))) (λ i. (Ok (size i), text i)))

      pub print_grid : grid_in (take r last) ≡ grid_of heading columns m.set.n (book_of m (store bytes t))
      print_grid =
          ap grid_in ((λ i. take (size i) (text i)) ∙ take_at file (drop (length file) out) (length file) refl)
          ∙ grid heading columns n.set.n book ∙ ap (grid_of heading columns n.set.n) is
          ∙ ap (λ p. grid_of heading columns p.0.set.n (book_of p.0 (store bytes p.1))) these
