-- The first of the ten turns, tried one behind the other.
use Rattle.std.proofs.Common.{◌≡◌, ℕ, zero, suc, ◌<◌, ◌≤◌, Bool, true, false, not, ltb, leb, List, [], ◌∷◌, length, get_or, Some, None, Ok, Option, ok_or, sym, refl, ap, ◌∙◌, ap₂}
use Rattle.std.specs.Option.{option_map, is_some}
use Rattle.common.specs.Refusals.{number_of}
use Rattle.common.specs.declared.refusal.Refusal.TheVariants.{Begun}
use Rattle.std.proofs.lemmas.Bool.{lt-ltb, le-ltb, lt-leb, cond-false}
use Rattle.common.specs.Limits.{epochs}
use Rattle.theory.specs.Statement.{Stmt}
use Rattle.theory.specs.Machine.{Steps, says}
use Rattle.theory.specs.Search.{or_else, first, only_if, map, absent}
use Rattle.theory.specs.Turns.{follow, decides, writes, second, sees, confirms, closes}
use Rattle.theory.specs.Calls.{Turn, order, to_echo, to_ready, to_keep, to_follow, to_decide, to_write, to_second, to_see, to_confirm, to_close, awaits, in_round, stated, deciding, writing, closing, in_week, opening, turn}
use Rattle.theory.proofs.Searching.{or_else_left, only_if_true, guard_true}
use Rattle.replica.specs.declared.state.Replica.{Replica}
use Rattle.replica.specs.Store.{Store}
use Rattle.replica.specs.declared.state.Stage.TheVariants.{Unopened, Open, Awaiting}
use Rattle.replica.specs.View.{stage_of, plan, box}
use Rattle.moves.specs.Moves.{states}
use Rattle.moves.specs.Trials.{tried, by_entries, by_rounds}
use Rattle.moves.specs.Opening.{opening_of}

module _ {A : Type 0} where
  assoc : (a b c : Option A) → or_else (or_else a b) c ≡ or_else a (or_else b c)
  unfolding or_else
  assoc None b c = refl
  assoc (Some x) b c = refl

  pub none_left : (a b : Option A) → None ≡ a → b ≡ or_else a b
  unfolding or_else
  none_left a b e = rw (sym e) refl

  none_right : (a : Option A) → or_else a None ≡ a
  unfolding or_else
  none_right None = refl
  none_right (Some x) = refl

  -- the lowest first
  first_low : (n : ℕ) (g : ℕ → Option A) → first (suc n) g ≡ or_else (g 0) (first n (λ k. g (suc k)))
  unfolding first or_else
  first_low zero g = sym (none_right (g 0))
  first_low (suc n) g = ap (λ o. or_else o (g (suc n))) (first_low n g) ∙ assoc (g 0) (first n (λ k. g (suc k))) (g (suc n))

  abbrev chain : {T : Type 0} → (T → Option A) → List T → Option A
  chain g [] = None
  chain g (x ∷ xs) = or_else (g x) (chain g xs)

  first_chain : {T : Type 0} (g : T → Option A) (d : T) (l : List T) → first (length l) (λ k. g (get_or l k d)) ≡ chain g l
  unfolding first
  first_chain g d [] = refl
  first_chain g d (x ∷ xs) = first_low (length xs) (λ k. g (get_or (x ∷ xs) k d)) ∙ ap (or_else (g x)) (first_chain g d xs)

module _ (m : Replica) (t : Store) (coin : ℕ → ℕ → Bool) where
  abbrev T : Turn → Option (Turn × Steps (List ℕ))
  T = tried m t coin

  pub split : turn (plan m) (box m t) coin ≡ or_else (by_entries m t coin) (or_else (T to_follow) (or_else (T to_decide) (or_else (T to_write) (by_rounds m t coin))))
  split =
      first_chain T to_close order
      ∙ ap (λ o. or_else (T to_echo) (or_else (T to_ready) (or_else (T to_keep) (or_else (T to_follow) (or_else (T to_decide) (or_else (T to_write) (or_else (T to_second) (or_else (T to_see) (or_else (T to_confirm) o))))))))) (none_right (T to_close))
      ∙ sym (assoc (T to_echo) (or_else (T to_ready) (T to_keep)) _ ∙ ap (or_else (T to_echo)) (assoc (T to_ready) (T to_keep) _))

-- a turn that states something, where it applies or not
module _ (k : Turn) (o : Option (Stmt (List ℕ))) where
  abbrev pub Stated : Option (Turn × Steps (List ℕ))
  Stated = map (λ l. (k, l)) (stated o)

  abbrev turning : Stmt (List ℕ) → Turn × Steps (List ℕ)
  turning s = (k, states s)

  stating : option_map turning o ≡ Stated
  unfolding map
  stating = at o
    where
      at : (u : Option (Stmt (List ℕ))) → option_map turning u ≡ map (λ l. (k, l)) (map (λ s. says s ∷ []) u)
      at None = refl
      at (Some s) = refl

  pub hit : (s : Stmt (List ℕ)) (rest : Option (Turn × Steps (List ℕ))) → Some s ≡ o → Some (k, states s) ≡ or_else Stated rest
  hit s rest e = sym (or_else_left Stated rest (k, states s) (sym (ap (option_map turning) e ∙ stating)))

  pub miss : (r rest : Option (Turn × Steps (List ℕ))) → None ≡ o → r ≡ rest → r ≡ or_else Stated rest
  miss r rest e h = h ∙ none_left Stated rest (ap (option_map turning) e ∙ stating)

  pub last : (s : Stmt (List ℕ)) → Some s ≡ o → Some (k, states s) ≡ Stated
  last s e = ap (option_map turning) e ∙ stating

  pub none : None ≡ o → None ≡ Stated
  none e = ap (option_map turning) e ∙ stating

-- a turn that does something else, where it may
module _ (k : Turn) where
  abbrev numbered : Steps (List ℕ) → Turn × Steps (List ℕ)
  numbered l = (k, l)

  doing : {A : Type 0} (b : Bool) (f : A → Steps (List ℕ)) (o : Option A) → b ≡ true → option_map (λ a. numbered (f a)) o ≡ map numbered (only_if b (map f o))
  unfolding only_if map
  doing b f None e = rw e refl
  doing b f (Some a) e = rw e refl

  idle : (b : Bool) (o : Option (Steps (List ℕ))) → b ≡ false → None ≡ map numbered (only_if b o)
  unfolding only_if map
  idle b o e = rw e refl

  nothing : (b : Bool) (o : Option (Steps (List ℕ))) → None ≡ o → None ≡ map numbered (only_if b o)
  unfolding only_if map
  nothing true o e = rw (sym e) refl
  nothing false o e = refl

module _ (m : Replica) (t : Store) (coin : ℕ → ℕ → Bool) where
  abbrev unfollowed : Option (Turn × Steps (List ℕ))
  unfollowed = or_else (tried m t coin to_decide) (or_else (tried m t coin to_write) (by_rounds m t coin))

  abbrev rest : Option (Turn × Steps (List ℕ))
  rest = or_else (tried m t coin to_follow) unfollowed

  -- in no round
  no_rounds : ((f : ℕ → Bool → Option (Steps (List ℕ))) → None ≡ in_round (stage_of m.stage) f) → None ≡ by_rounds m t coin
  no_rounds e =
      nothing to_close _ _ (e _)
      ∙ none_left _ _ (nothing to_confirm _ _ (e _))
      ∙ none_left _ _ (nothing to_see _ _ (e _))
      ∙ none_left _ _ (nothing to_second _ _ (e _))

  -- an entry comes first
  pub entries_first : (k : Turn × Steps (List ℕ)) → Some k ≡ by_entries m t coin → Some k ≡ turn (plan m) (box m t) coin
  entries_first k e = sym (split m t coin ∙ or_else_left (by_entries m t coin) rest k (sym e))

  pub entries_none : (r : Option (Turn × Steps (List ℕ))) → None ≡ by_entries m t coin → r ≡ rest → r ≡ turn (plan m) (box m t) coin
  entries_none r e h = h ∙ none_left (by_entries m t coin) rest e ∙ sym (split m t coin)

  -- the week is over
  pub over : epochs ≤ m.epoch → None ≡ rest
  over l =
      let no : ltb m.epoch epochs ≡ false = le-ltb m.epoch epochs l in
      idle to_close _ _ no
      ∙ none_left _ _ (idle to_confirm _ _ no)
      ∙ none_left _ _ (idle to_see _ _ no)
      ∙ none_left _ _ (idle to_second _ _ no)
      ∙ none_left _ _ (idle to_write _ _ no)
      ∙ none_left _ _ (idle to_decide _ _ no)
      ∙ none_left _ _ (idle to_follow _ _ no)

  module _ (week : m.epoch < epochs) where
    weekly : (o : Option (Steps (List ℕ))) → in_week (plan m) (box m t) o ≡ o
    weekly o = only_if_true _ o (lt-ltb m.epoch epochs week)

    follow_tried : tried m t coin to_follow ≡ Stated to_follow (follow (plan m) (box m t))
    follow_tried = ap (map (numbered to_follow)) (weekly _)

    decide_tried : tried m t coin to_decide ≡ map (numbered to_decide) (only_if (not (awaits (stage_of m.stage))) (map (deciding (plan m) (box m t)) (decides (plan m) (box m t))))
    decide_tried = ap (map (numbered to_decide)) (weekly _)

    write_tried : tried m t coin to_write ≡ map (numbered to_write) (only_if (awaits (stage_of m.stage)) (map (writing (plan m) (box m t)) (writes (plan m) (box m t))))
    write_tried = ap (map (numbered to_write)) (weekly _)

    pub follow_first : (st : Stmt (List ℕ)) → Some st ≡ follow (plan m) (box m t) → Some (to_follow, states st) ≡ rest
    follow_first st e = hit to_follow (follow (plan m) (box m t)) st unfollowed e ∙ ap (λ o. or_else o unfollowed) (sym follow_tried)

    module _ (free : None ≡ follow (plan m) (box m t)) where
      later : (r : Option (Turn × Steps (List ℕ))) → r ≡ unfollowed → r ≡ rest
      later r e = miss to_follow (follow (plan m) (box m t)) r unfollowed free e ∙ ap (λ o. or_else o unfollowed) (sym follow_tried)

      -- it awaits its page
      pub awaiting_is : m.stage ≡ Awaiting → option_map (λ p. (to_write, writing (plan m) (box m t) p)) (writes (plan m) (box m t)) ≡ rest
      awaiting_is e =
          later _ (
          doing to_write _ (writing (plan m) (box m t)) (writes (plan m) (box m t)) (ap (λ g. awaits (stage_of g)) e)
          ∙ sym write_tried
          ∙ sym (none_right _)
          ∙ ap (or_else (tried m t coin to_write)) (no_rounds (λ f. ap (λ g. in_round (stage_of g) f) (sym e)))
          ∙ none_left _ _ (idle to_decide _ _ (ap (λ g. not (awaits (stage_of g))) e) ∙ sym decide_tried)
          )

      -- it awaits none, and a bit is decided, or none
      module _ (no : awaits (stage_of m.stage) ≡ false) where
        pub decided_first : (v : Bool) → Some v ≡ decides (plan m) (box m t) → Some (to_decide, deciding (plan m) (box m t) v) ≡ rest
        decided_first v e =
            later _ (sym (or_else_left (tried m t coin to_decide) _ _
            (decide_tried ∙ sym (doing to_decide _ (deciding (plan m) (box m t)) _ (ap not no)) ∙ ap (option_map (λ v. (to_decide, deciding (plan m) (box m t) v))) (sym e))))

        pub undecided : None ≡ decides (plan m) (box m t) → (r : Option (Turn × Steps (List ℕ))) → r ≡ by_rounds m t coin → r ≡ rest
        undecided e r h =
            later r (
            h
            ∙ none_left _ _ (idle to_write _ _ no ∙ sym write_tried)
            ∙ none_left _ _ (ap (option_map (λ v. (to_decide, deciding (plan m) (box m t) v))) e ∙ doing to_decide _ (deciding (plan m) (box m t)) _ (ap not no) ∙ sym decide_tried)
            )

        pub unopened_is : m.stage ≡ Unopened → None ≡ decides (plan m) (box m t) → None ≡ rest
        unopened_is u e = undecided e None (no_rounds (λ f. ap (λ g. in_round (stage_of g) f) (sym u)))

-- the rounds of an open epoch
module _ (m : Replica) (t : Store) (coin : ℕ → ℕ → Bool) (week : m.epoch < epochs) (r : ℕ) (d : Bool) (open_now : m.stage ≡ Open r d) where
  in_open : (f : ℕ → Bool → Option (Steps (List ℕ))) → in_week (plan m) (box m t) (in_round (stage_of m.stage) f) ≡ f r d
  in_open f = weekly m t coin week _ ∙ ap (λ g. in_round (stage_of g) f) open_now

  abbrev closes_tried : Option (Turn × Steps (List ℕ))
  closes_tried = map (numbered to_close) (only_if (not d) (map (closing (plan m) (box m t) r) (closes (plan m) (box m t) coin r)))

  opened : by_rounds m t coin ≡ or_else (Stated to_second (second (plan m) (box m t) r)) (or_else (Stated to_see (sees (plan m) (box m t) r)) (or_else (Stated to_confirm (confirms (plan m) (box m t) r)) closes_tried))
  opened =
      ap₂ or_else (ap (map (numbered to_second)) (in_open _))
      (ap₂ or_else (ap (map (numbered to_see)) (in_open _))
      (ap₂ or_else (ap (map (numbered to_confirm)) (in_open _)) (ap (map (numbered to_close)) (in_open _))))

  pub second_first : (st : Stmt (List ℕ)) → Some st ≡ second (plan m) (box m t) r → Some (to_second, states st) ≡ by_rounds m t coin
  second_first st e = hit to_second _ st _ e ∙ sym opened

  module _ (no_second : None ≡ second (plan m) (box m t) r) where
    pub see_first : (st : Stmt (List ℕ)) → Some st ≡ sees (plan m) (box m t) r → Some (to_see, states st) ≡ by_rounds m t coin
    see_first st e = miss to_second _ _ _ no_second (hit to_see _ st _ e) ∙ sym opened

    module _ (no_see : None ≡ sees (plan m) (box m t) r) where
      pub confirm_first : (st : Stmt (List ℕ)) → Some st ≡ confirms (plan m) (box m t) r → Some (to_confirm, states st) ≡ by_rounds m t coin
      confirm_first st e = miss to_second _ _ _ no_second (miss to_see _ _ _ no_see (hit to_confirm _ st _ e)) ∙ sym opened

      module _ (no_confirm : None ≡ confirms (plan m) (box m t) r) where
        pub close_last : (o : Option (Turn × Steps (List ℕ))) → o ≡ closes_tried → o ≡ by_rounds m t coin
        close_last o e = miss to_second _ _ _ no_second (miss to_see _ _ _ no_see (miss to_confirm _ _ _ no_confirm e)) ∙ sym opened

        pub closed_is : d ≡ true → None ≡ by_rounds m t coin
        closed_is e = close_last None (idle to_close (not d) _ (ap not e))

        pub close_is : d ≡ false → (c : Option (Bool × Bool)) → c ≡ closes (plan m) (box m t) coin r → option_map (λ c. (to_close, closing (plan m) (box m t) r c)) c ≡ by_rounds m t coin
        close_is e c h = close_last _ (ap (option_map (λ c. (to_close, closing (plan m) (box m t) r c))) h ∙ doing to_close (not d) (closing (plan m) (box m t) r) _ (ap not e))

-- the bit with which an epoch opens
found_some : {A B : Type 0} (f : A → B) (o : Option A) → is_some (option_map f o) ≡ not (absent o)
found_some f None = refl
found_some f (Some a) = refl

pub opening_is : (m : Replica) (t : Store) → m.stage ≡ Unopened → m.epoch < epochs → (o : Option ℕ) → o ≡ option_map (λ p. p.0) (writes (plan m) (box m t)) → (b : Bool) → b ≡ is_some o → Ok b ≡ opening_of m t
opening_is m t u week o is b e =
    let early : leb epochs m.epoch ≡ false = lt-leb epochs m.epoch week in
    sym (
    cond-false (leb epochs m.epoch) _ _ early
    ∙ ap (λ g. ok_or (opening (plan m) (box m t) (stage_of g)) (number_of Begun)) u
    ∙ ap (λ k. ok_or k (number_of Begun)) (guard_true (ltb m.epoch epochs) (not (absent (writes (plan m) (box m t)))) (lt-ltb m.epoch epochs week))
    ∙ ap Ok (sym (e ∙ ap is_some is ∙ found_some (λ p. p.0) (writes (plan m) (box m t))))
    )
