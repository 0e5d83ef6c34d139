-- Every entry that an honest replica holds is one of the kind, so what stands on its board can be read and heard.
use Rattle.std.proofs.Common.{◌≡◌, ℕ, ◌<◌, Bool, true, false, eqb, List, [], ◌∷◌, Some, None, Option, sym, refl, ap, ◌∙◌, subst, arith}
use Rattle.std.specs.Option.{option_map}
use Rattle.std.proofs.lemmas.Bool.{cond_both, eqb-true}
use Rattle.theory.specs.Count as count
use Rattle.theory.specs.Statement as theory
use Rattle.theory.specs.Statement.{Bits, only, both, Stmt, cell, entry_stated}
use Rattle.theory.specs.Machine.{Box, Board}
use Rattle.theory.specs.Calls as calling
use Rattle.theory.specs.Promises as theorem
use Rattle.theory.proofs.Books.{none≢some}
use Rattle.theory.proofs.Choosing.{alone_filed}
use Rattle.wire.specs.Statements.{Message, send, echo, ready, have, value, seen, confirm, finish}
use Rattle.wire.specs.Codec.{parse_of}
use Rattle.wire.proofs.Reading.{written_read}
use Rattle.votes.specs.Sets.{number_of_set, set_numbered}
use Rattle.replica.specs.Store.{Store}
use Rattle.replica.specs.View.{held}
use Rattle.showing.specs.Spoken.{spoken, spelled}
use Rattle.showing.proofs.Standing.{stands}
use Rattle.intake.specs.Hearing.{bit_numbered}
use Rattle.intake.specs.Meaning.{means_of, Says}
use Rattle.promises.specs.Runs.{Kind, Call, submit, opens, hear, turns, Asked}
use Rattle.promises.specs.Promised.{Set, Honest, state, Lending}
use Rattle.promises.proofs.Typing.{few_room, meant, meant_says, idle, heard_as, call_as, typed, calls}
use Rattle.promises.proofs.Entering.{Good, Holding, Clean, call_holds}
use Rattle.promises.proofs.Following.{follows}
use Rattle.promises.proofs.Transferring.{R, never_own}

module _ (K : Kind) where
  -- an entry of the kind
  abbrev pub Valid : List ℕ → Type 0
  Valid x = K.valid x ≡ true

  held_valid : (x : List ℕ) (f : List ℕ → Stmt (List ℕ)) → entry_stated (f x) ≡ Some x → (s : Stmt (List ℕ)) → held (K.valid x) (Some (f x)) ≡ Some s → Good Valid s
  held_valid x f own s e y k = at (K.valid x) refl e
    where
      at : (b : Bool) → K.valid x ≡ b → held b (Some (f x)) ≡ Some s → Valid y
      at true v h = let z : f x ≡ s = cc in let w : Some x ≡ Some y = sym own ∙ ap entry_stated z ∙ k in let u : x ≡ y = cc in subst Valid u v
      at false v h = absurd (none≢some h)

  mapped_valid : {A : Type 0} (f : A → Stmt (List ℕ)) → ((a : A) → entry_stated (f a) ≡ None) → (o : Option A) (s : Stmt (List ℕ)) → option_map f o ≡ Some s → Good Valid s
  mapped_valid f none None s e = absurd (none≢some e)
  mapped_valid f none (Some a) s e = λ y k. let z : f a ≡ s = cc in absurd (none≢some (sym (none a) ∙ ap entry_stated z ∙ k))

  -- what a message means has an entry of the kind
  means_valid : (m : Message) (s : Stmt (List ℕ)) → means_of K.valid m ≡ Some s → Good Valid s
  means_valid (send n x) s e = held_valid x (theory.sends n) refl s e
  means_valid (echo q n x) s e = held_valid x (theory.echo q n) refl s e
  means_valid (ready q n x) s e = held_valid x (theory.ready q n) refl s e
  means_valid (have q n x) s e = held_valid x (theory.have q n) refl s e
  means_valid (value n k b) s e = mapped_valid (theory.value n k) (λ a. refl) (bit_numbered b) s e
  means_valid (seen n k b) s e = mapped_valid (theory.seen n k) (λ a. refl) (bit_numbered b) s e
  means_valid (confirm n k u) s e = mapped_valid (theory.confirm n k) (λ a. refl) (set_numbered u) s e
  means_valid (finish n b) s e = mapped_valid (theory.finish n) (λ a. refl) (bit_numbered b) s e

  says_valid : (s : List ℕ) (x : Stmt (List ℕ)) → Says K.width K.valid s x → Good Valid x
  says_valid s x h = means_valid h.message x h.meant

  bit_back : (v : Bool) → bit_numbered (count.bit v) ≡ Some v
  bit_back true = refl
  bit_back false = refl

  set_back : (u : Bits) → set_numbered (number_of_set u) ≡ Some u
  set_back (only true) = refl
  set_back (only false) = refl
  set_back both = refl

  -- a statement's message means it
  spoken_means : (x : Stmt (List ℕ)) → Good Valid x → means_of K.valid (spoken x) ≡ Some x
  spoken_means (theory.sends s x) g = rw (g x refl) refl
  spoken_means (theory.echo q s x) g = rw (g x refl) refl
  spoken_means (theory.ready q s x) g = rw (g x refl) refl
  spoken_means (theory.have q s x) g = rw (g x refl) refl
  spoken_means (theory.value e k v) g = ap (option_map (theory.value e k)) (bit_back v)
  spoken_means (theory.seen e k v) g = ap (option_map (theory.seen e k)) (bit_back v)
  spoken_means (theory.confirm e k u) g = ap (option_map (theory.confirm e k)) (set_back u)
  spoken_means (theory.finish e v) g = ap (option_map (theory.finish e)) (bit_back v)

module _ (S : Set) (i : ℕ) (h : Honest S i) where
  abbrev B : List Asked → Box (List ℕ)
  B c = theorem.box (R S) (calls S.kind c) i

  abbrev Held : List Asked → Type 0
  Held c = Holding (Valid S.kind) (B c)

  module _ (c : List Asked) (l : Lending S c) (v : Held c) where
    room : (R S).plan.faults < (R S).plan.size
    room = omega (arith, few_room S.n S.least)

    abbrev Pure : calling.Call (List ℕ) → Type 0
    Pure a = Clean (Valid S.kind) (R S).plan (B c) S.coin room (alone_filed (R S).plan S.coin i (calling.calls_to i (calls S.kind c))) v a

    idle_pure : Pure (idle S.kind i)
    idle_pure = λ y. absurd (never_own S c l i h (theory.sends 0 []) y)

    heard_pure : (j : ℕ) (s : List ℕ) (o : Option (Stmt (List ℕ))) → meant S.kind (parse_of S.kind.width s) ≡ o → Pure (heard_as S.kind i j o)
    heard_pure j s None e = idle_pure
    heard_pure j s (Some x) e = λ y. says_valid S.kind s x (meant_says S.kind s x e)

    call_pure : (a : Call) → Pure (call_as S.kind i a)
    call_pure (submit s) = cond_both (S.kind.valid s) _ _ Pure (λ e. e) (λ e. idle_pure)
    call_pure opens = tt
    call_pure (hear j s) = heard_pure j s (meant S.kind (parse_of S.kind.width s)) refl
    call_pure turns = tt

    pure : (o : Option Store) (a : Call) → Pure (typed S.kind i o a)
    pure None a = call_pure a
    pure (Some t) a = idle_pure

  pub all_valid : (c : List Asked) → Lending S c → Held c
  all_valid [] l = record { holds = λ j d s e. absurd (none≢some e) }
  all_valid (a ∷ c) l = at (eqb i a.at) refl (all_valid c l.0)
    where
      at : (b : Bool) → eqb i a.at ≡ b → Held c → Held (a ∷ c)
      at true e v = rw (e, ← eqb-true i a.at e) (call_holds (Valid S.kind) (R S).plan (B c) S.coin (room c l.0 v) (alone_filed (R S).plan S.coin i (calling.calls_to i (calls S.kind c))) v (typed S.kind i a.lent a.call) (pure c l.0 v a.lent a.call))
      at false e v = rw e v

  -- from its bytes, what stands on the board is read as it was
  pub board_says : (c : List Asked) → Lending S c → (x : Stmt (List ℕ)) → Board (B c) x → Says S.kind.width S.kind.valid (spelled x) x
  board_says c l x e =
      let p = state S c i in
      let on = subst (λ (b : Box (List ℕ)). Board b x) (sym (follows S i h c l).box) e in
      let good = (all_valid c l).holds (B c).me (cell x) x e in
      let broad = λ (y : List ℕ) (k : entry_stated x ≡ Some y). S.wide y (good y k) in
      record {
        message = spoken x;
        parsed = written_read S.kind.width (spoken x) ((stands p.0 x p.0.set.me p.1 (cell x) on).fits S.kind.width broad);
        meant = spoken_means S.kind x good;
      }
