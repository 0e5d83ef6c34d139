-- Bytes are accepted exactly if they say what the theory's box accepts.
use Rattle.std.proofs.Common.{◌≡◌, ℕ, Bool, true, false, not, ◌||◌, eqb, ltb, leb, List, Some, None, Ok, Option, Result, sym, refl, ap, ◌∙◌, arith}
use Rattle.std.proofs.lemmas.Bool.{ltb-true, leb-false, lt-ltb, lt-leb, not-false, not-true, not_from_false, and_parts, and_from, or_parts}
use Rattle.theory.specs.Statement.{Stmt, StmtEq, cell, decided}
use Rattle.theory.specs.Calls.{ranged, accepts}
use Rattle.theory.specs.Search.{absent}
use Rattle.theory.proofs.Searching.{absent_none}
use Rattle.wire.specs.Codec.{parse_of}
use Rattle.replica.specs.declared.state.Replica.{Replica}
use Rattle.replica.specs.Store.{Store, fits}
use Rattle.replica.specs.View.{view, plan, box, bytes_same}
use Rattle.replica.specs.Holding.{taken_of, settled, vacant_of}
use Rattle.intake.specs.Hearing.{admit_of, judge_of}
use Rattle.intake.specs.Meaning.{Says}
use Rattle.intake.proofs.Admitted.{passed, passed_then, admitted, admits}

taken_never : (b : Bool) → taken_of b ≡ Ok tt → ⊥
taken_never true e = let z : ◌≡◌ {A = ℕ} 0 1 = cc in omega arith
taken_never false e = let z : ◌≡◌ {A = ℕ} 0 1 = cc in omega arith

settled_free : {A : Type 0} (d : Discrete A) (o : Option A) (x : A) → settled d o x ≡ Ok tt → o ≡ None
settled_free d None x e = refl
settled_free d (Some y) x e = absurd (taken_never (decided (d y x)) e)

module _ (w : ℕ) (valid : List ℕ → Bool) (m : Replica) (t : Store) (j : ℕ) (s : List ℕ) where
  -- what was judged and found good
  pub record Good (st : Stmt (List ℕ)) : Type 0 where
    pub lent : fits m.set.n m.set.w t ≡ true
    pub from : ltb j m.set.n ≡ true
    pub other : eqb j m.set.me ≡ false
    pub ranged : ranged (plan m) (box m t) st ≡ true
    pub free : view m t j (cell st) ≡ None
    pub says : Says w valid s st

  pub judged : (st : Stmt (List ℕ)) → judge_of w valid m t j s ≡ Ok st → Good st
  judged st h =
      let a = passed (not (fits m.set.n m.set.w t)) _ _ st h in
      let b = passed (leb m.set.n j || eqb j m.set.me) _ _ st a.1 in
      let o = or_parts (leb m.set.n j) (eqb j m.set.me) b.0 in
      let p = passed_then (parse_of w s) _ st b.1 in
      let d = passed_then (admit_of valid m j p.0) _ st p.2 in
      let v = passed_then (vacant_of m t j d.0) _ st d.2 in
      let same : ◌≡◌ {A = Result (Stmt (List ℕ)) ℕ} (Ok d.0) (Ok st) = v.2 in
      let e : d.0 ≡ st = cc in
      let k = admitted valid m t j p.0 st (d.1 ∙ ap Ok e) in
      record {
        lent = not-false _ a.0;
        from = lt-ltb j _ (leb-false _ _ o.0);
        other = o.1;
        ranged = k.0;
        free = settled_free (StmtEq bytes_same) (view m t j (cell st)) st (ap (vacant_of m t j) (sym e) ∙ v.1);
        says = record { message = p.0; parsed = p.1; meant = k.1 };
      }

  pub accepted : (st : Stmt (List ℕ)) → Good st → accepts (plan m) (box m t) j st ≡ true
  accepted st g = and_from _ _ (and_from _ _ g.from (not_from_false _ g.other)) (and_from _ _ g.ranged (ap absent g.free))

  pub judges : fits m.set.n m.set.w t ≡ true → (st : Stmt (List ℕ)) → Says w valid s st → accepts (plan m) (box m t) j st ≡ true → judge_of w valid m t j s ≡ Ok st
  judges long st says h =
      let a = and_parts _ _ h in
      let b = and_parts (ltb j m.set.n) _ a.0 in
      let c = and_parts (ranged (plan m) (box m t) st) _ a.1 in
      let free : view m t j (cell st) ≡ None = absent_none _ c.1 in
      rw (long, lt-leb m.set.n j (ltb-true _ _ b.0), not-true _ b.1, says.parsed, admits valid m t j says.message st b.0 c.0 says.meant, free) refl
