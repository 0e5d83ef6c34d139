-- The commands of a script, one after the other.
use Rattle.std.proofs.Common.{◌≡◌, ◌≢◌, ℕ, zero, suc, ◌<◌, ◌≤◌, Bool, true, false, cond, eqb, ltb, List, [], ◌∷◌, ◌++◌, length, take, drop, Some, None, Ok, Err, Option, Result, sym, refl, ap, ◌∙◌, subst, arith, append_assoc, length-append}
use Rattle.std.specs.Option.{option_map, option_and_then}
use Rattle.std.proofs.lemmas.Bool.{eqb-true}
use Rattle.std.proofs.lemmas.List.{take-append-drop}
use Rattle.wire.specs.Frames as wire
use Rattle.wire.proofs.Walking.{first_piece}
use Rattle.promises.specs.Runs.{Call, submit, opens, hear, turns}
use Rattle.script.specs.Commands.{Command, calls, prints, settles, bytes_of, boxed, submit_in, heard_in, hear_in, call_from, lettered, first_of}
use Rattle.script.specs.Scripts.{Read, read_on, read_from, read_of, joined, Accounts}

-- what an option's value is
some_same : {A : Type 0} {x y : A} → Some x ≡ Some y → x ≡ y
some_same e = cc

no_some : {A : Type 0} {x : A} → ◌≡◌ {A = Option A} None (Some x) → ⊥
no_some e = let z : ◌≡◌ {A = ℕ} 0 1 = cc in omega arith

-- a value of a map, and of a chain, of options
record From {A B : Type 0} (o : Option A) (f : A → B) (y : B) : Type 0 where
  part : A
  is : o ≡ Some part
  makes : f part ≡ y

mapped : {A B : Type 0} (f : A → B) (o : Option A) (y : B) → option_map f o ≡ Some y → From o f y
mapped f None y e = absurd (no_some e)
mapped f (Some x) y e = record { part = x; is = refl; makes = some_same e }

chained : {A B : Type 0} (f : A → Option B) (o : Option A) (y : B) → option_and_then f o ≡ Some y → From o f (Some y)
chained f None y e = absurd (no_some e)
chained f (Some x) y e = record { part = x; is = refl; makes = e }

-- the bytes of what a letter asks of a box, behind the box's number
abbrev tail_of : Call → List ℕ
tail_of (submit x) = x
tail_of opens = []
tail_of (hear j s) = j ∷ s
tail_of turns = []

abbrev letter_of : Call → ℕ
letter_of (submit x) = 115
letter_of opens = 111
letter_of (hear j s) = 120
letter_of turns = 0

boxed_cut : (n : ℕ) (s : List ℕ) (p : ℕ × List ℕ) → boxed n s ≡ Some p → s ≡ p.0 ∷ p.1
boxed_cut n [] p e = absurd (no_some e)
boxed_cut n (i ∷ s) p e = by (ltb i n) e
  where
    by : (b : Bool) → cond b (Some (i, s)) None ≡ Some p → i ∷ s ≡ p.0 ∷ p.1
    by true e = ap (λ (q : ℕ × List ℕ). q.0 ∷ q.1) (some_same e)
    by false e = absurd (no_some e)

-- what a call took
record Took (s : List ℕ) (b : ℕ) (q : Call × List ℕ) : Type 0 where
  cut : s ≡ tail_of q.0 ++ q.1
  letter : b ≡ letter_of q.0
  some : q.0 ≢ turns

submit_cut : (w : ℕ) (s : List ℕ) (q : Call × List ℕ) → submit_in w s ≡ Some q → Took s 115 q
submit_cut w s q = by (ltb (length s) w)
  where
    by : (b : Bool) → cond b None (Some (submit (take w s), drop w s)) ≡ Some q → Took s 115 q
    by true e = absurd (no_some e)
    by false e = subst (Took s 115) (some_same e) (record { cut = sym (take-append-drop w s); letter = refl; some = λ h. let z : ◌≡◌ {A = ℕ} 115 0 = ap letter_of h in omega arith })

heard_cut : (w j : ℕ) (s : List ℕ) (q : Call × List ℕ) (r : Result (Option (List ℕ)) ℕ) → wire.first_of w s ≡ r → heard_in j s r ≡ Some q → Took (j ∷ s) 120 q
heard_cut w j s q (Ok (Some t)) is e = subst (Took (j ∷ s) 120) (some_same e) (record { cut = ap (λ l. j ∷ l) (first_piece w s t is).cut; letter = refl; some = λ h. let z : ◌≡◌ {A = ℕ} 120 0 = ap letter_of h in omega arith })
heard_cut w j s q (Ok None) is e = absurd (no_some e)
heard_cut w j s q (Err r) is e = absurd (no_some e)

hear_cut : (w n : ℕ) (s : List ℕ) (q : Call × List ℕ) → hear_in w n s ≡ Some q → Took s 120 q
hear_cut w n s q e =
    let f = chained (λ (p : ℕ × List ℕ). heard_in p.0 p.1 (wire.first_of w p.1)) (boxed n s) q e in
    subst (λ l. Took l 120 q) (sym (boxed_cut n s f.part f.is)) (heard_cut w f.part.0 f.part.1 q _ refl f.makes)

call_cut : (w n b : ℕ) (s : List ℕ) (q : Call × List ℕ) → call_from w n b s ≡ Some q → Took s b q
call_cut w n b s q = by (eqb b 115) refl
  where
    third : (c : Bool) → eqb b 120 ≡ c → cond c (hear_in w n s) None ≡ Some q → Took s b q
    third true is e = subst (λ k. Took s k q) (sym (eqb-true b 120 is)) (hear_cut w n s q e)
    third false is e = absurd (no_some e)

    second : (c : Bool) → eqb b 111 ≡ c → cond c (Some (opens, s)) (cond (eqb b 120) (hear_in w n s) None) ≡ Some q → Took s b q
    second true is e = subst (λ k. Took s k q) (sym (eqb-true b 111 is)) (subst (Took s 111) (some_same e) (record { cut = refl; letter = refl; some = λ h. let z : ◌≡◌ {A = ℕ} 111 0 = ap letter_of h in omega arith }))
    second false is e = third (eqb b 120) refl e

    by : (c : Bool) → eqb b 115 ≡ c → cond c (submit_in w s) (cond (eqb b 111) (Some (opens, s)) (cond (eqb b 120) (hear_in w n s) None)) ≡ Some q → Took s b q
    by true is e = subst (λ k. Took s k q) (sym (eqb-true b 115 is)) (submit_cut w s q e)
    by false is e = second (eqb b 111) refl e

-- a command is the front of the bytes, and has some
pub record Front (s : List ℕ) (p : Command × List ℕ) : Type 0 where
  pub cut : s ≡ bytes_of p.0 ++ p.1
  pub some : length p.1 < length s

called_front : (b i : ℕ) (s : List ℕ) (q : Call × List ℕ) → Took s b q → Front (b ∷ i ∷ s) (calls i q.0, q.1)
called_front b i s (submit x, r) k = record { cut = ap (λ c. c ∷ i ∷ s) k.letter ∙ ap (λ l. 115 ∷ i ∷ l) k.cut; some = omega (arith, ap length k.cut, length-append x r) }
called_front b i s (opens, r) k = record { cut = ap (λ c. c ∷ i ∷ s) k.letter ∙ ap (λ l. 111 ∷ i ∷ l) k.cut; some = omega (arith, ap length k.cut) }
called_front b i s (hear j x, r) k = record { cut = ap (λ c. c ∷ i ∷ s) k.letter ∙ ap (λ l. 120 ∷ i ∷ l) k.cut; some = omega (arith, ap length k.cut, length-append x r) }
called_front b i s (turns, r) k = absurd (k.some refl)

letter_front : (w n b : ℕ) (i : ℕ) (s : List ℕ) (p : Command × List ℕ) → lettered w n b (i, s) ≡ Some p → Front (b ∷ i ∷ s) p
letter_front w n b i s p = by (eqb b 112) refl
  where
    by : (c : Bool) → eqb b 112 ≡ c → cond c (Some (prints i, s)) (option_map (λ (q : Call × List ℕ). (calls i q.0, q.1)) (call_from w n b s)) ≡ Some p → Front (b ∷ i ∷ s) p
    by true is e = subst (Front (b ∷ i ∷ s)) (some_same e) (record { cut = ap (λ c. c ∷ i ∷ s) (eqb-true b 112 is); some = omega arith })
    by false is e = let f = mapped (λ (q : Call × List ℕ). (calls i q.0, q.1)) (call_from w n b s) p e in subst (Front (b ∷ i ∷ s)) f.makes (called_front b i s f.part (call_cut w n b s f.part f.is))

pub first_front : (w n : ℕ) (s : List ℕ) (p : Command × List ℕ) → first_of w n s ≡ Some p → Front s p
first_front w n [] p e = absurd (no_some e)
first_front w n (b ∷ s) p e = by (eqb b 113) refl e
  where
    by : (c : Bool) → eqb b 113 ≡ c → cond c (Some (settles, s)) (option_and_then (lettered w n b) (boxed n s)) ≡ Some p → Front (b ∷ s) p
    by true is e = subst (Front (b ∷ s)) (some_same e) (record { cut = ap (λ c. c ∷ s) (eqb-true b 113 is); some = omega arith })
    by false is e =
        let f = chained (lettered w n b) (boxed n s) p e in
        subst (λ l. Front (b ∷ l) p) (sym (boxed_cut n s f.part f.is)) (letter_front w n b f.part.0 f.part.1 p f.makes)

-- steps as many as bytes, or more, find the same commands
enough : (k l w n : ℕ) (s : List ℕ) → length s ≤ k → length s ≤ l → read_from k w n s ≡ read_from l w n s
unfolding read_from
enough zero zero w n s h i = refl
enough zero (suc l) w n [] h i = refl
enough zero (suc l) w n (b ∷ s) h i = absurd (omega arith)
enough (suc k) zero w n [] h i = refl
enough (suc k) zero w n (b ∷ s) h i = absurd (omega arith)
enough (suc k) (suc l) w n [] h i = refl
enough (suc k) (suc l) w n (b ∷ s) h i = by (first_of w n (b ∷ s)) refl (λ p f. enough k l w n p.1 (omega (arith, f.some)) (omega (arith, f.some)))
  where
    by : (o : Option (Command × List ℕ)) → first_of w n (b ∷ s) ≡ o
        → ((p : Command × List ℕ) → Front (b ∷ s) p → read_from k w n p.1 ≡ read_from l w n p.1)
        → read_on o (b ∷ s) (read_from k w n) ≡ read_on o (b ∷ s) (read_from l w n)
    by None is more = refl
    by (Some p) is more = ap (λ (r : Read). record { commands = p.0 ∷ r.commands; fault = r.fault }) (more p (first_front w n (b ∷ s) p is))

-- the commands from a command on, and from a fault
pub read_more : (w n : ℕ) (s : List ℕ) (p : Command × List ℕ) → first_of w n s ≡ Some p → read_of w n s ≡ record { commands = p.0 ∷ (read_of w n p.1).commands; fault = (read_of w n p.1).fault }
unfolding read_from
read_more w n [] p is = absurd (no_some is)
read_more w n (b ∷ s) p is =
    ap (λ o. read_on o (b ∷ s) (read_from (length s) w n)) is
    ∙ ap (λ (r : Read). record { commands = p.0 ∷ r.commands; fault = r.fault }) (enough (length s) (length p.1) w n p.1 (let f = first_front w n (b ∷ s) p is in omega (arith, f.some)) (omega arith))

pub read_stop : (w n : ℕ) (s : List ℕ) → 1 ≤ length s → first_of w n s ≡ None → read_of w n s ≡ record { commands = []; fault = Some s }
unfolding read_from
read_stop w n [] h is = absurd (omega arith)
read_stop w n (b ∷ s) h is = ap (λ o. read_on o (b ∷ s) (read_from (length s) w n)) is

pub read_none : (w n : ℕ) → read_of w n [] ≡ record { commands = []; fault = None }
unfolding read_from
read_none w n = refl

none_accounted : (w n : ℕ) → Accounts w n []
unfolding read_from
none_accounted w n = record { whole = λ e. refl; torn = λ left e. absurd (no_some e) }

-- the commands and the fault account for each byte
accounted : (k w n : ℕ) (s : List ℕ) → length s < k → Accounts w n s
accounted zero w n s h = absurd (omega arith)
accounted (suc k) w n [] h = none_accounted w n
accounted (suc k) w n (b ∷ s) h = by (first_of w n (b ∷ s)) refl (λ t short. accounted k w n t short)
  where
    by : (o : Option (Command × List ℕ)) → first_of w n (b ∷ s) ≡ o → ((t : List ℕ) → length t < k → Accounts w n t) → Accounts w n (b ∷ s)
    by None is more =
        let q = read_stop w n (b ∷ s) (omega arith) is in
        let stop = ap (λ (r : Read). r.fault) q in
        record {
          whole = λ e. absurd (no_some (sym e ∙ stop));
          torn = λ left e. let z = some_same (sym stop ∙ e) in (z ∙ sym (ap (λ (r : Read). joined r.commands ++ left) q), ap (first_of w n) (sym z) ∙ is);
        }
    by (Some p) is more =
        let f = first_front w n (b ∷ s) p is in
        let a = more p.1 (omega (arith, f.some)) in
        let q = read_more w n (b ∷ s) p is in
        let stop = ap (λ (r : Read). r.fault) q in
        record {
          whole = λ e. f.cut ∙ ap (λ l. bytes_of p.0 ++ l) (a.whole (sym stop ∙ e)) ∙ sym (ap (λ (r : Read). joined r.commands) q);
          torn = λ left e. let t = a.torn left (sym stop ∙ e) in (f.cut ∙ ap (λ l. bytes_of p.0 ++ l) t.0 ∙ sym (append_assoc (bytes_of p.0) (joined (read_of w n p.1).commands) left) ∙ sym (ap (λ (r : Read). joined r.commands ++ left) q), t.1);
        }

pub accounts : (w n : ℕ) (s : List ℕ) → Accounts w n s
accounts w n s = accounted (suc (length s)) w n s (omega arith)
