use Rattle.std.proofs.Common.{ℕ, ◌≡◌, ◌≤◌, length, ap, sym, ◌∙◌, subst, arith, rules, Some, None, List}
use Rattle.std.proofs.lemmas.List.{length-map}
use Rattle.std.proofs.lemmas.Result.{on_ok_weaker}
use Rattle.group.specs.Groups.{state_of, group_of}
use Rattle.script.specs.Commands.{Command, command_of, first_of}
use Rattle.script.specs.Scripts.{Run, run_of, form_of, read_of, ended}
use Rattle.script.proofs.Cutting.{first_front}
use Rattle.script.proofs.Doing.{runs, plays, done_long, ended_more, ended_stop, ended_end, none_left}
use Rattle.script.proofs.player.Player.play.Goals as goal

pub returns-in_default-clause-value : goal.returns-in_default-clause-value
returns-in_default-clause-value g c =
    let e = g.K.Entry in
    let form = form_of e.WIDTH e.valid e.heading e.columns in
    let n = length (group_of e.bytes c.args.self.now.group) in
    let s = c.loop-rest.rest.now in
    let many : c.len-boxes.result ≡ n = omega (arith, c.len-boxes.ensures, c.args.self.now.group.members.ok.0, length-map c.args.self.now.group.members.items (state_of e.bytes)) in
    let none : first_of e.WIDTH n s ≡ None = subst (λ k. first_of e.WIDTH k s ≡ None) many (sym c.in_default.ensures) in
    let r = run_of e.bytes c.loop-rest.self in
    let some : 1 ≤ length s = search rules in
    on_ok_weaker c.push_fault.result (λ is. ap (λ l. (l, r.1)) is ∙ ended_stop form (g.C.Coin.meaning c.args.self.now.group.coin) n (length c.args.script.now) s r some none ∙ c.loop-rest.invariant.left) c.push_fault.ensures

pub loop-rest-smaller : goal.loop-rest-smaller
loop-rest-smaller g c = (first_front g.K.Entry.WIDTH c.len-boxes.result c.loop-rest.rest.now (command_of c.in-Some.command, c.in-Some.behind.now) (sym c.in-Some.ensures)).some

pub loop-rest-preserved : goal.loop-rest-preserved
loop-rest-preserved g c =
    let e = g.K.Entry in
    let form = form_of e.WIDTH e.valid e.heading e.columns in
    let n = length (group_of e.bytes c.args.self.now.group) in
    let s = c.loop-rest.rest.now in
    let p : Command × List ℕ = (command_of c.in-Some.command, c.in-Some.behind.now) in
    let many : c.len-boxes.result ≡ n = omega (arith, c.len-boxes.ensures, c.args.self.now.group.members.ok.0, length-map c.args.self.now.group.members.items (state_of e.bytes)) in
    let is : first_of e.WIDTH n s ≡ Some p = subst (λ k. first_of e.WIDTH k s ≡ Some p) many (sym c.in-Some.ensures) in
    let i = c.loop-rest.invariant in
    let d = c.in_ok-run.ensures in
    let coin = g.C.Coin.meaning c.args.self.now.group.coin in
    let r = run_of e.bytes c.loop-rest.self in
    let q = run_of e.bytes c.run.new.self in
    let less = (first_front e.WIDTH n s p is).some in
    record {
      left = ended_more form coin n (length c.args.script.now) s r (g.C.Coin.meaning c.loop-rest.self.group.coin) p q is i.coin d.value ∙ i.left;
      coin = d.coin ∙ i.coin;
      many = ap (λ (x : Run). length x.1) d.value ∙ done_long form (g.C.Coin.meaning c.loop-rest.self.group.coin) r p.0 ∙ i.many;
      size = d.size ∙ i.size;
      short = omega (arith, less, i.short);
    }

pub returns-clause-value : goal.returns-clause-value
returns-clause-value g c =
    let e = g.K.Entry in
    let form = form_of e.WIDTH e.valid e.heading e.columns in
    let n = length (group_of e.bytes c.args.self.now.group) in
    let coin = g.C.Coin.meaning c.args.self.now.group.coin in
    let r = run_of e.bytes c.loop-rest.self in
    let zero : length c.loop-rest.rest.now ≡ 0 = search rules in
    let none = none_left c.loop-rest.rest.now zero in
    ended_end form coin n (length c.args.script.now) r ∙ sym (ap (λ s. ended form coin (length c.args.script.now) r (read_of e.WIDTH n s)) none) ∙ c.loop-rest.invariant.left

pub returns-in_default-clause-runs : goal.returns-in_default-clause-runs
returns-in_default-clause-runs g c = let e = g.K.Entry in runs (form_of e.WIDTH e.valid e.heading e.columns) (g.C.Coin.meaning c.args.self.now.group.coin) c.args.script.now (group_of e.bytes c.args.self.now.group)

pub returns-in_err-run-clause-runs : goal.returns-in_err-run-clause-runs
returns-in_err-run-clause-runs g c = let e = g.K.Entry in runs (form_of e.WIDTH e.valid e.heading e.columns) (g.C.Coin.meaning c.args.self.now.group.coin) c.args.script.now (group_of e.bytes c.args.self.now.group)

pub returns-clause-runs : goal.returns-clause-runs
returns-clause-runs g c = let e = g.K.Entry in runs (form_of e.WIDTH e.valid e.heading e.columns) (g.C.Coin.meaning c.args.self.now.group.coin) c.args.script.now (group_of e.bytes c.args.self.now.group)

pub returns-in_default-clause-plays : goal.returns-in_default-clause-plays
returns-in_default-clause-plays g c = let e = g.K.Entry in plays (form_of e.WIDTH e.valid e.heading e.columns) (g.C.Coin.meaning c.args.self.now.group.coin) c.args.script.now (group_of e.bytes c.args.self.now.group)

pub returns-in_err-run-clause-plays : goal.returns-in_err-run-clause-plays
returns-in_err-run-clause-plays g c = let e = g.K.Entry in plays (form_of e.WIDTH e.valid e.heading e.columns) (g.C.Coin.meaning c.args.self.now.group.coin) c.args.script.now (group_of e.bytes c.args.self.now.group)

pub returns-clause-plays : goal.returns-clause-plays
returns-clause-plays g c = let e = g.K.Entry in plays (form_of e.WIDTH e.valid e.heading e.columns) (g.C.Coin.meaning c.args.self.now.group.coin) c.args.script.now (group_of e.bytes c.args.self.now.group)
