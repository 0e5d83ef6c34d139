use Rattle.std.proofs.Common.{ap, ◌∙◌, subst, []}
use Rattle.group.specs.Groups.{group_of}
use Rattle.script.specs.Scripts.{Run, form_of, Accounts, played, Runs, Plays}
use Rattle.script.specs.Writing.{Written, Writes_by}
use Rattle.script.proofs.Agreeing.{agree}
use Rattle.script.proofs.Unique.{made_same}
use Rattle.script.proofs.writing.output.Goals as goal

pub returns : goal.returns
returns g c =
    let e = g.K.Entry in
    let form = form_of e.WIDTH e.valid e.heading e.columns in
    let coin = g.C.Coin.meaning c.args.coin in
    let s = c.args.script.now in
    let set = c.in-Ok.set in
    let made = c.in_ok-populate.ensures.made in
    let group = group_of e.bytes c.populate.new.self.group in
    let same = c.in_ok-populate.ensures.coin ∙ ap g.C.Coin.meaning c.in_ok-player.ensures.coin in
    let none = c.in_ok-populate.ensures.text ∙ c.in_ok-player.ensures.text in
    let play = c.in_ok-play.ensures in
    let was = ap (λ (r : Run). r.0) play.value ∙ (λ z. (played form (same z) s (none z, group)).0) in
    let written : Written form coin set.n set.w s c.play.new.self.text.items = record {
      group = group;
      made = made;
      said = λ h m. was ∙ ap (λ x. (played form coin s ([], x)).0) (made_same set.n set.w group h made m);
      runs = subst (λ m. Runs form m s group) same play.runs;
      accounts = subst (λ k. Accounts e.WIDTH k s) made.many play.accounts;
      agree = λ honest few. agree form coin set.n set.w set.least set.most set.some set.slots g.met.K.Entry.wide s honest few group made (subst (λ m. Plays form m s group) same play.plays);
    } in
    subst (Writes_by form coin s c.play.new.self.text.items) c.in-Ok.ensures written
