use Rattle.std.proofs.Common.{ℕ, ◌+◌, map, Result, sym, ap, ◌∙◌, subst}
use Rattle.std.proofs.lemmas.List.{map_push}
use Rattle.replica.specs.Store.{Store}
use Rattle.replica.specs.Making.{Plain, make_of}
use Rattle.intake.proofs.Heard.{ok≢err}
use Rattle.group.specs.Groups.{state_of, group_of}
use Rattle.group.specs.Makings.{Made}
use Rattle.group.proofs.Peopling.{make_ok, more_made}
use Rattle.script.proofs.player.Player.populate.Goals as goal

pub returns-in_default-clause-made : goal.returns-in_default-clause-made
returns-in_default-clause-made g c =
    let s = c.args.set in
    let made = ap (make_of s.n c.loop-me.me s.w) c.in_ok-tables.ensures ∙ make_ok s.n s.w s.least s.most s.some s.slots c.loop-me.me c.loop-me-test.true in
    absurd (ok≢err (sym (ap (λ (r : Result Plain ℕ × Store). r.0) made) ∙ sym c.in_default.ensures))

pub loop-me-preserved : goal.loop-me-preserved
loop-me-preserved g c =
    let s = c.args.set in
    let i = c.loop-me.invariant in
    let see = state_of g.K.Entry.bytes in
    let more = more_made s.n s.w c.loop-me.me (group_of g.K.Entry.bytes c.loop-me.self.group) (see c.in-Ok.member) i.made (c.in-Ok.ensures ∙ ap (make_of s.n c.loop-me.me s.w) c.in_ok-tables.ensures) in
    record {
      made = subst (Made s.n s.w (c.loop-me.me + 1)) (sym (ap (map see) c.in_ok-push.ensures.items ∙ map_push see c.loop-me.self.group.members.items c.in-Ok.member)) more;
      coin = i.coin;
      text = i.text;
      room = i.room;
    }
