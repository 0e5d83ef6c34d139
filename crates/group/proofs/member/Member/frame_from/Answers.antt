use Rattle.replica.specs.Store.{store}
use Rattle.showing.proofs.Standing.{store_wide}
use Rattle.group.specs.Weeks.{board_at}
use Rattle.group.specs.Groups.{state_of}
use Rattle.common.specs.Refusals.{number_of}
use Rattle.std.proofs.Common.{rules, Some}
use Rattle.group.proofs.Airing.{declined_end, shown_on, shown_end, then_on}
use Rattle.group.proofs.member.Member.frame_from.Goals as goal

pub returns-in_default-clause-value : goal.returns-in_default-clause-value
returns-in_default-clause-value g c =
    let e = g.K.Entry in
    let law = g.met.K.Entry in
    let m = c.args.self.now.replica in
    let t = store e.bytes c.args.self.now.tables in
    let wide = store_wide e.bytes e.valid e.WIDTH c.args.self.now.tables law.wide law.sound in
    declined_end e.WIDTH law.least m t wide c.args.buffer.now c.requires.room (rw c.own.view_is at c.show.ensures.law) c.args.number c.show.new.out (number_of c.in_default.field-0) c.requires.there (rw c.own.view_is at c.in_default.ensures.value)

pub returns-clause-value : goal.returns-clause-value
returns-clause-value g c =
    let e = g.K.Entry in
    let law = g.met.K.Entry in
    let m = c.args.self.now.replica in
    let t = store e.bytes c.args.self.now.tables in
    let wide = store_wide e.bytes e.valid e.WIDTH c.args.self.now.tables law.wide law.sound in
    let s = c.in-Ok.shown in
    let n = c.args.number in
    then_on e.WIDTH (board_at (Some (state_of e.bytes c.args.self.now))) n c.show.new.out s
    (shown_on e.WIDTH law.least m t wide c.args.buffer.now c.requires.room (rw c.own.view_is at c.show.ensures.law) n c.show.new.out s.bytes s.next (search rules) (rw c.own.view_is at c.in-Ok.ensures.value))
    (shown_end e.WIDTH law.least m t wide c.args.buffer.now c.requires.room (rw c.own.view_is at c.show.ensures.law) n c.show.new.out s.bytes s.next c.requires.there (rw c.own.view_is at c.in-Ok.ensures.value))
    c.then_some.result c.then_some.ensures
