use Rattle.std.proofs.Common.{◌-◌, ◌*◌, sym, ◌∙◌, arith}
use Rattle.replica.specs.Store.{store}
use Rattle.showing.proofs.Ordering.{length_places, send_place, entry_place, finish_place, vote_place}
use Rattle.showing.proofs.board.claim_at.Goals as goal

pub returns-then-i-w : goal.returns-then-i-w
returns-then-i-w g c =
    let m = c.args.lent.now.replica.now in
    let t = store g.K.Entry.bytes c.args.lent.now.tables.now in
    c.send_at.ensures ∙ sym (send_place m t c.args.i (omega arith))

pub returns-then-i-entries : goal.returns-then-i-entries
returns-then-i-entries g c =
    let m = c.args.lent.now.replica.now in
    let t = store g.K.Entry.bytes c.args.lent.now.tables.now in
    c.entry_at.ensures ∙ sym (entry_place m t c.args.i _ (omega arith) (omega (arith, c.slots-entries.ensures)))

pub returns-then-i-epochs : goal.returns-then-i-epochs
returns-then-i-epochs g c =
    let m = c.args.lent.now.replica.now in
    let t = store g.K.Entry.bytes c.args.lent.now.tables.now in
    c.finish_at.ensures t ∙ sym (finish_place m t c.args.i _ (omega (arith, c.slots-entries.ensures)) (omega arith))

pub vote_at-requires : goal.vote_at-requires
vote_at-requires g c =
    let m = c.args.lent.now.replica.now in
    omega (arith, c.requires, c.slots-entries.ensures, length_places m (store g.K.Entry.bytes c.args.lent.now.tables.now))

pub returns : goal.returns
returns g c =
    let m = c.args.lent.now.replica.now in
    let t = store g.K.Entry.bytes c.args.lent.now.tables.now in
    c.vote_at.ensures t ∙ sym (vote_place m t c.args.i (c.args.i - c.from-w.result - 3 * c.slots-entries.result - c.from-epochs.result) (omega (arith, c.slots-entries.ensures)) (omega (arith, c.requires, c.slots-entries.ensures, length_places m t)))
