use Rattle.std.proofs.Common.{sym, ap, ◌++◌, ◌∙◌, length-take-le}
use Rattle.std.proofs.lemmas.Result.{on_ok_weaker}
use Rattle.replica.specs.Store.{store}
use Rattle.script.proofs.Filing.{file_same, file_within}
use Rattle.script.proofs.lines.push_file.Goals as goal

pub returns-in-Err-clause-value : goal.returns-in-Err-clause-value
returns-in-Err-clause-value g c =
    let k = g.K.Entry in
    let x = c.args.member.now in
    let same = file_same k.heading k.columns x.replica (store k.bytes x.tables) c.args.buffer.now _ _ c.requires (rw c.own.view_is at c.in-Err.ensures.value) in
    on_ok_weaker c.push_refused.result (λ e. e ∙ ap (λ l. c.args.text.now.items ++ l) same) c.push_refused.ensures

pub slice_bounds-extend_from_slice-end : goal.slice_bounds-extend_from_slice-end
slice_bounds-extend_from_slice-end g c =
    let k = g.K.Entry in
    let x = c.args.member.now in
    file_within k.heading k.columns x.replica (store k.bytes x.tables) c.args.buffer.now c.in-Ok.length c.print.new.out (rw c.own.view_is at c.in-Ok.ensures.value)

pub slice_bounds-extend_from_slice-end-2 : goal.slice_bounds-extend_from_slice-end-2
slice_bounds-extend_from_slice-end-2 g c =
    let k = g.K.Entry in
    let x = c.args.member.now in
    sym (length-take-le c.in-Ok.length c.print.new.out (file_within k.heading k.columns x.replica (store k.bytes x.tables) c.args.buffer.now c.in-Ok.length c.print.new.out (rw c.own.view_is at c.in-Ok.ensures.value)))

pub returns-clause-value : goal.returns-clause-value
returns-clause-value g c =
    let k = g.K.Entry in
    let x = c.args.member.now in
    let same = file_same k.heading k.columns x.replica (store k.bytes x.tables) c.args.buffer.now _ _ c.requires (rw c.own.view_is at c.in-Ok.ensures.value) in
    c.in_ok-extend_from_slice.ensures.items ∙ ap (λ l. c.args.text.now.items ++ l) same
