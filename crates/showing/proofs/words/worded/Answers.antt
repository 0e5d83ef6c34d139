use Rattle.std.proofs.Common.{refl}
use Rattle.wire.specs.Statements as message
use Rattle.showing.proofs.Wording.{item_stated}
use Rattle.showing.proofs.words.worded.Goals as goal

-- one lemma for the four; each answer names its own statement
pub returns-in-Send : goal.returns-in-Send
returns-in-Send g c =
    let b = g.K.Entry.bytes in
    item_stated b (message.send c.in-Send.slot) _ _ _ (b c.in-Send.item) c.in-Send.is c.requires refl refl

pub returns-in-Echo : goal.returns-in-Echo
returns-in-Echo g c =
    let b = g.K.Entry.bytes in
    item_stated b (message.echo c.in-Echo.queue c.in-Echo.slot) _ _ _ (b c.in-Echo.item) c.in-Echo.is c.requires refl refl

pub returns-in-Ready : goal.returns-in-Ready
returns-in-Ready g c =
    let b = g.K.Entry.bytes in
    item_stated b (message.ready c.in-Ready.queue c.in-Ready.slot) _ _ _ (b c.in-Ready.item) c.in-Ready.is c.requires refl refl

pub returns-in-Have : goal.returns-in-Have
returns-in-Have g c =
    let b = g.K.Entry.bytes in
    item_stated b (message.have c.in-Have.queue c.in-Have.slot) _ _ _ (b c.in-Have.item) c.in-Have.is c.requires refl refl
