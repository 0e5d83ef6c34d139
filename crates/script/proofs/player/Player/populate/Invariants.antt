use Rattle.std.proofs.Common.{◌≡◌, length}
use Rattle.group.specs.Groups.{group_of}
use Rattle.group.specs.Makings.{Made}
use Rattle.script.proofs.player.Player.populate.Given as goal

-- the replicas so far are made
abbrev pub invariant-loop-me : goal.invariant-loop-me
invariant-loop-me g l =
    record {
      made : Made l.set.n l.set.w l.me (group_of g.K.Entry.bytes l.self.group);
      coin : g.C.Coin.meaning l.self.group.coin ≡ g.C.Coin.meaning l.fn.self.group.coin;
      text : l.self.text.items ≡ l.fn.self.text.items;
      room : length l.self.buffer.items ≡ length l.fn.self.buffer.items;
    }
