use Rattle.std.proofs.Common.{◌≡◌, ◌≤◌, length}
use Rattle.group.specs.Groups.{group_of}
use Rattle.script.specs.Scripts.{run_of, form_of, read_of, ended}
use Rattle.script.proofs.player.Player.play.Given as goal

-- what is left comes to what the script comes to
abbrev pub invariant-loop-rest : goal.invariant-loop-rest
invariant-loop-rest g l =
    let e = g.K.Entry in
    let end = ended (form_of e.WIDTH e.valid e.heading e.columns) (g.C.Coin.meaning l.fn.self.group.coin) (length l.script) in
    record {
      left : end (run_of e.bytes l.self) (read_of e.WIDTH (length (group_of e.bytes l.fn.self.group)) l.rest) ≡ end (run_of e.bytes l.fn.self) (read_of e.WIDTH (length (group_of e.bytes l.fn.self.group)) l.script);
      coin : g.C.Coin.meaning l.self.group.coin ≡ g.C.Coin.meaning l.fn.self.group.coin;
      many : length (group_of e.bytes l.self.group) ≡ length (group_of e.bytes l.fn.self.group);
      size : length l.self.buffer.items ≡ length l.fn.self.buffer.items;
      short : length l.rest ≤ length l.script;
    }

abbrev pub decreases-loop-rest : goal.decreases-loop-rest
decreases-loop-rest g l = length l.rest
