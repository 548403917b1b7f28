use Rattle.std.proofs.Common.{◌≡◌, ◌≤◌, ◌+◌, ◌-◌, vec_len}
use Rattle.std.specs.Io.KnownBytes.{Consumes}
use Rattle.td_top.proofs.stream.read_all.Given as goal

abbrev pub invariant-loop-piece : goal.invariant-loop-piece
invariant-loop-piece g l = record {
  read : Consumes (g.I.Source.left l.fn.input) (g.I.Source.left l.input) l.all.items;
  given : g.I.Source.given l.input ≤ g.I.Source.given l.fn.input + vec_len l.all;
  calm : g.I.Source.count l.input ≡ g.I.Source.count l.fn.input;
  most : vec_len l.all ≤ 67108865;
}

abbrev pub decreases-loop-piece : goal.decreases-loop-piece
decreases-loop-piece g l = 67108865 - vec_len l.all
