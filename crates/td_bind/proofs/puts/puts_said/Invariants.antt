use Rattle.std.proofs.Common.{◌≡◌, ◌++◌, drop, map}
use Rattle.td_bind.specs.Literals.{put_said}
use Rattle.td_bind.proofs.puts.puts_said.Given as goal

abbrev pub invariant-loop-said : goal.invariant-loop-said
invariant-loop-said l = map (put_said l.table l.first l.places) l.groups ≡ l.puts ++ map (put_said l.table l.first l.places) (drop l.said-index l.groups)
