use Rattle.std.proofs.Common.{◌≡◌, [], take}
use Rattle.td_state.specs.Heads.{made_of}
use Rattle.td_state.proofs.tables.Tables.add_stables.Given as goal

-- so many supertables are added
abbrev pub invariant-loop-stable : goal.invariant-loop-stable
invariant-loop-stable l = l.self.state ≡ made_of (take l.stable-index l.stables) []
