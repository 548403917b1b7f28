use Rattle.std.proofs.Common.{take}
use Rattle.std.specs.List.{AllByRecursion}
use Rattle.td_printed.specs.Names.{IsCountedLine}
use Rattle.td_core.specs.CoreState.{seen}
use Rattle.td_top.proofs.Runs.{Progress}
use Rattle.td_top.proofs.lines.replies_to.Given as goal

abbrev pub invariant-loop-line : goal.invariant-loop-line
invariant-loop-line g l = record {
  progress : Progress (seen g.S.Store.told g.S.Store.count g.C.Clock.readings l.fn.core) (seen g.S.Store.told g.S.Store.count g.C.Clock.readings l.core) (take l.line-index l.lines) l.replies;
  counted : AllByRecursion IsCountedLine l.replies;
}
