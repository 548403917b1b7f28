use Rattle.std.proofs.Common.{◌≡◌, ◌++◌, drop}
use Rattle.std.specs.List.{flat_map}
use Rattle.td_model.specs.Text.{reply_line}
use Rattle.td_report.proofs.replies.push_replies.Given as goal

-- what was written and what is left to write are all
abbrev pub invariant-loop-line : goal.invariant-loop-line
invariant-loop-line l = l.out ++ flat_map reply_line (drop l.line-index l.lines) ≡ l.fn.out ++ flat_map reply_line l.lines
