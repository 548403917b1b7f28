use Rattle.std.proofs.Common.{◌≡◌, ◌++◌, drop}
use Rattle.std.specs.List.{flat_map}
use Rattle.td_model.specs.Text.{stream_line}
use Rattle.td_report.proofs.journal.push_streams.Given as goal

-- what was written and what is left to write are all
abbrev pub invariant-loop-stream : goal.invariant-loop-stream
invariant-loop-stream l = l.out ++ flat_map stream_line (drop l.stream-index l.streams) ≡ l.fn.out ++ flat_map stream_line l.streams
